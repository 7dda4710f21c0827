-- The proofs of specs/Claims, in its order.
use mathlib.Core.Path.{◌∙◌, ap}
use Rattle.integers.specs.Sign.{sign_of, is_positive}
use Rattle.integers.proofs.Table.{and_l}
use Rattle.sphere.specs.Point.{is_null}
use Rattle.sphere.specs.Orientation.{cross_of, dot_of}
use Rattle.sphere.specs.Direction.{is_same_direction}
use Rattle.sphere.proofs.Laws.Orientation.{null→origin}
use Rattle.polygon.proofs.Laws.Checks.{reference_accepted}
use Rattle.search.specs.Boxes.{box_of, is_apart, is_skipped}
use Rattle.search.specs.Claims.{BoxHolds, ApartExactly, SkippedMatterNot, NoneSkipped}
use Rattle.search.proofs.Laws.Apart.{apart_one_side, one_side_apart, null_not_apart}
use Rattle.search.proofs.Laws.Skipped.{box_holds, skipped_not_crossed, skipped_not_held}

pub box_holds_claim : BoxHolds
box_holds_claim = box_holds

pub apart_exactly : ApartExactly
apart_exactly N b ordered = record {
  apart→one-side = apart_one_side N b;
  one-side→apart = one_side_apart N b ordered;
}

pub skipped_matter_not : SkippedMatterNot
skipped_matter_not limit vs X P r j accepted skipped h =
    let off = (reference_accepted limit vs X accepted).off_circle in
    (rw (skipped_not_crossed vs X P r skipped off j h), skipped_not_held vs X P r skipped off j h)

pub none_skipped : NoneSkipped
unfolding is_skipped is_same_direction
none_skipped vs X P r same =
    let parallel = and_l (is_null (cross_of X P)) (is_positive (sign_of (dot_of X P))) (rw same tt) in
    ap (λ n. is_apart n (box_of vs r)) (null→origin (cross_of X P) parallel) ∙ null_not_apart (box_of vs r)
