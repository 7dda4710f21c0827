-- `word_dot` meets its contract: the dot products of a vector's parts are that of the vector.
use mathlib.Core.Path.{sym, ap, ap₂, ◌∙◌, subst}
use lib.Dec.{lit<}
use lib.IntN.{pos, ◌+ℤ◌, ◌*ℤ◌}
use mir.Syntax.{w64}
use Rattle.integers.proofs.Compare.{result_same}
use Rattle.sphere.specs.Point.{fine, Fits, Within}
use Rattle.sphere.specs.Orientation.{dot_of}
use Rattle.sphere.specs.Words.{half, words_of}
use Rattle.sphere.proofs.Laws.Grid.{points_dot}
use Rattle.sphere.proofs.Laws.Words.{least, high_within, low_within, parts_dot, high_dot}
use Rattle.sphere.proofs.words.word_dot.Goals as goal

pub dot-requires : goal.dot-requires
dot-requires c =
    let s = c.before in
    points_dot (subst (λ p. Within fine p) (sym c.high_part.ensures) (high_within s.args.n s.requires.0))
    s.requires.1

pub dot-requires-2 : goal.dot-requires-2
dot-requires-2 c =
    let s = c.before.before.before in
    record {
      m = least;
      n = fine;
      first = subst (λ p. Within least p) (sym c.low_part.ensures) (low_within s.args.n);
      second = s.requires.1;
      small = lit< tt;
    }

pub returns : goal.returns
unfolding words_of
returns c =
    let first = c.before.before in
    let s = first.before.before in
    let high = result_same w64 first.dot.result first.dot.type_inv
    (first.dot.ensures ∙ ap (λ p. dot_of p s.args.c) first.before.high_part.ensures) in
    let low = result_same w64 c.dot-2.result c.dot-2.type_inv
    (c.dot-2.ensures ∙ ap (λ p. dot_of p s.args.c) c.before.low_part.ensures) in (
      ap₂ (λ h l. h *ℤ pos half +ℤ l) high low ∙ parts_dot s.args.n s.args.c,
      subst (λ k. Fits 13510798882111488 k) (sym high) (high_dot s.args.n s.args.c s.requires.0 s.requires.1),
    )
