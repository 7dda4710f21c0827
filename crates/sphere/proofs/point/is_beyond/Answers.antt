-- `is_beyond` meets its contract: it tests the three numbers in the order of the definition.
use mathlib.Core.Path.{◌≡◌, refl, sym, ap, ◌∙◌}
use mathlib.Core.Bool.{Bool}
use Prim.Native.Nat.{ℕ}
use lib.IntN.{ℤ}
use mir.Syntax.{w64}
use mir.Val.{SFits, to_z, of_z}
use mir.ValLaws.{to_z-of_z}
use Rattle.sphere.specs.Point.{limit_of, is_far, is_beyond}
use Rattle.sphere.proofs.Numbers.{Words, words_of}
use Rattle.sphere.proofs.point.is_beyond.Goals as goal
use Rattle.sphere.proofs.point.is_beyond.Lts as lts
use Rattle.sphere.proofs.point.is_beyond.Reads as reads
use Rattle.sphere.proofs.point.is_beyond.Tie as tie

abbrev After-struct_told-3-1 : Type 0
After-struct_told-3-1 = lts.After-struct_told3 tie.the-claims reads.Pre reads.Post

words : (c : After-struct_told-3-1) → Words c.before.before.before.args.p
words c = words_of _ c.struct_told-3-1.given

abbrev most : After-struct_told-3-1 → ℕ
most c = limit_of c.before.before.before.args.grid

-- What a call of `is_far` says of a number of the point.
far : (m : ℕ) (z : ℤ) → SFits w64 z → {t u : Bool} → t ≡ is_far m (to_z w64 (of_z w64 z)) → t ≡ u → is_far m z ≡ u
far m z f called test = ap (is_far m) (sym (to_z-of_z w64 z f)) ∙ sym called ∙ test

pub returns-then-is_far : goal.returns-then-is_far
unfolding is_beyond
returns-then-is_far c = rw (far (most c.before.before) _ (words c.before.before).at_x c.before.is_far.ensures
    c.if-is_far.true)

pub returns-then-is_far-2 : goal.returns-then-is_far-2
unfolding is_beyond
returns-then-is_far-2 c =
    let p = words c.before.before.before.before in
    let m = most c.before.before.before.before in
    rw (
      far m _ p.at_x c.before.before.before.is_far.ensures c.before.before.if-is_far.false,
      far m _ p.at_y c.before.is_far-2.ensures c.if-is_far-2.true,
    )

pub returns : goal.returns
unfolding is_beyond
returns c =
    let p = words c.before.before.before.before.before in
    let m = most c.before.before.before.before.before in
    rw (
      far m _ p.at_x c.before.before.before.before.is_far.ensures c.before.before.before.if-is_far.false,
      far m _ p.at_y c.before.before.is_far-2.ensures c.before.if-is_far-2.false,
    )
    (sym (far m _ p.at_z c.is_far-3.ensures refl))
