-- `pair::sin_cos` meets its contract.
use mathlib.Core.Path.{ap, ap₂, subst, ◌∙◌}
use mathlib.Core.Bool.{false}
use Prim.Native.Nat.{ℕ, ◌*◌, ◌/◌, ◌≤◌, ◌<◌}
use native.Mathlib.Nat.{lt_of_le_of_lt}
use native.Mathlib.Omega.{arith}
use borrow.Author.Tests.{lt-ltb, le-ltb}
use lib.Ieee.Exact.{HasValue}
use Rattle.angles.specs.Series.{nested}
use Rattle.angles.specs.Angle.{one_on, raise_on, square_on, arc_on}
use Rattle.angles.proofs.Floats.{one_value, zero_value}
use Rattle.angles.proofs.Fractions.{one_pos, nested_le, square_le, arc_le, scaled_le}
use Rattle.angles.proofs.Whole.{fits_term, raised_arc}
use Rattle.angles.proofs.pair.sin_cos.Goals as goal

wider : (s a : ℕ) → a < s * 2 → a * 2 ≤ s * 5
wider s a h = omega arith

pub raised-arc-requires : goal.raised-arc-requires
raised-arc-requires c =
    let i = c.before.before in
    let g = i.args.grid in
    rw c.arc_of.ensures (wider (one_on g) (arc_on g i.args.t) (arc_le g i.args.t i.requires))

pub series-h-requires : goal.series-h-requires
series-h-requires c =
    let i = c.before.before.before.before in
    rw c.square_of.ensures (square_le i.args.grid i.args.t i.requires)

pub overflow_mul-s : goal.overflow_mul-s
overflow_mul-s c =
    let r = c.before.before.before in
    fits_term r.before.before.before.args.grid _ _ r.raised-arc.ensures.1 c.before.series-h.ensures.sin_value.1

pub unit-requires : goal.unit-requires
unit-requires c =
    let r = c.before.before.before in
    let i = r.before.before.before in
    let g = i.args.grid in
    let h = c.before.series-h.ensures.sin_value in
    rw (r.raised-arc.ensures.0, r.before.arc_of.ensures, raised_arc g (arc_on g i.args.t) c.before.series-h.result.sin)
    (lt_of_le_of_lt (scaled_le (one_on g) (arc_on g i.args.t) _ h.1) (arc_le g i.args.t i.requires))

twice : (s a : ℕ) → 0 < s → a ≤ s → a < s * 2
twice s a h k = omega arith

pub unit-requires-then-t-lt900000000 : goal.unit-requires-then-t-lt900000000
unit-requires-then-t-lt900000000 c =
    let g = c.before.before.before.before.before.before.before.args.grid in
    let h = c.before.before.series-h in
    rw h.ensures.cos_value (twice (one_on g) _ (one_pos g) (nested_le (one_on g) _ 1 9))

pub returns-then-t-lt900000000 : goal.returns-then-t-lt900000000
returns-then-t-lt900000000 c =
    let r = c.before.before.before.before.before in
    let i = r.before.before.before.args in
    let g = i.grid in
    let t = i.t in
    let h = c.before.before.before.series-h.ensures in
    let square = c.before.before.before.before.square_of.ensures in
    let arc = r.raised-arc.ensures.0 ∙ ap (λ (a : ℕ). a * raise_on g) r.before.arc_of.ensures in
    let terms = h.sin_value.0 ∙ ap (λ (w : ℕ). nested (one_on g) w 2 9) square in
    let sine = ap₂ (λ (a b : ℕ). a * b / 2147483648) arc terms
    ∙ raised_arc g (arc_on g t) (nested (one_on g) (square_on g t) 2 9) in
    let cosine = h.cos_value ∙ ap (λ (w : ℕ). nested (one_on g) w 1 9) square in
    rw (lt-ltb t 900000000 r.before.before.if-t-lt900000000.true) (
      subst (λ (y : ℕ). HasValue c.before.unit.result false y (one_on g)) sine c.before.unit.ensures,
      subst (λ (y : ℕ). HasValue c.unit-then-t-lt900000000.result false y (one_on g)) cosine c.unit-then-t-lt900000000.ensures,
    )

pub returns-else-t-lt900000000 : goal.returns-else-t-lt900000000
returns-else-t-lt900000000 c =
    let g = c.before.args.grid in
    rw (le-ltb c.before.args.t 900000000 c.if-t-lt900000000.false) (one_value g, zero_value g)
