-- `point::numbers_on` meets its contract.
use mathlib.Core.Path.{sym, ap, ap₂, ◌∙◌}
use mir.Syntax.{w32}
use mir.ValLaws.{to_z-of_z}
use lib.IntN.{ℤ, nat_abs}
use Rattle.integers.specs.Sign.{sign_of, is_negative}
use Rattle.angles.specs.Point.{numbers_x, numbers_y, numbers_z, numbers_on}
use Rattle.angles.proofs.Numbers.{words_of, numbers_same}
use Rattle.angles.proofs.Numbers as numbers
use Rattle.angles.proofs.point.numbers_on.Goals as goal

pub returns-then-is_outside : goal.returns-then-is_outside
unfolding numbers_on
returns-then-is_outside c =
    rw (sym c.before.is_outside.ensures ∙ c.if-is_outside.true)

pub in_range-requires : goal.in_range-requires
in_range-requires c =
    let p = c.before.before.before.before.before.before.before.before.args.p in
    let w = words_of p c.before.before.before.before.struct_told-2-1.given in
    let lon = c.before.before.size.ensures ∙ ap nat_abs (to_z-of_z w32 p.lon w.at_lon) in
    let lat = c.size-2.ensures ∙ ap nat_abs (to_z-of_z w32 p.lat w.at_lat) in
    let out = sym c.before.before.before.before.before.before.before.is_outside.ensures
    ∙ c.before.before.before.before.before.before.if-is_outside.false in
    let h = numbers.in_range p out in
    (rw lon h.lon, rw lat h.lat)

pub returns : goal.returns
unfolding numbers_on
returns c =
    let p = c.before.before.before.before.before.before.before.before.before.args.p in
    let w = words_of p c.before.before.before.before.before.struct_told-2-1.given in
    let lon = c.before.before.before.size.ensures ∙ ap nat_abs (to_z-of_z w32 p.lon w.at_lon) in
    let lat = c.before.size-2.ensures ∙ ap nat_abs (to_z-of_z w32 p.lat w.at_lat) in
    let out = sym c.before.before.before.before.before.before.before.before.is_outside.ensures
    ∙ c.before.before.before.before.before.before.before.if-is_outside.false in
    let g = c.before.before.before.before.before.before.before.before.before.args.grid in
    let west = c.before.before.before.before.is_negative.ensures ∙ ap (λ (z : ℤ). is_negative (sign_of z))
    (to_z-of_z w32 p.lon w.at_lon) in
    let south = c.before.before.is_negative-2.ensures ∙ ap (λ (z : ℤ). is_negative (sign_of z))
    (to_z-of_z w32 p.lat w.at_lat) in
    let v = c.in_range.ensures in
    rw out
    (numbers_same c.in_range.result (v.0 ∙ ap₂ (numbers_x g) lon lat) (v.1 ∙ (λ i. numbers_y g (west i) (lon i) (lat i)))
    (v.2 ∙ ap₂ (numbers_z g) south lat))
