-- `ring::is_same` meets its contract.
use mathlib.Core.Path.{refl, sym}
use lib.IntN.{◌-ℤ◌}
use Rattle.integers.specs.Sign.{sign_of, is_zero}
use Rattle.positions.specs.Ring.{is_same}
use Rattle.angles.proofs.Numbers.{words_of}
use Rattle.positions.proofs.Numbers.{called2}
use Rattle.positions.proofs.ring.is_same.Goals as goal

pub returns-then-is_equal : goal.returns-then-is_equal
unfolding is_same
returns-then-is_equal c =
    let p = words_of c.args.p
    c.struct_told-1.given in
    let q = words_of c.args.q
    c.struct_told-2-1.given in
    rw (called2 (λ a b. is_zero (sign_of (a -ℤ b))) _ _ p.at_lon q.at_lon
    c.is_equal.ensures c.if-is_equal.true)
    (sym (called2 (λ a b. is_zero (sign_of (a -ℤ b))) _ _ p.at_lat q.at_lat c.is_equal-then-is_equal.ensures refl))

pub returns : goal.returns
unfolding is_same
returns c =
    let p = words_of c.args.p c.struct_told-1.given in
    let q = words_of c.args.q c.struct_told-2-1.given in
    rw (called2 (λ a b. is_zero (sign_of (a -ℤ b))) _ _ p.at_lon q.at_lon c.is_equal.ensures
    c.if-is_equal.false)
