-- `ring::is_distant` meets its contract.
use mathlib.Core.Path.{refl, sym}
use lib.IntN.{◌-ℤ◌}
use Rattle.sphere.specs.Point.{is_far}
use Rattle.positions.specs.Ring.{is_distant}
use Rattle.angles.proofs.Numbers.{words_of}
use Rattle.positions.proofs.Numbers.{called2}
use Rattle.positions.proofs.ring.is_distant.Goals as goal

pub returns-then-is_apart : goal.returns-then-is_apart
unfolding is_distant
returns-then-is_apart c =
    let p = words_of c.args.p c.struct_told-1.given in
    let q = words_of c.args.q c.struct_told-2-1.given in
    rw (called2 (λ a b. is_far 10000000 (a -ℤ b)) _ _ p.at_lon q.at_lon c.is_apart.ensures
    c.if-is_apart.true)

pub returns : goal.returns
unfolding is_distant
returns c =
    let p = words_of c.args.p
    c.struct_told-1.given in
    let q = words_of c.args.q
    c.struct_told-2-1.given in
    rw (called2 (λ a b. is_far 10000000 (a -ℤ b)) _ _ p.at_lon q.at_lon
    c.is_apart.ensures c.if-is_apart.false)
    (sym (called2 (λ a b. is_far 10000000 (a -ℤ b)) _ _ p.at_lat q.at_lat c.is_apart-2.ensures refl))
