-- `comparison::packed` meets its contract.
use native.Mathlib.Omega.{arith}
use Rattle.spargolutta.specs.Packed.{packed_from, packed_of}
use Rattle.spargolutta.proofs.comparison.packed.Goals as goal

pub returns : goal.returns
unfolding packed_of packed_from
returns c =
    let first = c.byte-6.ensures.0 in
    let second = c.byte-7.ensures.0 in
    let third = c.byte-4.ensures.0 in
    let fourth = c.byte-5.ensures.0 in
    let fifth = c.byte.ensures.0 in
    let sixth = c.byte-2.ensures.0 in
    let seventh = c.byte-3.ensures.0 in
    omega arith
