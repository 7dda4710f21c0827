-- `upper` meets its contract: what is sifted is complete for the upper half.
use Prim.Native.Nat.{◌+◌}
use native.Mathlib.Omega.{arith}
use Rattle.cones.proofs.Laws.Covers.{entries}
use Rattle.cones.proofs.Laws.Split.{half_on_lem}
use Rattle.cones.proofs.grow.upper.Goals as goal

pub sift-part-requires-clause-from_le_to : goal.sift-part-requires-clause-from_le_to
sift-part-requires-clause-from_le_to c =
    let p = c.requires.n_in_bounds.1.complete in (p.some, c.requires.halvable.0.enough, entries p.covers)

pub returns : goal.returns
returns c =
    let f = c.sift-part.ensures.0 in
    let v = c.args in (
      f.framed,
      half_on_lem c.requires.n_in_bounds.1 (v.mid + 1) v.cone.last (omega (arith, c.requires.halvable.1))
          (omega (arith, c.requires.halvable.2)) (omega arith) f _ c.half_of.ensures,
    )
