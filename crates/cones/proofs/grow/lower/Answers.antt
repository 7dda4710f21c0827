-- `lower` meets its contract: where the cone is halved, what is sifted is complete for its lower half.
use mathlib.Core.Path.{◌≡◌, subst}
use Prim.Native.Nat.{ℕ, ◌+◌, ◌-◌, ◌/◌, ◌≤◌, ◌<◌}
use mathlib.Core.Bool.{Bool, true}
use native.Mathlib.Omega.{arith}
use Rattle.cones.specs.declared.table.Cone.{Cone}
use Rattle.cones.specs.Table.{Halvable, Allows}
use Rattle.cones.proofs.Laws.Covers.{entries}
use Rattle.cones.proofs.Laws.Split.{lower_on}
use Rattle.cones.proofs.grow.lower.Goals as goal

-- Where the cone is halved.
halvable : (cone : Cone) (room : ℕ) (may : Bool) → may ≡ true → Allows cone room may → Halvable cone room
halvable cone room may e a = subst (Allows cone room) e a

abbrev mid_of : Cone → ℕ
mid_of cone = cone.lo + (cone.last - cone.lo) / 2

first : (cone : Cone) → cone.lo ≤ mid_of cone
first cone = omega arith

rest : (cone : Cone) (room : ℕ) → Halvable cone room → mid_of cone < cone.last
rest cone room h = omega (arith, h.some)

pub sift-part-requires-clause-from_le_to : goal.sift-part-requires-clause-from_le_to
sift-part-requires-clause-from_le_to c =
    let p = c.requires.1.complete in
    (p.some, (halvable c.args.cone _ _ c.if-not-may_halve.false c.may_halve.ensures).enough, entries p.covers)

pub returns : goal.returns
returns c =
    let f = c.sift-part.ensures.0 in
    let v = c.args in
    let h = halvable v.cone _ _ c.if-not-may_halve.false c.may_halve.ensures in
    let r = rest v.cone _ h in (
      f.framed,
      lower_on c.requires.1 v.cone.lo (mid_of v.cone) (omega arith) (first v.cone) (omega (arith, r)) f _
          c.half_of.ensures r h,
    )
