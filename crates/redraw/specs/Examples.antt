-- Redrawings of document 01's octant, worked out by hand. Stated: OctantRedrawn (started at vertex 1; (1,1,0) may be
-- added to edge 0, and there it stands), CorridorRedrawn (a corridor from (0,1,0) to (0,0,1) and back, by a longer
-- vector: (0,1,1) goes into both of its edges). Their proofs are in proofs/Examples: computed.
use Rattle.std.specs.Prelude.{◌≡◌, List, [], ◌∷◌, ℤ, pos}
use Rattle.sphere.specs.declared.point.Point.{Point}
use Rattle.polygon.specs.Charts.{at, octant}
use Rattle.redraw.specs.Redraw.{started_at, Addable, added_to}

abbrev pub middle : Point
middle = at (pos 1) (pos 1) (pos 0)

abbrev pub OctantRedrawn : Type 0
OctantRedrawn =
    (started_at octant 1 ≡ pos 0 ∷ pos 1 ∷ pos 0 ∷ pos 0 ∷ pos 0 ∷ pos 1 ∷ pos 1 ∷ pos 0 ∷ pos 0 ∷ [])
    × Addable octant 0 middle
    × (added_to octant 0 middle
    ≡ pos 1 ∷ pos 0 ∷ pos 0 ∷ pos 1 ∷ pos 1 ∷ pos 0 ∷ pos 0 ∷ pos 1 ∷ pos 0 ∷ pos 0 ∷ pos 0 ∷ pos 1 ∷ [])

abbrev corridor : List ℤ
corridor = pos 1 ∷ pos 0 ∷ pos 0 ∷ pos 0 ∷ pos 1 ∷ pos 0 ∷ pos 0 ∷ pos 0 ∷ pos 1 ∷ pos 0 ∷ pos 2 ∷ pos 0 ∷ []

abbrev pub CorridorRedrawn : Type 0
CorridorRedrawn =
    added_to corridor 1 (at (pos 0) (pos 1) (pos 1))
    ≡ pos 1 ∷ pos 0 ∷ pos 0 ∷ pos 0 ∷ pos 1 ∷ pos 0 ∷ pos 0 ∷ pos 1 ∷ pos 1 ∷ pos 0 ∷ pos 0 ∷ pos 1
    ∷ pos 0 ∷ pos 1 ∷ pos 1 ∷ pos 0 ∷ pos 2 ∷ pos 0 ∷ []
