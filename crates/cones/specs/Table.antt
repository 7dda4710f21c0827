-- The table of cones: for the code alone. Node k is the cone from azimuth 4k of the table to azimuth 4k + 1, with the
-- entries of one list from number 4k + 2 of the table on before number 4k + 3. Defined, in order: RowOf, Node, Indexed
-- (the first nodes), Built, IndexOn, no_index; Room, Roomy, Copied (one node more); ConeOn (a cone whose list is on the
-- stack), Halvable, Allows, HalfOf, LowerOf, SplitOf (a cone that is halved).
use Rattle.std.specs.Prelude.{◌≡◌, Bool, true, false, List, ℕ, ◌+◌, ◌*◌, ◌-◌, ◌≤◌, ◌<◌, ℤ, Option, None, Some, length, get_or}
use Prim.{Unit}
use Rattle.sphere.specs.declared.point.Point.{Point}
use Rattle.sphere.specs.Point.{origin}
use Rattle.polygon.specs.Vertices.{vertices_count}
use Rattle.azimuths.specs.Azimuth.{FrameAt}
use Rattle.azimuths.specs.Sectors.{SectorsOf, MissedIn}
use Rattle.cones.specs.declared.build.Index.{Index}
use Rattle.cones.specs.declared.table.Cone.{Cone}
use Rattle.cones.specs.declared.table.Row.{Row}
use Rattle.cones.specs.Cones.{Complete}
use Rattle.cones.specs.Lists.{Kept}

pub record RowOf (table : List ℕ) (k : ℕ) (row : Row) : Type 0 where
  pub lo : row.lo ≡ get_or table (k * 4) 0
  pub last : row.last ≡ get_or table (k * 4 + 1) 0
  pub from : row.from ≡ get_or table (k * 4 + 2) 0
  pub to : row.to ≡ get_or table (k * 4 + 3) 0

-- Of n edges, the list of node k has all that span an azimuth of its cone.
pub record Node (n : ℕ) (sectors table list : List ℕ) (k : ℕ) : Type 0 where
  pub complete : Complete (MissedIn sectors (get_or table (k * 4) 0) (get_or table (k * 4 + 1) 0)) n list
      (get_or table (k * 4 + 2) 0) (get_or table (k * 4 + 3) 0)

-- So have those of the first nodes, which end by entry `top`.
pub record Indexed (n : ℕ) (sectors table list : List ℕ) (nodes top : ℕ) : Type 0 where
  pub table_room : nodes * 4 ≤ length table
  pub list_room : top ≤ length list
  pub ends : (k : ℕ) → k < nodes → get_or table (k * 4 + 3) 0 ≤ top
  pub each : (k : ℕ) → k < nodes → Node n sectors table list k

-- The whole index, and the frame in which the azimuths are.
pub record Built (vs : List ℤ) (X : Point) (sectors table list : List ℕ) (index : Index) : Type 0 where
  pub frame : FrameAt X index.frame
  pub sectors-of : SectorsOf vs X index.frame sectors
  pub indexed : Indexed (vertices_count vs) sectors table list index.nodes index.top

-- An index without nodes says nothing.
pub record IndexOn (vs : List ℤ) (X : Point) (sectors table list : List ℕ) (index : Index) : Type 0 where
  pub built : 0 < index.nodes → Built vs X sectors table list index

abbrev pub no_index : Index
no_index = record { nodes = 0; top = 0; frame = record { east = origin; north = origin } }

-- ---- one node more
-- Where one node more may stand, with so many entries: by the lengths of the two arrays.
pub record Room (table list nodes top more : ℕ) : Type 0 where
  pub table_room : nodes * 4 + 4 ≤ table
  pub list_room : top + more ≤ list
  pub narrow : top + more < 65536

abbrev pub Roomy : ℕ → ℕ → ℕ → ℕ → ℕ → Bool → Type 0
Roomy table list nodes top more true = Room table list nodes top more
Roomy table list nodes top more false = Unit {0}

-- A list m that was l before `at`, with the entries of another from there on.
pub record Copied (s l m : List ℕ) (from to at : ℕ) : Type 0 where
  pub room : length m ≡ length l
  pub before : (x : ℕ) → x < at → get_or m x 0 ≡ get_or l x 0
  pub kept : Kept (λ j. false) s m from at to (at + (to - from))

-- ---- a cone whose list is on the stack of lists
pub record ConeOn (n : ℕ) (sectors stack : List ℕ) (cone : Cone) : Type 0 where
  pub some : cone.lo ≤ cone.last
  pub below : cone.last < 65536
  pub complete : Complete (MissedIn sectors cone.lo cone.last) n stack cone.from cone.to

-- It may be halved, and a stack of this length has room for a copy of its list.
pub record Halvable (cone : Cone) (room : ℕ) : Type 0 where
  pub deep : 0 < cone.depth
  pub some : cone.lo < cone.last
  pub enough : cone.to + (cone.to - cone.from) ≤ room

abbrev pub Allows : Cone → ℕ → Bool → Type 0
Allows cone room true = Halvable cone room
Allows cone room false = Unit {0}

-- One half of it, on a stack as it is then.
pub record HalfOf (n : ℕ) (sectors stack : List ℕ) (cone half : Cone) : Type 0 where
  pub on : ConeOn n sectors stack half
  pub after : cone.to ≤ half.to
  pub shallower : half.depth + 1 ≡ cone.depth

-- The lower one, which ends before the upper one begins; or none.
pub record LowerOf (n : ℕ) (sectors stack : List ℕ) (cone low : Cone) : Type 0 where
  pub half : HalfOf n sectors stack cone low
  pub first : cone.lo ≤ low.last
  pub rest : low.last < cone.last
  pub halvable : Halvable cone (length stack)

abbrev pub SplitOf : ℕ → List ℕ → List ℕ → Cone → Option Cone → Type 0
SplitOf n sectors stack cone None = Unit {0}
SplitOf n sectors stack cone (Some low) = LowerOf n sectors stack cone low
