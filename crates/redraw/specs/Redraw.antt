-- Document 02, P12: redrawings of a polygon, as its vertex list. Defined, in order: started_at (it starts elsewhere);
-- Lengthened; put, added_from, added_to, Amid, Addable (a vertex is added); Redrawn (any of these and reversal, in any
-- order, and undone), is_turned (an odd number of reversals). Reversal itself is polygon's reversed_of (document 02, P6).
use Rattle.std.specs.Prelude.{◌≡◌, Bool, true, false, not, cond, List, [], ◌∷◌, ◌++◌, ℕ, zero, suc, ◌*◌, ◌≤◌, ◌<◌, ◌%◌, ℤ, length, take, drop}
use Rattle.sphere.specs.declared.point.Point.{Point}
use Rattle.sphere.specs.Point.{is_null}
use Rattle.sphere.specs.Direction.{is_same_direction}
use Rattle.sphere.specs.OnEdge.{OnEdge}
use Rattle.polygon.specs.Vertices.{vertices_count, vertex_at, start_of, end_of, reversed_of}
use Rattle.polygon.specs.Border.{is_coincident, coincident_of}

-- ---- start elsewhere: the list from vertex k on, and then the vertices before it
unfoldable pub started_at : List ℤ → ℕ → List ℤ
started_at vs k = drop (k * 3) vs ++ take (k * 3) vs

-- ---- lengthen: the same direction, vertex by vertex. A vector may become shorter too.
pub record Lengthened (vs ws : List ℤ) : Type 0 where
  pub count : vertices_count ws ≡ vertices_count vs
  pub each : (i : ℕ) → i < vertices_count vs → is_same_direction (vertex_at vs i) (vertex_at ws i) ≡ true

-- ---- add a vertex
-- A vertex in front of a list.
abbrev pub put : Point → List ℤ → List ℤ
put p l = p.x ∷ p.y ∷ p.z ∷ l

-- k vertices from number i on, with M after each that starts an edge joining the directions of A and B.
unfoldable pub added_from : List ℤ → Point → Point → Point → ℕ → ℕ → List ℤ
added_from vs A B M i zero = []
added_from vs A B M i (suc k) =
    let rest = added_from vs A B M (suc i) k in
    put (vertex_at vs i) (cond (is_coincident vs A B i) (put M rest) rest)

-- M added to every edge that joins the same two directions as edge e, whichever way it is walked.
unfoldable pub added_to : List ℤ → ℕ → Point → List ℤ
added_to vs e M = added_from vs (start_of vs e) (end_of vs e) M 0 (vertices_count vs)

-- The direction of M lies on the edge from A to B, and not at an end. All zero has no direction.
pub record Amid (A B M : Point) : Type 0 where
  pub some : is_null M ≡ false
  pub on : OnEdge A B M
  pub not_start : is_same_direction M A ≡ false
  pub not_end : is_same_direction M B ≡ false

-- M may be added to edge e: it lies on it and not at an end, and neither half was already an edge. 'Not at an end'
-- follows from the rest, and is kept as document 02 says it.
pub record Addable (vs : List ℤ) (e : ℕ) (M : Point) : Type 0 where
  pub edge : e < vertices_count vs
  pub amid : Amid (start_of vs e) (end_of vs e) M
  pub no_front : coincident_of vs (start_of vs e) M ≡ 0
  pub no_back : coincident_of vs M (end_of vs e) ≡ 0

-- ---- any of these, in any order, and undone
pub data Redrawn : List ℤ → List ℤ → Type 0 where
  started : {vs : List ℤ} (k : ℕ) → length vs % 3 ≡ 0 → k ≤ vertices_count vs → Redrawn vs (started_at vs k)
  reversed : {vs : List ℤ} → Redrawn vs (reversed_of vs)
  lengthened : {vs ws : List ℤ} → Lengthened vs ws → Redrawn vs ws
  added : {vs : List ℤ} (e : ℕ) (M : Point) → Addable vs e M → Redrawn vs (added_to vs e M)
  undone : {vs ws : List ℤ} → Redrawn vs ws → Redrawn ws vs
  next : {vs us ws : List ℤ} → Redrawn vs us → Redrawn us ws → Redrawn vs ws

-- It has reversed the list, on the whole.
abbrev pub is_turned : {vs ws : List ℤ} → Redrawn vs ws → Bool
is_turned (started k whole low) = false
is_turned reversed = true
is_turned (lengthened l) = false
is_turned (added e M a) = false
is_turned (undone r) = is_turned r
is_turned (next r s) = cond (is_turned r) (not (is_turned s)) (is_turned s)
