-- Each field: its test says just whether it is the same in both sheets. Proved, in order: tag_same
-- (grids), second_same, same_second; untold_same, told_other.
use mathlib.Core.Path.{◌≡◌, refl, sym, ap, ◌∙◌}
use mathlib.Core.Bool.{Bool, true, false, not, true≢false}
use mathlib.Core.List.{List}
use Prim.Native.Nat.{ℕ}
use native.Mathlib.Omega.{arith}
use borrow.Author.Tests.{eqb-true, eq-eqb, not-true, not-false}
use lib.Dec.{eqb}
use Rattle.sphere.specs.declared.point.Grid.{Grid}
use Rattle.sphere.specs.declared.point.Grid.TheVariants.{Coarse, Fine}
use Rattle.sphere.specs.Direction.{is_same_direction}
use Rattle.std.specs.declared.result.Result.TheVariants.{Ok}
use Rattle.std.proofs.lemmas.Slice.Eq.{bytes_eq-Decides}
use Rattle.judging.proofs.Laws.From.{none_null}
use Rattle.fields.specs.Fields.{grid_of, tag_of, has_second_point}
use Rattle.sheet.specs.Sheet.{zone_of, charset_of, name_of, known_of, vertices_of, second_of, sheet_check}
use Rattle.sheet.proofs.Laws.Reads.{second_absent}
use Rattle.sheet.proofs.Claims.{second_some}
use Rattle.compare.specs.declared.differences.Field.{Field}
use Rattle.compare.specs.declared.differences.Field.TheVariants.{ZoneNumber, CharacterSet, Name, KnownPoint, Vertices}
use Rattle.compare.specs.declared.differences.Field.TheVariants.{WhichGrid, SecondPoint}
use Rattle.compare.specs.Ring.{placed_of, way_of}
use Rattle.compare.specs.Differences.{is_same_second, differs}
use Rattle.compare.specs.Claims.{SameSecond, both, neither, Same}
use Rattle.compare.proofs.RingClaims.{same_ring_told}

-- ---- grids, by their tags
tag_same : (g h : Grid) → tag_of g ≡ tag_of h → g ≡ h
tag_same Coarse Coarse e = refl
tag_same Coarse Fine e = absurd (omega arith)
tag_same Fine Coarse e = absurd (omega arith)
tag_same Fine Fine e = refl

-- ---- second points
module _ (b c : List ℕ) (left : sheet_check b ≡ Ok tt) (right : sheet_check c ≡ Ok tt) where
  abbrev same : Bool
  same = is_same_second (second_of b) (second_of c)

  second_same : same ≡ true → SameSecond b c
  unfolding is_same_second
  second_same = go (has_second_point b) (has_second_point c) refl refl
    where
      go : (x y : Bool) → has_second_point b ≡ x → has_second_point c ≡ y → is_same_second (second_of b) (second_of c) ≡ true →
          SameSecond b c
      go true true x y e = both x y (rw (second_some b left x, second_some c right y) at e)
      go true false x y e =
          absurd (true≢false (sym (rw (second_some b left x, (second_absent c y).0, none_null) at e)))
      go false true x y e =
          absurd (true≢false (sym (rw ((second_absent b x).0, none_null, second_some c right y) at e)))
      go false false x y e = neither x y

  same_second : SameSecond b c → same ≡ true
  unfolding is_same_second
  same_second (both x y e) = rw (second_some b left x, second_some c right y) e
  same_second (neither x y) = rw ((second_absent b x).0, none_null, (second_absent c y).0) none_null

  -- ---- each field
  abbrev ring_way : ℕ
  ring_way = way_of (placed_of (vertices_of b) (vertices_of c))

  untold : (m n : ℕ) → not (eqb m n) ≡ false → m ≡ n
  untold m n e = eqb-true m n (not-false (eqb m n) e)

  told : (m n : ℕ) → not (eqb m n) ≡ true → m ≡ n → ⊥
  told m n e s = true≢false (sym (eq-eqb m n s) ∙ not-true (eqb m n) e)

  way_none : eqb ring_way 0 ≡ false → ring_way ≡ 0 → ⊥
  way_none e z = true≢false (sym (eq-eqb ring_way 0 z) ∙ e)

  pub untold_same : (f : Field) → differs b c f ≡ false → Same b c f
  unfolding differs
  untold_same ZoneNumber e = untold (zone_of b) (zone_of c) e
  untold_same CharacterSet e = untold (charset_of b) (charset_of c) e
  untold_same Name e = (bytes_eq-Decides (name_of b) (name_of c)).0 (not-false _ e)
  untold_same KnownPoint e = not-false (is_same_direction (known_of b) (known_of c)) e
  untold_same Vertices e = (same_ring_told (vertices_of b) (vertices_of c)).way→same (way_none e)
  untold_same WhichGrid e = tag_same (grid_of b) (grid_of c) (untold (tag_of (grid_of b)) (tag_of (grid_of c)) e)
  untold_same SecondPoint e = second_same (not-false same e)

  pub told_other : (f : Field) → differs b c f ≡ true → Same b c f → ⊥
  unfolding differs
  told_other ZoneNumber e s = told (zone_of b) (zone_of c) e s
  told_other CharacterSet e s = told (charset_of b) (charset_of c) e s
  told_other Name e s = true≢false (sym ((bytes_eq-Decides (name_of b) (name_of c)).1 s) ∙ not-true _ e)
  told_other KnownPoint e s = true≢false (sym s ∙ not-true _ e)
  told_other Vertices e s =
      (same_ring_told (vertices_of b) (vertices_of c)).same→way s (eqb-true ring_way 0 e)
  told_other WhichGrid e s = told (tag_of (grid_of b)) (tag_of (grid_of c)) e (ap tag_of s)
  told_other SecondPoint e s = true≢false (sym (same_second s) ∙ not-true same e)
