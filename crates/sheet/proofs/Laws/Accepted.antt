-- What an accepted list and known point are known to be: the checks 10, 11 and 15, in numbers. Proved, in order:
-- whole_passed, list_check_lem, accepted_list, accepted_number; fits_word, within_word (such numbers fit 32 bits);
-- optional_small (a second point, or none).
use mathlib.Core.Path.{◌≡◌, refl}
use mathlib.Core.Bool.{Bool, true, false}
use mathlib.Core.List.{List}
use Prim.Native.Nat.{ℕ, zero, suc, ◌+◌, ◌*◌, ◌/◌, ◌%◌, ◌≤◌, ◌<◌, zero-le}
use native.Mathlib.Omega.{arith}
use borrow.Author.Tests.{ltb-true, ltb-false, le-leb, eq-eqb, eqb-true}
use lib.Dec.{ltb}
use lib.IntN.{ℤ, pos}
use lib.ListN.{length, get_or, get_or-eq_default}
use Rattle.sphere.specs.declared.point.Point.{Point}
use Rattle.sphere.specs.declared.point.Grid.{Grid}
use Rattle.sphere.specs.declared.point.Grid.TheVariants.{Coarse, Fine}
use Rattle.sphere.specs.Point.{limit_of, Fits, Within, is_null}
use Rattle.sphere.proofs.Laws.Orientation.{null→origin}
use Rattle.polygon.specs.Vertices.{vertices_count, vertex_at}
use Rattle.polygon.specs.Checks.{list_check, accept_check}
use Rattle.polygon.specs.Pair.{optional_check}
use Rattle.std.specs.declared.result.Result.TheVariants.{Ok}
use Rattle.answer.proofs.Laws.Chain.{both_true}
use Rattle.polygon.proofs.Laws.Checks.{list_holds, list_passed, accept_polygon, polygon_first, accept_passed}
use Rattle.polygon.proofs.Laws.Pair.{optional_second}

-- A list that line 10 lets through.
pub record Whole (vs : List ℤ) : Type 0 where
  pub threes : length vs % 3 ≡ 0
  pub least : 3 ≤ length vs / 3
  pub most : length vs / 3 ≤ 4096

pub whole_passed : (vs : List ℤ) → Whole vs → list_check vs ≡ Ok tt
unfolding list_check
whole_passed vs l =
    let n = length vs / 3 in
    rw (eq-eqb (length vs % 3) 0 l.threes, le-leb 3 n l.least, le-leb n 4096 l.most)

module _ (limit : ℕ) (vs : List ℤ) (X : Point) (ok : accept_check limit vs X ≡ Ok tt) where
  pub list_check_lem : list_check vs ≡ Ok tt
  list_check_lem = (polygon_first limit vs (accept_polygon limit vs X ok)).0

  pub accepted_list : Whole vs
  accepted_list =
      let listed = list_passed list_check_lem in
      record {
        threes = eqb-true (length vs % 3) 0 (both_true _ _ (list_holds vs list_check_lem)).0;
        least = listed.least;
        most = listed.most;
      }

  third_fits : (i r : ℕ) → r < 3 → i < vertices_count vs → Fits limit (get_or vs (i * 3 + r) (pos 0))
  unfolding vertex_at
  third_fits i zero l h = let z : i * 3 + 0 ≡ i * 3 = omega arith in rw z ((accept_passed ok).gridded.each i h).at_x
  third_fits i (suc zero) l h = ((accept_passed ok).gridded.each i h).at_y
  third_fits i (suc (suc zero)) l h = ((accept_passed ok).gridded.each i h).at_z
  third_fits i (suc (suc (suc r))) l h = absurd (omega arith)

  number_fits : (j : ℕ) (t : Bool) → ltb j (length vs) ≡ t → Fits limit (get_or vs j (pos 0))
  number_fits j true e =
      let l = accepted_list in
      let h = ltb-true j (length vs) e in
      let z : j ≡ j / 3 * 3 + j % 3 = omega arith in
      rw z (third_fits (j / 3) (j % 3) (omega arith) (omega arith))
  number_fits j false e = rw (get_or-eq_default vs (pos 0) (ltb-false j (length vs) e)) (record { within = zero-le })

  -- Each number of the list. Past its end the list reads as 0.
  pub accepted_number : (j : ℕ) → Fits limit (get_or vs j (pos 0))
  accepted_number j = number_fits j (ltb j (length vs)) refl

-- ---- numbers of the grid fit 32 bits
pub fits_word : (g : Grid) {k : ℤ} → Fits (limit_of g) k → Fits 2147483647 k
fits_word Coarse f = let h = f.within in record { within = omega arith }
fits_word Fine f = let h = f.within in record { within = omega arith }

pub within_word : (g : Grid) {p : Point} → Within (limit_of g) p → Within 2147483647 p
within_word g w =
    record { at_x = fits_word g w.at_x; at_y = fits_word g w.at_y; at_z = fits_word g w.at_z }

nought : Fits 2147483647 (pos 0)
nought = record { within = zero-le }

-- ---- a second point, or none
module _ (g : Grid) (vs : List ℤ) (X Y : Point) (ok : optional_check (limit_of g) vs X Y ≡ Ok tt) where
  pub optional_small : Within 2147483647 Y
  optional_small = go (is_null Y) refl
    where
      go : (none : Bool) → is_null Y ≡ none → Within 2147483647 Y
      go true e = rw (null→origin Y (rw e tt)) (record { at_x = nought; at_y = nought; at_z = nought })
      go false e = within_word g (accept_passed (optional_second (limit_of g) vs X Y ok e).accepted).known
