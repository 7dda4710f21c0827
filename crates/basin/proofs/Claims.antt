-- The proofs of specs/Claims. Proved, in order: basin_told; shared_decided and beyond_decided are passed on from Laws.
use mathlib.Core.Path.{◌≡◌, sym, ◌∙◌, ap}
use mathlib.Core.Bool.{false, true≢false}
use mathlib.Core.List.{List}
use Prim.Native.Nat.{ℕ}
use native.Mathlib.Omega.{arith}
use lib.IntN.{ℤ}
use Rattle.sphere.specs.Point.{limit_of, grid_numbered}
use Rattle.polygon.specs.Vertices.{vertices_count}
use Rattle.polygon.specs.Checks.{polygon_check}
use Rattle.std.specs.declared.option.Option.{Option}
use Rattle.std.specs.declared.option.Option.TheVariants.{Some}
use Rattle.basin.specs.Pairs.{is_offending, first_pair_of}
use Rattle.basin.specs.Basin.{basin_check, basin_after, basin_of}
use Rattle.basin.specs.Claims.{Offends, Told, BasinTold}
use Rattle.basin.proofs.Laws.FirstPair.{First, pairs_none, pairs_found}
use Rattle.basin.proofs.Laws.Offending.{basin_polygon, offends→test, test→offends}
use Rattle.std.specs.declared.result.Result.TheVariants.{Ok}
pub use Rattle.basin.proofs.Laws.Shared.{shared_decided}
pub use Rattle.basin.proofs.Laws.Beyond.{beyond_decided}

-- What the answer says of the search.
same_pair : {p q : Option (ℕ × ℕ)} → basin_after (Ok tt) p ≡ Ok q → p ≡ q
same_pair e = cc

module _ (g : ℕ) (vs : List ℤ) (e : basin_check g vs ≡ Ok tt) where
  polygon : polygon_check (limit_of (grid_numbered g)) vs ≡ Ok tt
  polygon = basin_polygon g vs e

  -- a pair that offends is one that the test finds
  clash : (i j : ℕ) → Offends vs i j → is_offending vs i j ≡ false → ⊥
  clash i j o f = true≢false (sym (offends→test (limit_of (grid_numbered g)) vs polygon o.order o.below o) ∙ f)

  answered : basin_of g vs ≡ basin_after (Ok tt) (first_pair_of vs)
  unfolding basin_of
  answered = ap (λ c. basin_after c (first_pair_of vs)) e

  found : (i j : ℕ) → basin_of g vs ≡ Ok (Some (i, j)) → First (is_offending vs) 0 (vertices_count vs) i j
  unfolding first_pair_of
  found i j q =
      pairs_found (is_offending vs) 0 (vertices_count vs) i j (same_pair (sym answered ∙ q))

  told : Told g vs
  unfolding first_pair_of
  told = record {
    simple = λ q i j o. clash i j o (pairs_none (is_offending vs) 0 (vertices_count vs)
        (same_pair (sym answered ∙ q)) i j (omega arith) o.order (omega (arith, o.below)));
    sharing = λ i j q. let f = found i j q in
        test→offends (limit_of (grid_numbered g)) vs polygon f.order (omega (arith, f.below)) f.holds;
    lower_first = λ i j q h k l o.
        clash h k o ((found i j q).rows h k (omega arith) l o.order (omega (arith, o.below)));
    lower_second = λ i j q k l o. clash i k o ((found i j q).row k o.order l);
  }

pub basin_told : BasinTold
basin_told g vs e = told g vs e
