-- The answer to a query of an accepted polygon has a number, a place and a count of 32 bits: no result loses any.
-- Defined: Small. Proved, in order: after_small (17 and 18), parity_small, verdict_small, answer_small.
use mathlib.Core.Path.{◌≡◌, refl}
use mathlib.Core.Bool.{Bool, true, false, cond}
use mathlib.Core.List.{List}
use Prim.Native.Nat.{ℕ, ◌%◌, ◌≤◌, ◌<◌}
use native.Mathlib.Omega.{arith}
use lib.Dec.{eqb}
use lib.IntN.{ℤ}
use Rattle.sphere.specs.declared.point.Point.{Point}
use Rattle.sphere.specs.Point.{is_off_grid}
use Rattle.sphere.specs.Direction.{is_antipodal}
use Rattle.std.specs.declared.option.Option.{Option}
use Rattle.std.specs.declared.option.Option.TheVariants.{None, Some}
use Rattle.std.specs.declared.result.Result.TheVariants.{Ok}
use Rattle.answer.specs.declared.Reason.TheVariants.{QueryAntipodal, QueryOffGrid}
use Rattle.answer.specs.Refusal.{Answer}
use Rattle.answer.specs.declared.Verdict.TheVariants.{Inside, Outside}
use Rattle.answer.specs.Answer.{number_of, place_of, count_of, answer_after}
use Rattle.polygon.specs.Vertices.{vertices_count}
use Rattle.answer.specs.Chain.{◌then◌, fails_if}
use Rattle.polygon.specs.Checks.{accept_check, query_check, far_check, judge_check}
use Rattle.polygon.specs.Verdict.{is_on_border, is_crossed, boundary_of, crossings_of, winding_of, verdict_by, verdict_of}
use Rattle.polygon.specs.Verdict.{answer_of}
use Rattle.answer.proofs.Laws.First.{first_found}
use Rattle.answer.proofs.Laws.Blocks.{count_bound}
use Rattle.polygon.proofs.Laws.Checks.{accept_passed}

pub record Small (a : Answer) : Type 0 where
  pub number : number_of a < 4294967296
  pub place : place_of a < 4294967296
  pub count : count_of a < 4294967296

after_small : (off far : Bool) {a : Answer} → Small a → Small (answer_after (fails_if QueryOffGrid off then fails_if QueryAntipodal far) a)
after_small true far s = record { number = omega arith; place = omega arith; count = omega arith }
after_small false true s = record { number = omega arith; place = omega arith; count = omega arith }
after_small false false s = s

parity_small : (even : Bool) (n : ℕ) (s : ℤ) → n ≤ 4096 → Small (cond even (Ok (Inside n s)) (Ok (Outside n s)))
parity_small true n s h = record { number = omega arith; place = omega arith; count = omega arith }
parity_small false n s h = record { number = omega arith; place = omega arith; count = omega arith }

module _ (limit : ℕ) (vs : List ℤ) (X : Point) (e : accept_check limit vs X ≡ Ok tt) (P : Point) where
  verdict_small : (found : Option ℕ) → boundary_of vs P ≡ found →
      Small (verdict_by found (crossings_of vs X P) (winding_of vs X P))
  unfolding boundary_of crossings_of
  verdict_small None h =
      let n = crossings_of vs X P in
      let few = count_bound (is_crossed vs X P) 0 (vertices_count vs) in
      parity_small (eqb (n % 2) 0) n (winding_of vs X P) (omega (arith, few, (accept_passed e).listed.most))
  verdict_small (Some edge) h =
      let low = (first_found (is_on_border vs P) 0 (vertices_count vs) edge h).below in
      record { number = omega arith; place = omega (arith, low, (accept_passed e).listed.most); count = omega arith }

  pub answer_small : Small (answer_of limit vs X P)
  unfolding answer_of judge_check query_check far_check verdict_of
  answer_small = rw e (after_small (is_off_grid limit P) (is_antipodal X P) (verdict_small (boundary_of vs P) refl))
