-- The verdict on an accepted query: its number is a function of the boundary, which no reference point enters, and of
-- the parity of crossings. Defined: number_by. Proved, in order: nowhere, place_by; judge_passed, answer_judged,
-- number_judged; near, pair_passed (a query that does not get 18 from a pair); accepted_clears (an accepted point is on
-- no edge), called (what it means that X calls Y); three_parities, three_exchanged (from the parities to the numbers).
use mathlib.Core.Path.{◌≡◌, refl, sym, ◌∙◌, ap}
use mathlib.Core.Bool.{Bool, true, false, cond, ◌&&◌}
use mathlib.Core.List.{List}
use Prim.Native.Nat.{ℕ, ◌%◌, ◌<◌}
use native.Mathlib.Omega.{arith}
use lib.Dec.{eqb}
use lib.IntN.{ℤ}
use Rattle.sphere.specs.declared.point.Point.{Point}
use Rattle.sphere.specs.Direction.{is_antipodal}
use Rattle.sphere.proofs.Parity.{◌⊕◌}
use Rattle.sphere.proofs.Laws.OnEdge.{off→not-on}
use Rattle.std.specs.declared.option.Option.{Option}
use Rattle.std.specs.declared.option.Option.TheVariants.{None, Some}
use Rattle.std.specs.declared.result.Result.TheVariants.{Ok}
use Rattle.answer.specs.declared.Verdict.TheVariants.{Inside, Outside}
use Rattle.polygon.specs.Vertices.{vertices_count, start_of, end_of}
use Rattle.polygon.specs.Border.{is_border}
use Rattle.answer.specs.Answer.{number_of, place_of}
use Rattle.polygon.specs.Checks.{accept_check, query_check, far_check, judge_check}
use Rattle.polygon.specs.Verdict.{is_crossed, is_on_border, boundary_of, crossings_of, winding_of, verdict_by}
use Rattle.polygon.specs.Verdict.{verdict_of, answer_of}
use Rattle.polygon.specs.Pair.{judge_from, optional_check, optional_answer_of}
use Rattle.polygon.specs.Claims.{exchanged}
use Rattle.answer.proofs.Laws.First.{none_first}
use Rattle.polygon.proofs.Laws.Count.{count_odd}
use Rattle.polygon.proofs.Laws.Checks.{Reference, reference_accepted, reference→query}
use Rattle.polygon.proofs.Laws.Pair.{antipodal→eighteen, judge_accepted, optional_judged}
use Rattle.polygon.proofs.Potential.{arc, Clears}

-- ---- the number and the place of a verdict
abbrev pub number_by : Option ℕ → Bool → ℕ
number_by (Some edge) odd = 3
number_by None odd = cond odd 2 1

number_by_lem : (f : Option ℕ) (c : ℕ) (s : ℤ) (odd : Bool) → c % 2 ≡ cond odd 1 0 →
    number_of (verdict_by f c s) ≡ number_by f odd
number_by_lem (Some edge) c s odd h = refl
number_by_lem None c s true h = rw h
number_by_lem None c s false h = rw h

-- A verdict by parity has no place.
pub nowhere : (even : Bool) (c : ℕ) (s : ℤ) → place_of (cond even (Ok (Inside c s)) (Ok (Outside c s))) ≡ 0
nowhere true c s = refl
nowhere false c s = refl

pub place_by : (f : Option ℕ) (c d : ℕ) (s t : ℤ) → place_of (verdict_by f c s) ≡ place_of (verdict_by f d t)
place_by (Some edge) c d s t = refl
place_by None c d s t = nowhere (eqb (c % 2) 0) c s ∙ sym (nowhere (eqb (d % 2) 0) d t)

larger : (m n : ℕ) → m < n → n ≡ m → ⊥
larger m n h e = omega arith

-- ---- an accepted query is judged
module _ (limit : ℕ) (vs : List ℤ) (X P : Point) where
  pub judge_passed : accept_check limit vs X ≡ Ok tt → query_check limit P ≡ Ok tt → is_antipodal X P ≡ false →
      judge_check limit vs X P ≡ Ok tt
  unfolding judge_check far_check
  judge_passed a q near = rw (a, q, near)

  pub answer_judged : judge_check limit vs X P ≡ Ok tt → answer_of limit vs X P ≡ verdict_of vs X P
  unfolding answer_of
  answer_judged h = rw h

  pub number_judged : judge_check limit vs X P ≡ Ok tt →
      number_of (answer_of limit vs X P) ≡ number_by (boundary_of vs P) (arc vs X P)
  unfolding verdict_of crossings_of
  number_judged h =
      ap number_of (answer_judged h)
      ∙ number_by_lem (boundary_of vs P) (crossings_of vs X P) (winding_of vs X P) (arc vs X P)
      (count_odd (is_crossed vs X P) 0 (vertices_count vs))

-- ---- a query that does not get 18 from a reference point with a second one or none
module _ (limit : ℕ) (vs : List ℤ) (X Y P : Point) (x : optional_check limit vs X Y ≡ Ok tt)
    (p : query_check limit P ≡ Ok tt) (fair : number_of (optional_answer_of limit vs X Y P) ≡ 18 → ⊥) where
  pub near : is_antipodal (judge_from X Y P) P ≡ false
  near = go (is_antipodal (judge_from X Y P) P) refl
    where
      go : (b : Bool) → is_antipodal (judge_from X Y P) P ≡ b → b ≡ false
      go true e = absurd (fair (ap number_of (optional_judged limit vs X Y P x)
          ∙ antipodal→eighteen limit vs (judge_from X Y P) P (judge_accepted limit vs X Y x P) p e))
      go false e = refl

  pub pair_passed : judge_check limit vs (judge_from X Y P) P ≡ Ok tt
  pair_passed = judge_passed limit vs (judge_from X Y P) P (judge_accepted limit vs X Y x P) p near

-- ---- a point that is accepted as reference
module _ (limit : ℕ) (vs : List ℤ) where
  pub accepted_clears : (Y : Point) → Reference limit vs Y → Clears vs Y
  accepted_clears Y a i from below =
      let l : i < vertices_count vs = omega arith in
      ap (λ held. held && is_border vs i) (off→not-on (start_of vs i) (end_of vs i) Y (a.off_circle i l))

  clears_none : (Y : Point) → Clears vs Y → boundary_of vs Y ≡ None
  unfolding boundary_of
  clears_none Y clear = none_first (is_on_border vs Y) 0 (vertices_count vs) clear

  pub record Called (X Y : Point) (n : ℕ) : Type 0 where
    pub near : is_antipodal X Y ≡ false
    pub parity : number_by None (arc vs X Y) ≡ n

  -- what X calls Y, if that is not 18
  pub called : (X Y : Point) (n : ℕ) → accept_check limit vs X ≡ Ok tt → accept_check limit vs Y ≡ Ok tt → n < 18 →
      number_of (answer_of limit vs X Y) ≡ n → Called X Y n
  unfolding answer_of judge_check far_check
  called X Y n x y small e = go (is_antipodal X Y) refl
    where
      refused : is_antipodal X Y ≡ true → 18 ≡ n
      refused h = rw (x, reference→query limit vs Y y, h) at e

      go : (b : Bool) → is_antipodal X Y ≡ b → Called X Y n
      go true h = absurd (larger n 18 small (refused h))
      go false h = record {
        near = h;
        parity = sym (ap (λ f. number_by f (arc vs X Y))
            (clears_none Y (accepted_clears Y (reference_accepted limit vs Y y))))
            ∙ sym (number_judged limit vs X Y (judge_passed limit vs X Y x (reference→query limit vs Y y) h)) ∙ e;
      }

-- ---- from the parities to the numbers
pub three_parities : (f : Option ℕ) (a b c : Bool) → (f ≡ None → c ≡ (a ⊕ b)) → number_by None a ≡ 1 →
    number_by f c ≡ number_by f b
three_parities (Some edge) a b c h e = refl
three_parities None true b c h e = absurd (larger 1 2 (omega arith) e)
three_parities None false b c h e = ap (number_by None) (h refl)

pub three_exchanged : (f : Option ℕ) (a b c : Bool) → (f ≡ None → c ≡ (a ⊕ b)) → number_by None a ≡ 2 →
    number_by f c ≡ exchanged (number_by f b)
three_exchanged (Some edge) a b c h e = refl
three_exchanged None false b c h e = absurd (larger 1 2 (omega arith) (sym e))
three_exchanged None true b c h e = ap (number_by None) (h refl) ∙ swap b
  where
    swap : (b : Bool) → number_by None (true ⊕ b) ≡ exchanged (number_by None b)
    swap true = refl
    swap false = refl
