-- Scans by a test, and sides of a plane. Defined: Stopped. Proved, in order: scan_start, scan_step, scan_hit, scan_end
-- (as a loop goes); stopped, stopped_by (what is known where it stops); sided_held, sided_back, sided_result,
-- strict_sided, sided_strict. By an arc: Near.
use mathlib.Core.Path.{◌≡◌, refl, sym, ◌∙◌, subst, ap}
use mathlib.Core.Bool.{Bool, true, false, cond}
use mathlib.Core.List.{List}
use Prim.Native.Nat.{ℕ, suc, ◌+◌, ◌-◌, ◌≤◌, ◌<◌}
use native.Mathlib.Omega.{arith}
use lib.IntN.{ℤ}
use mir.Syntax.{w64}
use mir.Val.{SFits, to_z, of_z}
use mir.ValLaws.{to_z-of_z}
use Rattle.integers.specs.Sign.{negative, positive, sign_of}
use Rattle.sphere.specs.declared.point.Point.{Point}
use Rattle.sphere.specs.Orientation.{dot_of}
use Rattle.std.specs.declared.option.Option.{Option}
use Rattle.std.specs.declared.option.Option.TheVariants.{None, Some}
use Rattle.answer.specs.Search.{first_from}
use Rattle.polygon.specs.Vertices.{vertex_at}
use Rattle.answer.proofs.Laws.First.{Each, first_found}
use Rattle.answer.proofs.Laws.Search.{first_none}
use Rattle.answer.proofs.Laws.Blocks.{first_pass}
use Rattle.search.specs.Scan.{Scanning, stop_of, stop_from, Sided, Strict}

-- ---- as a loop goes
module _ {test : ℕ → Bool} {i last : ℕ} where
  pub scan_start : Scanning test i last i
  unfolding first_from
  scan_start =
      let none : i - i ≡ 0 = omega arith in record { after = omega arith; before = omega arith; none = rw none }

  module _ {at : ℕ} (s : Scanning test i last at) where
    here : i + (at - i) ≡ at
    here = omega (arith, s.after)

    pub scan_step : at < last → test at ≡ false → Scanning test i last (at + 1)
    unfolding first_from
    scan_step l e =
        let more : at + 1 - i ≡ (at - i) + 1 = omega (arith, s.after) in
        record {
          after = omega (arith, s.after);
          before = omega (arith, s.after, l);
          none = rw more (first_pass test i (at - i) 1 s.none ∙ rw (here, e));
        }

    pub scan_hit : at < last → test at ≡ true → at ≡ stop_from test i (last - i)
    unfolding stop_from first_from
    scan_hit l e =
        let more : last - i ≡ (at - i) + suc (last - (at + 1)) = omega (arith, s.after, l) in
        let hit : first_from test i ((at - i) + suc (last - (at + 1))) ≡ Some at =
        first_pass test i (at - i) (suc (last - (at + 1))) s.none ∙ rw (here, e) in
        rw (more, hit)

    pub scan_end : last ≤ at → at ≡ stop_from test i (last - i)
    unfolding stop_from
    scan_end l =
        let all : last - i ≡ at - i = omega (arith, l, s.before, s.after) in
        rw (all, s.none) (sym here)

-- ---- where it stops
pub record Stopped (test : ℕ → Bool) (i last at : ℕ) : Type 0 where
  pub after : i ≤ at
  pub before : at - i ≤ last - i
  pub all : Each (λ j. test j ≡ false) i (at - i)
  pub hit : at < last → test at ≡ true

pub stopped : (test : ℕ → Bool) (i last : ℕ) {at : ℕ} → at ≡ stop_from test i (last - i) → Stopped test i last at
unfolding stop_from
stopped test i last e = subst (Stopped test i last) (sym e) (go (first_from test i (last - i)) refl)
  where
    go : (found : Option ℕ) → first_from test i (last - i) ≡ found → Stopped test i last (stop_of found (i + (last - i)))
    go None e = record {
      after = omega arith;
      before = omega arith;
      all = λ j h l. first_none test i (last - i) j e h (omega (arith, l));
      hit = λ l. absurd (omega (arith, l));
    }
    go (Some edge) e =
        let found = first_found test i (last - i) edge e in
        record {
          after = found.from;
          before = omega (arith, found.from, found.below);
          all = λ j h l. found.before j h (omega (arith, l, found.from));
          hit = λ l. found.holds;
        }

-- where `last` is worked out
pub stopped_by : (test : ℕ → Bool) (i : ℕ) {last to at : ℕ} → last ≡ to → at ≡ stop_from test i (last - i) →
    Stopped test i to at
stopped_by test i {last} {to} {at} e s = subst (λ k. Stopped test i k at) e (stopped test i last s)

-- ---- a side, as a local holds it
pub sided_held : {vs : List ℤ} {N : Point} {i : ℕ} {side : ℤ} → SFits w64 side → Sided vs N i side →
    Sided vs N i (to_z w64 (of_z w64 side))
sided_held {side = side} fits s = record { known = λ h. ap sign_of (to_z-of_z w64 side fits) ∙ s.known h }

pub sided_back : {vs : List ℤ} {N : Point} {i : ℕ} {side : ℤ} → SFits w64 side →
    Sided vs N i (to_z w64 (of_z w64 side)) → Sided vs N i side
sided_back {side = side} fits s = record { known = λ h. ap sign_of (sym (to_z-of_z w64 side fits)) ∙ s.known h }

-- worked out for a vertex
pub sided_result : {vs : List ℤ} {N p : Point} {i : ℕ} (side : ℤ) → SFits w64 side → sign_of side ≡ sign_of (dot_of N p) →
    p ≡ vertex_at vs i → Sided vs N i (to_z w64 (of_z w64 side))
sided_result {N = N} side fits e p =
    sided_held fits (record { known = λ h. e ∙ ap (λ q. sign_of (dot_of N q)) p })

-- A side that is not 0, as a strict one, and back.
module _ {vs : List ℤ} {N : Point} {i : ℕ} (above : Bool) {side : ℤ} (is : sign_of side ≡ cond above positive negative)
  where
    pub strict_sided : Sided vs N i side → Strict vs N above i
    strict_sided s = record { known = λ h. sym (s.known h) ∙ is }

    pub sided_strict : Strict vs N above i → Sided vs N i side
    sided_strict s = record { known = λ h. is ∙ sym (s.known h) }
