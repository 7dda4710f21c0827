-- The tokens outside the ring are read: their states are closed numbers, so that one computed test says it. Defined, in
-- order: stays (the test of Stays), reads, after_all, walks_all. Proved, in order: stays_at, segment.
use mathlib.Core.Path.{◌≡◌, sym, subst}
use mathlib.Core.Bool.{Bool, true, not, ◌&&◌}
use mathlib.Core.List.{List, [], ◌∷◌, ◌++◌}
use Prim.Native.Nat.{ℕ}
use lib.Dec.{T, eqb, eqb→eq}
use lib.Ieee.Fits.{and_l, and_r}
use Rattle.angles.specs.declared.point.Position.{Position}
use Rattle.positions.specs.declared.grammar.State.{State}
use Rattle.positions.specs.Text.{next_of}
use Rattle.positions.specs.Number.{Walk}
use Rattle.positions.proofs.Viable.{alive, after}
use Rattle.polygon_text.specs.Grammar.{Tokens, SpacedThen}
use Rattle.polygon_text.proofs.Machine.{walks, Accepts, run, blank_cases, Stays, blanks}

abbrev pub same : State → State → Bool
same s t = eqb s.at t.at && eqb s.ring t.ring

same_eq : (s t : State) → T (same s t) → s ≡ t
same_eq s t h =
    let a = eqb→eq s.at t.at (and_l (eqb s.at t.at) (eqb s.ring t.ring) h) in
    let b = eqb→eq s.ring t.ring (and_r (eqb s.at t.at) (eqb s.ring t.ring) h) in
    λ i. record { at = a i; ring = b i }

abbrev pub stays : State → Bool
stays s =
    not (eqb s.at 76) && (same (next_of s 32) s && (same (next_of s 9) s && (same (next_of s 10) s
    && same (next_of s 13) s)))

pub stays_at : (s : State) → T (stays s) → Stays s
stays_at s h =
    let n = and_r (not (eqb s.at 76)) _ h in
    let o = and_r (same (next_of s 32) s) _ n in
    let p = and_r (same (next_of s 9) s) _ o in
    record {
      live = and_l (not (eqb s.at 76)) _ h;
      same_state = blank_cases (λ b. next_of s b ≡ s) (same_eq (next_of s 32) s (and_l (same (next_of s 32) s) _ n))
          (same_eq (next_of s 9) s (and_l (same (next_of s 9) s) _ o))
          (same_eq (next_of s 10) s (and_l (same (next_of s 10) s) (same (next_of s 13) s) p))
          (same_eq (next_of s 13) s (and_r (same (next_of s 10) s) (same (next_of s 13) s) p));
    }

abbrev pub reads : State → Tokens → Bool
reads s [] = true
reads s (t ∷ ts) = stays s && (alive s t && reads (after s t) ts)

abbrev pub after_all : State → Tokens → State
after_all s [] = s
after_all s (t ∷ ts) = after_all (after s t) ts

abbrev pub walks_all : Walk → Tokens → Walk
walks_all w [] = w
walks_all w (t ∷ ts) = walks_all (walks w t) ts

pub segment : (ts : Tokens) (s : State) (w : Walk) (ps : List Position) (text : List ℕ) → T (reads s ts) →
    SpacedThen (λ rest. Accepts (after_all s ts) (walks_all w ts) rest ps) ts text → Accepts s w text ps
segment [] s w ps text h a = a
segment (t ∷ ts) s w ps text h a =
    let k = and_r (stays s) (alive s t && reads (after s t) ts) h in
    subst (λ (l : List ℕ). Accepts s w l ps) (sym a.3)
    (blanks a.0 (t ++ a.1) s w ps (stays_at s (and_l (stays s) _ h)) a.2
    (run t a.1 s w ps (and_l (alive s t) (reads (after s t) ts) k)
    (segment ts (after s t) (walks w t) ps a.1 (and_r (alive s t) (reads (after s t) ts) k) a.4)))
