-- Up to seven decimals at once. Proved, in order: decimal_next (a decimal leads to the next state), run_none,
-- run_longer, run_ring, run_read, run_walked (what is read after them).
use mathlib.Core.Path.{◌≡◌, refl, sym, ap, ◌∙◌, subst}
use mathlib.Core.Bool.{Bool, true, false, not, ◌&&◌, ◌||◌}
use mathlib.Core.List.{List}
use Prim.Native.Nat.{ℕ, zero, suc, ◌+◌, ◌-◌, ◌*◌, ◌≤◌, ◌<◌}
use native.Mathlib.Omega.{arith}
use borrow.Author.Tests.{lt-ltb, le-leb, lt-leb, ltb-true, ltb-false}
use lib.Dec.{T, eqb, leb, ltb, eqb→eq}
use lib.Ieee.Fits.{and_l, and_r}
use lib.ListN.{length, get_or}
use Rattle.answer.proofs.Laws.Chain.{both_true}
use Rattle.positions.specs.declared.grammar.State.{State}
use Rattle.positions.specs.Text.{words, rows, class_table, class_of, ring_next, next_of, read, is_point}
use Rattle.positions.specs.Number.{is_digit, Walk, pending_of, stepped, walked, held, onward, DigitRun}
use Rattle.positions.proofs.Numbers.{digit_range, digit_no_end}
use Rattle.positions.proofs.Table.{at}
use Rattle.positions.proofs.TextLaws.{read_on}

is_place : ℕ → Bool
is_place ring = (leb 7 ring && leb ring 13) || (leb 20 ring && leb ring 26)

given : (a b : Bool) → T (not a || b) → a ≡ true → T b
given true b t e = t
given false b t e = absurd (subst T (sym e) tt)

either : (a b : Bool) {A : Type 0} → T (a || b) → (T a → A) → (T b → A) → A
either true b t f g = f tt
either false b t f g = g t

-- ---- two tables, entry by entry

digit_class : ℕ → ℕ → Bool
digit_class k x = not (is_digit k) || (eqb (class_of k) 6 || eqb (class_of k) 7)

next_row : ℕ → ℕ → Bool
unfolding is_place
next_row k x = not (is_place k) || (eqb (get_or rows (k * 9 + 6) 0) (suc k) && eqb (get_or rows (k * 9 + 7) 0) (suc k))

digit_class_lem : (b : ℕ) → b < 256 → is_digit b ≡ true → T (eqb (class_of b) 6 || eqb (class_of b) 7)
unfolding digit_class is_digit class_of class_table
digit_class_lem b h e = given (is_digit b) (eqb (class_of b) 6 || eqb (class_of b) 7) (at digit_class class_table tt b h) e

next_row_lem : (k : ℕ) → k < 261 → is_place k ≡ true →
    T (eqb (get_or rows (k * 9 + 6) 0) (suc k) && eqb (get_or rows (k * 9 + 7) 0) (suc k))
unfolding next_row is_place rows
next_row_lem k h e =
    given (is_place k) (eqb (get_or rows (k * 9 + 6) 0) (suc k) && eqb (get_or rows (k * 9 + 7) 0) (suc k))
    (at next_row rows tt k h) e

-- ---- the next state

row_of : (k c : ℕ) → k < 261 → is_place k ≡ true → T (eqb c 6 || eqb c 7) → get_or rows (k * 9 + c) 0 ≡ suc k
row_of k c h e t =
    let n = next_row_lem k h e in
    let six = eqb (get_or rows (k * 9 + 6) 0) (suc k) in
    let seven = eqb (get_or rows (k * 9 + 7) 0) (suc k) in
    either (eqb c 6) (eqb c 7) t
    (λ u. subst (λ (d : ℕ). get_or rows (k * 9 + d) 0 ≡ suc k) (sym (eqb→eq c 6 u))
    (eqb→eq (get_or rows (k * 9 + 6) 0) (suc k) (and_l six seven n)))
    (λ u. subst (λ (d : ℕ). get_or rows (k * 9 + d) 0 ≡ suc k) (sym (eqb→eq c 7 u))
    (eqb→eq (get_or rows (k * 9 + 7) 0) (suc k) (and_r six seven n)))

decimal_next : (s : State) (b : ℕ) → s.ring < 28 → eqb (get_or words s.at 0) 256 ≡ true → is_place s.ring ≡ true →
    is_digit b ≡ true → next_of s b ≡ record { at = s.at; ring = suc s.ring }
unfolding next_of ring_next
decimal_next s b h ring place e =
    let r = (digit_range b e).1 in
    let t = row_of s.ring (class_of b) (omega arith) place (digit_class_lem b (omega arith) e) in
    rw (ring, t, lt-ltb (suc s.ring) 29 (omega arith))

-- ---- a run

fewer : {text : List ℕ} {i k : ℕ} → DigitRun text i (suc k) → DigitRun text i k
fewer d = record {
  inside = let h = d.inside in omega arith;
  few = let h = d.few in omega arith;
  each = λ j h. d.each j (omega arith);
}

pub run_none : (text : List ℕ) (i : ℕ) → i ≤ length text → DigitRun text i 0
run_none text i h = record { inside = omega arith; few = omega arith; each = λ j g. absurd (none j g) }
  where
    none : (j : ℕ) → j < 0 → ⊥
    none j g = omega arith

pub run_longer : (text : List ℕ) (i k : ℕ) → DigitRun text i k → k < 7 → i + k < length text →
    is_digit (get_or text (i + k) 0) ≡ true → DigitRun text i (suc k)
run_longer text i k d few h e = record { inside = omega arith; few = omega arith; each = λ j g. go j g (ltb j k) refl }
  where
    go : (j : ℕ) → j < suc k → (t : Bool) → ltb j k ≡ t → is_digit (get_or text (i + j) 0) ≡ true
    go j g true u = d.each j (ltb-true j k u)
    go j g false u = let v = ltb-false j k u in let same : j ≡ k = omega arith in rw same e

places : (ring k : ℕ) → k < 7 → (eqb ring 7 || eqb ring 20) ≡ true → (is_place (ring + k) ≡ true) × (ring + k < 28)
unfolding is_place
places ring k h e =
    either (eqb ring 7) (eqb ring 20) (subst T (sym e) tt)
    (λ u. let is = eqb→eq ring 7 u in
    (rw (is, le-leb 7 (7 + k) (omega arith), le-leb (7 + k) 13 (omega arith)), omega arith))
    (λ u. let is = eqb→eq ring 20 u in (
      rw (
        is,
        le-leb 7 (20 + k) (omega arith),
        lt-leb (20 + k) 13 (omega arith),
        le-leb 20 (20 + k) (omega arith),
        le-leb (20 + k) 26 (omega arith),
      ),
      omega arith,
    ))

module _ (text : List ℕ) (s : State) (i : ℕ) (low : s.at < 76) (point : is_point s ≡ true) where
  abbrev pub ring_at : ℕ → State
  ring_at k = record { at = s.at; ring = s.ring + k }

  next_at_lem : (k : ℕ) → DigitRun text i (suc k) → next_of (ring_at k) (get_or text (i + k) 0) ≡ ring_at (suc k)
  unfolding is_point
  next_at_lem k d =
      let both = both_true (eqb (get_or words s.at 0) 256) (eqb s.ring 7 || eqb s.ring 20) point in
      let f = d.few in
      let p = places s.ring k (omega arith) both.1 in
      let more : suc (s.ring + k) ≡ s.ring + suc k = omega arith in
      decimal_next (ring_at k) (get_or text (i + k) 0) p.1 both.0 p.0 (d.each k (omega arith))
      ∙ rw more

  pub run_ring : (k : ℕ) → DigitRun text i k → s.ring + k < 29
  unfolding is_point
  run_ring k d =
      let f = d.few in
      either (eqb s.ring 7) (eqb s.ring 20)
      (subst T (sym (both_true (eqb (get_or words s.at 0) 256) (eqb s.ring 7 || eqb s.ring 20) point).1) tt)
      (λ u. let is = eqb→eq s.ring 7 u in omega arith)
      (λ u. let is = eqb→eq s.ring 20 u in omega arith)

  pub run_read : (k : ℕ) → DigitRun text i k →
      read text s i (length text - i) ≡ read text (ring_at k) (i + k) (length text - (i + k))
  run_read zero d =
      let e : i + 0 ≡ i = omega arith in
      let f : s.ring + 0 ≡ s.ring = omega arith in
      rw (e, f)
  run_read (suc k) d =
      let n = length text in
      let e = next_at_lem k d in
      let h = d.inside in
      let j : suc (i + k) ≡ i + suc k = omega arith in
      let alive : (next_of (ring_at k) (get_or text (i + k) 0)).at ≡ 76 → ⊥ =
      λ w. let z : s.at ≡ 76 = ap (λ (q : State). q.at) (sym e) ∙ w in omega arith in
      run_read k (fewer d) ∙ read_on text (ring_at k) (i + k) n (omega arith) alive ∙ rw (e, j)

digit_step : (w : Walk) (b : ℕ) → is_digit b ≡ true →
    stepped held w b ≡ record { pending = pending_of held w.pending b; done = w.done }
unfolding stepped
digit_step w b e = rw (digit_no_end w.pending b e)

pub run_walked : (text : List ℕ) (i k : ℕ) → DigitRun text i k →
    walked held text (i + k)
    ≡ record { pending = onward text i (walked held text i).pending k; done = (walked held text i).done }
unfolding walked onward
run_walked text i zero d = let e : i + 0 ≡ i = omega arith in rw e
run_walked text i (suc k) d =
    let b = get_or text (i + k) 0 in
    let j : i + suc k ≡ suc (i + k) = omega arith in
    ap (walked held text) j
    ∙ digit_step (walked held text (i + k)) b (d.each k (omega arith))
    ∙ ap (λ (w : Walk). record { pending = pending_of held w.pending b; done = w.done })
    (run_walked text i k (fewer d))
