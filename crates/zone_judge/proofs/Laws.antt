-- Laws of specs/Line: a number's digits and how many they are, and a line that is put number by number.
-- Proved, in order: few_by, more_by, decimal_enough, decimal_few, decimal_more, digit_more, decimal_most, digits_most, ended_length,
-- line_put, line_length, line_same, lines_more, lines_put, lines_length. Assumes nothing.
use mathlib.Core.Path.{◌≡◌, refl, sym, ap, ◌∙◌}
use mathlib.Core.Bool.{Bool, true, false, cond}
use mathlib.Core.List.{List, [], ◌∷◌, ◌++◌}
use Prim.Native.Nat.{ℕ, zero, suc, ◌+◌, ◌*◌, ◌/◌, ◌%◌, ◌^◌, ◌≤◌, ◌<◌}
use native.Mathlib.Nat.{pow-suc}
use native.Mathlib.Numerals.{add-one}
use native.Mathlib.Omega.{arith}
use borrow.Author.Tests.{lt-ltb, le-ltb, ltb-true, ltb-false}
use lib.Dec.{ltb}
use lib.ListN.{length, length-append}
use lib.Seq.{sets}
use Rattle.big_endian.proofs.Laws.Stores.{stored_on}
use Rattle.zone_judge.specs.Line.{decimal_by, decimal, ended, line_of, result_line, lines_of}

few_by : (k n : ℕ) → n < 10 → decimal_by k n ≡ (48 + n) ∷ []
unfolding decimal_by
few_by zero n h = let e : 48 + n % 10 ≡ 48 + n = omega arith in ap (λ (d : ℕ). d ∷ []) e
few_by (suc k) n h =
    ap (λ (t : Bool). cond t ((48 + n) ∷ []) (decimal_by k (n / 10) ++ ((48 + n % 10) ∷ []))) (lt-ltb n 10 h)

more_by : (k n : ℕ) → 10 ≤ n → decimal_by (suc k) n ≡ decimal_by k (n / 10) ++ ((48 + n % 10) ∷ [])
unfolding decimal_by
more_by k n h =
    ap (λ (t : Bool). cond t ((48 + n) ∷ []) (decimal_by k (n / 10) ++ ((48 + n % 10) ∷ []))) (le-ltb n 10 h)

-- More room for digits than a number has changes nothing.
decimal_enough : (j k n : ℕ) → n ≤ j → n ≤ k → decimal_by j n ≡ decimal_by k n
decimal_enough zero k n a b = few_by zero n (omega arith) ∙ sym (few_by k n (omega arith))
decimal_enough (suc j) zero n a b = few_by (suc j) n (omega arith) ∙ sym (few_by zero n (omega arith))
decimal_enough (suc j) (suc k) n a b =
    go (ltb n 10) refl (λ h. decimal_enough j k (n / 10) (omega arith) (omega arith))
  where
    go : (t : Bool) → ltb n 10 ≡ t → (10 ≤ n → decimal_by j (n / 10) ≡ decimal_by k (n / 10)) →
        decimal_by (suc j) n ≡ decimal_by (suc k) n
    go true e less = few_by (suc j) n (ltb-true n 10 e) ∙ sym (few_by (suc k) n (ltb-true n 10 e))
    go false e less =
        let h = ltb-false n 10 e in
        more_by j n h ∙ ap (λ (l : List ℕ). l ++ ((48 + n % 10) ∷ [])) (less h) ∙ sym (more_by k n h)

pub decimal_few : (n : ℕ) → n < 10 → decimal n ≡ (48 + n) ∷ []
unfolding decimal
decimal_few n h = few_by n n h

pub decimal_more : (n : ℕ) → 10 ≤ n → decimal n ≡ decimal (n / 10) ++ ((48 + n % 10) ∷ [])
unfolding decimal
decimal_more zero h = absurd (omega arith)
decimal_more (suc m) h =
    more_by m (suc m) h
    ∙ ap (λ (l : List ℕ). l ++ ((48 + suc m % 10) ∷ []))
    (decimal_enough m (suc m / 10) (suc m / 10) (omega arith) (omega arith))

pub digit_more : (n : ℕ) → 10 ≤ n → length (decimal n) ≡ length (decimal (n / 10)) + 1
digit_more n h = ap length (decimal_more n h) ∙ length-append (decimal (n / 10)) ((48 + n % 10) ∷ [])

decimal_most : (k n : ℕ) → n < 10 ^ suc k → length (decimal n) ≤ suc k
decimal_most zero n h = let e = ap length (decimal_few n (omega (arith, pow-suc 10 0))) in omega arith
decimal_most (suc k) n h = go (ltb n 10) refl (λ b. decimal_most k (n / 10) (omega (arith, pow-suc 10 (suc k))))
  where
    go : (t : Bool) → ltb n 10 ≡ t → (10 ≤ n → length (decimal (n / 10)) ≤ suc k) → length (decimal n) ≤ suc (suc k)
    go true e less = let l = ap length (decimal_few n (ltb-true n 10 e)) in omega arith
    go false e less =
        let b = ltb-false n 10 e in
        let l = digit_more n b in
        let s = less b in omega arith

-- Any number of 64 bits.
pub digits_most : (n : ℕ) → n < 18446744073709551616 → length (decimal n) ≤ 20
digits_most n h = decimal_most 19 n (omega arith)

pub ended_length : (n after : ℕ) → length (ended n after) ≡ length (decimal n) + 1
ended_length n after = length-append (decimal n) (after ∷ [])

-- Three parts put one behind the other.
pub line_put :
    (l : List ℕ) (at next last number place count : ℕ) → next ≡ at + length (ended number 32) →
    last ≡ next + length (ended place 32) →
    sets (sets (sets l at (ended number 32)) next (ended place 32)) last (ended count 10)
    ≡ sets l at (line_of number place count)
unfolding line_of
line_put l at next last number place count n m =
    ap (λ (k : List ℕ). sets k last (ended count 10)) (stored_on l at next (ended number 32) (ended place 32) n)
    ∙ stored_on l at last (ended number 32 ++ ended place 32) (ended count 10)
    (omega (arith, length-append (ended number 32) (ended place 32)))

pub line_length :
    (number place count : ℕ) →
    length (line_of number place count)
    ≡ length (ended number 32) + length (ended place 32) + length (ended count 10)
unfolding line_of
line_length number place count =
    length-append (ended number 32 ++ ended place 32) (ended count 10)
    ∙ ap (λ (k : ℕ). k + length (ended count 10)) (length-append (ended number 32) (ended place 32))

pub line_same :
    {n m p q j k : ℕ} → n ≡ m → p ≡ q → j ≡ k → line_of n p j ≡ line_of m q k
line_same {n} {m} {p} {q} {j} {k} a b c =
    ap (λ (x : ℕ). line_of x p j) a ∙ ap (λ (x : ℕ). line_of m x j) b ∙ ap (λ (x : ℕ). line_of m q x) c

-- A line more.
pub lines_more :
    (results : List ℕ) (i : ℕ) → lines_of results (i + 1) ≡ lines_of results i ++ result_line results (i * 12)
unfolding lines_of
lines_more results i = ap (lines_of results) (add-one i)

pub lines_put :
    (l results : List ℕ) (i at : ℕ) → at ≡ length (lines_of results i) →
    sets (sets l 0 (lines_of results i)) at (result_line results (i * 12)) ≡ sets l 0 (lines_of results (i + 1))
lines_put l results i at e =
    stored_on l 0 at (lines_of results i) (result_line results (i * 12)) (omega arith)
    ∙ ap (sets l 0) (sym (lines_more results i))

pub lines_length :
    (results : List ℕ) (i : ℕ) →
    length (lines_of results (i + 1)) ≡ length (lines_of results i) + length (result_line results (i * 12))
lines_length results i =
    ap length (lines_more results i) ∙ length-append (lines_of results i) (result_line results (i * 12))
