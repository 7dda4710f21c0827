-- The tables of what numbers mean. Proved, in order: tabled_at, kind_at, start_at, size_at (an entry is right for its
-- number, and the last for all that follow); text_part, text_within, letters_length (a text is a part of the
-- letters); front_cut, front_whole (as much of a text as fits).
use mathlib.Core.Path.{◌≡◌, refl, sym, ap, ◌∙◌}
use mathlib.Core.Bool.{Bool, true, false, ◌&&◌, cond}
use mathlib.Core.List.{List, [], ◌∷◌, ◌++◌}
use Prim.Native.Nat.{ℕ, zero, suc, ◌+◌, ◌≤◌, ◌<◌}
use native.Mathlib.Omega.{arith}
use borrow.Author.Tests.{ltb-true, ltb-false, ne_eqb}
use lib.Dec.{eqb, ltb}
use lib.ListN.{length, take, drop, get_or, length-append, drop_of_length-le}
use lib.Seq.{sets, sets-eq, length-take-le, take_all, take-length, take-append_seam, drop-append-add}
use Rattle.answer.proofs.Laws.Chain.{both_true}
use Rattle.spargolutta.specs.Meanings.{Row, unknown, rows, find_in, row_of, kind_of, text_of, joined, start_in}
use Rattle.spargolutta.specs.Meanings.{front_of, letters, index_of, tabled, kind_table, start_table, size_table}

tabled_from : (f : ℕ → ℕ) (i k j : ℕ) → j < k → get_or (tabled f i k) j 0 ≡ f (i + j)
tabled_from f i zero j h = absurd (omega arith)
tabled_from f i (suc k) zero h = let z : i ≡ i + 0 = omega arith in ap f z
tabled_from f i (suc k) (suc j) h =
    let z : suc i + j ≡ i + suc j = omega arith in tabled_from f (suc i) k j (omega arith) ∙ ap f z

-- A table of 38 entries, for numbers that are alike from 37 on.
pub tabled_at : (f : ℕ → ℕ) → ((n : ℕ) → 37 ≤ n → f 37 ≡ f n) → (n i : ℕ) → i ≡ index_of n → i < 38 →
    get_or (tabled f 0 38) i 0 ≡ f n
tabled_at f alike n i e h =
    let z : 0 + i ≡ i = omega arith in tabled_from f 0 38 i h ∙ ap f (z ∙ e) ∙ go (ltb n 37) refl
  where
    go : (t : Bool) → ltb n 37 ≡ t → f (cond t n 37) ≡ f n
    go true q = refl
    go false q = alike n (ltb-false n 37 q)

-- ---- from 37 on no row is met
below : List Row → Bool
below [] = true
below (r ∷ rs) = ltb r.number 37 && below rs

module _ (n : ℕ) (h : 37 ≤ n) where
  other : (r : Row) (rs : List Row) → below (r ∷ rs) ≡ true → eqb n r.number ≡ false
  unfolding below
  other r rs e =
      let small = ltb-true r.number 37 (both_true (ltb r.number 37) (below rs) e).0 in
      ne_eqb n r.number (λ q. omega arith)

  rest : (r : Row) (rs : List Row) → below (r ∷ rs) ≡ true → below rs ≡ true
  unfolding below
  rest r rs e = (both_true (ltb r.number 37) (below rs) e).1

  kind_none : (rs : List Row) → below rs ≡ true → (find_in rs n).kind ≡ 0
  kind_none [] e = refl
  kind_none (r ∷ rs) e = rw (other r rs e) (kind_none rs (rest r rs e))

  text_none : (rs : List Row) → below rs ≡ true → (find_in rs n).text ≡ unknown
  text_none [] e = refl
  text_none (r ∷ rs) e = rw (other r rs e) (text_none rs (rest r rs e))

module _ (n : ℕ) (h : 37 ≤ n) where
  start_none : (rs : List Row) → below rs ≡ true → start_in rs 37 ≡ start_in rs n
  start_none [] e = refl
  start_none (r ∷ rs) e =
      rw (other 37 (omega arith) r rs e, other n h r rs e) (ap (λ (k : ℕ). length r.text + k)
      (start_none rs (rest n h r rs e)))

all_below : below rows ≡ true
unfolding below rows
all_below = refl

module _ (n i : ℕ) (e : i ≡ index_of n) (h : i < 38) where
  pub kind_at : get_or kind_table i 0 ≡ kind_of n
  unfolding kind_table row_of
  kind_at =
      tabled_at kind_of (λ m l. kind_none 37 (omega arith) rows all_below ∙ sym (kind_none m l rows all_below)) n i e h

  pub start_at : get_or start_table i 0 ≡ start_in rows n
  unfolding start_table
  start_at = tabled_at (start_in rows) (λ m l. start_none m l rows all_below) n i e h

  pub size_at : get_or size_table i 0 ≡ length (text_of n)
  unfolding size_table row_of
  size_at =
      tabled_at (λ m. length (text_of m))
      (λ m l. ap length (text_none 37 (omega arith) rows all_below ∙ sym (text_none m l rows all_below))) n i e h

-- ---- a text is a part of the letters
part : (rs : List Row) (n : ℕ) → take (length (find_in rs n).text) (drop (start_in rs n) (joined rs)) ≡ (find_in rs n).text
part [] n = take-length unknown
part (r ∷ rs) n = go (eqb n r.number) (part rs n)
  where
    go : (t : Bool) → take (length (find_in rs n).text) (drop (start_in rs n) (joined rs)) ≡ (find_in rs n).text →
        take (length (cond t r (find_in rs n)).text)
        (drop (cond t 0 (length r.text + start_in rs n)) (r.text ++ joined rs))
        ≡ (cond t r (find_in rs n)).text
    go true rest = take-append_seam r.text (joined rs)
    go false rest =
        ap (take (length (find_in rs n).text)) (drop-append-add r.text (joined rs) (start_in rs n)) ∙ rest

within : (rs : List Row) (n : ℕ) → start_in rs n + length (find_in rs n).text ≤ length (joined rs)
within [] n = omega arith
within (r ∷ rs) n = go (eqb n r.number) (within rs n)
  where
    go : (t : Bool) → start_in rs n + length (find_in rs n).text ≤ length (joined rs) →
        cond t 0 (length r.text + start_in rs n) + length (cond t r (find_in rs n)).text
        ≤ length (r.text ++ joined rs)
    go true rest = omega (arith, length-append r.text (joined rs))
    go false rest = omega (arith, length-append r.text (joined rs))

module _ (n : ℕ) where
  pub text_part : take (length (text_of n)) (drop (start_in rows n) letters) ≡ text_of n
  unfolding letters row_of
  text_part = part rows n

  pub text_within : start_in rows n + length (text_of n) ≤ length letters
  unfolding letters row_of
  text_within = within rows n

pub letters_length : length letters ≡ 783
unfolding letters rows
letters_length = refl

-- ---- as much of a text as fits
module _ (buffer text : List ℕ) where
  pub front_cut : length buffer < length text → sets buffer 0 (take (length buffer) text) ≡ front_of text buffer
  front_cut h =
      let cut = take (length buffer) text in
      let size = length-take-le (length buffer) text (omega arith) in
      let none = drop_of_length-le buffer {i = 0 + length cut} (omega (arith, size)) in
      sets-eq cut buffer 0 (omega (arith, size))
      ∙ ap (λ (l : List ℕ). cut ++ l) (none ∙ sym (drop_of_length-le buffer {i = length text} (omega arith)))

  pub front_whole : length text ≤ length buffer → sets buffer 0 text ≡ front_of text buffer
  front_whole h =
      let z : 0 + length text ≡ length text = omega arith in
      sets-eq text buffer 0 (omega arith)
      ∙ (λ i. sym (take_all (length buffer) text h) i ++ drop (z i) buffer)
