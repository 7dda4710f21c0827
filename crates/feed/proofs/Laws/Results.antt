-- The bytes of results, stored and read. Proved, in order: result_bytes-length, result_stored (three words);
-- word_behind, result_split, result_read (its words).
use mathlib.Core.Path.{◌≡◌, refl, sym, ap, ◌∙◌}
use mathlib.Core.List.{List, ◌++◌, append_assoc}
use Prim.Native.Nat.{ℕ, ◌+◌}
use native.Mathlib.Omega.{arith}
use lib.ListN.{length, take, drop, take-append-drop}
use lib.Seq.{sets, drop-drop}
use Rattle.big_endian.specs.Bytes.{word_bytes}
use Rattle.big_endian.proofs.Laws.Stores.{stored_on}
use Rattle.big_endian.proofs.Laws.Written.{word_written}
use Rattle.answer.specs.Refusal.{Answer}
use Rattle.answer.specs.Answer.{number_of, place_of, count_of}
use Rattle.feed.specs.Feed.{result_bytes}
use Rattle.feed.specs.Claims.{Encodes}
use Rattle.feed.proofs.Laws.Small.{Small}

pub result_bytes-length : (a : Answer) → length (result_bytes a) ≡ 12
unfolding result_bytes word_bytes
result_bytes-length a = refl

-- Number, place and count, stored one behind the other.
pub result_stored :
    (l : List ℕ) (at : ℕ) (a : Answer) →
    sets (sets (sets l at (word_bytes (number_of a))) (at + 4) (word_bytes (place_of a))) (at + 8) (word_bytes (count_of a))
    ≡ sets l at (result_bytes a)
unfolding result_bytes word_bytes
result_stored l at a =
    let n = word_bytes (number_of a) in
    let p = word_bytes (place_of a) in
    let k = word_bytes (count_of a) in
    stored_on (sets l at n) (at + 4) (at + 8) p k (omega arith) ∙ stored_on l at (at + 4) n (p ++ k) (omega arith)

-- ---- a result, read

-- What lies four bytes on, behind a word.
word_behind : (b : List ℕ) (at n : ℕ) (rest : List ℕ) → drop at b ≡ word_bytes n ++ rest → drop (at + 4) b ≡ rest
unfolding word_bytes
word_behind b at n rest e = sym (drop-drop 4 at b) ∙ ap (drop 4) e

-- The three words of a result, and what follows them.
result_split : (b : List ℕ) (at : ℕ) (a : Answer) → take 12 (drop at b) ≡ result_bytes a → drop at b
    ≡ word_bytes (number_of a) ++ (word_bytes (place_of a) ++ (word_bytes (count_of a) ++ drop 12 (drop at b)))
unfolding result_bytes
result_split b at a e =
    sym (take-append-drop 12 (drop at b)) ∙ ap (λ (l : List ℕ). l ++ drop 12 (drop at b)) e ∙ simp append_assoc

-- Number, place and count of an answer that fits are read where its result lies.
pub result_read : (b : List ℕ) (at : ℕ) (a : Answer) → Small a → take 12 (drop at b) ≡ result_bytes a → Encodes b at a
result_read b at a s e =
    let number = result_split b at a e in
    let place = word_behind b at (number_of a) _ number in
    let z : at + 8 ≡ at + 4 + 4 = omega arith in
    let count = word_behind b (at + 4) (place_of a) _ place in
    record {
      bytes = e;
      number = word_written b at (number_of a) _ s.number number;
      place = word_written b (at + 4) (place_of a) _ s.place place;
      count = rw z (word_written b (at + 4 + 4) (count_of a) _ s.count count);
    }
