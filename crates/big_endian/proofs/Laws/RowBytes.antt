-- Rows of bytes of one width, stored one a turn and found again. Proved, in order: rows_length, rows_more (a turn of the
-- loop), row_at (row i among all).
use mathlib.Core.Path.{◌≡◌, ◌∙◌}
use mathlib.Core.Logic.{⊎_elim}
use mathlib.Core.List.{List, ◌++◌, append_assoc}
use Prim.Native.Nat.{ℕ, zero, suc, ◌+◌, ◌*◌, ◌<◌}
use native.Mathlib.Nat.{eq-or-lt_of_le}
use native.Mathlib.Numerals.{add-one}
use native.Mathlib.Omega.{arith}
use lib.ListN.{length, take, drop, length-append}
use lib.Seq.{sets, take_at, drop_at}
use Rattle.big_endian.specs.Bytes.{rows_of}
use Rattle.big_endian.proofs.Laws.Stores.{stored_on}

module _ (width : ℕ) (row : ℕ → List ℕ) (sized : (i : ℕ) → length (row i) ≡ width) where
  pub rows_length : (n : ℕ) → length (rows_of row n) ≡ n * width
  unfolding rows_of
  rows_length zero = omega arith
  rows_length (suc n) = length-append (rows_of row n) (row n) ∙ omega (arith, rows_length n, sized n)

  pub rows_more :
      (l : List ℕ) (i : ℕ) → sets (sets l 0 (rows_of row i)) (i * width) (row i) ≡ sets l 0 (rows_of row (i + 1))
  unfolding rows_of
  rows_more l i = rw add-one (stored_on l 0 (i * width) (rows_of row i) (row i) (omega (arith, rows_length i)))

  -- Row i among all of them, whatever follows.
  pub row_at : (n i : ℕ) (rest : List ℕ) → i < n → take width (drop (i * width) (rows_of row n ++ rest)) ≡ row i
  unfolding rows_of
  row_at zero i rest h = absurd (omega arith)
  row_at (suc n) i rest h =
      rw append_assoc
      (⊎_elim last (λ l. row_at n i (row n ++ rest) l) (eq-or-lt_of_le {n = i} {m = n} (omega arith)))
    where
      last : i ≡ n → take width (drop (i * width) (rows_of row n ++ (row n ++ rest))) ≡ row i
      last e =
          rw (e, drop_at (rows_of row n) (row n ++ rest) (n * width) (rows_length n))
          (take_at (row n) rest width (sized n))
