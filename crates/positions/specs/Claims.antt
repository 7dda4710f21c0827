-- Document 02, P7: the place of refusal 30, over the code's machine (specs/Text). Defined: IsText, Longest. Stated:
-- LongestBeginning; proofs/Claims proves it. Over the grammar it is stated again in crate polygon_text, which says what
-- texts these are.
use Rattle.std.specs.declared.result.Result.TheVariants.{Ok, Err}
use Rattle.std.specs.Prelude.{◌≡◌, List, ◌++◌, ℕ, suc, ◌≤◌, ◌<◌, length, take}
use Rattle.big_endian.specs.Bytes.{AreBytes}
use Rattle.positions.specs.Text.{start, read}

abbrev pub IsText : List ℕ → Type 0
IsText text = read text start 0 (length text) ≡ Ok tt

-- The first i bytes begin some text, of bytes, and no more of them do.
pub record Longest (text : List ℕ) (i : ℕ) : Type 0 where
  pub inside : i ≤ length text
  pub rest : List ℕ
  pub bytes : AreBytes rest
  pub begins : IsText (take i text ++ rest)
  pub no_more : (more : List ℕ) → i < length text → IsText (take (suc i) text ++ more) → ⊥

abbrev pub LongestBeginning : Type 0
LongestBeginning = (text : List ℕ) (i : ℕ) → read text start 0 (length text) ≡ Err i → Longest text i
