-- The last sentence of document 02's P12, as statements: P11's 'same ring' gives equal verdicts, when known points are
-- equal in direction. Their proofs are in proofs/Claims. Stated, in order: over two vertex lists, SameRingUnmoved (one
-- known point each; the count too), SameRingPairUnmoved (with second points or none, by the checks), SameRingVerdicts
-- (the same by the answers alone); over two sheets' bytes, by what comparing them answers, SameRingSheets,
-- SameRingFeeds; RingField (field 5 is told exactly if the way is 0, so that either may be asked).
use Rattle.std.specs.Prelude.{◌≡◌, List, ℕ, ℤ}
use Rattle.compare.specs.Ring.{SameRing}
use Rattle.compare.specs.declared.differences.Field.TheVariants.{KnownPoint, Vertices}
use Rattle.compare.specs.Differences.{field_number}
use Rattle.compare.specs.Comparison.{comparison_of}
use Rattle.compare.specs.Claims.{Listed}
use Rattle.redraw.specs.Claims.{Unmoved}
use Rattle.redraw.specs.PairClaims.{SameNumbers, SameVerdicts}
use Rattle.redrawn_sheets.specs.Claims.{SheetsAgree, FeedsAgree}

-- ---- over lists, on any grids

abbrev OfSameRing : (List ℤ → List ℤ → Type 0) → Type 0
OfSameRing Fact = (ls rs : List ℤ) → SameRing ls rs → Fact ls rs

abbrev pub SameRingUnmoved : Type 0
SameRingUnmoved = OfSameRing Unmoved

abbrev pub SameRingPairUnmoved : Type 0
SameRingPairUnmoved = OfSameRing SameNumbers

abbrev pub SameRingVerdicts : Type 0
SameRingVerdicts = OfSameRing SameVerdicts

-- ---- over sheets

-- The field is among those that comparing the sheets b and c tells.
abbrev pub Told : List ℕ → List ℕ → ℕ → Type 0
Told b c number = Listed (comparison_of b c).fields (comparison_of b c).count number

-- Comparing finds the same ring, one way or the other, and known points of one direction. It says nothing of names,
-- grids and second points, which may differ.
pub record FoundSame (b c : List ℕ) : Type 0 where
  pub way : (comparison_of b c).way ≡ 0 → ⊥
  pub known : Told b c (field_number KnownPoint) → ⊥

abbrev pub SameRingSheets : Type 0
SameRingSheets = (b c : List ℕ) → FoundSame b c → SheetsAgree b c

abbrev pub SameRingFeeds : Type 0
SameRingFeeds = (b c : List ℕ) → FoundSame b c → FeedsAgree b c

-- Of two sheets that are read.
abbrev pub RingField : Type 0
RingField = (b c : List ℕ) → (comparison_of b c).number ≡ 0 →
    (((comparison_of b c).way ≡ 0 → ⊥) → Told b c (field_number Vertices) → ⊥)
    × ((Told b c (field_number Vertices) → ⊥) → (comparison_of b c).way ≡ 0 → ⊥)
