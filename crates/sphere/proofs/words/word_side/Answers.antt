-- `word_side` meets its contract: the high word with what the low one carries to it, or else what is left of the low
-- one.
use mathlib.Core.Path.{◌≡◌, sym, ap, ap₂, ◌∙◌}
use Prim.{Unit}
use Prim.Native.Nat.{◌^◌, ◌<◌}
use lib.Dec.{lit<}
use lib.IntN.{ℤ, pos, ◌+ℤ◌}
use lib.Signed.{mag, quot_z}
use mir.Syntax.{w64}
use mir.Val.{SFits, hbits, to_z, of_z}
use mir.ValLaws.{to_z-of_z}
use Rattle.integers.specs.Sign.{sign_of}
use Rattle.integers.proofs.Compare.{zero_bits}
use Rattle.integers.proofs.Size.{known, plus, fits}
use Rattle.sphere.specs.declared.words.Words.{Words}
use Rattle.sphere.specs.Point.{Fits}
use Rattle.sphere.specs.Words.{half}
use Rattle.sphere.proofs.Laws.Words.{half_fits, high_kept, low_kept, carry_small, top, top_sign, rest_sign}
use Rattle.sphere.proofs.words.word_side.Goals as goal
use Rattle.sphere.proofs.words.word_side.Lts as lts
use Rattle.sphere.proofs.words.word_side.Reads as reads

abbrev Start : Type 0
Start = lts.Start reads.Pre reads.Post

abbrev After-struct_told-2-1 : Type 0
After-struct_told-2-1 = lts.After-struct_told2 reads.Pre reads.Post

-- The two words fit theirs, and so does the sum.
module _ (w : Words) (h : Fits 13510798882111488 w.high) (f : SFits w64 w.high) (g : SFits w64 w.low) where
  abbrev worked : ℤ
  worked = to_z w64 (of_z w64 w.high) +ℤ to_z w64 (of_z w64 (quot_z (to_z w64 (of_z w64 w.low)) (pos half)))

  same : worked ≡ top w
  same = ap₂ ◌+ℤ◌ (to_z-of_z w64 w.high f) (high_kept w.low g)

  sum_fits : SFits w64 worked
  sum_fits = rw same (fits (plus (known {z = w.high} h.within) (known {z = quot_z w.low (pos half)} (carry_small
      w.low g))) (lit< tt))

  kept : to_z w64 (of_z w64 worked) ≡ top w
  kept = to_z-of_z w64 worked sum_fits ∙ same

-- What reading the words' fields tells, beside how they are stored.
module _ (w : Words) {X Y : Type 0}
    (given : (X × (mag w.high < 2 ^ hbits w64)) × ((Y × (mag w.low < 2 ^ hbits w64)) × Unit {0})) where
  high_fits : SFits w64 w.high
  high_fits = record { sfits = given.0.1 }

  low_fits : SFits w64 w.low
  low_fits = record { sfits = given.1.0.1 }

module _ (c : After-struct_told-2-1) where
  abbrev start : Start
  start = c.before.before.before.before

  abbrev given : Words
  given = start.args.w

  f : SFits w64 given.high
  f = high_fits given c.struct_told-2-1.given

  g : SFits w64 given.low
  g = low_fits given c.struct_told-2-1.given

pub returns-then-top-ne0 : goal.returns-then-top-ne0
returns-then-top-ne0 c =
    let b = c.before in
    let w = given b in
    let same-top = same w (start b).requires (f b) (g b) in
    ap sign_of (kept w (start b).requires (f b) (g b)) ∙ top_sign w (λ e. c.if-top-ne0.true (ap (of_z w64) (same-top ∙ e)))

pub returns : goal.returns
returns c =
    let b = c.before.before.before in
    let w = given b in
    let same-top = same w (start b).requires (f b) (g b) in
    let none = zero_bits w64 (worked w (start b).requires (f b) (g b)) (sum_fits w (start b).requires (f b) (g b))
    c.before.before.if-top-ne0.false in
    ap sign_of (low_kept w.low (g b)) ∙ rest_sign w (sym same-top ∙ none)
