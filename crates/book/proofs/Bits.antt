-- What the sets of a book say. Proved, in order: digit_small, half, odd; bit_suc, mask_bit, mask_none; mask_apart;
-- mask_count, both_count; inside_boundary, inside_refused, boundary_refused; which_split, bits_agree, grids_match,
-- sets_disjoint, count_is_zones.
use mathlib.Core.Path.{◌≡◌, refl, sym, ap, ap₂, ◌∙◌}
use mathlib.Core.Bool.{Bool, true, false, true≢false, ◌||◌, ◌&&◌}
use mathlib.Core.List.{List, [], ◌∷◌, map}
use Prim.Native.Nat.{ℕ, zero, suc, ◌+◌, ◌*◌, ◌/◌, ◌%◌, ◌^◌, ◌≤◌, ◌<◌, min}
use native.Mathlib.Omega.{arith}
use native.Mathlib.Nat.{div-one, zero-div}
use lib.Bits.{bit_and, and_step, and_zero_l}
use lib.Count.{ones, ones_step}
use lib.ListN.{length}
use lib.Pow.{shr-shr}
use Rattle.sphere.specs.declared.point.Point.{Point}
use Rattle.std.specs.declared.result.Result.TheVariants.{Ok, Err}
use Rattle.answer.specs.Refusal.{Answer}
use Rattle.answer.specs.declared.Verdict.TheVariants.{Done, Inside, Outside, Boundary}
use Rattle.book.specs.Split.{Split, Whole, Broken, split_of}
use Rattle.book.specs.Sets.{is_inside, is_boundary, is_refused, digit, mask_of}
use Rattle.book.specs.Which.{zone_answer, which_after, which_of}
use Rattle.book.proofs.Laws.Zones.{zone_named, zone_other}
use Rattle.book.specs.Claims.{bit_of, zone_at, how_many, Agrees, BitsAgree, GridsMatch, SetsDisjoint, CountIsZones}

-- The lowest bit of a mask, and the bits above it.
digit_small : (t : Bool) → digit t < 2
digit_small true = omega arith
digit_small false = omega arith

half : (n : ℕ) (t : Bool) → (n * 2 + digit t) / 2 ≡ n
half n t = let h = digit_small t in omega arith

odd : (n : ℕ) (t : Bool) → (n * 2 + digit t) % 2 ≡ digit t
odd n t = let h = digit_small t in omega arith

module _ (test : Answer → Bool) (answer : List ℕ → Answer) where
  -- Bit i of the mask of some sheets.
  bit_suc : (mask i : ℕ) (t : Bool) → bit_of (mask * 2 + digit t) (suc i) ≡ bit_of mask i
  bit_suc mask i t =
      let n = mask * 2 + digit t in
      let e : suc i ≡ 1 + i = omega arith in
      ap (λ k. n / 2 ^ k % 2) e
      ∙ ap (λ m. m % 2) (sym (shr-shr n 1 i))
      ∙ ap (λ m. m / 2 ^ i % 2) (half mask t)

  mask_bit : (parts : List (List ℕ)) (i : ℕ) → i < length parts →
      bit_of (mask_of test (map answer parts)) i ≡ digit (test (answer (zone_at parts i)))
  unfolding mask_of
  mask_bit [] i h = absurd (omega arith)
  mask_bit (part ∷ parts) zero h = rw div-one (odd (mask_of test (map answer parts)) (test (answer part)))
  mask_bit (part ∷ parts) (suc i) h =
      bit_suc (mask_of test (map answer parts)) i (test (answer part)) ∙ mask_bit parts i (omega arith)

  mask_none : (parts : List (List ℕ)) (i : ℕ) → length parts ≤ i → bit_of (mask_of test (map answer parts)) i ≡ 0
  unfolding mask_of
  mask_none [] i h = ap (λ m. m % 2) (zero-div (2 ^ i))
  mask_none (part ∷ parts) zero h = absurd (omega arith)
  mask_none (part ∷ parts) (suc i) h =
      bit_suc (mask_of test (map answer parts)) i (test (answer part)) ∙ mask_none parts i (omega arith)

-- Two sets that no answer is in together.
mask_apart : (p q : Answer → Bool) → ((a : Answer) → (p a && q a) ≡ false) → (l : List Answer) →
    bit_and (mask_of p l) (mask_of q l) ≡ 0
unfolding mask_of
mask_apart p q apart [] = and_zero_l 0
mask_apart p q apart (a ∷ l) =
    let m = mask_of p l in
    let n = mask_of q l in
    and_step (m * 2 + digit (p a)) (n * 2 + digit (q a))
    ∙ rw (half m (p a), half n (q a), odd m (p a), odd n (q a), mask_apart p q apart l)
    (digits-apart (p a) (q a) (apart a))
  where
    digits-apart : (s t : Bool) → (s && t) ≡ false → 0 * 2 + min (digit s) (digit t) ≡ 0
    digits-apart true true e = absurd (true≢false e)
    digits-apart true false e = refl
    digits-apart false true e = refl
    digits-apart false false e = refl

-- How many bits are set: one for each answer that passes.
mask_count : (p : Answer → Bool) (l : List Answer) → ones (mask_of p l) ≡ how_many p l
unfolding mask_of how_many ones
mask_count p [] = refl
mask_count p (a ∷ l) =
    ones_step (mask_of p l * 2 + digit (p a))
    ∙ rw (odd (mask_of p l) (p a), half (mask_of p l) (p a), mask_count p l)

-- Two sets that have nothing in common are counted together.
both_count : (p q : Answer → Bool) → ((a : Answer) → (p a && q a) ≡ false) → (l : List Answer) →
    how_many p l + how_many q l ≡ how_many (λ a. p a || q a) l
unfolding how_many
both_count p q apart [] = refl
both_count p q apart (a ∷ l) =
    let e = both_count p q apart l in
    let d = digits (p a) (q a) (apart a) in
    omega arith
  where
    digits : (s t : Bool) → (s && t) ≡ false → digit s + digit t ≡ digit (s || t)
    digits true true e = absurd (true≢false e)
    digits true false e = refl
    digits false t e = omega arith

-- ---- no answer is in two sets

inside_boundary : (a : Answer) → (is_inside a && is_boundary a) ≡ false
inside_boundary (Ok (Done place)) = refl
inside_boundary (Ok (Inside crossed sum)) = refl
inside_boundary (Ok (Outside crossed sum)) = refl
inside_boundary (Ok (Boundary edge)) = refl
inside_boundary (Err refusal) = refl

inside_refused : (a : Answer) → (is_inside a && is_refused a) ≡ false
inside_refused (Ok (Done place)) = refl
inside_refused (Ok (Inside crossed sum)) = refl
inside_refused (Ok (Outside crossed sum)) = refl
inside_refused (Ok (Boundary edge)) = refl
inside_refused (Err refusal) = refl

boundary_refused : (a : Answer) → (is_boundary a && is_refused a) ≡ false
boundary_refused (Ok (Done place)) = refl
boundary_refused (Ok (Inside crossed sum)) = refl
boundary_refused (Ok (Outside crossed sum)) = refl
boundary_refused (Ok (Boundary edge)) = refl
boundary_refused (Err refusal) = refl

-- ---- the claims

-- The answer of a book that splits.
pub which_split : (book : List ℕ) (grid : ℕ) (query : Point) {s : Split} → split_of book ≡ s →
    which_of book grid query ≡ which_after (zone_answer grid query) s
unfolding which_of
which_split book grid query e = ap (which_after (zone_answer grid query)) e

pub bits_agree : BitsAgree
bits_agree book grid query parts e =
    let answer = zone_answer grid query in
    rw (which_split book grid query e)
    (agrees is_inside answer parts, agrees is_boundary answer parts, agrees is_refused answer parts)
  where
    agrees : (test : Answer → Bool) (answer : List ℕ → Answer) (parts : List (List ℕ)) →
        Agrees test answer parts (mask_of test (map answer parts))
    agrees test answer parts = record { each = mask_bit test answer parts; none = mask_none test answer parts }

pub grids_match : GridsMatch
grids_match grid query part = record {
  coarse = λ g e. zone_named grid query part (rw g e);
  fine = λ g e. zone_named grid query part (rw g e);
  not_coarse = λ g h. zone_other grid query part (rw g h);
  not_fine = λ g h. zone_other grid query part (rw g h);
}

pub sets_disjoint : SetsDisjoint
unfolding which_of
sets_disjoint book grid query = go (split_of book)
  where
    go : (s : Split) →
        let sets = (which_after (zone_answer grid query) s).sets in
        (bit_and sets.inside sets.boundary ≡ 0)
        × (bit_and sets.inside sets.refused ≡ 0)
        × (bit_and sets.boundary sets.refused ≡ 0)
    go (Whole parts) =
        let l = map (zone_answer grid query) parts in (
          mask_apart is_inside is_boundary inside_boundary l,
          mask_apart is_inside is_refused inside_refused l,
          mask_apart is_boundary is_refused boundary_refused l,
        )
    go (Broken refusal) = (and_zero_l 0, and_zero_l 0, and_zero_l 0)

pub count_is_zones : CountIsZones
count_is_zones book grid query parts e =
    let l = map (zone_answer grid query) parts in
    ap (λ w. w.count) (which_split book grid query e)
    ∙ ap₂ (λ m n. m + n) (mask_count is_inside l) (mask_count is_boundary l)
    ∙ both_count is_inside is_boundary inside_boundary l
