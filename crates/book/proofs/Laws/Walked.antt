-- The loop of `which`. Defined: Walked (what its first i zones leave to be found). Proved, in order: walked_start,
-- walked_sheet, walked_refused, walked_end, walked_left, walked_done.
use mathlib.Core.Path.{◌≡◌, ap, ◌∙◌}
use mathlib.Core.List.{List}
use Prim.Native.Nat.{ℕ, suc, ◌+◌, ◌-◌, ◌≤◌, ◌<◌}
use native.Mathlib.Omega.{arith}
use lib.Dec.{lit<}
use lib.ListN.{length}
use Rattle.std.specs.declared.option.Option.TheVariants.{None, Some}
use Rattle.sphere.specs.declared.point.Point.{Point}
use Rattle.std.specs.declared.result.Result.TheVariants.{Err, Ok}
use Rattle.answer.specs.declared.Refusal.{Refusal}
use Rattle.answer.specs.declared.Reason.TheVariants.{ManySheets}
use Rattle.answer.specs.Refusal.{Answer, refused_at}
use Rattle.book.specs.declared.sets.Sets.{Sets}
use Rattle.book.specs.Step.{step_at}
use Rattle.book.specs.Split.{Split, part_of, split_from, split_of}
use Rattle.book.specs.Sets.{no_zones, found_of, broken_by, Below, added_to}
use Rattle.book.specs.Which.{zone_answer, which_of}
use Rattle.book.proofs.Laws.Splits.{split_sheet, split_refused, split_end, split_left, split_done}
use Rattle.book.proofs.Laws.Masks.{which_on, zones_below, on_start, on_sheet, on_end}

module _ (book : List ℕ) (grid : ℕ) (query : Point) where
  -- The whole answer is that of the sheets from `at` on, above the bits of the first i.
  pub record Walked (at : ℕ) (zones : Sets) (i : ℕ) : Type 0 where
    pub few : i ≤ 64
    pub below : Below i zones
    pub rest : which_of book grid query ≡ which_on (zone_answer grid query) i zones (split_from (64 - i) book at)

  pub walked_start : Walked 0 no_zones 0
  unfolding which_of
  walked_start = record {
    few = omega arith;
    below = record { inside = lit< tt; boundary = lit< tt; refused = lit< tt };
    rest = on_start (zone_answer grid query) (split_of book);
  }

  module _ {at : ℕ} {zones : Sets} {i : ℕ} (w : Walked at zones i) where
    abbrev answer : List ℕ → Answer
    answer = zone_answer grid query

    -- The split from here on, once it is known.
    then-split : {s : Split} (left : ℕ) → 64 - i ≡ left → split_from left book at ≡ s →
        which_of book grid query ≡ which_on answer i zones s
    then-split {s} left e f = w.rest ∙ ap (which_on answer i zones) (ap (λ k. split_from k book at) e ∙ f)

    one_left : i < 64 → 64 - i ≡ suc (64 - (i + 1))
    one_left h = omega arith

    pub walked_sheet :
        {start size : ℕ} {a : Answer} {next : Sets} → i < 64 → step_at book at ≡ Ok (Some (start, size)) →
        a ≡ answer (part_of book at size) → next ≡ added_to zones i a → Walked (at + size) next (i + 1)
    walked_sheet {start} {size} h e f g =
        let s : Walked (at + size) (added_to zones i (answer (part_of book at size))) (i + 1) = record {
          few = omega arith;
          below = zones_below i zones (answer (part_of book at size)) w.below;
          rest =
              then-split _ (one_left h) (split_sheet (64 - (i + 1)) book at e)
              ∙ on_sheet answer i zones (part_of book at size) (split_from (64 - (i + 1)) book (at + size));
        } in
        rw (g, f) s

    pub walked_refused : {refusal : Refusal} → i < 64 → step_at book at ≡ Err refusal → which_of book grid query ≡ broken_by refusal
    walked_refused h e = then-split _ (one_left h) (split_refused (64 - (i + 1)) book at e)

    pub walked_end : i < 64 → step_at book at ≡ Ok None → which_of book grid query ≡ found_of zones
    walked_end h e = then-split _ (one_left h) (split_end (64 - (i + 1)) book at e) ∙ on_end answer i zones

    pub walked_left : 64 ≤ i → at < length book → which_of book grid query ≡ broken_by (refused_at ManySheets at)
    walked_left h l = then-split 0 (omega arith) (split_left book at l)

    pub walked_done : 64 ≤ i → length book ≤ at → which_of book grid query ≡ found_of zones
    walked_done h l = then-split 0 (omega arith) (split_done book at l) ∙ on_end answer i zones
