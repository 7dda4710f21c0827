-- How a feed ends. Defined: FeedPassed, Ends. Proved, in order: size_passed, feed_passed (what its checks establish);
-- feed_refused, feed_done (its answer and its result buffer on each way).
use mathlib.Core.Path.{◌≡◌}
use mathlib.Core.Bool.{not}
use mathlib.Core.List.{List, [], ◌∷◌}
use Prim.Native.Nat.{ℕ, ◌%◌, ◌≤◌}
use borrow.Author.Tests.{ltb-false}
use lib.Dec.{eqb, ltb}
use lib.IntN.{ℤ}
use lib.ListN.{length}
use Rattle.sphere.specs.declared.point.Grid.{Grid}
use Rattle.sphere.specs.declared.point.GridPoint.{GridPoint}
use Rattle.sphere.specs.Point.{limit_of}
use Rattle.std.specs.declared.result.Result.TheVariants.{Ok, Err}
use Rattle.answer.specs.declared.Refusal.{Refusal}
use Rattle.answer.specs.declared.Reason.TheVariants.{CutRecord, ResultRoom}
use Rattle.answer.specs.Refusal.{Answer}
use Rattle.answer.specs.declared.Verdict.TheVariants.{Done}
use Rattle.answer.specs.Chain.{◌then◌, fails_here, fails_if}
use Rattle.polygon.specs.Checks.{accept_check}
use Rattle.polygon.specs.Grids.{is_mixed, grid_check}
use Rattle.answer.proofs.Laws.Chain.{here_passed, then_passed}
use Rattle.answer.specs.Buffer.{buffer_after}
use Rattle.feed.specs.Feed.{room_needed, size_check, feed_check, feed_of, feed_bytes, results_after}
use Rattle.polygon.specs.Pair.{no_second}

-- ---- what the checks of a feed establish
pub size_passed : (queries : List ℕ) (room : ℕ) → size_check queries room ≡ Ok tt → room_needed queries ≤ room
unfolding size_check
size_passed queries room e =
    let n = room_needed queries in
    let whole = fails_if CutRecord (not (eqb (length queries % 12) 0)) in
    let fits = (then_passed whole (fails_here ResultRoom n (ltb room n)) e).1 in
    ltb-false room n (here_passed ResultRoom n (ltb room n) fits)

module _ (g : Grid) (vs : List ℤ) (X : GridPoint) (h : Grid) (queries : List ℕ) where
  pub record FeedPassed (room : ℕ) : Type 0 where
    pub accepted : accept_check (limit_of g) vs X.point ≡ Ok tt
    pub unmixed : grid_check vs (is_mixed g (X.grid ∷ h ∷ [])) ≡ Ok tt
    pub enough : room_needed queries ≤ room

  pub feed_passed : (room : ℕ) → feed_check g vs X h queries room ≡ Ok tt → FeedPassed room
  unfolding feed_check
  feed_passed room e =
      let mixed = grid_check vs (is_mixed g (X.grid ∷ h ∷ [])) in
      let accept = accept_check (limit_of g) vs X.point in
      let two = then_passed (size_check queries room) (mixed then accept) e in
      let more = then_passed mixed accept two.1 in
      record { accepted = more.1; unmixed = more.0; enough = size_passed queries room two.0 }

  -- ---- the two ways that a feed ends
  module _ (buffer : List ℕ) where
    pub record Ends (answer : Answer) (left : List ℕ) : Type 0 where
      pub answered : feed_of g vs X h queries (length buffer) ≡ answer
      pub filled : results_after g vs X h queries buffer ≡ left

    pub feed_refused : {refusal : Refusal} → feed_check g vs X h queries (length buffer) ≡ Err refusal → Ends (Err refusal) buffer
    unfolding feed_of results_after
    feed_refused e = record { answered = rw e; filled = rw e }

    pub feed_done : feed_check g vs X h queries (length buffer) ≡ Ok tt →
        Ends (Ok (Done 0)) (buffer_after (Ok tt) (feed_bytes (limit_of g) vs X.point no_second queries) buffer)
    unfolding feed_of results_after
    feed_done e = record { answered = rw e; filled = rw e }
