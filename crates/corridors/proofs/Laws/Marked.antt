-- Marks of edges, as a loop goes. Proved, in order: marked_none, marked_one, marked_append (some edges, and those after
-- them).
use mathlib.Core.Path.{◌≡◌, refl, ◌∙◌, ap}
use mathlib.Core.Bool.{Bool, true, false, cond}
use mathlib.Core.List.{List}
use Prim.Native.Nat.{ℕ, ◌+◌, ◌≤◌, ◌<◌}
use native.Mathlib.Omega.{arith}
use borrow.Author.Tests.{ltb-true, ltb-false}
use lib.Dec.{ltb}
use lib.ListN.{length, get_or}
use Rattle.corridors.specs.Marked.{MarkedAt, Marked}

module _ {test : ℕ → Bool} where
  pub marked_none : {i to : ℕ} {marks : List ℕ} → ((j : ℕ) → i ≤ j → j < to → test j ≡ false) →
      Marked test i to marks marks
  marked_none none = record {
    room = refl;
    before = λ j h. refl;
    each = λ j h l m. rw (none j h l);
    beyond = λ j h. refl;
  }

  pub marked_one : {i : ℕ} {marks after : List ℕ} → test i ≡ true → MarkedAt i marks after →
      Marked test i (i + 1) marks after
  marked_one {i} {marks} {after} e m = record {
    room = m.room;
    before = λ j h. m.other j (λ same. omega arith);
    each = λ j h l r. let same : j ≡ i = omega (arith, h, l) in
        rw (same, e) (m.own (omega (arith, r, same)));
    beyond = λ j h. m.other j (λ same. omega arith);
  }

  module _ {from i to : ℕ} {marks mid after : List ℕ} (h : from ≤ i) (k : i ≤ to) (m : Marked test from i marks mid)
      (n : Marked test i to mid after) where
    pub marked_append : Marked test from to marks after
    marked_append = record {
      room = n.room ∙ m.room;
      before = λ j l. n.before j (omega arith) ∙ m.before j l;
      each = λ j l o r. go (ltb j i) refl l o r;
      beyond = λ j l. n.beyond j l ∙ m.beyond j (omega arith);
    }
      where
        go : (t : Bool) {j : ℕ} → ltb j i ≡ t → from ≤ j → j < to → j < length marks →
            get_or after j 0 ≡ cond (test j) 1 (get_or marks j 0)
        go true {j} t l o r = n.before j (ltb-true j i t) ∙ m.each j l (ltb-true j i t) r
        go false {j} t l o r =
            n.each j (ltb-false j i t) o (omega (arith, m.room, r))
            ∙ ap (cond (test j) 1) (m.beyond j (ltb-false j i t))
