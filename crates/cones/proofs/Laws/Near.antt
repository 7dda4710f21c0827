-- A loop that gathers the entries of a list that are kept. Defined: Gathering (before entry e). Proved, in order:
-- gather_start, gather_drop, gather_copy, gather_end.
use mathlib.Core.Path.{◌≡◌, refl, ◌∙◌, subst}
use mathlib.Core.Bool.{Bool, true}
use mathlib.Core.List.{List}
use Prim.Native.Nat.{ℕ, ◌+◌, ◌-◌, ◌≤◌, ◌<◌}
use native.Mathlib.Numerals.{add-one}
use native.Mathlib.Omega.{arith}
use lib.ListN.{length, get_or, set, length-set}
use lib.Seq.{get_or-set_same, get_or-set_other}
use Rattle.cones.specs.Lists.{Kept, begin, drop, copy, Gathered}
use Rattle.cones.proofs.Laws.Covers.{kept_same}

-- On a list m that was k.
pub record Gathering (test : ℕ → Bool) (l k m : List ℕ) (from to end e : ℕ) : Type 0 where
  pub room : length m ≡ length k
  pub after : from ≤ e
  pub before : e ≤ to
  pub few : end ≤ e - from
  pub kept : Kept test l m from 0 e end

pub gather_start : {test : ℕ → Bool} {l k : List ℕ} {from to : ℕ} → from ≤ to → Gathering test l k k from to 0 from
gather_start h = record { room = refl; after = omega arith; before = h; few = omega arith; kept = begin }

-- The entry at hand, written behind what is kept: it is not kept, or it is.
module _ {test : ℕ → Bool} {l k m : List ℕ} {from to end e : ℕ} (s : Gathering test l k m from to end e) (h : e < to)
  where
    still : Kept test l (set m end (get_or l e 0)) from 0 e end
    still = kept_same (λ x p q. get_or-set_other m end x (get_or l e 0) 0 (λ z. omega arith)) s.kept

    pub gather_drop : test (get_or l e 0) ≡ true → Gathering test l k (set m end (get_or l e 0)) from to end (e + 1)
    gather_drop t = record {
      room = length-set m end (get_or l e 0) ∙ s.room;
      after = omega (arith, s.after);
      before = omega arith;
      few = omega (arith, s.few, s.after);
      kept = rw (add-one e) (drop still t);
    }

    pub gather_copy : end < length m → Gathering test l k (set m end (get_or l e 0)) from to (end + 1) (e + 1)
    gather_copy r = record {
      room = length-set m end (get_or l e 0) ∙ s.room;
      after = omega (arith, s.after);
      before = omega arith;
      few = omega (arith, s.few, s.after);
      kept = rw (add-one e, add-one end) (copy still (get_or-set_same m end (get_or l e 0) 0 r));
    }

pub gather_end : {test : ℕ → Bool} {l k m : List ℕ} {from to end e : ℕ} → Gathering test l k m from to end e →
    to ≤ e → to - from ≤ length k → Gathered test l m from to end
gather_end {test} {l} {k} {m} {from} {to} {end} {e} s h r =
    let all : e ≡ to = omega (arith, s.before) in
    record {
      within = omega (arith, s.few, s.room, all);
      kept = subst (λ x. Kept test l m from 0 x end) all s.kept;
    }
