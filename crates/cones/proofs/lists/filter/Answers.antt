-- `filter` meets its contract: what is kept of the entries passed stands behind `to`, and the entries before `to` stay.
use mathlib.Core.Path.{◌≡◌, refl, sym, ◌∙◌, subst}
use mathlib.Core.Bool.{Bool, true, false}
use mathlib.Core.List.{List}
use Prim.Native.Nat.{ℕ, ◌+◌, ◌≤◌, ◌<◌}
use native.Mathlib.Numerals.{add-one}
use native.Mathlib.Omega.{arith}
use lib.ListN.{length, get_or, set, length-set}
use lib.Seq.{get_or-set_same, get_or-set_other}
use mir.Val.{bool_byte}
use Rattle.azimuths.specs.Sectors.{is_missed}
use Rattle.cones.specs.Lists.{Kept, begin, drop, copy, Framed}
use Rattle.cones.proofs.Laws.Covers.{kept_same}
use Rattle.cones.proofs.lists.filter.Invariants.{Filtering}
use Rattle.cones.proofs.lists.filter.Goals as goal
use Rattle.cones.proofs.lists.filter.Goals.{then-not-is_missed, else-not-is_missed}

-- The entry at hand, written behind what is kept: it is kept, or it is not.
module _ {test : ℕ → Bool} {l m : List ℕ} {from to end passed e : ℕ} (s : Filtering test l m from to end passed e)
    (h : e < to) (r : end < length m) (more : ℕ) (small : more ≤ 1) where
  abbrev next : List ℕ
  next = set m end (get_or m e 0)

  stays : Framed l next to
  stays = record {
    room = length-set m end (get_or m e 0) ∙ s.framed.room;
    before = λ x k. get_or-set_other m end x (get_or m e 0) 0 (λ q. omega (arith, s.least)) ∙ s.framed.before x k;
  }

  still : Kept test l next from to e end
  still = kept_same (λ x p q. get_or-set_other m end x (get_or m e 0) 0 (λ z. omega arith)) s.kept

  dropped : test (get_or m e 0) ≡ true → Filtering test l next from to end (passed + more) (e + 1)
  dropped t = record {
    framed = stays;
    after = omega (arith, s.after);
    within = omega arith;
    least = s.least;
    few = omega (arith, s.few, s.after);
    hint = omega (arith, s.hint, s.after);
    kept = rw (add-one e) (drop still (rw (← s.framed.before e h) t));
  }

  copied : Filtering test l next from to (end + 1) (passed + more) (e + 1)
  copied = record {
    framed = stays;
    after = omega (arith, s.after);
    within = omega arith;
    least = omega (arith, s.least);
    few = omega (arith, s.few, s.after);
    hint = omega (arith, s.hint, s.after);
    kept = rw (add-one e, add-one end) (copy still (get_or-set_same m end (get_or m e 0) 0 r ∙ s.framed.before e h));
  }

-- The hint counts one or none.
small : (b : Bool) {n : ℕ} → n ≡ bool_byte b → n ≤ 1
small true e = omega arith
small false e = omega arith

pub loop-e-init : goal.loop-e-init
loop-e-init c = record {
  framed = record { room = refl; before = λ x h. refl };
  after = omega arith;
  within = c.requires.from_le_to.0;
  least = omega arith;
  few = omega arith;
  hint = omega arith;
  kept = begin;
}

pub loop-e-preserved : goal.loop-e-preserved
loop-e-preserved c =
    let v = c.args in
    let inv = c.loop-e.invariant in
    let h = c.loop-e-test.true in
    let r : c.loop-e.end < length c.loop-e.list = omega (arith, h, inv.framed.room, inv.few, inv.after) in
    elim c.if-not-is_missed.branch [
      | then-not-is_missed w ↦ rw w.end-is (copied inv h r _ (small c.is_passed.result c.from-passed.ensures))
      | else-not-is_missed w ↦ rw w.end-is (dropped inv h r _ (small c.is_passed.result c.from-passed.ensures)
          (subst (λ j. is_missed v.sectors.now v.lo v.last j ≡ true) c.from-i.ensures
          (sym c.is_missed.ensures ∙ w.if-not-is_missed.false)))
    ]
