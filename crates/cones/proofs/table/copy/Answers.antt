-- `copy` meets its contract: the entries passed stand from `at` on, and those before `at` stay.
use mathlib.Core.Path.{◌≡◌, refl, ◌∙◌, subst}
use mathlib.Core.List.{List}
use Prim.Native.Nat.{ℕ, suc, ◌+◌, ◌-◌, ◌<◌}
use native.Mathlib.Numerals.{add-one}
use native.Mathlib.Omega.{arith}
use lib.ListN.{length, get_or, set, length-set}
use lib.Seq.{get_or-set_same, get_or-set_other}
use Rattle.cones.specs.Lists.{Kept, begin, copy}
use Rattle.cones.proofs.Laws.Covers.{kept_same}
use Rattle.cones.proofs.table.copy.Invariants.{Copying, never}
use Rattle.cones.proofs.table.copy.Goals as goal

copying_step : (s l m : List ℕ) (from to at e : ℕ) → Copying s l m from to at e → e < to →
    at + (e - from) < length m → Copying s l (set m (at + (e - from)) (get_or s e 0)) from to at (e + 1)
copying_step s l m from to at e c h r = record {
  room = length-set m (at + (e - from)) (get_or s e 0) ∙ c.room;
  after = omega (arith, c.after);
  within = omega arith;
  before = λ x k. get_or-set_other m (at + (e - from)) x (get_or s e 0) 0 (λ q. omega arith) ∙ c.before x k;
  kept =
      subst (λ k. Kept never s (set m (at + (e - from)) (get_or s e 0)) from at (e + 1) k) next
      (rw (add-one e) (copy
      (kept_same (λ x p q. get_or-set_other m (at + (e - from)) x (get_or s e 0) 0 (λ z. omega arith)) c.kept)
      (get_or-set_same m (at + (e - from)) (get_or s e 0) 0 r)));
}
  where
    next : suc (at + (e - from)) ≡ at + (e + 1 - from)
    next = omega (arith, c.after)

pub loop-e-init : goal.loop-e-init
loop-e-init c =
    let none : c.args.at ≡ c.args.at + (c.args.from - c.args.from) = omega arith in
    record {
      room = refl;
      after = omega arith;
      within = c.requires.0;
      before = λ x h. refl;
      kept =
          subst (λ k. Kept never c.args.stack.now c.args.list.now c.args.from c.args.at
          c.args.from k)
          none begin;
    }

pub loop-e-preserved : goal.loop-e-preserved
loop-e-preserved c =
    let inv = c.loop-e.invariant in
    copying_step _ _ _ _ _ _ _ inv c.loop-e-test.true (omega (arith, c.loop-e-test.true, inv.room, inv.after))
