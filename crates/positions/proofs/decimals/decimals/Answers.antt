-- `decimals::decimals` meets its contract.
use mathlib.Core.Path.{◌≡◌, refl, sym, ap, ◌∙◌, subst}
use Prim.Native.Nat.{ℕ, suc, ◌+◌, ◌-◌, ◌<◌}
use native.Mathlib.Omega.{arith}
use borrow.Author.Rules.{rules}
use borrow.Author.Tests.{ltb-true}
use lib.ListN.{get_or}
use mir.Syntax.{w32}
use mir.Val.{SFits, to_z, of_z}
use mir.ValLaws.{to_z-of_z}
use Rattle.answer.proofs.Laws.Chain.{both_true}
use Rattle.positions.specs.declared.number.Pending.{Pending}
use Rattle.positions.specs.Number.{Small, held, pending_of, onward, DigitRun}
use Rattle.positions.proofs.Numbers.{lon_of}
use Rattle.positions.proofs.RingLaws.{small_next}
use Rattle.positions.proofs.Runs.{run_none, run_longer}
use Rattle.positions.proofs.decimals.decimals.Goals as goal

pub loop-k-init : goal.loop-k-init
unfolding onward
loop-k-init c =
    let h = c.requires in
    (record { size = h.0.size; unit = omega arith }, run_none _ _ h.2, refl)

pub overflow_add-at : goal.overflow_add-at
overflow_add-at c = let h = c.loop-k.invariant.1.inside in search rules

-- The number that the loop begins with is the one that is given.
same : (p : Pending) → SFits w32 p.lon → p.unit ≡ 10000000 →
    record {
      size = p.size;
      unit = 10000000;
      lon = to_z w32 (of_z w32 p.lon);
      negative = p.negative;
      digits = p.digits;
    }
    ≡ p
same p f e = λ i. record {
  size = p.size;
  unit = sym e i;
  lon = to_z-of_z w32 p.lon f i;
  negative = p.negative;
  digits = p.digits;
}

pub returns-then-not-is_more : goal.returns-then-not-is_more
returns-then-not-is_more c =
    let v = c.loop-k in
    let i = c.args in
    let e = same i.point (lon_of i.point c.struct_told-1.given) c.requires.1 in
    record {
      pending_value = v.invariant.2 ∙ ap (λ (z : Pending). onward i.text.now i.from z v.k) e;
      digit_run = v.invariant.1;
    }

pub bounds-text-at : goal.bounds-text-at
bounds-text-at c =
    ltb-true _ _ (both_true _ _ (sym c.is_more.ensures ∙ c.if-not-is_more.false)).0

pub next-p-requires : goal.next-p-requires
next-p-requires c = c.loop-k.invariant.0

-- One byte more, one byte less to read.
less : (n i k : ℕ) → i + k < n → n - (i + (k + 1)) < n - (i + k)
less n i k h = omega arith

pub loop-k-smaller : goal.loop-k-smaller
loop-k-smaller c =
    let m = both_true _ _
    (sym c.is_more.ensures ∙ c.if-not-is_more.false) in
    less _ _ _ (ltb-true _ _ m.0)

pub loop-k-preserved : goal.loop-k-preserved
unfolding onward
loop-k-preserved c =
    let v = c.loop-k in
    let i = c.args in
    let l = i.text.now in
    let m = both_true _ _
    (sym c.is_more.ensures ∙ c.if-not-is_more.false) in
    let j : v.k + 1 ≡ suc v.k = omega arith in
    let b = get_or l (i.from + v.k) 0 in
    rw j (
      subst Small (sym c.next-p.ensures) (small_next v.p b v.invariant.0),
      run_longer l i.from v.k v.invariant.1 (omega arith) (ltb-true _ _ m.0) m.1,
      c.next-p.ensures ∙ ap (λ (z : Pending). pending_of held z b) v.invariant.2,
    )

pub returns : goal.returns
returns c =
    let v = c.loop-k in
    let i = c.args in
    let few = v.invariant.1.few in
    let is : v.k ≡ 7 = omega arith in
    let e = same i.point (lon_of i.point c.struct_told-1.given) c.requires.1 in record {
      pending_value = v.invariant.2 ∙ ap (λ (z : Pending). onward i.text.now i.from z v.k) e
          ∙ ap (onward i.text.now i.from i.point) is;
      digit_run = subst (DigitRun i.text.now i.from) is v.invariant.1;
    }
