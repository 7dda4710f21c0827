-- `filter` meets its contract: the machine's constant is 2^29.
use mathlib.Core.Path.{◌≡◌, refl, sym, ap, ◌∙◌}
use mathlib.Core.Bool.{Bool, true, false, ◌||◌, cond}
use lib.Ieee.{Float, binary64, neg, lt, of_bits}
use Rattle.sphere.specs.declared.approximate.Filtered.TheVariants.{Sure, Unsure}
use Rattle.sphere.specs.Approximate.{float, margin, filtered_of, is_sure}
use Rattle.sphere.proofs.Laws.Approximate.{margin_bits}
use Rattle.sphere.proofs.approximate.filter.Goals as goal

-- What the two comparisons say of a float.
module _ (t : Float) where
  below : {b : Bool} → lt t (neg (of_bits binary64 4737786807993761792)) ≡ b → lt t (neg (float margin)) ≡ b
  below e = ap (λ m. lt t (neg m)) (sym margin_bits) ∙ e

  above : {b : Bool} → lt (of_bits binary64 4737786807993761792) t ≡ b → lt (float margin) t ≡ b
  above e = ap (λ m. lt m t) (sym margin_bits) ∙ e

  chosen : (a b : Bool) → lt t (neg (float margin)) ≡ a → lt (float margin) t ≡ b →
      filtered_of t ≡ cond (a || b) (Sure t) (Unsure t)
  unfolding filtered_of is_sure
  chosen a b e f = rw (e, f)

  first : (b : Bool) → lt t (neg (float margin)) ≡ true → lt (float margin) t ≡ b → Sure t ≡ filtered_of t
  first b e f = sym (chosen true b e f)

pub returns-then-turn : goal.returns-then-turn
returns-then-turn c =
    let t = c.before.args.turn in
    first t (lt (float margin) t) (below t c.if-turn.true) refl

pub returns-then-turn-2 : goal.returns-then-turn-2
returns-then-turn-2 c =
    let t = c.before.before.args.turn in
    sym (chosen t false true (below t c.before.if-turn.false) (above t c.if-turn-2.true))

pub returns : goal.returns
returns c =
    let t = c.before.before.args.turn in
    sym (chosen t false false (below t c.before.if-turn.false) (above t c.if-turn-2.false))
