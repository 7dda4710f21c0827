-- A state stays one, and what `read` gives, step by step.
use mathlib.Core.Path.{◌≡◌, refl}
use mathlib.Core.Bool.{Bool, true, false}
use mathlib.Core.List.{List}
use Prim.Native.Nat.{ℕ, suc, ◌+◌, ◌-◌, ◌*◌, ◌≤◌, ◌<◌}
use native.Mathlib.Omega.{arith}
use lib.Dec.{ltb, eqb}
use lib.ListN.{get_or}
use borrow.Author.Tests.{ltb-true, eq-eqb, ne_eqb}
use Rattle.std.specs.declared.result.Result.TheVariants.{Ok, Err}
use Rattle.positions.specs.declared.grammar.State.{State}
use Rattle.positions.specs.Text.{words, gaps, rows, class_of, pick, dead, ring_next, literal, next_of, pick_reading}
use Rattle.positions.specs.Text.{read}

pub record Live (s : State) : Type 0 where
  pub at : s.at ≤ 76
  pub ring : s.ring < 29

either : (b : Bool) (x y : State) → Live x → Live y → Live (pick b x y)
either true x y p q = p
either false x y p q = q

when : (b : Bool) (x y : State) → (b ≡ true → Live x) → Live y → Live (pick b x y)
when true x y p q = p refl
when false x y p q = q

zero_ok : (n : ℕ) → n ≤ 76 → Live (record { at = n; ring = 0 })
zero_ok n h = record { at = h; ring = omega arith }

pub next_ok : (s : State) (b : ℕ) → s.at < 76 → s.ring < 29 → Live (next_of s b)
unfolding next_of ring_next literal
next_ok s b h k =
    let t = get_or rows (s.ring * 9 + class_of b) 0 in
    either (eqb (get_or words s.at 0) 256) _ _
    (when (ltb t 29) (record { at = s.at; ring = t }) _ (λ e. record { at = omega arith; ring = ltb-true t 29 e })
    (either (eqb t 29) (record { at = s.at + 1; ring = 0 }) dead (zero_ok (s.at + 1) (omega arith))
    (zero_ok 76 (omega arith))))
    (either (eqb (get_or words s.at 0) b) (record { at = s.at + 1; ring = 0 }) _ (zero_ok (s.at + 1) (omega arith))
    (either (eqb (s.at * 256 + b) 611) (record { at = 41; ring = 0 }) _ (zero_ok 41 (omega arith))
    (either (eqb (get_or gaps s.at 0 * class_of b) 1) s dead (record { at = omega arith; ring = k })
    (zero_ok 76 (omega arith)))))

left : (n i : ℕ) → i < n → n - i ≡ suc (n - suc i)
left n i h = omega arith

none : (n i : ℕ) → n ≤ i → n - i ≡ 0
none n i h = omega arith

pub read_dead : (l : List ℕ) (s : State) (i n : ℕ) → i < n → (next_of s (get_or l i 0)).at ≡ 76 → read l s i (n - i)
    ≡ Err i
unfolding read
read_dead l s i n h e = rw (left n i h, eq-eqb _ _ e)

pub read_on : (l : List ℕ) (s : State) (i n : ℕ) → i < n → ((next_of s (get_or l i 0)).at ≡ 76 → ⊥) → read l s i (n - i)
    ≡ read l (next_of s (get_or l i 0)) (suc i) (n - suc i)
unfolding read
read_on l s i n h e = rw (left n i h, ne_eqb _ _ e)

pub read_end : (l : List ℕ) (s : State) (i n : ℕ) → n ≤ i → read l s i (n - i) ≡ pick_reading (eqb s.at 37) (Ok tt)
    (pick_reading (eqb s.at 75) (Ok tt) (Err i))
unfolding read
read_end l s i n h = rw (none n i h)
