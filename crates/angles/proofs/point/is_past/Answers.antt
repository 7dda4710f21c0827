-- `point::is_past` meets its contract: its two comparisons together are a test of the size.
use mathlib.Core.Path.{◌≡◌, sym, ap, ap₂, ◌∙◌}
use mathlib.Core.Bool.{Bool, true, false, ◌||◌}
use Prim.Native.Nat.{ℕ, zero, suc, ◌≤◌, ◌<◌}
use native.Mathlib.Omega.{arith}
use lib.IntN.{ℤ, pos, neg_ℤ, ◌-ℤ◌, +ℤ_idl}
use lib.Signed.{lt_z}
use mir.Syntax.{w64}
use mir.Val.{SFits, to_z, of_z}
use mir.ValLaws.{to_z_pos, to_z-of_z}
use Rattle.integers.proofs.Compare.{size_test}
use Rattle.sphere.specs.Point.{is_far}
use Rattle.angles.proofs.point.is_past.Goals as goal

none : 0 < 0 → ⊥
none h = omega arith

minus : (n : ℕ) → pos 0 -ℤ pos n ≡ neg_ℤ (pos n)
minus n = +ℤ_idl (neg_ℤ (pos n))

least_fits : (n : ℕ) → 0 < n → n ≤ 4294967295 → SFits w64 (pos 0 -ℤ pos n)
least_fits zero g h = absurd (none g)
least_fits (suc n) g h = rw (minus (suc n)) (record { sfits = omega arith })

far_test : (n : ℕ) → 0 < n → (k : ℤ) → (lt_z k (pos 0 -ℤ pos n) || lt_z (pos n) k) ≡ is_far n k
unfolding is_far
far_test zero g k = absurd (none g)
far_test (suc n) g k = rw (minus (suc n)) (size_test n k)

module _ (n : ℕ) (k : ℤ) (more : 0 < n) (small : n ≤ 4294967295) (given : SFits w64 k) where
  most : to_z w64 n ≡ pos n
  most = to_z_pos w64 n (omega arith)

  pub fits : SFits w64 (to_z w64 0 -ℤ to_z w64 n)
  fits = rw most (least_fits n more small)

  same : to_z w64 (of_z w64 (to_z w64 0 -ℤ to_z w64 n)) ≡ pos 0 -ℤ pos n
  same = to_z-of_z w64 _ fits ∙ ap (λ m. pos 0 -ℤ m) most

  number : to_z w64 (of_z w64 k) ≡ k
  number = to_z-of_z w64 k given

  module _ (t : Bool) (test : lt_z (to_z w64 (of_z w64 k)) (to_z w64 (of_z w64 (to_z w64 0 -ℤ to_z w64 n))) ≡ t) where
    pub far : (t || lt_z (pos n) k) ≡ is_far n k
    far = ap (λ u. u || lt_z (pos n) k) (sym test ∙ ap₂ lt_z number same) ∙ far_test n more k

    pub far_else : (t || lt_z (to_z w64 n) (to_z w64 (of_z w64 k))) ≡ is_far n k
    far_else = ap (λ b. t || b) (ap₂ lt_z most number) ∙ far

pub returns-then-k-m : goal.returns-then-k-m
returns-then-k-m c =
    let i = c.before in
    far i.args.most i.args.k i.requires.0 i.requires.1 i.ranges.k true c.if-k-m.true

pub returns : goal.returns
returns c =
    let i = c.before in
    far_else i.args.most i.args.k i.requires.0 i.requires.1 i.ranges.k false c.if-k-m.false
