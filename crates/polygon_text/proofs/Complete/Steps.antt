-- One byte of a number: what it makes of the walk. Defined, in order: reading (the walk within a number), sep, exit (the
-- byte behind a number, and the state after it), leaving (the walk after that). Proved, in order: leaves, whole_step,
-- decimal_step, point_step, minus_step; blank_class; tenth, shifted, no_power (powers of ten).
use mathlib.Core.Path.{◌≡◌, refl, ◌∙◌, subst}
use mathlib.Core.Bool.{Bool, true, false, cond}
use mathlib.Core.List.{List, [], ◌∷◌, ◌++◌}
use Prim.Native.Nat.{ℕ, zero, suc, ◌+◌, ◌-◌, ◌*◌, ◌/◌, ◌^◌, ◌<◌}
use native.Mathlib.Omega.{arith}
use borrow.Author.Tests.{ne_eqb}
use lib.Dec.{T, eqb, lit<}
use lib.IntN.{ℤ}
use Rattle.angles.specs.declared.point.Position.{Position}
use Rattle.angles.specs.Point.{signed_of}
use Rattle.positions.specs.Text.{class_of}
use Rattle.positions.specs.Number.{Walk, fresh, digit_of, pending_of, is_end, stepped, exact}
use Rattle.positions.specs.Number.{is_digit as isDigitByte}
use Rattle.polygon_text.specs.Grammar.{is_blank, is_digit}
use Rattle.polygon_text.proofs.Machine.{blank_cases}

abbrev pub reading : Bool → Bool → ℕ → ℕ → ℤ → List Position → Walk
reading negative digits size unit lon done =
    record {
      pending = record { negative = negative; digits = digits; size = size; unit = unit; lon = lon };
      done = done;
    }

-- The byte behind a longitude is `,`, and behind a latitude `]`.
abbrev pub sep : Bool → ℕ
sep lat = cond lat 93 44

abbrev pub exit : Bool → ℕ
exit lat = cond lat 1 16

abbrev pub leaving : Bool → Bool → ℕ → ℤ → List Position → Walk
leaving true negative size lon done =
    record { pending = fresh; done = done ++ (record { lon = lon; lat = signed_of negative size } ∷ []) }
leaving false negative size lon done = reading false false 0 0 (signed_of negative size) done

pub leaves : (lat negative : Bool) (size unit : ℕ) (lon : ℤ) (done : List Position) →
    stepped exact (reading negative true size unit lon done) (sep lat) ≡ leaving lat negative size lon done
unfolding stepped is_end pending_of isDigitByte
leaves true negative size unit lon done = refl
leaves false negative size unit lon done = refl

digit_step : (negative digits : Bool) (size unit : ℕ) (lon : ℤ) (done : List Position) (b : ℕ) → T (is_digit b) →
    stepped exact (reading negative digits size unit lon done) b
    ≡ record {
      pending = digit_of exact (record { negative = negative; digits = digits; size = size; unit = unit; lon = lon })
          (b - 48);
      done = done;
    }
unfolding stepped is_end pending_of isDigitByte
digit_step negative digits size unit lon done b h =
    let u = is_true (is_digit b) h in
    let e = no_end b h in
    rw (e, u)
  where
    is_true : (t : Bool) → T t → t ≡ true
    is_true true h = refl
    is_true false h = absurd h

    no_end : (b : ℕ) → T (is_digit b) → eqb b 93 ≡ false
    no_end b h = ne_eqb b 93 (λ e. subst (λ (x : ℕ). T (is_digit x)) e h)

pub whole_step : (negative digits : Bool) (size : ℕ) (lon : ℤ) (done : List Position) (b : ℕ) → T (is_digit b) →
    stepped exact (reading negative digits size 0 lon done) b
    ≡ reading negative true (size * 10 + (b - 48) * 10000000) 0 lon done
unfolding digit_of
whole_step negative digits size lon done b h = digit_step negative digits size 0 lon done b h

pub decimal_step : (negative digits : Bool) (size unit : ℕ) (lon : ℤ) (done : List Position) (b : ℕ) → T (is_digit b) →
    (unit ≡ 0 → ⊥) →
    stepped exact (reading negative digits size unit lon done) b
    ≡ reading negative true (size + (b - 48) * (unit / 10)) (unit / 10) lon done
unfolding digit_of
decimal_step negative digits size unit lon done b h n = digit_step negative digits size unit lon done b h ∙ rw (ne_eqb unit 0 n)

pub point_step : (negative : Bool) (size : ℕ) (lon : ℤ) (done : List Position) →
    stepped exact (reading negative true size 0 lon done) 46 ≡ reading negative true size 10000000 lon done
unfolding stepped is_end pending_of isDigitByte
point_step negative size lon done = refl

pub minus_step : (lon : ℤ) (done : List Position) →
    stepped exact (reading false false 0 0 lon done) 45 ≡ reading true false 0 0 lon done
unfolding stepped is_end pending_of isDigitByte
minus_step lon done = refl

pub blank_class : (b : ℕ) → T (is_blank b) → class_of b ≡ 1
unfolding class_of
blank_class b t = blank_cases (λ b. class_of b ≡ 1) refl refl refl refl b t

-- ---- powers of ten

pub power_next : (j : ℕ) → 10 ^ suc j ≡ 10 * 10 ^ j
power_next j = omega arith

power_positive : (j : ℕ) → 0 < 10 ^ j
power_positive zero = lit< tt
power_positive (suc j) = let h = power_positive j in let e = power_next j in omega arith

pub tenth : (j : ℕ) → 10 ^ suc j / 10 ≡ 10 ^ j
tenth j = let e = power_next j in omega arith

pub shifted : (s d c p : ℕ) → s + d * (10 * p) + c * p ≡ s + (d * 10 + c) * p
shifted s d c p = omega arith

pub no_power : (j : ℕ) → 10 ^ suc j ≡ 0 → ⊥
no_power j e = let h = power_positive (suc j) in omega arith
