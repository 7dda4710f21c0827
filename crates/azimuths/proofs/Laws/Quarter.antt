-- Two directions by their quarter turns. Defined, in order: Quarter, start, next, ahead (how many quarters the second
-- is after the first), along, up (a direction's coordinates), cross_at, Turn. Proved, in order: turn, gap_at (the cross
-- product and the gap of the azimuths go by the difference of the quarters), left_at.
use mathlib.Core.Path.{◌≡◌, refl}
use Prim.Native.Nat.{ℕ, ◌+◌, ◌*◌, ◌≤◌, ◌<◌}
use native.Mathlib.Omega.{arith}
use lib.Dec.{lt→ltb}
use lib.IntN.{ℤ, pos, neg_ℤ, ◌+ℤ◌, ◌-ℤ◌, ◌*ℤ◌}
use lib.Signed.{◌<ℤ◌, lt_z_yes}
use Rattle.integers.proofs.Polynomial.{Expr, neg}
use Rattle.integers.proofs.Identity.{◌:+◌, ◌:-◌, ◌:*◌, ◌:=◌, Eqn, IntFn, ints}
use Rattle.integers.proofs.Order.{lt→diff}
use Rattle.azimuths.specs.Azimuth.{part_of, gap_of}
use Rattle.azimuths.proofs.Laws.Part.{part_most, part_less, part_across}

pub data Quarter : Type 0 where
  first second third fourth : Quarter

abbrev pub start : Quarter → ℕ
start first = 0
start second = 16384
start third = 32768
start fourth = 49152

abbrev pub next : Quarter → Quarter
next first = second
next second = third
next third = fourth
next fourth = first

abbrev pub ahead : Quarter → Quarter → Quarter
ahead first q = q
ahead second q = next (next (next q))
ahead third q = next (next q)
ahead fourth q = next q

-- ---- coordinates: a falls and b grows as the direction turns through its quarter
abbrev pub along : Quarter → ℤ → ℤ → ℤ
along first a b = a
along second a b = neg_ℤ b
along third a b = neg_ℤ a
along fourth a b = b

abbrev pub up : Quarter → ℤ → ℤ → ℤ
up first a b = b
up second a b = a
up third a b = neg_ℤ b
up fourth a b = neg_ℤ a

-- the same of expressions
abbrev along_e : Quarter → Expr → Expr → Expr
along_e first a b = a
along_e second a b = neg b
along_e third a b = neg a
along_e fourth a b = b

abbrev up_e : Quarter → Expr → Expr → Expr
up_e first a b = b
up_e second a b = a
up_e third a b = neg b
up_e fourth a b = neg a

-- ---- the cross product of two directions, by how far the second quarter is ahead
abbrev pub cross_at : Quarter → ℤ → ℤ → ℤ → ℤ → ℤ
cross_at first a b c d = a *ℤ d -ℤ b *ℤ c
cross_at second a b c d = a *ℤ c +ℤ b *ℤ d
cross_at third a b c d = b *ℤ c -ℤ a *ℤ d
cross_at fourth a b c d = neg_ℤ (a *ℤ c +ℤ b *ℤ d)

abbrev product_e : Quarter → Expr → Expr → Expr → Expr → Expr
product_e first a b c d = a :* d :- b :* c
product_e second a b c d = a :* c :+ b :* d
product_e third a b c d = b :* c :- a :* d
product_e fourth a b c d = neg (a :* c :+ b :* d)

abbrev product : Quarter → Quarter → IntFn 4 Eqn
product q r a b c d =
    along_e q a b :* up_e r c d :- up_e q a b :* along_e r c d := product_e (ahead q r) a b c d

pub record Turn (q r : Quarter) : Type 0 where
  pub cross : (a b c d : ℤ) →
      along q a b *ℤ up r c d -ℤ up q a b *ℤ along r c d ≡ cross_at (ahead q r) a b c d
  pub gap : start (ahead q r) ≡ gap_of (start r) (start q)

pub turn : (q r : Quarter) → Turn q r
turn first first = record { cross = ints 4 (product first first) tt; gap = refl }
turn first second = record { cross = ints 4 (product first second) tt; gap = refl }
turn first third = record { cross = ints 4 (product first third) tt; gap = refl }
turn first fourth = record { cross = ints 4 (product first fourth) tt; gap = refl }
turn second first = record { cross = ints 4 (product second first) tt; gap = refl }
turn second second = record { cross = ints 4 (product second second) tt; gap = refl }
turn second third = record { cross = ints 4 (product second third) tt; gap = refl }
turn second fourth = record { cross = ints 4 (product second fourth) tt; gap = refl }
turn third first = record { cross = ints 4 (product third first) tt; gap = refl }
turn third second = record { cross = ints 4 (product third second) tt; gap = refl }
turn third third = record { cross = ints 4 (product third third) tt; gap = refl }
turn third fourth = record { cross = ints 4 (product third fourth) tt; gap = refl }
turn fourth first = record { cross = ints 4 (product fourth first) tt; gap = refl }
turn fourth second = record { cross = ints 4 (product fourth second) tt; gap = refl }
turn fourth third = record { cross = ints 4 (product fourth third) tt; gap = refl }
turn fourth fourth = record { cross = ints 4 (product fourth fourth) tt; gap = refl }

start_most : (q : Quarter) → start q ≤ 49152
start_most first = omega arith
start_most second = omega arith
start_most third = omega arith
start_most fourth = omega arith

pub gap_at : (q r : Quarter) (m n : ℕ) → m ≤ 16384 → n ≤ 16384 →
    gap_of (start r + n) (start q + m) ≡ gap_of (start (ahead q r) + n) m
gap_at q r m n h k = omega (arith, (turn q r).gap, start_most q, start_most r)

-- ---- the later direction is on the left
module _ (a b d a' b' d' : ℕ) (whole : d ≡ a + b) (whole' : d' ≡ a' + b') (some : 0 < d) (some' : 0 < d') where
  abbrev m : ℕ
  m = part_of b d

  abbrev n : ℕ
  n = part_of b' d'

  m_most : m ≤ 16384
  m_most = part_most a b d whole

  n_most : n ≤ 16384
  n_most = part_most a' b' d' whole'

  pub left_at : (q : Quarter) → 0 < gap_of (start q + n) m → gap_of (start q + n) m < 32768 →
      pos 0 <ℤ cross_at q (pos a) (pos b) (pos a') (pos b')
  left_at first h k =
      let less : m < n = omega (arith, m_most, n_most) in
      lt→diff {a = pos (b * a')} {b = pos (a * b')} (lt_z_yes (lt→ltb (b * a') (a * b')
      (part_less a b d a' b' d' whole whole' some some' less)))
  left_at second h k = lt_z_yes (lt→ltb 0 (a * a' + b * b') (part_across a b d a' b' d' whole whole' some some'
      (λ e f. omega arith) (λ e f. omega arith)))
  left_at third h k =
      let less : n < m = omega (arith, m_most, n_most) in
      let products : a * b' < b * a' = omega (arith, part_less a' b' d' a b d whole' whole some' some less) in
      lt→diff {a = pos (a * b')} {b = pos (b * a')} (lt_z_yes (lt→ltb (a * b') (b * a') products))
  left_at fourth h k = absurd (omega (arith, m_most, n_most))
