-- Document 02, P7: what is checked of the positions, 31 to 33, and what the code keeps of them. Defined, in order:
-- is_distant, is_same; first_outside, distant_after, first_distant, origin, first_of, last_after, last_of, is_ring; ring_check (31,
-- 32, 33), kept_of; earliest_of, empty_ring, added_of, check_of (the code's, one position after the other). Positions are
-- numbered from 0, and the closing one counts.
use Rattle.std.specs.Prelude.{Bool, not, cond, ◌&&◌, ◌||◌, List, [], ◌∷◌, ℕ, suc, ◌+◌, ◌-◌, eqb, leb, pos, ◌-ℤ◌, length, take}
use Rattle.integers.specs.Sign.{sign_of, is_zero}
use Rattle.sphere.specs.Point.{is_far}
use Rattle.std.specs.declared.option.Option.{Option}
use Rattle.std.specs.declared.option.Option.TheVariants.{None, Some}
use Rattle.answer.specs.declared.Reason.TheVariants.{OpenRing, PositionDistant, PositionOutside}
use Rattle.answer.specs.Refusal.{Check}
use Rattle.answer.specs.Chain.{◌then◌, fails_if, fails_at}
use Rattle.angles.specs.declared.point.Position.{Position}
use Rattle.angles.specs.Point.{is_outside}
use Rattle.positions.specs.declared.ring.Ring.{Ring}

-- More than one degree apart in either coordinate, as plain numbers.
unfoldable pub is_distant : Position → Position → Bool
is_distant p q = is_far 10000000 (p.lon -ℤ q.lon) || is_far 10000000 (p.lat -ℤ q.lat)

-- Equal in value: -0 is 0, and 180 is not -180.
unfoldable pub is_same : Position → Position → Bool
is_same p q = is_zero (sign_of (p.lon -ℤ q.lon)) && is_zero (sign_of (p.lat -ℤ q.lat))

-- ---- of a list, whose first position has the number i

unfoldable pub first_outside : ℕ → List Position → Option ℕ
first_outside i [] = None
first_outside i (p ∷ ps) = cond (is_outside p) (Some i) (first_outside (suc i) ps)

-- The earlier one of two neighbours that are too far apart: p has the number i, and the list follows it.
unfoldable pub distant_after : ℕ → Position → List Position → Option ℕ
distant_after i p [] = None
distant_after i p (q ∷ qs) = cond (is_distant p q) (Some i) (distant_after (suc i) q qs)

unfoldable pub first_distant : List Position → Option ℕ
first_distant [] = None
first_distant (p ∷ ps) = distant_after 0 p ps

abbrev pub origin : Position
origin = record { lon = pos 0; lat = pos 0 }

unfoldable pub first_of : List Position → Position
first_of [] = origin
first_of (p ∷ ps) = p

unfoldable pub last_after : Position → List Position → Position
last_after p [] = p
last_after p (q ∷ qs) = last_after q qs

unfoldable pub last_of : List Position → Position
last_of ps = last_after origin ps

-- At least four, the last equal to the first.
unfoldable pub is_ring : List Position → Bool
is_ring ps = leb 4 (length ps) && is_same (first_of ps) (last_of ps)

unfoldable pub ring_check : List Position → Check
ring_check ps =
    fails_at PositionOutside (first_outside 0 ps) then fails_if OpenRing (not (is_ring ps)) then fails_at PositionDistant (first_distant ps)

-- All but the last.
unfoldable pub kept_of : List Position → List Position
kept_of ps = take (length ps - 1) ps

-- ---- one position after the other

unfoldable pub earliest_of : Option ℕ → Bool → ℕ → Option ℕ
earliest_of (Some i) test place = Some i
earliest_of None test place = cond test (Some place) None

abbrev pub empty_ring : Ring
empty_ring = record { count = 0; first = origin; last = origin; outside = None; distant = None }

unfoldable pub added_of : Ring → Position → Ring
added_of r p =
    cond (eqb r.count 0)
    (record {
      count = 1;
      first = p;
      last = p;
      outside = earliest_of r.outside (is_outside p) r.count;
      distant =
          None;
    })
    (record {
      count = r.count + 1;
      first = r.first;
      last = p;
      outside = earliest_of r.outside (is_outside p) r.count;
      distant = earliest_of r.distant (is_distant r.last p) (r.count - 1);
    })

unfoldable pub check_of : Ring → Check
check_of r =
    fails_at PositionOutside r.outside
    then fails_if OpenRing (not (leb 4 r.count && is_same r.first r.last))
    then fails_at PositionDistant r.distant
