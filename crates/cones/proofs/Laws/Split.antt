-- A cone that is halved. Defined: PartOf (what `half_of` says of a half). Proved, in order: room_after, framed_on (a
-- stack that changed behind its list); half_on_lem, lower_on (what is sifted for a half is complete for it).
use mathlib.Core.Path.{◌≡◌}
use mathlib.Core.List.{List}
use Prim.Native.Nat.{ℕ, ◌+◌, ◌≤◌, ◌<◌}
use native.Mathlib.Omega.{arith}
use lib.ListN.{length}
use Rattle.azimuths.specs.Sectors.{is_missed, MissedIn}
use Rattle.azimuths.proofs.Laws.Ranges.{missed_range}
use Rattle.cones.specs.declared.lists.Part.{Part}
use Rattle.cones.specs.declared.table.Cone.{Cone}
use Rattle.cones.specs.Cones.{Complete}
use Rattle.cones.specs.Lists.{Framed, Sifted}
use Rattle.cones.specs.Table.{ConeOn, Halvable, HalfOf, LowerOf}
use Rattle.cones.proofs.Laws.Covers.{covers_same, kept_covers}

pub room_after : (l m : List ℕ) {cone : Cone} → length m ≡ length l → Halvable cone (length l) →
    Halvable cone (length m)
room_after l m e h = record { deep = h.deep; some = h.some; enough = omega (arith, e, h.enough) }

pub framed_on : {n : ℕ} {sectors l m : List ℕ} {cone : Cone} → Framed l m cone.to → ConeOn n sectors l cone →
    ConeOn n sectors m cone
framed_on f c = record {
  some = c.some;
  below = c.below;
  complete = record {
    some = c.complete.some;
    within = omega (arith, f.room, c.complete.within);
    covers = covers_same (λ x a b. f.before x b) c.complete.covers;
  };
}

-- ---- a half r of it, with the azimuths from lo to last
abbrev pub PartOf : Cone → Part → ℕ → ℕ → Cone → Type 0
PartOf cone part lo last r =
    (r.from ≡ part.from) × (r.to ≡ part.to) × (r.lo ≡ lo) × (r.last ≡ last) × (r.depth + 1 ≡ cone.depth)

module _ {n : ℕ} {sectors l m : List ℕ} {cone : Cone} (on : ConeOn n sectors l cone) {part : Part} (lo last : ℕ)
    (least : cone.lo ≤ lo) (some : lo ≤ last) (most : last ≤ cone.last)
    (s : Sifted (is_missed sectors lo last) l m cone.from cone.to part) (r : Cone) (p : PartOf cone part lo last r)
  where
    sifted : Complete (MissedIn sectors lo last) n m part.from part.to
    sifted = record {
      some = s.some;
      within = s.within;
      covers =
          kept_covers {I = MissedIn sectors cone.lo cone.last} {J = MissedIn sectors lo last}
          (λ j f k a b. f k (omega (arith, least, a)) (omega (arith, most, b))) n
          (λ j h e. missed_range sectors lo last j (omega (arith, most, on.below)) e) (omega arith) s.kept
          on.complete.covers;
    }

    pub half_on_lem : HalfOf n sectors m cone r
    half_on_lem = record {
      on = record {
        some = rw (p.2, p.3) some;
        below = omega (arith, p.3, most, on.below);
        complete = rw (p.0, p.1, p.2, p.3) sifted;
      };
      after = omega (arith, p.1, s.after);
      shallower = p.4;
    }

    pub lower_on : last < cone.last → Halvable cone (length l) → LowerOf n sectors m cone r
    lower_on rest h = record {
      half = half_on_lem;
      first = omega (arith, p.3, least, some);
      rest = omega (arith, p.3, rest);
      halvable = room_after l m s.framed.room h;
    }
