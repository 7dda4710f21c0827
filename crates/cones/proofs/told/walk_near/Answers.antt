-- `walk_near` meets its contract: `tell` goes on to the next entry of which it is not sure, and that one is tested.
use mathlib.Core.Path.{◌≡◌, sym, ◌∙◌, subst}
use Prim.Native.Nat.{ℕ, ◌+◌, ◌≤◌, ◌<◌}
use native.Mathlib.Omega.{arith}
use lib.IntN.{ℤ, nat_abs, ◌+ℤ◌}
use lib.ListN.{get_or}
use mathlib.Core.Bool.{Bool, true, false, cond}
use mathlib.Core.List.{List}
use mir.Syntax.{w32}
use mir.Val.{SFits, to_z, of_z}
use mir.ValLaws.{to_z-of_z}
use Rattle.integers.specs.Sign.{Sign, negative, nought, positive, sign_of, is_zero, unit_of}
use Rattle.integers.proofs.Size.{known, fits}
use Rattle.sphere.specs.Crossing.{crossing_of}
use Rattle.sphere.specs.declared.point.Point.{Point}
use Rattle.polygon.specs.Vertices.{vertices_count, start_of, end_of}
use Rattle.polygon.specs.Verdict.{is_on_border, way_of}
use Rattle.polygon.proofs.Laws.Checks.{accept_passed}
use Rattle.search.specs.declared.walk.EdgeTest.TheVariants.{Way}
use Rattle.search.specs.declared.walk.Tally.TheVariants.{Held, Crossed}
use Rattle.search.specs.Walk.{test_by, tally_from, NoneBefore}
use Rattle.search.proofs.Laws.Tally.{test_held, test_way, none_start, none_before}
use Rattle.azimuths.specs.Sectors.{Idle}
use Rattle.cones.specs.declared.told.Told.{Told}
use Rattle.cones.specs.Cones.{Covers, Complete, Walked}
use Rattle.cones.proofs.Laws.Covers.{covers_at, tallied_of, walk_start, walk_held, sum_kept, Added, walk_add}
use Rattle.cones.proofs.told.walk_near.Goals as goal
use Rattle.cones.proofs.told.walk_near.Goals.{then-told-to, else-told-to+in-OnBorder}

pub loop-told-init : goal.loop-told-init
loop-told-init c = record { before = omega arith; walked = walk_start }

pub test_unsure-requires-clause-i_bound : goal.test_unsure-requires-clause-i_bound
test_unsure-requires-clause-i_bound c =
    let a = c.args in
    let told = c.tell-told.result in
    let at = covers_at c.requires.complete.covers told.at (omega arith) c.if-told-to.false in
    let none = none_before _ _ _ (omega arith) (none_start _ _) (tallied_of (c.tell-told.ensures.0.walked.tally _ at.before)) in (
      omega (arith, c.from-i.ensures, at.below),
      subst (λ j. NoneBefore a.vertices.now a.query j) (sym c.from-i.ensures) none,
    )

-- The edge's way, as it is held.
way_fits : (held : Bool) (s : Sign) (way : ℤ) → test_by held (unit_of s) ≡ Way way → SFits w32 way
way_fits true s way e = cc
way_fits false s way e = let same : unit_of s ≡ way = cc in fits (known {z = way} {n = 1} (rw (← same) (small s))) (omega arith)
  where
    small : (s : Sign) → nat_abs (unit_of s) ≤ 1
    small negative = omega arith
    small nought = omega arith
    small positive = omega arith

-- The edge is tallied.
added : {vs : List ℤ} {X P : Point} {l : List ℕ} {to i : ℕ} {d : ℕ} (told : Told) (way : ℤ) → vertices_count vs ≤ 4096 →
    Complete (Idle vs X P) (vertices_count vs) l 0 to → told.at < to → Walked vs X P l told.at told.crossed told.sum →
    i ≡ get_or l told.at 0 → test_by (is_on_border vs P i) (way_of vs X P i) ≡ Way way →
    d ≡ cond (is_zero (sign_of (to_z w32 (of_z w32 way)))) 0 1 →
    Added vs X P l told.at (told.crossed + d) (to_z w32 (of_z w32 told.sum) +ℤ to_z w32 (of_z w32 way))
added {vs} {X} {P} {i = i} {d = d} told way most all less walked same is count =
    let fit = way_fits (is_on_border vs P i) (crossing_of X P (start_of vs i) (end_of vs i)) way is in
    let one = test_way vs X P i is (rw (to_z-of_z w32 way fit) at count) in
    walk_add told.sum way most fit (covers_at all.covers told.at (omega arith) less) walked
    (subst (λ j. tally_from vs X P j 1 ≡ Crossed d way) same one)

pub overflow_add-told : goal.overflow_add-told
overflow_add-told c =
    let a = added c.tell-told.result c.in-Way.way (accept_passed c.requires.known_value.0).listed.most c.requires.complete
    c.if-told-to.false c.tell-told.ensures.0.walked c.from-i.ensures (sym c.test_unsure.ensures ∙ c.in-Way.is) c.counted.ensures in
    omega (arith, a.few)

pub overflow_add-told-in-loop-told : goal.overflow_add-told-in-loop-told
overflow_add-told-in-loop-told c =
    let a = added c.tell-told.result c.in-Way.way (accept_passed c.requires.known_value.0).listed.most c.requires.complete
    c.if-told-to.false c.tell-told.ensures.0.walked c.from-i.ensures (sym c.test_unsure.ensures ∙ c.in-Way.is) c.counted.ensures in
    a.fits

pub loop-told-preserved : goal.loop-told-preserved
loop-told-preserved c =
    let a = added c.tell-told.result c.in-Way.way (accept_passed c.requires.known_value.0).listed.most c.requires.complete
    c.if-told-to.false c.tell-told.ensures.0.walked c.from-i.ensures (sym c.test_unsure.ensures ∙ c.in-Way.is) c.counted.ensures in
    record { before = omega (arith, c.if-told-to.false); walked = a.walked }

-- Where the loop is left: all entries are passed, or the edge of the entry at hand holds the query.
pub returns : goal.returns
returns c =
    let a = c.args in
    let v = a.vertices.now in
    let n = vertices_count v in
    let come = c.tell-told.ensures.0 in
    let all = c.requires.complete.covers in
    c.tally_by.ensures ∙ elim c.if-told-to.branch [
      | then-told-to r ↦
          let last : a.to ≡ c.tell-told.result.at = omega (arith, r.if-told-to.true, come.before) in
          let whole = come.walked.tally n
          (subst (λ b. Covers (Idle v a.known a.query) a.list.now 0 n b) last all) in
          rw (r.found-is, sum_kept v a.known a.query (accept_passed c.requires.known_value.0).listed.most whole) (sym whole)
      | else-told-to+in-OnBorder r ↦
          let held = subst (λ j. tally_from v a.known a.query j 1 ≡ Held r.from-i.result) r.from-i.ensures
          (test_held v a.known a.query r.from-i.result (sym r.test_unsure.ensures ∙ r.in-OnBorder.is)) in
          rw r.found-is (sym (walk_held r.if-told-to.false all come.walked held))
    ]
