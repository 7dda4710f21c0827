-- Lists that are complete. Defined: AtEntry, Added. Proved, in order: covers_least, covers_map, covers_same, covers_at
-- (an entry), entries; tallied_of, walk_start, walk_step, walk_held (a walk over a complete list says what a walk over
-- all edges says), sum_kept, walk_add (the same of a loop's locals); kept_least, kept_same, kept_whole, kept_covers (what is kept
-- of a complete list is complete).
use mathlib.Core.Path.{◌≡◌, refl, sym, ◌∙◌, ap, subst}
use mathlib.Core.Bool.{Bool, true}
use mathlib.Core.List.{List}
use mathlib.Core.Logic.{⊎_elim}
use Prim.Native.Nat.{ℕ, zero, suc, ◌+◌, ◌-◌, ◌≤◌, ◌<◌}
use native.Mathlib.Nat.{eq-or-lt_of_le}
use native.Mathlib.Numerals.{add-one}
use native.Mathlib.Omega.{arith}
use lib.IntN.{ℤ, pos, nat_abs, ◌+ℤ◌}
use lib.ListN.{get_or}
use mir.Syntax.{w32}
use mir.Val.{SFits, to_z, of_z}
use mir.ValLaws.{to_z-of_z}
use Rattle.integers.proofs.Size.{known, fits}
use Rattle.sphere.specs.declared.point.Point.{Point}
use Rattle.answer.specs.Search.{first_from, count_from, sum_from}
use Rattle.polygon.specs.Verdict.{is_on_border, is_crossed, way_of}
use Rattle.search.specs.declared.walk.Tally.TheVariants.{Held, Crossed}
use Rattle.search.specs.Walk.{tally_from}
use Rattle.search.proofs.Laws.Tally.{Tallied, tallied_start, tallied_block, tallied_none, tallied_held, tallied_end}
use Rattle.search.proofs.Laws.Tally.{crossed_parts, tally_all, test_way, tallied_few, tallied_small, sum_fits}
use Rattle.azimuths.specs.Sectors.{Idle}
use Rattle.cones.specs.Cones.{Covers, none, pass, keep, Walked}
use Rattle.cones.specs.Lists.{Entries, Kept, begin, drop, copy}

-- ---- a complete list
pub record AtEntry (I : ℕ → Type 0) (l : List ℕ) (a n e : ℕ) : Type 0 where
  pub before : Covers I l a (get_or l e 0) e
  pub below : get_or l e 0 < n

module _ {I : ℕ → Type 0} {l : List ℕ} {a : ℕ} where
  pub covers_least : {i b : ℕ} → Covers I l a i b → a ≤ b
  covers_least none = omega arith
  covers_least (pass c h) = covers_least c
  covers_least (keep {i} {b} c h) = omega (arith, covers_least c)

  pub covers_map : {J : ℕ → Type 0} → ((j : ℕ) → I j → J j) → {i b : ℕ} → Covers I l a i b → Covers J l a i b
  covers_map f none = none
  covers_map f (pass {i} c h) = pass (covers_map f c) (f i h)
  covers_map f (keep c h) = keep (covers_map f c) h

  -- only the entries from a on before b are read
  pub covers_same : {m : List ℕ} {i b : ℕ} → ((x : ℕ) → a ≤ x → x < b → get_or m x 0 ≡ get_or l x 0) →
      Covers I l a i b → Covers I m a i b
  covers_same same none = none
  covers_same same (pass c h) = pass (covers_same same c) h
  covers_same same (keep {i} {b} c h) =
      keep (covers_same (λ x k t. same x k (omega arith)) c) (same b (covers_least c) (omega arith) ∙ h)

  pub covers_at : {n b : ℕ} → Covers I l a n b → (e : ℕ) → a ≤ e → e < b → AtEntry I l a n e
  covers_at none e h k = absurd (omega arith)
  covers_at (pass c p) e h k =
      let r = covers_at c e h k in record { before = r.before; below = omega (arith, r.below) }
  covers_at (keep {i} {b} c p) e h k = ⊎_elim
      (λ same. record {
        before = subst (λ j. Covers I l a j e) (sym (ap (λ x. get_or l x 0) same ∙ p))
            (subst (λ x. Covers I l a i x) (sym same) c);
        below = omega (arith, ap (λ x. get_or l x 0) same ∙ p);
      })
      (λ less. let r = covers_at c e h less in record { before = r.before; below = omega (arith, r.below) })
      (eq-or-lt_of_le {n = e} {m = b} (omega arith))

  pub entries : {n b : ℕ} → Covers I l a n b → Entries n l a b
  entries c = record { each = λ e h k. (covers_at c e h k).below }

-- ---- a walk over it
module _ {vs : List ℤ} {X P : Point} where
  pub tallied_of : {i c : ℕ} {s : ℤ} → tally_from vs X P 0 i ≡ Crossed c s → Tallied vs X P 0 i c s
  unfolding tally_from
  tallied_of {i} e =
      let all : i - 0 ≡ i = omega arith in
      let parts = crossed_parts (first_from (is_on_border vs P) 0 i) (count_from (is_crossed vs X P) 0 i)
      (sum_from (way_of vs X P) 0 i) e in
      record { none = rw all parts.none; count = rw all parts.count; total = rw all parts.total }

  tally_of : {i c : ℕ} {s : ℤ} → Tallied vs X P 0 i c s → tally_from vs X P 0 i ≡ Crossed c s
  tally_of {i} t = tally_all vs X P i (tallied_end t)

  idle_tally : {i : ℕ} → Idle vs X P i → tally_from vs X P i 1 ≡ Crossed 0 (pos 0)
  idle_tally {i} h = test_way vs X P i {way = pos 0} {c = 0} (rw (h.unheld, h.uncrossed)) refl

  idle_tallied : {i c : ℕ} {s : ℤ} → Tallied vs X P 0 i c s → Idle vs X P i → Tallied vs X P 0 (suc i) c s
  idle_tallied {i} t h = tallied_none 1 (omega arith) t (suc i) (omega arith) (idle_tally h)

  module _ {l : List ℕ} where
    pub walk_start : Walked vs X P l 0 0 (pos 0)
    walk_start = record { tally = λ i c. tally_of (go c refl) }
      where
        go : {i b : ℕ} → Covers (Idle vs X P) l 0 i b → b ≡ 0 → Tallied vs X P 0 i 0 (pos 0)
        go none e = tallied_start 0
        go (pass c h) e = idle_tallied (go c e) h
        go (keep c h) e = absurd (omega arith)

    pub walk_step : {e c d : ℕ} {s t : ℤ} → Walked vs X P l e c s →
        tally_from vs X P (get_or l e 0) 1 ≡ Crossed d t → Walked vs X P l (e + 1) (c + d) (s +ℤ t)
    walk_step {e} {c} {d} {s} {t} w one = record { tally = λ i k. tally_of (go k refl) }
      where
        go : {i b : ℕ} → Covers (Idle vs X P) l 0 i b → b ≡ e + 1 → Tallied vs X P 0 i (c + d) (s +ℤ t)
        go none q = absurd (omega arith)
        go (pass k p) q = idle_tallied (go k q) p
        go (keep {i} {b} k p) q =
            let same : b ≡ e = omega arith in
            let here : get_or l e 0 ≡ i = ap (λ x. get_or l x 0) (sym same) ∙ p in
            let on : i + 1 ≡ suc i = omega arith in
            subst (λ j. Tallied vs X P 0 j (c + d) (s +ℤ t)) on
            (tallied_block 1 (omega arith)
            (tallied_of (w.tally i (subst (λ x. Covers (Idle vs X P) l 0 i x) same k)))
            (subst (λ j. tally_from vs X P j 1 ≡ Crossed d t) here one))

    pub walk_held : {e n b c : ℕ} {s : ℤ} {edge : ℕ} → e < b → Covers (Idle vs X P) l 0 n b →
        Walked vs X P l e c s → tally_from vs X P (get_or l e 0) 1 ≡ Held edge → tally_from vs X P 0 n ≡ Held edge
    walk_held {e} {n} k all w one =
        let r = covers_at all e (omega arith) k in
        tally_all vs X P n
        (tallied_held 1 (omega arith) (tallied_of (w.tally _ r.before)) n (omega (arith, r.below)) one)

-- A sum that was tallied of few edges fits.
pub sum_kept : (vs : List ℤ) (X P : Point) {i c : ℕ} {s : ℤ} → i ≤ 4096 → tally_from vs X P 0 i ≡ Crossed c s →
    to_z w32 (of_z w32 s) ≡ s
sum_kept vs X P {s = s} few e =
    let small : nat_abs s ≤ 4096 = omega (arith, tallied_small (tallied_of e), few) in
    to_z-of_z w32 s (fits (known {z = s} small) (omega arith))

-- Entry e is looked at, and its edge says `way`: the sums fit, and the walk goes on.
pub record Added (vs : List ℤ) (X P : Point) (l : List ℕ) (e crossed : ℕ) (sum : ℤ) : Type 0 where
  pub few : crossed ≤ 4096
  pub fits : SFits w32 sum
  pub walked : Walked vs X P l (e + 1) crossed (to_z w32 (of_z w32 sum))

module _ {vs : List ℤ} {X P : Point} {l : List ℕ} {n e crossed d : ℕ} (sum way : ℤ) (most : n ≤ 4096) (fit : SFits w32 way)
    (at : AtEntry (Idle vs X P) l 0 n e) (w : Walked vs X P l e crossed sum)
    (one : tally_from vs X P (get_or l e 0) 1 ≡ Crossed d way) where
  pub walk_add : Added vs X P l e (crossed + d) (to_z w32 (of_z w32 sum) +ℤ to_z w32 (of_z w32 way))
  walk_add =
      let few : get_or l e 0 + 1 ≤ 4096 = omega (arith, at.below, most) in
      let held = sum_kept vs X P {i = get_or l e 0} (omega arith) (w.tally _ at.before) in
      let next : Walked vs X P l (e + 1) (crossed + d) (to_z w32 (of_z w32 sum) +ℤ way) = walk_step (rw held w) one in
      let t = tallied_of {i = get_or l e 0 + 1} (next.tally _ (rw (add-one, add-one) (keep at.before refl))) in
      let sums = sum_fits (of_z w32 sum) way fit few t in
      record {
        few = omega (arith, tallied_few t, few);
        fits = sums;
        walked = rw (to_z-of_z w32 _ sums, to_z-of_z w32 way fit) next;
      }

-- ---- what is kept of a list
module _ {test : ℕ → Bool} {l m : List ℕ} {a c : ℕ} where
  pub kept_least : {e k : ℕ} → Kept test l m a c e k → (a ≤ e) × (c ≤ k)
  kept_least begin = (omega arith, omega arith)
  kept_least (drop {e} {k} s h) = let r = kept_least s in (omega arith, omega arith)
  kept_least (copy {e} {k} s h) = let r = kept_least s in (omega arith, omega arith)

  pub kept_same : {q : List ℕ} {e k : ℕ} → ((x : ℕ) → c ≤ x → x < k → get_or q x 0 ≡ get_or m x 0) →
      Kept test l m a c e k → Kept test l q a c e k
  kept_same same begin = begin
  kept_same same (drop s h) = drop (kept_same same s) h
  kept_same same (copy {e} {k} s h) =
      copy (kept_same (λ x p t. same x p (omega arith)) s) (same k (kept_least s).1 (omega arith) ∙ h)

  module _ {I J : ℕ → Type 0} (weaker : (j : ℕ) → I j → J j) (n : ℕ) (lost : (j : ℕ) → j < n → test j ≡ true → J j)
    where
      pub kept_covers : {i e k : ℕ} → i ≤ n → Kept test l m a c e k → Covers I l a i e → Covers J m c i k
      kept_covers h s all = go s all h refl
        where
          -- by the entries first, and then by the edges
          go : {i b e k : ℕ} → Kept test l m a c e k → Covers I l a i b → i ≤ n → b ≡ e → Covers J m c i k
          go s (pass {i} all p) h q = pass (go s all (omega arith) q) (weaker i p)
          go begin none h q = none
          go begin (keep {i} {b} all p) h q = absurd (omega (arith, covers_least all))
          go (drop {e} s t) none h q = absurd (omega (arith, (kept_least s).0))
          go (copy {e} s t) none h q = absurd (omega (arith, (kept_least s).0))
          go (drop {e} s t) (keep {i} {b} all p) h q =
              let same : b ≡ e = omega arith in
              pass (go s all (omega arith) same)
              (lost i (omega arith) (subst (λ j. test j ≡ true) (ap (λ x. get_or l x 0) (sym same) ∙ p) t))
          go (copy {e} {k} s t) (keep {i} {b} all p) h q =
              let same : b ≡ e = omega arith in
              keep (go s all (omega arith) same) (t ∙ ap (λ x. get_or l x 0) (sym same) ∙ p)

-- the whole list, where it stands
pub kept_whole : {test : ℕ → Bool} {l m : List ℕ} {a : ℕ} (k : ℕ) →
    ((x : ℕ) → x < a + k → get_or m x 0 ≡ get_or l x 0) → Kept test l m a a (a + k) (a + k)
kept_whole {a = a} zero same = let none : a + 0 ≡ a = omega arith in rw none begin
kept_whole {test} {l} {m} {a} (suc k) same =
    let on : suc (a + k) ≡ a + suc k = omega arith in
    subst (λ e. Kept test l m a a e e) on
    (copy (kept_whole k (λ x h. same x (omega arith))) (same (a + k) (omega arith)))
