-- A vertex M added between A and B, to every edge that joins their directions: coincident edges and border of the new
-- list, by those of the old. Proved, in order: front_same, back-same, whole-none, other-same (how many edges join two
-- directions); border-to, border-from, circles-to; added_alike.
use mathlib.Core.Path.{◌≡◌, refl, sym, ◌∙◌, ap}
use mathlib.Core.List.{List}
use mathlib.Core.Bool.{Bool, true, false, ◌&&◌, ◌||◌, true≢false, and-false}
use Prim.Native.Nat.{ℕ, ◌<◌, ◌%◌}
use native.Mathlib.Omega.{arith}
use lib.Dec.{eqb}
use lib.IntN.{ℤ, pos, ◌+ℤ◌}
use Rattle.sphere.specs.declared.point.Point.{Point}
use Rattle.sphere.specs.Orientation.{orientation_of}
use Rattle.sphere.specs.Direction.{is_same_direction}
use Rattle.sphere.specs.OnEdge.{is_on_edge}
use Rattle.polygon.specs.Border.{joins_of, is_coincident, coincident_of, is_border}
use Rattle.sphere.proofs.Laws.Orientation.{off→apart}
use Rattle.polygon.proofs.Laws.Joined.{same_sym, joins_sym, joins_self}
use Rattle.sphere.proofs.Laws.Amid.{Inner}
use Rattle.sphere.proofs.Laws.Split.{front_off, back_off, on_edge_split}
use Rattle.answer.proofs.Laws.Blocks.{count_none}
use Rattle.polygon.specs.Vertices.{vertices_count, start_of, end_of}
use Rattle.polygon.proofs.Laws.Checks.{OffCircles}
use Rattle.redraw.specs.Redraw.{Amid, Addable, added_to}
use Rattle.redraw.proofs.Directions.{EdgeTest, joins_test, on_circle, circle_test, off→none, joined_on}
use Rattle.redraw.proofs.Rings.{edge_count, one}
use Rattle.redraw.proofs.Counts.{count_zero}
use Rattle.redraw.proofs.Alike.{Alike, Bordered, class_same, class_border, clear_by, count_off, off_count}
use Rattle.redraw.proofs.Added.{with_added, share_count}
use Rattle.redraw.proofs.Halves.{inner_of, new_crossings, circles_from}

not_same : (A B X : Point) → (orientation_of A B X ≡ pos 0 → ⊥) → is_same_direction A B ≡ false
unfolding is_same_direction
not_same A B X off = rw (off→apart A B X off)

-- Two edges are not coincident as soon as no end of the one can be the other's.
apart : (a b c d : Bool) → a ≡ false → c ≡ false → ((a && b) || (c && d)) ≡ false
apart a b c d e f = rw (e, f)

apart_right : (a b c d : Bool) → b ≡ false → c ≡ false → ((a && b) || (c && d)) ≡ false
apart_right a b c d e f = rw (e, f, and-false a)

odd_same : {a b : ℕ} → a ≡ b → eqb (b % 2) 1 ≡ true → eqb (a % 2) 1 ≡ true
odd_same e h = ap (λ n. eqb (n % 2) 1) e ∙ h

left_of : (a b : Bool) → a ≡ true → (a || b) ≡ true
left_of a b e = rw e

right_of : (a b : Bool) → b ≡ true → (a || b) ≡ true
right_of true b e = refl
right_of false b e = e

pub no_edge : (vs : List ℤ) (C D : Point) → coincident_of vs C D ≡ 0 → (i : ℕ) → i < vertices_count vs →
    joins_of C D (start_of vs i) (end_of vs i) ≡ false
unfolding coincident_of
no_edge vs C D none i below =
    count_zero (is_coincident vs C D) 0 (vertices_count vs) none i (omega arith) (omega arith)

module _ (vs : List ℤ) (A B M X : Point) (m : Amid A B M) (full : 0 < vertices_count vs)
    (off : orientation_of A B X ≡ pos 0 → ⊥) (no_front : coincident_of vs A M ≡ 0) (no_back : coincident_of vs M B ≡ 0)
  where
    abbrev new : List ℤ
    new = with_added vs A B M

    r : Inner A B M
    r = inner_of A B M m

    A-M : is_same_direction A M ≡ false
    A-M = same_sym A M ∙ m.not_start

    A-B : is_same_direction A B ≡ false
    A-B = not_same A B X off

    -- ---- the whole and the halves are coincident with themselves alone
    halves-apart : joins_of A M M B ≡ false
    unfolding joins_of
    halves-apart = apart (is_same_direction A M) (is_same_direction M B) (is_same_direction A B) (is_same_direction M M) A-M A-B

    whole-front : joins_of A B A M ≡ false
    unfolding joins_of
    whole-front = apart_right (is_same_direction A A) (is_same_direction B M) (is_same_direction A M) (is_same_direction B A)
        (same_sym B M ∙ m.not_end) A-M

    whole_back : joins_of A B M B ≡ false
    unfolding joins_of
    whole_back = apart (is_same_direction A M) (is_same_direction B B) (is_same_direction A B) (is_same_direction B M) A-M A-B

    offA-M : orientation_of A M X ≡ pos 0 → ⊥
    offA-M = front_off r X off

    offM-B : orientation_of M B X ≡ pos 0 → ⊥
    offM-B = back_off r X off

    -- ---- how many edges join two directions
    classes : (f h : Point → Point → Bool) → EdgeTest f → EdgeTest h → one f A M +ℤ one f M B ≡ one h A B →
        ((i : ℕ) → i < vertices_count vs → joins_of A B (start_of vs i) (end_of vs i) ≡ false →
        f (start_of vs i) (end_of vs i) ≡ h (start_of vs i) (end_of vs i)) → edge_count f new ≡ edge_count h vs
    classes f h tf th mid rest = share_count f h tf th vs A B M m.some full mid rest

    front_same : coincident_of new A M ≡ coincident_of vs A B
    unfolding coincident_of
    front_same = classes (joins_of A M) (joins_of A B) (joins_test A M) (joins_test A B) mid
        (λ i below no. no_edge vs A M no_front i below ∙ sym no)
      where
        mid : one (joins_of A M) A M +ℤ one (joins_of A M) M B ≡ one (joins_of A B) A B
        mid = rw (joins_self A M X offA-M, halves-apart, joins_self A B X off)

    back-same : coincident_of new M B ≡ coincident_of vs A B
    unfolding coincident_of
    back-same = classes (joins_of M B) (joins_of A B) (joins_test M B) (joins_test A B) mid
        (λ i below no. no_edge vs M B no_back i below ∙ sym no)
      where
        mid : one (joins_of M B) A M +ℤ one (joins_of M B) M B ≡ one (joins_of A B) A B
        mid = rw (joins_sym M B A M ∙ halves-apart, joins_self M B X offM-B, joins_self A B X off)

    -- no edge joins A and B any more
    whole-none : coincident_of new A B ≡ 0
    unfolding coincident_of
    whole-none = classes (joins_of A B) (λ C D. false) (joins_test A B)
        (record { turned = λ A B. refl; aligned = λ A B C D a b. refl }) mid (λ i below no. no)
        ∙ count_none (λ i. false) 0 (vertices_count vs) (λ i from below. refl)
      where
        mid : one (joins_of A B) A M +ℤ one (joins_of A B) M B ≡ pos 0
        mid = rw (whole-front, whole_back)

    other-same : (C D : Point) → joins_of A B C D ≡ false → joins_of A M C D ≡ false → joins_of M B C D ≡ false →
        coincident_of new C D ≡ coincident_of vs C D
    unfolding coincident_of
    other-same C D a b c = classes (joins_of C D) (joins_of C D) (joins_test C D) (joins_test C D) mid (λ i below no. refl)
      where
        mid : one (joins_of C D) A M +ℤ one (joins_of C D) M B ≡ one (joins_of C D) A B
        mid = rw (joins_sym C D A B ∙ a, joins_sym C D A M ∙ b, joins_sym C D M B ∙ c)

    -- ---- where a border edge of the old list holds P, one of the new does
    border-to : (P C D : Point) → (orientation_of C D X ≡ pos 0 → ⊥) → joins_of A M C D ≡ false →
        joins_of M B C D ≡ false → eqb (coincident_of vs C D % 2) 1 ≡ true → is_on_edge C D P ≡ true → Bordered new P
    border-to P C D offC front-none back_none odd on = go (joins_of A B C D) refl
      where
        by-half : joins_of A B C D ≡ true → (b c : Bool) → is_on_edge A M P ≡ b → is_on_edge M B P ≡ c → (b || c) ≡ true →
            Bordered new P
        by-half j true c p q e =
            class_border new X P A M offA-M (odd_same (front_same ∙ sym (class_same vs C D A B j)) odd) p
        by-half j false true p q e =
            class_border new X P M B offM-B (odd_same (back-same ∙ sym (class_same vs C D A B j)) odd) q
        by-half j false false p q e = absurd (true≢false (sym e))

        go : (b : Bool) → joins_of A B C D ≡ b → Bordered new P
        go true j = by-half j (is_on_edge A M P) (is_on_edge M B P) refl refl
            (sym (on_edge_split r X off P) ∙ joined_on A B C D X P off j ∙ on)
        go false j = class_border new X P C D offC (odd_same (other-same C D j front-none back_none) odd) on

    -- and the other way
    border-from : (P C D : Point) → (orientation_of C D X ≡ pos 0 → ⊥) → eqb (coincident_of new C D % 2) 1 ≡ true →
        is_on_edge C D P ≡ true → Bordered vs P
    border-from P C D offC odd on = go (joins_of A B C D) (joins_of A M C D) (joins_of M B C D) refl refl refl
      where
        whole-border : coincident_of new C D ≡ coincident_of vs A B → (is_on_edge A M P || is_on_edge M B P) ≡ true →
            Bordered vs P
        whole-border same half =
            class_border vs X P A B off (odd_same (sym same) odd) (on_edge_split r X off P ∙ half)

        go : (b c d : Bool) → joins_of A B C D ≡ b → joins_of A M C D ≡ c → joins_of M B C D ≡ d → Bordered vs P
        go true c d j p q =
            absurd (true≢false (sym odd ∙ ap (λ n. eqb (n % 2) 1) (class_same new C D A B j ∙ whole-none)))
        go false true d j p q = whole-border (class_same new C D A M p ∙ front_same)
            (left_of (is_on_edge A M P) (is_on_edge M B P) (joined_on A M C D X P offA-M p ∙ on))
        go false false true j p q = whole-border (class_same new C D M B q ∙ back-same)
            (right_of (is_on_edge A M P) (is_on_edge M B P) (joined_on M B C D X P offM-B q ∙ on))
        go false false false j p q = class_border vs X P C D offC (odd_same (sym (other-same C D j p q)) odd) on

    -- ---- circles
    circles-to : OffCircles vs X → OffCircles new X
    circles-to all = count_off new X (classes (on_circle X) (on_circle X) (circle_test X) (circle_test X) mid
        (λ i below no. refl) ∙ off_count vs X all)
      where
        mid : one (on_circle X) A M +ℤ one (on_circle X) M B ≡ one (on_circle X) A B
        mid = rw (off→none A M X offA-M, off→none M B X offM-B, off→none A B X off)

pub added_alike : (vs : List ℤ) (e : ℕ) (M X : Point) → Addable vs e M → Alike vs (added_to vs e M) X
unfolding added_to is_border
added_alike vs e M X a =
    record {
      off_to = λ o. to o;
      off_from = circles_from vs A B M X a.amid full;
      crossings = λ P. new_crossings vs A B M a.amid full X P;
      clear_to = λ o P. clear_by vs ws P (λ i below held border.
          border-from vs A B M X a.amid full (o e a.edge) a.no_front a.no_back P (start_of ws i) (end_of ws i)
          (to o i below) border held);
      clear_from = λ o P. clear_by ws vs P (λ i below held border.
          border-to vs A B M X a.amid full (o e a.edge) a.no_front a.no_back P (start_of vs i) (end_of vs i)
          (o i below) (no_edge vs A M a.no_front i below) (no_edge vs M B a.no_back i below) border held);
    }
  where
    A : Point
    A = start_of vs e

    B : Point
    B = end_of vs e

    ws : List ℤ
    ws = with_added vs A B M

    full : 0 < vertices_count vs
    full = omega (arith, a.edge)

    to : OffCircles vs X → OffCircles ws X
    to o = circles-to vs A B M X a.amid full (o e a.edge) a.no_front a.no_back o
