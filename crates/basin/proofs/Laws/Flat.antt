-- Two edges in one plane. Defined: held_in. Proved, in order: plane_off (the second edge has a normal along the first
-- one's), flat_held (the test by a vector out of the plane), inner_ends (two edges with a point amid both: an end of one
-- lies on the other), beyond_ends (neighbours that leave their common vertex to one side).
use mathlib.Core.Path.{◌≡◌, ◌∙◌, ap}
use mathlib.Core.List.{List, [], ◌∷◌}
use mathlib.Core.Bool.{Bool, true, false, ◌||◌}
use lib.Dec.{T}
use lib.IntN.{pos, ◌*ℤ◌}
use lib.Signed.{◌<ℤ◌}
use Rattle.integers.specs.Sign.{nought, sign_of}
use Rattle.integers.proofs.Polynomial.{Expr, con, var, neg}
use Rattle.integers.proofs.Identity.{◌:+◌, ◌:-◌, ◌:*◌}
use Rattle.integers.proofs.Sign.{is, equal, ne, gt, lt, conclude}
use Rattle.integers.proofs.Infer.{Hyp, by, combine}
use Rattle.integers.proofs.Table.{table}
use Rattle.sphere.specs.declared.point.Point.{Point}
use Rattle.sphere.specs.Orientation.{orientation_of, cross_of}
use Rattle.sphere.specs.Direction.{is_parallel}
use Rattle.sphere.specs.OnEdge.{on_edge_by, is_on_edge}
use Rattle.sphere.proofs.Vectors.{flat, orientation_e, cross_e, dot_e, vecs_table, at_vecs}
use Rattle.sphere.proofs.Laws.OnEdge.{is_on_by, on_edge_by_lem}
use Rattle.basin.proofs.Laws.Disjunction.{T_true}
use Rattle.basin.proofs.Laws.Meeting.{normal_off}

-- |N|² |C×D|² = [C D N]² where C and D are in the plane with normal N
plane_square : (A B C D : Point) → orientation_of A B C ≡ pos 0 → orientation_of A B D ≡ pos 0 →
    orientation_of A B (cross_of A B) *ℤ orientation_of C D (cross_of C D)
    ≡ orientation_of C D (cross_of A B) *ℤ orientation_of C D (cross_of A B)
unfolding orientation_of cross_of
plane_square A B C D hC hD = combine left right hyps (flat (A ∷ B ∷ C ∷ D ∷ [])) tt (hC, (hD, tt))
  where
    left : Expr
    left = at_vecs 4 0 (λ a b c d. orientation_e a b (cross_e a b) :* orientation_e c d (cross_e c d))

    right : Expr
    right = at_vecs 4 0 (λ a b c d. orientation_e c d (cross_e a b) :* orientation_e c d (cross_e a b))

    hyps : List Hyp
    hyps = at_vecs 4 0 (λ a b c d.
        by (orientation_e a b c :* dot_e d d :- con (pos 2) :* orientation_e a b d :* dot_e c d) (orientation_e a b c)
        (con (pos 0))
        ∷ by (orientation_e a b d :* dot_e c c) (orientation_e a b d) (con (pos 0))
        ∷ [])

pub plane_off : (A B C D : Point) → is_parallel A B ≡ false → is_parallel C D ≡ false → orientation_of A B C ≡ pos 0 →
    orientation_of A B D ≡ pos 0 → orientation_of C D (cross_of A B) ≡ pos 0 → ⊥
plane_off A B C D h k hC hD = conclude (var 2) ne
    (is (var 0) ne ∷ is (var 1) ne ∷ equal (var 0 :* var 1) (var 2 :* var 2) ∷ [])
    (orientation_of A B (cross_of A B) ∷ orientation_of C D (cross_of C D) ∷ orientation_of C D (cross_of A B) ∷ []) tt
    (normal_off A B h) (normal_off C D k) (plane_square A B C D hC hD)

-- C is on the edge A B, both in a plane that W is out of.
abbrev pub held_in : Point → Point → Point → Point → Bool
held_in W A B C =
    on_edge_by nought (sign_of (orientation_of A B W)) (sign_of (orientation_of A C W)) (sign_of (orientation_of C B W))

pub flat_held : (A B C W : Point) → (orientation_of A B W ≡ pos 0 → ⊥) → orientation_of A B C ≡ pos 0 →
    T (held_in W A B C) → is_on_edge A B C ≡ true
unfolding is_on_by
flat_held A B C W off level t =
    on_edge_by_lem A B C W off
    ∙ ap (λ n. on_edge_by (sign_of n) (sign_of (orientation_of A B W)) (sign_of (orientation_of A C W))
    (sign_of (orientation_of C B W))) level
    ∙ T_true (held_in W A B C) t

-- ---- a point P amid both edges, all in one plane: by the signs along W
pub inner_ends : (A B C D P W : Point) → (orientation_of A B W ≡ pos 0 → ⊥) → (orientation_of C D W ≡ pos 0 → ⊥) →
    pos 0 <ℤ (orientation_of A P W *ℤ orientation_of A B W) → pos 0 <ℤ (orientation_of P B W *ℤ orientation_of A B W) →
    pos 0 <ℤ (orientation_of C P W *ℤ orientation_of C D W) → pos 0 <ℤ (orientation_of P D W *ℤ orientation_of C D W) →
    T (held_in W A B C || (held_in W A B D || held_in W C D A))
unfolding orientation_of
inner_ends = vecs_table 6 (λ a b c d p w. table
    (orientation_e a b w ∷ orientation_e c d w ∷ orientation_e a p w ∷ orientation_e p b w ∷ orientation_e c p w
    ∷ orientation_e p d w ∷ orientation_e a c w ∷ orientation_e c a w ∷ orientation_e c b w ∷ orientation_e a d w
    ∷ orientation_e d b w ∷ [])
    (λ ab cd ap pb cp pd ac ca cb ad db.
    ac :+ ca
    ∷ ap :* cb :- ac :* pb :- ab :* cp
    ∷ cp :* ad :- ca :* pd :- cd :* ap
    ∷ ap :* db :- ad :* pb :+ ab :* pd
    ∷ pd :* ac :+ ad :* cp :+ neg (cd :* ap)
    ∷ [])
    (λ ab cd ap pb cp pd ac ca cb ad db.
    is ab ne ∷ is cd ne ∷ is (ap :* ab) gt ∷ is (pb :* ab) gt ∷ is (cp :* cd) gt ∷ is (pd :* cd) gt ∷ [])
    (λ ab cd ap pb cp pd ac ca cb ad db.
    on_edge_by nought ab ac cb || (on_edge_by nought ab ad db || on_edge_by nought cd ca ad))) tt

-- ---- neighbours U M and M W that leave M to one side
pub beyond_ends : (U M W N : Point) → (orientation_of U M N *ℤ orientation_of M W N) <ℤ pos 0 →
    T (held_in N U M W || held_in N M W U)
unfolding orientation_of
beyond_ends = vecs_table 4 (λ u m w n. table
    (orientation_e u m n ∷ orientation_e m w n ∷ orientation_e u w n ∷ orientation_e w m n ∷ orientation_e m u n ∷ [])
    (λ um mw uw wm mu. mw :+ wm ∷ um :+ mu ∷ [])
    (λ um mw uw wm mu. is (um :* mw) lt ∷ [])
    (λ um mw uw wm mu. on_edge_by nought um uw wm || on_edge_by nought mw mu uw)) tt
