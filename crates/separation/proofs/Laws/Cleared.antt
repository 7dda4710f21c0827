-- From the code's tests to planes. Proved, in order: cleared (a test that holds), fits_near (a bound that is not far),
-- moved_lower.
use Rattle.std.proofs.Common.{◌≡◌, Bool, true, false, List, ℤ, nat_abs, sym, ap, ◌∙◌, subst, ltb-false}
use Rattle.sphere.specs.declared.point.Point.{Point}
use Rattle.sphere.specs.Point.{Fits, is_far}
use Rattle.separation.specs.Separation.{Ahead, is_ahead}
use Rattle.separation.proofs.Laws.Screened.{test→ahead}
use Rattle.separation.specs.Axes.{unit}
use Rattle.separation.specs.Axes.{plane_of, Lower}

pub cleared : (vs : List ℤ) (E D : Point) {r : Bool} (L M : ℤ) → r ≡ is_ahead vs (plane_of E D M) → M ≡ L → r ≡ true →
    Ahead vs (plane_of E D L)
cleared vs E D L M e q t = test→ahead (ap (λ l. is_ahead vs (plane_of E D l)) (sym q) ∙ sym e ∙ t)

pub fits_near : (l : ℤ) → is_far unit l ≡ false → Fits unit l
unfolding is_far
fits_near l e = record { within = ltb-false unit (nat_abs l) e }

pub moved_lower : (vs : List ℤ) (E : ℤ → Point) (s t r q : ℤ) → s ≡ t → q ≡ r → Lower vs (E s) r → Lower vs (E t) q
moved_lower vs E s t r q a b l = subst (λ k. Lower vs (E k) q) a (subst (λ k. Lower vs (E s) k) (sym b) l)
