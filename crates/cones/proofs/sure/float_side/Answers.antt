-- `float_side` meets its contract: a float that is surely on one side has the true sign.
use mathlib.Core.Path.{◌≡◌, sym, ◌∙◌, ap}
use mathlib.Core.Bool.{Bool, true, false, ◌||◌, cond}
use Rattle.integers.specs.Sign.{Sign, positive, negative, sign_of}
use Rattle.sphere.specs.Orientation.{dot_of}
use Rattle.sphere.specs.Approximate.{is_surely}
use Rattle.sphere.proofs.Laws.Approximate.{dot_near, surely_side}
use Rattle.cones.proofs.sure.float_side.Goals as goal

-- One of the two, and then the first tells which.
by_either : (s : Sign) (left right : Bool) → (left ≡ true → s ≡ positive) → (right ≡ true → s ≡ negative) →
    (left || right) ≡ true → s ≡ cond left positive negative
by_either s true right l r h = l h
by_either s false right l r h = r h

pub returns : goal.returns
returns c =
    let a = c.args in
    let near = dot_near a.floats a.normal a.c c.requires.1 c.requires.0 c.requires.2 in
    let t = c.float_dot-side.ensures in
    record {
      side = by_either (sign_of (dot_of a.normal a.c)) c.is_surely-left.result c.is_surely-right.result
          (λ h. surely_side true _ _ near (ap (is_surely true) (sym t) ∙ sym c.is_surely-left.ensures ∙ h))
          (λ h. surely_side false _ _ near (ap (is_surely false) (sym t) ∙ sym c.is_surely-right.ensures ∙ h));
    }
