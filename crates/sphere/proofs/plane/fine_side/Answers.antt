-- `fine_side` meets its contract: a sure float has the true sign, and an unsure one is not used.
use mathlib.Core.Path.{◌≡◌, sym, ap, ◌∙◌}
use mathlib.Core.Bool.{cond}
use lib.IntN.{pos, negsuc}
use lib.Ieee.{lt}
use mir.Syntax.{w64}
use mir.ValLaws.{to_z-of_z}
use borrow.Author.Rules.{sfits_of}
use Rattle.integers.specs.Sign.{sign_of}
use Rattle.integers.proofs.Compare.{result_same}
use Rattle.sphere.specs.declared.approximate.Filtered.TheVariants.{Sure}
use Rattle.sphere.specs.Orientation.{dot_of}
use Rattle.sphere.specs.Approximate.{float, float_dot_of, filtered_of}
use Rattle.sphere.proofs.Laws.Approximate.{dot_near, sure_side, filtered_sure}
use Rattle.sphere.proofs.plane.fine_side.Goals as goal

pub returns-in-Sure : goal.returns-in-Sure
returns-in-Sure c =
    let known = c.before in
    let filtered = known.before in
    let dotted = filtered.before in
    let s = dotted.before in
    let a = s.args in
    let u = known.in-Sure.turn in
    let t = float_dot_of a.floats a.c in
    let e : filtered_of t ≡ Sure u =
    sym (filtered.filter.ensures ∙ ap filtered_of dotted.float_dot.ensures) ∙ known.in-Sure.is in
    let sure = filtered_sure t u e in
    let near = dot_near a.floats a.normal a.c s.requires.1 s.requires.0 s.requires.2 in
    ap sign_of (result_same w64 c.float_side.result c.float_side.type_inv c.float_side.ensures)
    ∙ ap (λ v. sign_of (cond (lt (float (pos 0)) v) (pos 1) (negsuc 0))) (sym sure.0)
    ∙ sure_side t (dot_of a.normal a.c) near sure.1
