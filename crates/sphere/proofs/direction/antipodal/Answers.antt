-- `antipodal` meets its contract: the dot product is worked out only for parallel points.
use mathlib.Core.Path.{sym, ◌∙◌}
use borrow.Author.Rules.{sfits_of}
use mir.Syntax.{w64}
use Rattle.integers.proofs.Compare.{negative_test}
use Rattle.sphere.specs.Direction.{is_antipodal}
use Rattle.sphere.proofs.Laws.Grid.{points_dot}
use Rattle.sphere.proofs.direction.antipodal.Goals as goal

pub returns-then-parallel : goal.returns-then-parallel
unfolding is_antipodal
returns-then-parallel c =
    rw (sym c.before.before.parallel.ensures ∙ c.before.if-parallel.true, ← c.dot.ensures)
    (negative_test w64 c.dot.result (sfits_of c.dot.type_inv))

pub returns : goal.returns
unfolding is_antipodal
returns c = rw (sym c.before.parallel.ensures ∙ c.if-parallel.false)
