-- `turns_left` meets its contract.
use mathlib.Core.Path.{◌∙◌, ap, ap₂}
use borrow.Author.Rules.{sfits_of}
use mir.Syntax.{w64}
use Rattle.integers.specs.Sign.{sign_of, is_positive}
use Rattle.integers.proofs.Compare.{positive_test}
use Rattle.sphere.specs.Orientation.{orientation_of}
use Rattle.polygon.proofs.Laws.Edges.{ends_within}
use Rattle.azimuths.proofs.sectors.turns_left.Goals as goal

pub turn-requires : goal.turn-requires
turn-requires c =
    let w = ends_within c.requires.1 c.requires.3 c.vertex_at.ensures c.end_of.ensures in
    (w.0, w.1, c.requires.2)

pub returns : goal.returns
returns c =
    let t = c.turn in
    let X = c.args.known in
    let ends = ap₂ (λ A B. sign_of (orientation_of A B X)) c.vertex_at.ensures c.end_of.ensures in
    positive_test w64 t.result (sfits_of t.type_inv) ∙ ap is_positive (t.ensures ∙ ends)
