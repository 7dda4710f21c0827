-- `side_at` meets its contract.
use mathlib.Core.Path.{◌∙◌, sym, ap}
use native.Mathlib.Omega.{arith}
use mir.Syntax.{w64}
use mir.ValLaws.{to_z-of_z}
use borrow.Author.Rules.{sfits_of}
use Rattle.integers.specs.Sign.{sign_of}
use Rattle.search.specs.Scan.{side_of}
use Rattle.search.proofs.Laws.Scanned.{sided_held}
use Rattle.search.proofs.scan.side_at.Goals as goal

pub returns-then-i-eq0 : goal.returns-then-i-eq0
returns-then-i-eq0 c =
    (sided_held c.ranges.closing c.requires.sided).known (omega (arith, c.requires.gridded.2))
    ∙ ap (λ i. sign_of (side_of c.args.vertices.now c.args.plane.normal i)) (sym c.if-i-eq0.true)

pub vertex_at-requires : goal.vertex_at-requires
vertex_at-requires c = omega (arith, c.requires.gridded.2)

pub side_of-requires : goal.side_of-requires
side_of-requires c =
    (c.requires.gridded.1, rw c.vertex_at.ensures (c.requires.gridded.0.each c.args.i c.requires.gridded.2))

pub returns : goal.returns
returns c =
    let d = c.side_of in
    ap sign_of (to_z-of_z w64 d.result (sfits_of d.type_inv)) ∙ rw c.vertex_at.ensures at d.ensures
