-- `turn` meets its contract: it is a side of the plane through a and b.
use mathlib.Core.Path.{ap, ◌∙◌}
use borrow.Author.Rules.{sfits_of}
use mir.Syntax.{w64}
use mir.ValLaws.{to_z-of_z}
use Rattle.integers.specs.Sign.{sign_of}
use Rattle.sphere.proofs.Laws.Plane.{Made, plane_made, made_within, made_turn}
use Rattle.sphere.proofs.plane.turn.Goals as goal
use Rattle.sphere.proofs.plane.turn.Goals.{After-plane_through}

made : (c : After-plane_through) →
    let a = c.before.args in Made a.grid a.a a.b c.plane_through.result
made c =
    let s = c.before in
    plane_made s.args.grid s.args.a s.args.b s.requires.0 s.requires.1 c.plane_through.ensures

pub side_of-requires : goal.side_of-requires
side_of-requires c = ((made c).sound, made_within (made c) c.before.requires.2)

pub returns : goal.returns
returns c =
    ap sign_of (to_z-of_z w64 c.side_of.result (sfits_of c.side_of.type_inv))
    ∙ c.side_of.ensures ∙ ap sign_of (made_turn (made c.before) c.before.before.args.c)
