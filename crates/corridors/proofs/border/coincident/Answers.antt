-- `coincident` meets its contract: the edge is tried both ways.
use Rattle.std.proofs.Common.{◌≡◌, Bool, sym, ◌∙◌, ap, cond, refl, true, false}
use mir.Val.{bool_byte}
use Rattle.polygon.specs.Border.{joins_of, is_coincident}
use Rattle.polygon.proofs.Laws.Edges.{end_within}
use Rattle.corridors.proofs.border.coincident.Goals as goal
use Rattle.corridors.proofs.border.coincident.Goals.{then-same_ends, else-same_ends}

pub same_ends-requires : goal.same_ends-requires
same_ends-requires c =
    let h = c.requires in
    (h.2, h.3, rw c.vertex_at-a.ensures (h.0.each c.args.j h.1), end_within h.0 h.1 c.end_of-b.ensures)

pub same_ends-requires-else-same_ends : goal.same_ends-requires-else-same_ends
same_ends-requires-else-same_ends c =
    let h = c.requires in
    (h.2, h.3, end_within h.0 h.1 c.end_of-b.ensures, rw c.vertex_at-a.ensures (h.0.each c.args.j h.1))

number : (t : Bool) → bool_byte t ≡ cond t 1 0
number true = refl
number false = refl

pub returns : goal.returns
unfolding joins_of
returns c =
    let s = c.args in
    let forward = rw (c.vertex_at-a.ensures, c.end_of-b.ensures) at c.same_ends.ensures in
    let joined : c.if-same_ends.from ≡ is_coincident s.vertices.now s.c s.d s.j = elim c.if-same_ends.branch [
      | then-same_ends w ↦ w.from-is ∙ rw (sym forward ∙ w.if-same_ends.true) w.if-same_ends.true
      | else-same_ends w ↦
          let backward = rw (c.vertex_at-a.ensures, c.end_of-b.ensures) at w.same_ends-else-same_ends.ensures in
          w.from-is ∙ rw (sym forward ∙ w.if-same_ends.false) backward
    ] in
    c.from.ensures ∙ number c.if-same_ends.from ∙ ap (λ t. cond t 1 0) joined
