-- `basin_of` meets its contract: there is room for an outline of 4,096 vertices, and a longer one is refused.
use mathlib.Core.Path.{◌≡◌, sym, ap, ◌∙◌}
use mathlib.Core.List.{List}
use Prim.Native.Nat.{ℕ, ◌*◌, ◌/◌, ◌%◌, ◌<◌}
use native.Mathlib.Omega.{arith}
use borrow.Author.Tests.{eq-eqb, ne_eqb}
use lib.ListN.{length}
use Rattle.std.specs.declared.result.Result.TheVariants.{Err}
use Rattle.answer.specs.declared.Reason.TheVariants.{VertexList}
use Rattle.answer.specs.Refusal.{refused_at}
use Rattle.big_endian.proofs.Laws.Rows.{ints_at-length}
use Rattle.polygon.specs.Grids.{grid_check}
use Rattle.basin.specs.Basin.{basin_check, basin_of}
use Rattle.spargolutta.specs.Outline.{outline_of, basin_of_bytes}
use Rattle.spargolutta.proofs.Listed.{list_long}
use Rattle.spargolutta.proofs.outline.basin_of.Goals as goal

-- Over 4,096 vertices: line 10.
long : (g : ℕ) (b : List ℕ) → 49152 < length b → length b % 12 ≡ 0 → basin_of g (outline_of b) ≡ Err (refused_at VertexList 0)
unfolding basin_of basin_check grid_check
long g b h w =
    rw (list_long (outline_of b) (omega (arith, ints_at-length b 0 (length b / 12 * 3))))

pub returns-then-vertices-ne0 : goal.returns-then-vertices-ne0
unfolding basin_of_bytes
returns-then-vertices-ne0 c = rw (ne_eqb _ 0 c.if-vertices-ne0.true) (ap Err c.at.ensures)

pub returns-then-vertices-gt49152 : goal.returns-then-vertices-gt49152
unfolding basin_of_bytes
returns-then-vertices-gt49152 c =
    let b = c.args.vertices.now in
    rw (eq-eqb (length b % 12) 0 c.if-vertices-ne0.false)
    (ap Err c.at-then-vertices-gt49152.ensures ∙ sym (long _ b c.if-vertices-gt49152.true c.if-vertices-ne0.false))

pub returns : goal.returns
unfolding basin_of_bytes
returns c = rw (eq-eqb _ 0 c.if-vertices-ne0.false) c.basin_in.ensures.value
