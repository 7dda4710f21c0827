-- `bounds` meets its contract: the sign is a number that the code has.
use mathlib.Core.Path.{sym, subst}
use lib.IntN.{pos}
use mir.Syntax.{w64}
use mir.ValLaws.{to_z-of_z}
use Rattle.extent.specs.Sides.{axis}
use Rattle.separation.specs.Axes.{Frame}
use Rattle.extent.proofs.Laws.Frames.{frame_x, frame_y, frame_z}
use Rattle.extent.proofs.sides.bounds.Goals as goal

pub bound-requires : goal.bound-requires
bound-requires c =
    let k = c.args.sign in (
      c.requires.0,
      subst (λ k. Frame (axis k (pos 0) (pos 0)) (axis (pos 0) (pos 1) (pos 0)) (axis (pos 0) (pos 0) (pos 1)))
          (sym (to_z-of_z w64 k c.ranges.sign)) (frame_x k c.requires.1),
    )

pub bound-requires-2 : goal.bound-requires-2
bound-requires-2 c =
    let k = c.args.sign in (
      c.requires.0,
      subst (λ k. Frame (axis (pos 0) k (pos 0)) (axis (pos 0) (pos 0) (pos 1)) (axis (pos 1) (pos 0) (pos 0)))
          (sym (to_z-of_z w64 k c.ranges.sign)) (frame_y k c.requires.1),
    )

pub bound-requires-3 : goal.bound-requires-3
bound-requires-3 c =
    let k = c.args.sign in (
      c.requires.0,
      subst (λ k. Frame (axis (pos 0) (pos 0) k) (axis (pos 1) (pos 0) (pos 0)) (axis (pos 0) (pos 1) (pos 0)))
          (sym (to_z-of_z w64 k c.ranges.sign)) (frame_z k c.requires.1),
    )
