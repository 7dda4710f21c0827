-- `float_side` meets its contract: the machine's constant is 0.
use mathlib.Core.Path.{◌≡◌, sym, ap, ◌∙◌}
use mathlib.Core.Bool.{Bool, cond}
use lib.IntN.{pos, negsuc}
use lib.Ieee.{Float, binary64, lt, of_bits}
use Rattle.sphere.specs.Approximate.{float}
use Rattle.sphere.proofs.Laws.Approximate.{zero_bits}
use Rattle.sphere.proofs.plane.float_side.Goals as goal

above : (t : Float) {b : Bool} → lt (of_bits binary64 0) t ≡ b →
    cond b (pos 1) (negsuc 0) ≡ cond (lt (float (pos 0)) t) (pos 1) (negsuc 0)
above t e = ap (λ b. cond b (pos 1) (negsuc 0)) (sym e ∙ ap (λ z. lt z t) zero_bits)

pub returns-then-turn : goal.returns-then-turn
returns-then-turn c = above c.before.args.turn c.if-turn.true

pub returns : goal.returns
returns c = above c.before.args.turn c.if-turn.false
