-- `pair::coarse_number` meets its contract.
use mathlib.Core.Path.{ap}
use Prim.Native.Nat.{ℕ, ◌+◌, ◌/◌}
use native.Mathlib.Omega.{arith}
use Rattle.angles.proofs.Floats.{coarse_fits, coarse_is, coarse_under}
use Rattle.angles.proofs.Whole.{kept, cut}
use Rattle.angles.proofs.pair.coarse_number.Goals as goal

pub float_to_int-p : goal.float_to_int-p
float_to_int-p c = let s = c.before in coarse_fits s.args.a s.args.b s.requires.0 s.requires.1

pub overflow_add-g : goal.overflow_add-g
overflow_add-g c =
    let s = c.before in
    let h = coarse_under s.args.a s.args.b s.requires.0 s.requires.1 in
    rw (coarse_is s.args.a s.args.b s.requires.0 s.requires.1) (omega arith)

pub returns-then-g-lt1048576 : goal.returns-then-g-lt1048576
returns-then-g-lt1048576 c =
    let s = c.before.before in
    kept _ 1048576 _ (ap (λ (p : ℕ). (p + 2147483648) / 4294967296)
    (coarse_is s.args.a s.args.b s.requires.0 s.requires.1)) c.if-g-lt1048576.true

pub returns-else-g-lt1048576 : goal.returns-else-g-lt1048576
returns-else-g-lt1048576 c =
    let s = c.before.before in
    cut _ 1048576 _ (ap (λ (p : ℕ). (p + 2147483648) / 4294967296)
    (coarse_is s.args.a s.args.b s.requires.0 s.requires.1)) c.if-g-lt1048576.false
