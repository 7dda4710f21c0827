-- `grammar::gap_at` meets its contract.
use mathlib.Core.Path.{refl}
use Prim.Native.Nat.{ℕ}
use lib.Dec.{leb, leb→le}
use lib.ListN.{get_or}
use Rattle.positions.specs.Text.{words, gaps}
use Rattle.positions.proofs.Table.{at}
use borrow.Author.Rules.{rules}
use Rattle.positions.proofs.grammar.gap_at.Goals as goal

pub returns : goal.returns
unfolding words gaps
returns c = (
  refl,
  leb→le (get_or gaps c.args.at 0) 1
      (at (λ (k : ℕ) (x : ℕ). leb x 1) gaps tt c.args.at (search rules)),
)
