-- `grammar::class_of` meets its contract.
use mathlib.Core.Bool.{Bool}
use Prim.Native.Nat.{ℕ}
use lib.Dec.{ltb, eqb, ltb→lt, eqb→eq}
use lib.ListN.{get_or}
use Rattle.positions.specs.Text.{class_table, class_of}
use Rattle.positions.proofs.Table.{at}
use borrow.Author.Rules.{rules}
use Rattle.positions.proofs.grammar.class_of.Goals as goal

right : ℕ → ℕ → Bool
right k x = eqb x (class_of k)

pub returns : goal.returns
unfolding class_table class_of right
returns c =
    let b = c.args.b in
    rw c.requires (
      eqb→eq (get_or class_table b 0) (class_of b) (at right class_table tt b (search rules)),
      ltb→lt (get_or class_table b 0) 9 (at (λ (k : ℕ) (x : ℕ). ltb x 9) class_table tt b (search rules)),
    )
