-- `zones::found` meets its contract: each count is at most 64.
use native.Mathlib.Omega.{arith}
use borrow.Author.Rules.{rules}
use lib.Count.{ones-le}
use Rattle.book.proofs.zones.found.Goals as goal

pub overflow_add-count : goal.overflow_add-count
overflow_add-count c =
    let s = c.args.sets in
    omega (arith, ones-le 64 s.inside (search rules), ones-le 64 s.boundary (search rules))
