-- `add_by_index` meets its contract: the index is the polygon's, from the known point.
use mathlib.Core.Path.{◌≡◌}
use Prim.Native.Nat.{◌*◌, ◌≤◌}
use native.Mathlib.Nat.{le_trans}
use native.Mathlib.Omega.{arith}
use borrow.Author.Rules.{rules}
use Rattle.sphere.specs.Point.{limit_of}
use Rattle.polygon.specs.Checks.{accept_check}
use Rattle.polygon.specs.Vertices.{vertices_count}
use Rattle.polygon.proofs.Laws.Checks.{accept_passed}
use Rattle.polygon.proofs.Laws.Pair.{optional_first}
use Rattle.book_feed.proofs.indexed.add_by_index.Goals as goal
use Rattle.book_feed.proofs.indexed.add_by_index.Lts as lts
use Rattle.book_feed.proofs.indexed.add_by_index.Reads as reads
use Rattle.book_feed.proofs.indexed.add_by_index.Tie as tie
use Rattle.std.specs.declared.result.Result.TheVariants.{Ok}

abbrev Start : Type 0
Start = lts.Start tie.the-claims reads.Pre reads.Post tie.handed_clauses

-- The known point is accepted.
accepted : (s : Start) → accept_check (limit_of s.args.grid) s.args.vertices.now s.args.known ≡ Ok tt
accepted s =
    optional_first (limit_of s.args.grid) s.args.vertices.now s.args.known s.args.second s.requires.second_value.0

-- The spans and the stack have room for all edges.
pub build-index-requires : goal.build-index-requires
build-index-requires c =
    let most = (accept_passed (accepted c.before.before.before.before.before.before.before.before)).listed.most in
    let twice : vertices_count c.args.vertices.now * 2 ≤ 8192 = omega (arith, most) in
    record {
      known_value = (accepted c.before.before.before.before.before.before.before.before, le_trans twice (search rules), le_trans most (search rules));
      table_len_bound = (search rules, search rules);
    }

pub add_judged-requires : goal.add_judged-requires
add_judged-requires c =
    record {
      second_value = c.requires.second_value;
      index_on = record { built = λ h. c.build-index.ensures };
      sound = c.requires.sound;
      zone_bound = c.requires.zone_bound;
    }

pub returns : goal.returns
returns c = c.add_judged.ensures
