-- `queries::put_lines` meets its contract: a line for each result passed.
use Rattle.std.proofs.Common.{◌≡◌, ◌*◌, ◌≤◌, length}
use Rattle.std.proofs.lemmas.List.Edits.{sets}
use Rattle.zone_judge.specs.Line.{lines_of}
use Rattle.zone_judge.proofs.queries.put_lines.Given as goal

abbrev pub invariant-loop-i : goal.invariant-loop-i
invariant-loop-i l =
    (length l.out ≡ length l.fn.out) × ((l.i ≤ l.n) × ((l.at ≤ l.i * 63)
    × ((l.out ≡ sets l.fn.out 0 (lines_of l.results l.i)) × (l.at ≡ length (lines_of l.results l.i)))))
