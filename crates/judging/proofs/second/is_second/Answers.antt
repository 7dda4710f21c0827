-- `is_second` meets its contract.
use Rattle.std.proofs.Common.{◌≡◌, ℕ, sym, ◌∙◌, ap}
use lib.Dec.{eqb}
use Rattle.sphere.specs.Point.{limit_of}
use Rattle.sphere.proofs.Laws.Plane.{grid→fine}
use Rattle.answer.specs.Answer.{number_of}
use Rattle.answer.proofs.Laws.Chain.{passed}
use Rattle.polygon.specs.Pair.{is_second, judge_from}
use Rattle.polygon.specs.Verdict.{answer_of}
use Rattle.polygon.proofs.Laws.Checks.{accept_polygon, polygon_first, accept_passed}
use Rattle.judging.proofs.Laws.From.{from_none, optional_none}
use Rattle.judging.proofs.second.is_second.Goals as goal
use Rattle.judging.proofs.second.is_second.Goals.{then-not-accepts-via-then-not-accepts, then-not-accepts-via-else-not-accepts+then-same_direction}

pub accepts-requires : goal.accepts-requires
accepts-requires c =
    polygon_first (limit_of c.args.grid) c.args.vertices.now
    (accept_polygon (limit_of c.args.grid) c.args.vertices.now c.args.known c.requires.0)

pub same_direction-requires : goal.same_direction-requires
same_direction-requires c =
    let g = c.args.grid in
    let taken = sym c.accepts.ensures ∙ c.if-not-accepts.false in
    (grid→fine g (accept_passed c.requires.0).known, grid→fine g (accept_passed (passed _ taken)).known)

pub returns-then-not-accepts : goal.returns-then-not-accepts
unfolding is_second
returns-then-not-accepts c = elim c.then-not-accepts.branch [
  | then-not-accepts-via-then-not-accepts w ↦ rw (sym c.accepts.ensures ∙ w.if-not-accepts.true)
  | then-not-accepts-via-else-not-accepts+then-same_direction w ↦
      rw (sym c.accepts.ensures ∙ w.if-not-accepts.false, sym w.same_direction.ensures ∙ w.if-same_direction.true)
]

pub judge_boxed-judged-requires : goal.judge_boxed-judged-requires
judge_boxed-judged-requires c =
    let a = c.args in
    (rw c.no_second-none.ensures (optional_none (limit_of a.grid) a.vertices.now a.known c.requires.0), c.requires.1)

pub returns : goal.returns
unfolding is_second
returns c =
    let a = c.args in
    let taken = sym c.accepts.ensures ∙ c.if-not-accepts.false in
    let apart = sym c.same_direction.ensures ∙ c.if-same_direction.false in
    let first : judge_from a.known c.no_second-none.result a.candidate ≡ a.known =
    rw c.no_second-none.ensures (from_none a.known a.candidate) in
    rw (taken, apart) (ap (λ (c : ℕ). eqb c 1) (c.number.ensures ∙ ap number_of (c.judge_boxed-judged.ensures.0
    ∙ ap (λ U. answer_of (limit_of a.grid) a.vertices.now U a.candidate) first)))
