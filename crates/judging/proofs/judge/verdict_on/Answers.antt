-- `verdict_on` meets its contract.
use mathlib.Core.Path.{◌∙◌, ap}
use mir.Syntax.{w32}
use mir.Val.{SFits}
use mir.ValLaws.{to_z-of_z}
use Rattle.polygon.specs.Verdict.{verdict_by}
use Rattle.judging.proofs.judge.verdict_on.Goals as goal
use Rattle.std.specs.declared.option.Option.TheVariants.{None}

pub returns-in-Held : goal.returns-in-Held
returns-in-Held c = rw c.in-Held.is

pub returns-in-Crossed : goal.returns-in-Crossed
returns-in-Crossed c =
    let held = c.in-Crossed in
    let small : SFits w32 held.sum = record { sfits = held.known_told-in-Crossed-1-own.given.1.0.1 } in
    rw held.is (c.by_parity.ensures ∙ ap (verdict_by None held.crossed) (to_z-of_z w32 held.sum small))
