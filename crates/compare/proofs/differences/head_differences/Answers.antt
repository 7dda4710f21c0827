-- `differences::head_differences` meets its contract: field after field.
use mathlib.Core.Path.{ap, ap₂, ◌∙◌}
use mathlib.Core.Bool.{Bool, not}
use mathlib.Core.List.{[], ◌∷◌}
use native.Mathlib.Omega.{arith}
use lib.Dec.{eqb}
use Rattle.std.specs.Prelude.{bytes_eq}
use Rattle.compare.specs.declared.differences.Field.{Field}
use Rattle.compare.specs.declared.differences.Field.TheVariants.{ZoneNumber, CharacterSet, Name}
use Rattle.compare.specs.Differences.{differs, differing}
use Rattle.compare.proofs.Laws.Noted.{noted_step}
use Rattle.compare.proofs.differences.head_differences.Goals as goal

pub returns : goal.returns
unfolding differs differing
returns c =
    let test : Field → Bool = differs c.args.left.now c.args.right.now in
    let first = c.requires.0.parts in
    let second = c.requires.1.parts in
    noted_step test (ZoneNumber ∷ CharacterSet ∷ []) Name (omega arith)
    (noted_step test (ZoneNumber ∷ []) CharacterSet (omega arith)
    (noted_step test [] ZoneNumber (omega arith) c.none-d.ensures
    (λ i. not (eqb (first i).zone (second i).zone)) c.with-d.ensures)
    (λ i. not (eqb (first i).charset (second i).charset)) c.with-d-2.ensures)
    (c.ne.ensures ∙ ap not (ap₂ bytes_eq c.name_in-name.ensures c.name_in-other.ensures)) c.with.ensures
