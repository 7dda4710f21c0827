-- `comparison::spg_compare_fields` meets its contract.
use mathlib.Core.Path.{ap, ◌∙◌}
use Rattle.spargolutta.specs.Packed.{packed_of}
use Rattle.spargolutta.proofs.comparison.spg_compare_fields.Goals as goal

pub returns : goal.returns
returns c = c.packed.ensures ∙ ap (λ r. packed_of r.fields) c.compare-comparison.ensures
