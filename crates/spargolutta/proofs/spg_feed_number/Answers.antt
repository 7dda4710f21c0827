-- `spg_feed_number` meets its contract.
use mathlib.Core.Path.{◌∙◌, ap}
use Rattle.answer.specs.Answer.{number_of}
use Rattle.spargolutta.proofs.spg_feed_number.Goals as goal

pub returns : goal.returns
returns c =
    let f = c.feed.ensures in
    record {
      value = c.number.ensures ∙ ap number_of f.value;
      results_after = f.results_after;
    }
