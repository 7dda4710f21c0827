-- `add_at` meets its contract: the part of the book is the sheet's own bytes.
use mathlib.Core.Path.{◌≡◌, ap, ◌∙◌}
use Prim.Native.Nat.{◌+◌, ◌-◌}
use native.Mathlib.Omega.{arith}
use lib.ListN.{take, drop}
use Rattle.fields.specs.Fields.{five_fields}
use Rattle.book.specs.Which.{zone_answer}
use Rattle.book_feed.specs.Adding.{added_all}
use Rattle.book_feed.proofs.sheets.add_at.Goals as goal

pub add_zone-requires : goal.add_zone-requires
add_zone-requires c =
    let i = c.args in
    let e : i.at + i.size - i.at ≡ i.size = omega arith in
    record {
      part_value = ap (λ n. five_fields (take n (drop i.at i.book.now))) e ∙ c.requires.size_in_bounds.1;
      zone_bound = c.requires.zone_bound;
    }

pub returns : goal.returns
returns c =
    let i = c.args in
    let e : i.at + i.size - i.at ≡ i.size = omega arith in
    c.add_zone.ensures
    ∙ ap (λ n. added_all i.zone (λ P. zone_answer i.grid P (take n (drop i.at i.book.now))) i.queries.now
    i.results.now) e
