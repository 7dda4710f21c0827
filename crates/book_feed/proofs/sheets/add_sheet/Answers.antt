-- `add_sheet` meets its contract.
use Rattle.zone.proofs.Laws.Room.{any_boxes, few_boxes}
use borrow.Author.Rules.{rules}
use Rattle.book_feed.proofs.sheets.add_sheet.Goals as goal

pub add_opened-requires : goal.add_opened-requires
add_opened-requires c =
    record {
      part_in_bounds = (search rules, few_boxes c.args.part.now _ c.if-part-le3072.true (search rules));
      zone_bound = c.requires;
    }

pub returns-then-part-le3072 : goal.returns-then-part-le3072
returns-then-part-le3072 c = c.add_opened.ensures

pub add_opened-requires-2 : goal.add_opened-requires-2
add_opened-requires-2 c =
    record {
      part_in_bounds = (search rules, any_boxes c.args.part.now _ (search rules));
      zone_bound = c.requires;
    }

pub returns : goal.returns
returns c = c.add_opened-2.ensures
