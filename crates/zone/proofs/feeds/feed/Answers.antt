-- `feeds::feed` meets its contract: each size has room for the sheets that come to it.
use Rattle.zone.proofs.Laws.Room.{few_room, middle_room, any_room}
use Rattle.zone.proofs.feeds.feed.Goals as goal

pub feed_sized-requires : goal.feed_sized-requires
feed_sized-requires c = few_room c.args.sheet.now c.if-sheet-le3072.true

pub feed_sized-requires-then-sheet-le16384 : goal.feed_sized-requires-then-sheet-le16384
feed_sized-requires-then-sheet-le16384 c = middle_room c.args.sheet.now c.if-sheet-le16384.true

pub feed_sized-requires-2 : goal.feed_sized-requires-2
feed_sized-requires-2 c = any_room c.args.sheet.now
