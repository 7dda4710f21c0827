-- `judge::judged` meets its contract: each size has room for the sheets that come to it.
use Rattle.zone.proofs.Laws.Room.{few_room, middle_room, any_room}
use Rattle.zone.proofs.judge.judged.Goals as goal

pub judged_sized-requires : goal.judged_sized-requires
judged_sized-requires c = few_room c.args.b.now c.if-b-le3072.true

pub judged_sized-requires-then-b-le16384 : goal.judged_sized-requires-then-b-le16384
judged_sized-requires-then-b-le16384 c = middle_room c.args.b.now c.if-b-le16384.true

pub judged_sized-requires-2 : goal.judged_sized-requires-2
judged_sized-requires-2 c = any_room c.args.b.now
