-- `put_zone` meets its contract.
use mathlib.Core.Path.{sym, subst}
use Rattle.book.specs.Sets.{Below}
use Rattle.book_feed.proofs.adding.put_zone.Goals as goal

pub with_zone-requires : goal.with_zone-requires
with_zone-requires c =
    (c.requires.0, subst (Below c.args.zone) (sym c.sets_in-zones.ensures) c.requires.1.below)

pub returns : goal.returns
returns c =
    rw (c.with_zone.ensures, c.sets_in-zones.ensures) at c.put_sets.ensures
