-- `series::series` meets its contract.
use lib.Dec.{lit≤}
use borrow.Author.Rules.{rules}
use Rattle.angles.proofs.Whole.{raised_nested_lem}
use Rattle.angles.proofs.series.series.Goals as goal

pub both-h-requires-7 : goal.both-h-requires-7
both-h-requires-7 c = let v = c.before.before.before.before.before.before.before.raised-v.ensures.1 in search rules

pub both-h-requires-8 : goal.both-h-requires-8
both-h-requires-8 c =
    let v = c.before.before.before.before.before.before.before.before.raised-v.ensures.1 in
    search rules

pub rest-sin-requires : goal.rest-sin-requires
rest-sin-requires c =
    let r = c.before.before.before.before.before.before.before.before.before in
    (r.raised-v.ensures.1, c.both-h-8.ensures.sin_value.1, lit≤ tt, lit≤ tt)

pub last-cos-requires : goal.last-cos-requires
last-cos-requires c =
    let r = c.before.before.before.before.before.before.before.before.before.before in
    (r.raised-v.ensures.1, c.before.both-h-8.ensures.cos_value.1)

pub returns : goal.returns
returns c =
    let h8 = c.before.before in
    let h7 = h8.before in
    let h6 = h7.before in
    let h5 = h6.before in
    let h4 = h5.before in
    let h3 = h4.before in
    let h2 = h3.before in
    let h1 = h2.before in
    let r = h1.before.before in
    let i = r.before.args in record {
      sin_value = (
        rw (
          c.before.rest-sin.ensures.0,
          h8.both-h-8.ensures.sin_value.0,
          h7.both-h-7.ensures.sin_value.0,
          h6.both-h-6.ensures.sin_value.0,
          h5.both-h-5.ensures.sin_value.0,
          h4.both-h-4.ensures.sin_value.0,
          h3.both-h-3.ensures.sin_value.0,
          h2.both-h-2.ensures.sin_value.0,
          h1.both-h.ensures.sin_value.0,
          h1.before.one-whole.ensures,
          r.raised-v.ensures.0,
        )
            (raised_nested_lem i.grid i.w 2),
        c.before.rest-sin.ensures.1,
      );
      cos_value = rw (
        c.last-cos.ensures,
        h8.both-h-8.ensures.cos_value.0,
        h7.both-h-7.ensures.cos_value.0,
        h6.both-h-6.ensures.cos_value.0,
        h5.both-h-5.ensures.cos_value.0,
        h4.both-h-4.ensures.cos_value.0,
        h3.both-h-3.ensures.cos_value.0,
        h2.both-h-2.ensures.cos_value.0,
        h1.both-h.ensures.cos_value.0,
        h1.before.one-whole.ensures,
        r.raised-v.ensures.0,
      )
          (raised_nested_lem i.grid i.w 1);
    }
