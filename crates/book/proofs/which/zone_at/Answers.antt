-- `which::zone_at` meets its contract: the part of the book is the sheet's own bytes.
use mathlib.Core.Path.{◌≡◌, ap, ◌∙◌}
use Prim.Native.Nat.{◌+◌, ◌-◌}
use native.Mathlib.Omega.{arith}
use lib.ListN.{take, drop}
use Rattle.fields.specs.Fields.{five_fields}
use Rattle.book.specs.Which.{zone_answer}
use Rattle.book.proofs.which.zone_at.Goals as goal

pub zone_answer-requires : goal.zone_answer-requires
zone_answer-requires c =
    let s = c.args in
    let e : s.at + s.size - s.at ≡ s.size = omega arith in
    ap (λ n. five_fields (take n (drop s.at s.book.now))) e ∙ c.requires.1

pub returns : goal.returns
returns c =
    let s = c.args in
    let e : s.at + s.size - s.at ≡ s.size = omega arith in
    c.zone_answer.ensures
    ∙ ap (λ n. zone_answer s.grid s.query (take n (drop s.at s.book.now))) e
