-- `is_null` meets its contract: it tests the three numbers in the order of the definition.
use mir.Syntax.{w64}
use Rattle.integers.proofs.Compare.{zero_test, zero_yes, zero_no}
use Rattle.sphere.specs.Point.{is_null}
use Rattle.sphere.proofs.Numbers.{Words, words_of}
use Rattle.sphere.proofs.point.is_null.Goals as goal
use Rattle.sphere.proofs.point.is_null.Lts as lts
use Rattle.sphere.proofs.point.is_null.Reads as reads

abbrev After-struct_told-3-1 : Type 0
After-struct_told-3-1 = lts.After-struct_told3 reads.Pre reads.Post

words : (c : After-struct_told-3-1) → Words c.before.before.before.args.p
words c = words_of _ c.struct_told-3-1.given

pub returns-then-x-ne0 : goal.returns-then-x-ne0
unfolding is_null
returns-then-x-ne0 c = rw (zero_no w64 _ (words c.before).at_x c.if-x-ne0.true)

pub returns-then-y-ne0 : goal.returns-then-y-ne0
unfolding is_null
returns-then-y-ne0 c =
    let p = words c.before.before in
    rw (zero_yes w64 _ p.at_x c.before.if-x-ne0.false, zero_no w64 _ p.at_y c.if-y-ne0.true)

pub returns : goal.returns
unfolding is_null
returns c =
    let p = words c.before.before in
    rw (zero_yes w64 _ p.at_x c.before.if-x-ne0.false, zero_yes w64 _ p.at_y c.if-y-ne0.false)
    (zero_test w64 _ p.at_z)
