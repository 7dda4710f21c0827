-- `put_node` meets its contract: the new node is complete as its list on the stack is, and the others stay.
use Prim.Native.Nat.{◌-◌}
use Rattle.cones.proofs.Laws.Pushed.{copied_covers, pushed}
use Rattle.cones.proofs.table.put_node.Goals as goal

pub returns : goal.returns
returns c =
    let v = c.args in
    let h = c.copy.ensures in
    pushed v.n v.sectors.now v.table.now v.list.now v.nodes v.top (v.cone.to - v.cone.from) c.requires.1 c.requires.2
    v.cone.lo v.cone.last _ h.room h.before (copied_covers v.n h c.requires.0.complete.covers)
