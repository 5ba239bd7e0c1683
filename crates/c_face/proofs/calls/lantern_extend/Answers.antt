-- `c_face::calls::lantern_extend` meets its contract: it is `extend::decide` on the heap that the words say, carried out. Assumes nothing.
use Rattle.rules.specs.Calls.{extend}
use Rattle.c_face.proofs.Loaded.{shown}
use Rattle.c_face.proofs.calls.lantern_extend.Goals as goal

pub returns : goal.returns
returns c =
    let s = c.args in
    shown s.heap.now c.load.ensures (extend s.by) s.arena.now c.decide-d.ensures c.carry_out.ensures
