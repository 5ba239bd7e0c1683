-- `c_face::calls::lantern_resize` meets its contract: it is `resize::decide` on the heap that the words say, carried out. Assumes nothing.
use Rattle.rules.specs.Kinds.{addr}
use Rattle.rules.specs.Calls.{resize}
use Rattle.c_face.proofs.Loaded.{shown}
use Rattle.c_face.proofs.calls.lantern_resize.Goals as goal

pub returns : goal.returns
returns c =
    let s = c.args in
    shown s.heap.now c.load.ensures (resize (addr s.at) s.old s.align s.new) s.arena.now c.decide-d.ensures c.carry_out.ensures
