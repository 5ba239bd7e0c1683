-- `c_face::calls::lantern_allocate` meets its contract: it is `allocate::decide` on the heap that the words say, carried out. Assumes nothing.
use Rattle.rules.specs.Calls.{allocate}
use Rattle.c_face.proofs.Loaded.{shown}
use Rattle.c_face.proofs.calls.lantern_allocate.Goals as goal

pub returns : goal.returns
returns c =
    let s = c.args in
    shown s.heap.now c.load.ensures (allocate s.size s.align) s.arena.now c.decide-d.ensures
    c.carry_out.ensures
