-- `c_face::calls::lantern_free` meets its contract: it is `free::decide` on the heap that the words say, carried out. Assumes nothing.
use Rattle.rules.specs.Kinds.{addr}
use Rattle.rules.specs.Calls.{free}
use Rattle.c_face.proofs.Loaded.{shown}
use Rattle.c_face.proofs.calls.lantern_free.Goals as goal

pub returns : goal.returns
returns c =
    let s = c.args in
    shown s.heap.now c.load.ensures (free (addr s.at) s.size s.align) s.arena.now c.decide-d.ensures
    c.carry_out.ensures
