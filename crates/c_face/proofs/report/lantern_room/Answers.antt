-- `c_face::report::lantern_room` meets its contract: it is `reports::room` on the heap that the words say. Assumes nothing.
use Rattle.rules.specs.Calls.{room}
use Rattle.c_face.proofs.Loaded.{reported}
use Rattle.c_face.proofs.report.lantern_room.Goals as goal

pub returns : goal.returns
returns c =
    let s = c.args in
    reported s.heap.now c.load.ensures (room s.align) s.arena.now c.room.ensures c.tell.ensures
