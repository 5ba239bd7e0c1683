-- `c_face::calls::lantern_open` meets its contract: it is `open::decide` on the heap that the words say, carried out. Assumes nothing.
use mathlib.Core.Path.{sym}
use Rattle.rules.specs.Kinds.{addr}
use Rattle.rules.specs.Calls.{opening}
use Rattle.c_face.proofs.Loaded.{shown}
use Rattle.c_face.proofs.calls.lantern_open.Goals as goal

pub returns : goal.returns
returns c =
    let s = c.args in
    shown s.heap.now c.load.ensures (opening (addr s.base) s.named) s.arena.now
    (c.decide-d.ensures s.arena.now (sym c.arena_len.ensures.0)) c.carry_out.ensures
