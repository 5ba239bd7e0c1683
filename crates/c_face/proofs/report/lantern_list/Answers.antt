-- `c_face::report::lantern_list` meets its contract: it is `reports::list` on the heap that the words say, and on the same rows. Assumes nothing.
use Rattle.rules.specs.Outcome.{rows}
use Rattle.c_face.proofs.Loaded.{listed}
use Rattle.c_face.proofs.report.lantern_list.Goals as goal

pub returns : goal.returns
returns c =
    let s = c.args in
    listed s.heap.now c.load.ensures s.arena.now (rows s.addrs.now s.sizes.now) c.list.ensures c.tell.ensures
