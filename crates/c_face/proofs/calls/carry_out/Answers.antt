-- `c_face::calls::carry_out` meets its contract: its arms are the clauses of the definition, and a refused call's words name the same heap.
-- Assumes nothing.
use Rattle.std.proofs.Common.{refl, sym, rules}
use Rattle.rules.specs.Inner.{carried}
use Rattle.c_face.proofs.Returned.{words_return}
use Rattle.c_face.proofs.calls.carry_out.Goals as goal

pub returns-in-Ok : goal.returns-in-Ok
unfolding carried
returns-in-Ok c = rw c.in-Ok.is (c.tell-n.ensures, c.store.ensures, c.write.ensures)

pub returns-in-Err : goal.returns-in-Err
unfolding carried
returns-in-Err c = rw c.in-Err.is (c.tell.ensures, sym (words_return _ (search rules)), refl)
