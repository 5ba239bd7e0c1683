-- `walk::to_end::adds_up` meets its contract: its arms are the clauses of the definition. Assumes nothing.
use Rattle.std.proofs.Common.{◌∙◌}
use Rattle.walk.specs.Walk.{adds_up}
use Rattle.walk.proofs.to_end.adds_up.Goals as goal

pub returns-in-Ok : goal.returns-in-Ok
unfolding adds_up
returns-in-Ok c = c.is_all_free.ensures ∙ rw c.in-Ok.is

pub returns-in-Err : goal.returns-in-Err
unfolding adds_up
returns-in-Err c = rw c.in-Err.is
