-- `walk::to_end::is_all_free` meets its contract: the sum is tested by a difference, which does not wrap. Assumes nothing.
use Rattle.std.proofs.Common.{sym, ◌∙◌}
use Rattle.walk.proofs.ToEnd.{sum_left, sum_over}
use Rattle.walk.proofs.to_end.is_all_free.Goals as goal

pub returns-then-size-h : goal.returns-then-size-h
returns-then-size-h c =
    let s = c.args in
    sym (rw c.fair_size-size.ensures at (sum_over s.total s.h.used c.fair_size-size.result c.if-size-h.true))

pub returns : goal.returns
returns c =
    let s = c.args in
    sum_left s.total s.h.used c.fair_size-size.result c.if-size-h.false ∙ rw c.fair_size-size.ensures
