-- `request::check` meets its contract: the heap is refused the arena, or the request decides. Assumes nothing.
use Rattle.rules.proofs.Cases.{handed_on}
use Rattle.request.proofs.Requests.{not_lent, asked, asked_align}
use Rattle.request.proofs.check.Goals as goal

pub returns-in_err-loan-clause-is : goal.returns-in_err-loan-clause-is
returns-in_err-loan-clause-is c =
    let s = c.args in
    rw (handed_on c.from_residual.ensures.1) (not_lent s.h s.arena.now s.size s.align c.in_err-loan.ensures)

pub returns-clause-is : goal.returns-clause-is
returns-clause-is c =
    let s = c.args in
    asked s.h s.arena.now s.size s.align c.in_ok-loan.ensures _ c.requested.ensures

pub returns-clause-aligned : goal.returns-clause-aligned
returns-clause-aligned c =
    let s = c.args in
    asked_align s.h s.arena.now s.size s.align c.in_ok-loan.ensures _ c.requested.ensures
