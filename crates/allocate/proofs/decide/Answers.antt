-- `allocate::decide` meets its contract: the request is refused, or the search decides. Assumes nothing.
use Rattle.std.proofs.Common.{refl}
use Rattle.rules.specs.Calls.{allocate}
use Rattle.rules.proofs.Cases.{handed_on}
use Rattle.rules.proofs.Calls.{allocate_on}
use Rattle.rules.proofs.Written.{fulfils_left}
use Rattle.request.proofs.Requests.{lend_refused, requested_refused}
use Rattle.numbers.proofs.Verdicts.{lends_numbers}
use Rattle.allocate.proofs.decide.Goals as goal

pub returns-in_err-loan : goal.returns-in_err-loan
returns-in_err-loan c =
    let s = c.args in
    rw (handed_on c.from_residual.ensures.1)
    (lend_refused (allocate s.size s.align) refl s.h s.arena.now c.lend.ensures c.in_err-loan.was)

pub returns-in_err-layout : goal.returns-in_err-layout
returns-in_err-layout c =
    let s = c.args in
    rw (handed_on c.from_residual-in_err-layout.ensures.1)
    (requested_refused (allocate s.size s.align) refl s.h s.arena.now s.size s.align refl c.in_ok-loan.ensures c.requested.ensures
    c.in_err-layout.was)

pub returns : goal.returns
returns c =
    let s = c.args in
    let l = c.in_ok-loan.loan in
    let on = c.in_ok-loan.ensures in
    let lays = c.in_ok-layout.ensures in
    rw (← on.heap, ← on.arena)
    (fulfils_left (allocate s.size s.align) l.heap l.arena.now _
    (allocate_on l.heap l.arena.now l.ready.lent.lent (lends_numbers on) s.size s.align lays.rounded)
    (rw lays.aligned at c.allocate_first_fit.ensures))
