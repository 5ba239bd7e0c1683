-- `resize::decide` meets its contract: either layout is refused, or the block's tests decide. Assumes nothing.
use Rattle.std.proofs.Common.{refl}
use Rattle.rules.specs.Calls.{resize}
use Rattle.rules.specs.declared.Refusal.TheVariants.{BadLayout}
use Rattle.rules.proofs.Cases.{handed_on}
use Rattle.rules.proofs.Calls.{resize_6, resize_on}
use Rattle.rules.proofs.Written.{fulfils_left, fulfils_later}
use Rattle.request.proofs.Requests.{lend_refused, requested_refused}
use Rattle.numbers.proofs.Verdicts.{lends_numbers}
use Rattle.resize.proofs.decide.Goals as goal

pub returns-in_err-loan : goal.returns-in_err-loan
returns-in_err-loan c =
    let s = c.args in
    rw (handed_on c.from_residual.ensures.1)
    (lend_refused (resize s.addr s.old s.align s.new) refl s.h s.arena.now c.lend.ensures c.in_err-loan.was)

pub returns-in_err-held : goal.returns-in_err-held
returns-in_err-held c =
    let s = c.args in
    rw (handed_on c.from_residual-in_err-held.ensures.1)
    (requested_refused (resize s.addr s.old s.align s.new) refl s.h s.arena.now s.old s.align refl c.in_ok-loan.ensures
    c.requested.ensures c.in_err-held.was)

pub returns-in_err-want : goal.returns-in_err-want
returns-in_err-want c =
    let s = c.args in
    let l = c.in_ok-loan.loan in
    let on = c.in_ok-loan.ensures in
    let denied = c.in_err-want.ensures in
    rw (handed_on c.from_residual-in_err-want.ensures.1, denied.why, ← on.heap, ← on.arena)
    (fulfils_later (resize s.addr s.old s.align s.new) l.heap l.arena.now BadLayout
    (resize_6 l.heap l.arena.now l.ready.lent.lent (lends_numbers on) s.addr s.old s.align s.new
    c.in_ok-held.ensures.rounded denied.layout))

pub returns : goal.returns
returns c =
    let s = c.args in
    let l = c.in_ok-loan.loan in
    let on = c.in_ok-loan.ensures in
    let held = c.in_ok-held.ensures in
    rw (← on.heap, ← on.arena)
    (fulfils_left (resize s.addr s.old s.align s.new) l.heap l.arena.now _
    (resize_on l.heap l.arena.now l.ready.lent.lent (lends_numbers on) s.addr s.old s.align s.new held.rounded
    c.in_ok-want.ensures.rounded)
    (rw held.aligned at c.refit.ensures))
