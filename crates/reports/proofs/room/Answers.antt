-- `reports::room` meets its contract: what its tests and its pass say is the answer. Assumes nothing.
use Rattle.std.proofs.Common.{refl, sym, [], ◌∙◌}
use Rattle.rules.specs.Fixed.{min_size}
use Rattle.rules.specs.Calls.{room}
use Rattle.rules.proofs.Cases.{handed_on}
use Rattle.rules.proofs.Calls.{answer_refused, answer_told}
use Rattle.request.proofs.Requests.{lend_refused, requested_refused}
use Rattle.reports.proofs.Gathered.{refused_answer, room_broken, room_told}
use Rattle.reports.proofs.room.Goals as goal

pub returns-in_err-loan : goal.returns-in_err-loan
returns-in_err-loan c =
    let s = c.args in
    handed_on c.from_residual.ensures.1
    ∙ refused_answer _ _ _ (lend_refused (room s.align) refl s.h s.arena.now c.lend.ensures c.in_err-loan.was)

pub returns-in_err-layout : goal.returns-in_err-layout
returns-in_err-layout c =
    let s = c.args in
    handed_on c.from_residual-in_err-layout.ensures.1
    ∙ refused_answer _ _ _
    (requested_refused (room s.align) refl s.h s.arena.now min_size s.align refl c.in_ok-loan.ensures c.requested.ensures c.in_err-layout.was)

pub returns-in_err-count : goal.returns-in_err-count
returns-in_err-count c =
    let s = c.args in
    handed_on c.from_residual-in_err-count.ensures.1
    ∙ sym (answer_refused (room s.align) s.h s.arena.now _
    (room_broken s.h s.arena.now c.in_ok-loan.ensures c.in_ok-layout.ensures c.survey.ensures c.in_err-count.was))

pub returns : goal.returns
returns c =
    let s = c.args in
    sym (answer_told (room s.align) s.h s.arena.now _ []
    (room_told s.h s.arena.now c.in_ok-loan.ensures c.in_ok-layout.ensures c.survey.ensures c.in_ok-count.was))
