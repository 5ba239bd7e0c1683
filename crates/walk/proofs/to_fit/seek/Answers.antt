-- `walk::to_fit::seek` meets its contract: at each turn cursor, sum and count are those of the holes passed, and the floor rises.
-- Assumes nothing.
use Rattle.std.proofs.Common.{Ok, sym, ap, ◌∙◌, arith}
use Rattle.rules.specs.Allocate.{suits}
use Rattle.rules.proofs.Cases.{handed_on}
use Rattle.walk.proofs.Turn.{turn_bounds}
use Rattle.walk.proofs.Gathered.{seeks, seeks_on}
use Rattle.walk.proofs.ToFit.{search_found, search_ended, search_broken}
use Rattle.walk.proofs.to_fit.seek.Goals as goal

pub loop-step-init : goal.loop-step-init
loop-step-init c =
    let s = c.args in
    rw c.first_floor-floor.ensures
    (seeks (suits s.layout.size s.layout.align) s.loan.heap s.loan.arena.now s.loan.ready.lent.fair)

pub returns-in_err-step : goal.returns-in_err-step
returns-in_err-step c =
    handed_on c.from_residual.ensures.1 ∙ search_broken _ _ c.loop-step.invariant c.next.ensures c.in_err-step.was

pub overflow_add-total : goal.overflow_add-total
overflow_add-total c =
    let found = c.in_ok-step.was ∙ ap Ok c.in-Some.is in
    omega (arith, turn_bounds c.loop-step.invariant.counting.gone c.next.ensures found)

pub overflow_add-count : goal.overflow_add-count
overflow_add-count c =
    let found = c.in_ok-step.was ∙ ap Ok c.in-Some.is in
    omega (arith, turn_bounds c.loop-step.invariant.counting.gone c.next.ensures found)

pub suits-requires : goal.suits-requires
suits-requires c =
    let found = c.in_ok-step.was ∙ ap Ok c.in-Some.is in
    let b = turn_bounds c.loop-step.invariant.counting.gone c.next.ensures found in
    (omega arith, b.least)

pub behind-floor-requires : goal.behind-floor-requires
behind-floor-requires c =
    let found = c.in_ok-step.was ∙ ap Ok c.in-Some.is in
    omega (arith, turn_bounds c.loop-step.invariant.counting.gone c.next.ensures found)

pub loop-step-smaller : goal.loop-step-smaller
loop-step-smaller c =
    let found = c.in_ok-step.was ∙ ap Ok c.in-Some.is in
    let b = turn_bounds c.loop-step.invariant.counting.gone c.next.ensures found in
    rw c.behind-floor.ensures (omega arith)

pub loop-step-preserved : goal.loop-step-preserved
loop-step-preserved c =
    let found = c.in_ok-step.was ∙ ap Ok c.in-Some.is in
    rw c.behind-floor.ensures
    (seeks_on _ _ _ c.loop-step.invariant c.next.ensures found (sym c.suits.ensures ∙ c.if-suits.false))

pub returns-in_default : goal.returns-in_default
returns-in_default c =
    let ended = c.in_ok-step.was ∙ ap Ok c.in_default.is in
    search_ended _ _ c.loop-step.invariant c.next.ensures ended

pub returns : goal.returns
returns c =
    let found = c.in_ok-step.was ∙ ap Ok c.in-Some.is in
    search_found _ _ c.loop-step.invariant c.next.ensures found (sym c.suits.ensures ∙ c.if-suits.true)
