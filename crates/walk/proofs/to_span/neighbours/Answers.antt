-- `walk::to_span::neighbours` meets its contract: at each turn cursor and sum are those of the holes passed, and the floor rises.
-- Assumes nothing.
use Rattle.std.proofs.Common.{Ok, ap, ◌∙◌, arith}
use Rattle.std.proofs.lemmas.Bool.Decides.{nat_tests}
use Rattle.rules.proofs.Cases.{handed_on}
use Rattle.walk.specs.Walk.{is_beyond}
use Rattle.walk.proofs.Turn.{turn_bounds}
use Rattle.walk.proofs.Gathered.{seeks, seeks_on}
use Rattle.walk.proofs.ToSpan.{near_found, near_ended, near_broken}
use Rattle.walk.proofs.to_span.neighbours.Goals as goal

pub loop-step-init : goal.loop-step-init
loop-step-init c =
    let s = c.args in
    rw c.first_floor-floor.ensures (0, seeks (is_beyond s.addr) s.loan.heap s.loan.arena.now s.loan.ready.lent.fair)

pub returns-in_err-step : goal.returns-in_err-step
returns-in_err-step c =
    handed_on c.from_residual.ensures.1 ∙ near_broken c.args.addr c.loop-step.invariant.1 c.next.ensures c.in_err-step.was

pub overflow_add-total : goal.overflow_add-total
overflow_add-total c =
    let found = c.in_ok-step.was ∙ ap Ok c.in-Some.is in
    omega (arith, turn_bounds c.loop-step.invariant.1.counting.gone c.next.ensures found)

pub behind-floor-requires : goal.behind-floor-requires
behind-floor-requires c =
    let found = c.in_ok-step.was ∙ ap Ok c.in-Some.is in
    omega (arith, turn_bounds c.loop-step.invariant.1.counting.gone c.next.ensures found)

pub loop-step-smaller : goal.loop-step-smaller
loop-step-smaller c =
    let found = c.in_ok-step.was ∙ ap Ok c.in-Some.is in
    let b = turn_bounds c.loop-step.invariant.1.counting.gone c.next.ensures found in
    rw c.behind-floor.ensures (omega arith)

pub loop-step-preserved : goal.loop-step-preserved
loop-step-preserved c =
    let found = c.in_ok-step.was ∙ ap Ok c.in-Some.is in
    rw c.behind-floor.ensures
    (_, seeks_on _ _ _ c.loop-step.invariant.1 c.next.ensures found (grind (arith, nat_tests)))

pub returns-then-lt : goal.returns-then-lt
returns-then-lt c =
    let found = c.in_ok-step.was ∙ ap Ok c.in-Some.is in
    near_found c.args.addr c.loop-step.invariant.1 c.next.ensures found (grind (arith, nat_tests))

pub returns-in_default : goal.returns-in_default
returns-in_default c =
    let ended = c.in_ok-step.was ∙ ap Ok c.in_default.is in
    near_ended c.args.addr c.loop-step.invariant.1 c.next.ensures ended
