-- `walk::to_end::walk` meets its contract: at each turn the sum is that of the holes passed, and the floor rises. Assumes nothing.
use Rattle.std.proofs.Common.{Ok, ap, ◌∙◌, arith}
use Rattle.rules.proofs.Cases.{handed_on}
use Rattle.walk.proofs.Turn.{turn_bounds}
use Rattle.walk.proofs.ToEnd.{sums, sums_on, walk_ended, walk_broken}
use Rattle.walk.proofs.to_end.walk.Goals as goal

pub loop-step-init : goal.loop-step-init
loop-step-init c = sums _ _ _ _ _ c.args.loan.ready.lent.fair c.requires.1

pub returns-in_err-step : goal.returns-in_err-step
returns-in_err-step c = λ n en.
    handed_on c.from_residual.ensures.1 ∙ walk_broken c.loop-step.invariant c.next.ensures n en c.in_err-step.was

pub overflow_add-total : goal.overflow_add-total
overflow_add-total c =
    let found = c.in_ok-step.was ∙ ap Ok c.in-Some.is in
    omega (arith, turn_bounds c.loop-step.invariant.gone c.next.ensures found)

pub behind-floor-requires : goal.behind-floor-requires
behind-floor-requires c =
    let found = c.in_ok-step.was ∙ ap Ok c.in-Some.is in
    omega (arith, turn_bounds c.loop-step.invariant.gone c.next.ensures found)

pub loop-step-smaller : goal.loop-step-smaller
loop-step-smaller c =
    let found = c.in_ok-step.was ∙ ap Ok c.in-Some.is in
    let b = turn_bounds c.loop-step.invariant.gone c.next.ensures found in
    rw c.behind-floor.ensures (omega arith)

pub loop-step-preserved : goal.loop-step-preserved
loop-step-preserved c =
    let found = c.in_ok-step.was ∙ ap Ok c.in-Some.is in
    rw c.behind-floor.ensures (sums_on c.loop-step.invariant c.next.ensures found)

pub returns : goal.returns
returns c = λ n en.
    let ended = c.in_ok-step.was ∙ ap Ok c.in_default.is in
    walk_ended c.loop-step.invariant c.next.ensures n en ended
