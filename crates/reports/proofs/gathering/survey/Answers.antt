-- `reports::gathering::survey` meets its contract: at each turn sum, count and largest are those of the holes passed. Assumes nothing.
use Rattle.std.proofs.Common.{Ok, refl, sym, ap, ◌∙◌, [], arith}
use Rattle.rules.specs.Allocate.{largest_grant}
use Rattle.rules.proofs.Cases.{handed_on}
use Rattle.walk.specs.Walk.{never}
use Rattle.walk.proofs.Turn.{turn_bounds}
use Rattle.walk.proofs.Gathered.{counts, counts_on}
use Rattle.walk.proofs.ToEnd.{or_5_broken, or_5_kept}
use Rattle.reports.proofs.Gathered.{largest_on, survey_broken, survey_ended}
use Rattle.reports.proofs.gathering.survey.Goals as goal

pub loop-step-init : goal.loop-step-init
loop-step-init c =
    let l = c.args.loan in
    rw c.first_floor-floor.ensures
    ([], counts never l.heap l.arena.now l.ready.lent.fair, unfold largest_grant in refl)

pub returns-in_err-step : goal.returns-in_err-step
returns-in_err-step c =
    handed_on c.from_residual.ensures.1 ∙ survey_broken c.loop-step.invariant.1 c.next.ensures _ c.in_err-step.was

pub overflow_add-total : goal.overflow_add-total
overflow_add-total c =
    let found = c.in_ok-step.was ∙ ap Ok c.in-Some.is in
    omega (arith, turn_bounds c.loop-step.invariant.1.gone c.next.ensures found)

pub grant_of-requires : goal.grant_of-requires
grant_of-requires c =
    let found = c.in_ok-step.was ∙ ap Ok c.in-Some.is in
    let b = turn_bounds c.loop-step.invariant.1.gone c.next.ensures found in
    (omega arith, b.least)

pub behind-floor-requires : goal.behind-floor-requires
behind-floor-requires c =
    let found = c.in_ok-step.was ∙ ap Ok c.in-Some.is in
    omega (arith, turn_bounds c.loop-step.invariant.1.gone c.next.ensures found)

pub loop-step-smaller : goal.loop-step-smaller
loop-step-smaller c =
    let found = c.in_ok-step.was ∙ ap Ok c.in-Some.is in
    let b = turn_bounds c.loop-step.invariant.1.gone c.next.ensures found in
    rw c.behind-floor.ensures (omega arith)

pub loop-step-preserved : goal.loop-step-preserved
loop-step-preserved c =
    let found = c.in_ok-step.was ∙ ap Ok c.in-Some.is in
    let i = c.loop-step.invariant in
    rw c.behind-floor.ensures (
      _,
      counts_on _ _ _ i.1 c.next.ensures found refl,
      largest_on _ i.0 _ i.2 (rw c.grant_of.ensures at c.max-largest.ensures),
    )

pub returns-in_err-add_up : goal.returns-in_err-add_up
returns-in_err-add_up c =
    let i = c.loop-step.invariant in
    let ended = c.in_ok-step.was ∙ ap Ok c.in_default.is in
    let b = or_5_broken (sym c.add_up.ensures ∙ c.in_err-add_up.was) in
    handed_on c.from_residual-in_err-add_up.ensures.1
    ∙ rw b.1 (rw b.0 at (survey_ended i.1 c.next.ensures c.args.layout.align ended i.2))

pub returns : goal.returns
returns c =
    let i = c.loop-step.invariant in
    let ended = c.in_ok-step.was ∙ ap Ok c.in_default.is in
    rw (or_5_kept (sym c.add_up.ensures ∙ c.in_ok-add_up.was)) at (survey_ended i.1 c.next.ensures c.args.layout.align ended i.2)
