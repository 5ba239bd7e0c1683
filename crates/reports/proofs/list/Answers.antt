-- `reports::list` meets its contract: what its tests and its pass say is the answer, and `fill` fills the rows. Assumes nothing.
use Rattle.std.proofs.Common.{refl, sym, ◌∙◌, arith}
use Rattle.std.specs.Int.Count.{ones_in}
use Rattle.rules.specs.Calls.{list}
use Rattle.rules.proofs.Cases.{handed_on}
use Rattle.rules.proofs.Calls.{answer_told, rows_told}
use Rattle.numbers.proofs.Verdicts.{refuses_call}
use Rattle.reports.proofs.Gathered.{refused_list, survey_says, list_broken, list_told, used_fits}
use Rattle.reports.proofs.list.Goals as goal

pub returns-in_err-loan : goal.returns-in_err-loan
returns-in_err-loan c =
    let s = c.args in
    rw (handed_on c.from_residual.ensures.1)
    (refused_list s.h s.arena.now _ (refuses_call list s.h s.arena.now refl (rw c.in_err-loan.was at c.lend.ensures)))

pub invariant_of-smallest : goal.invariant_of-smallest
unfolding ones_in
invariant_of-smallest c = record { asked = record { power = refl; least = omega arith; room = omega arith } }

pub returns-in_err-found : goal.returns-in_err-found
returns-in_err-found c =
    let s = c.args in
    rw (handed_on c.from_residual-in_err-found.ensures.1)
    (refused_list s.h s.arena.now _ (list_broken s.h s.arena.now c.in_ok-loan.ensures _ c.survey.ensures c.in_err-found.was))

pub invariant_of-fill : goal.invariant_of-fill
invariant_of-fill c =
    let l = c.in_ok-loan.loan in
    let sound = (survey_says l.heap l.arena.now _ c.survey.ensures c.in_ok-found.was).0 in
    record { settled = record { ready = l.ready; sound = sound } }

pub overflow_sub-result : goal.overflow_sub-result
overflow_sub-result c =
    let l = c.in_ok-loan.loan in
    let u = used_fits l (survey_says l.heap l.arena.now _ c.survey.ensures c.in_ok-found.was).0 in
    let u = rw c.in_ok-loan.ensures.heap at u in
    omega (arith, c.fair_size.ensures)

pub returns : goal.returns
returns c =
    let s = c.args in
    let e = list_told s.h s.arena.now c.in_ok-loan.ensures _ c.survey.ensures c.in_ok-found.was in (
      rw c.fair_size.ensures (sym (answer_told list s.h s.arena.now _ _ e)),
      rw (c.in_ok-loan.ensures.heap, c.in_ok-loan.ensures.arena) at c.fill.ensures
          ∙ sym (rows_told list s.h s.arena.now _ _ _ e),
    )
