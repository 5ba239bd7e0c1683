-- `walk::to_fit::first_fit` meets its contract: what the search finds is the answer, and its sum decides between 7 and 5. Assumes nothing.
use Rattle.std.proofs.Common.{Ok, sym, ap, ◌∙◌}
use Rattle.rules.proofs.Cases.{handed_on}
use Rattle.walk.proofs.ToEnd.{or_5_broken, or_5_kept}
use Rattle.walk.proofs.ToFit.{fitted}
use Rattle.walk.proofs.to_fit.first_fit.Goals as goal

pub returns-in_err-fit : goal.returns-in_err-fit
returns-in_err-fit c =
    handed_on c.from_residual.ensures.1 ∙ fitted _ _ _ _ c.seek.ensures c.in_err-fit.was

pub returns-in-At : goal.returns-in-At
returns-in-At c =
    fitted _ _ _ _ c.seek.ensures (c.in_ok-fit.was ∙ ap Ok c.in-At.is)

pub returns-in_err-add_up-in-Nowhere : goal.returns-in_err-add_up-in-Nowhere
returns-in_err-add_up-in-Nowhere c =
    let f = fitted _ _ _ _ c.seek.ensures (c.in_ok-fit.was ∙ ap Ok c.in-Nowhere.is) in
    let b = or_5_broken (sym c.add_up.ensures ∙ c.in_err-add_up-in-Nowhere.was) in
    handed_on c.from_residual-in_err-add_up-in-Nowhere.ensures.1 ∙ rw b.1 (rw b.0 at f)

pub returns-in_ok-add_up-in-Nowhere : goal.returns-in_ok-add_up-in-Nowhere
returns-in_ok-add_up-in-Nowhere c =
    let f = fitted _ _ _ _ c.seek.ensures (c.in_ok-fit.was ∙ ap Ok c.in-Nowhere.is) in
    rw (or_5_kept (sym c.add_up.ensures ∙ c.in_ok-add_up-in-Nowhere.was)) at f
