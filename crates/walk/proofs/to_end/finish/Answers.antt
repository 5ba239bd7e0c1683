-- `walk::to_end::finish` meets its contract: what the walk finds adds up or not. Assumes nothing.
use Rattle.std.proofs.Common.{sym, ◌∙◌}
use Rattle.rules.proofs.Cases.{handed_on}
use Rattle.walk.specs.Walk.{or_5, adds_up}
use Rattle.walk.proofs.ToEnd.{walked_5}
use Rattle.walk.proofs.to_end.finish.Goals as goal

pub returns-in_err-total : goal.returns-in_err-total
unfolding or_5 adds_up
returns-in_err-total c = λ n en.
    let w = sym (c.walk.ensures n en) ∙ c.in_err-total.was in
    handed_on c.from_residual.ensures.1 ∙ rw (walked_5 _ _ _ _ w, w)

pub returns : goal.returns
unfolding adds_up
returns c = λ n en.
    let w = sym (c.walk.ensures n en) ∙ c.in_ok-total.was in
    c.add_up.ensures ∙ rw w
