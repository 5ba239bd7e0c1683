-- `walk::to_fit::candidate` meets its contract: the offset tells whether the address is a multiple. Assumes nothing.
use mathlib.Core.Path.{sym, ◌∙◌}
use Rattle.walk.proofs.ToFit.{aligned_candidate, raised_candidate}
use Rattle.walk.proofs.to_fit.candidate.Goals as goal

pub returns-then-offset-eq0 : goal.returns-then-offset-eq0
returns-then-offset-eq0 c = aligned_candidate c.requires.0 c.args.addr (sym c.offset.ensures ∙ c.if-offset-eq0.true)

pub returns : goal.returns
returns c =
    raised_candidate c.requires.0 c.args.addr (λ e. c.if-offset-eq0.false (c.offset.ensures ∙ e)) c.align_up.ensures
