-- `walk::to_end::add_up` meets its contract: the test of the sum decides. Assumes nothing.
use Rattle.std.proofs.Common.{sym, ◌∙◌}
use Rattle.walk.specs.Walk.{or_5}
use Rattle.walk.proofs.to_end.add_up.Goals as goal

pub returns-then-is_all_free : goal.returns-then-is_all_free
unfolding or_5
returns-then-is_all_free c = rw (sym c.is_all_free.ensures ∙ c.if-is_all_free.true)

pub returns : goal.returns
unfolding or_5
returns c = rw (sym c.is_all_free.ensures ∙ c.if-is_all_free.false)
