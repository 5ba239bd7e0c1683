-- `allocate::split::relink` meets its contract: its arms are the cases of the definition. Assumes nothing.
use Rattle.std.proofs.Common.{◌∙◌}
use Rattle.allocate.specs.Granted.{split_to}
use Rattle.allocate.proofs.split.relink.Goals as goal

pub returns-in-None : goal.returns-in-None
unfolding split_to
returns-in-None c = c.link.ensures ∙ rw c.in-None.is

pub returns-in-Some : goal.returns-in-Some
unfolding split_to
returns-in-Some c = rw c.in-Some.is
