-- `extend::growth::gather` meets its contract: nothing is written. Assumes nothing.
use Rattle.extend.proofs.growth.gather.Goals as goal

pub returns : goal.returns
returns c = rw c.fair_size.ensures
