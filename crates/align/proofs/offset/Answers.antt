-- `align::offset` meets its contract: the mask below a power of two takes the remainder. Assumes nothing.
use Rattle.rules.proofs.Powers.{mask}
use Rattle.align.proofs.offset.Goals as goal

pub returns : goal.returns
returns c = mask c.args.x c.requires
