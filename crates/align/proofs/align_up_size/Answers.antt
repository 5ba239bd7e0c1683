-- `align::align_up_size` meets its contract: what rounds `size + (align - 1)` down rounds `size` up. Assumes nothing.
use Rattle.rules.proofs.Multiples.{below_above}
use Rattle.rules.proofs.Powers.{power_pos}
use Rattle.align.proofs.align_up_size.Goals as goal

pub returns : goal.returns
returns c = below_above (power_pos c.requires.0) c.align_down_size.ensures
