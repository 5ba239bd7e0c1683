-- `c_face::readers::lantern_bottom` meets its contract: the address that is read, as a number. Assumes nothing.
use mathlib.Core.Path.{ap}
use Rattle.rules.specs.Kinds.{number}
use Rattle.c_face.proofs.readers.lantern_bottom.Goals as goal

pub returns : goal.returns
returns c = ap number c.read.ensures.bottom
