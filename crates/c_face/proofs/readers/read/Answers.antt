-- `c_face::readers::read` meets its contract: it is `numbers::read` on the heap that the words say. Assumes nothing.
use Rattle.c_face.proofs.readers.read.Goals as goal

pub returns : goal.returns
returns c = rw (← c.load.ensures) c.read.ensures
