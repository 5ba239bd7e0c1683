-- `c_face::words::tell` meets its contract: the number is given and the two values are written. Assumes nothing.
use Rattle.c_face.proofs.words.tell.Goals as goal

pub returns : goal.returns
returns c = let e = c.from-t.ensures in (rw e, rw e)
