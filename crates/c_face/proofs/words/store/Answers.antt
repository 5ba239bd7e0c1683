-- `c_face::words::store` meets its contract: the words written are those of the heap, in order. Assumes nothing.
use mathlib.Core.Path.{refl}
use Rattle.c_face.proofs.words.store.Goals as goal

pub returns : goal.returns
returns c = refl
