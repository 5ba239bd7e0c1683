-- `lines::printing::put_hex` meets its contract: the digits left to write, before those that are written, always give the digits wanted.
-- Assumes nothing.
use Rattle.std.proofs.Common.{◌∙◌, sym, arith}
use Rattle.lines.proofs.Placed.{hex_on, hex_off}
use Rattle.lines.proofs.printing.put_hex.Goals as goal

pub loop-i-preserved : goal.loop-i-preserved
loop-i-preserved c =
    let s = c.loop-i in
    rw c.glyph_of.ensures (hex_on s.i s.rest s.out (omega arith) (omega arith) ∙ s.invariant)

pub returns : goal.returns
returns c = let s = c.loop-i in sym (hex_off s.i s.rest s.out (omega arith)) ∙ s.invariant
