-- `lines::printing::put_hex` meets its contract: the digits left to write, before those that are written, always give the digits wanted.
-- Assumes nothing.
use Rattle.std.proofs.Common.{◌≡◌, ◌++◌, length, drop}
use Rattle.lines.specs.Lines.{hex}
use Rattle.lines.proofs.printing.put_hex.Given as goal

abbrev pub invariant-loop-i : goal.invariant-loop-i
invariant-loop-i l = hex l.i l.rest ++ drop l.i l.out ≡ hex (length l.initial.out) l.x
