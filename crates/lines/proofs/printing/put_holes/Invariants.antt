-- `lines::printing::put_holes` meets its contract: so many lines are written, and the bytes behind them stay. Assumes nothing.
use Rattle.std.proofs.Common.{length}
use Rattle.lines.proofs.FromRows.{Written}
use Rattle.lines.proofs.printing.put_holes.Given as goal

abbrev pub invariant-loop-i : goal.invariant-loop-i
invariant-loop-i l = Written (length l.yielded) l.addrs l.sizes l.initial.out l.out
