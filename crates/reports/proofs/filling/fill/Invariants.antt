-- `reports::filling::fill` meets its contract: at each turn the holes passed stand in both rows. Assumes nothing.
use Rattle.reports.proofs.Filled.{Filling}
use Rattle.reports.proofs.filling.fill.Given as goal

abbrev pub invariant-loop-i : goal.invariant-loop-i
invariant-loop-i l = Filling l.loan.heap l.loan.arena.now l.initial.addrs l.initial.sizes l.addrs l.sizes l.at l.floor l.i
