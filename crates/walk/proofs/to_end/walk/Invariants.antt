-- `walk::to_end::walk` meets its contract: at each turn the sum is that of the holes passed, and the floor rises. Assumes nothing.
use Prim.Native.Nat.{◌+◌, ◌-◌}
use Rattle.rules.specs.Fixed.{min_size}
use Rattle.walk.proofs.ToEnd.{Summing}
use Rattle.walk.proofs.to_end.walk.Given as goal

abbrev pub invariant-loop-step : goal.invariant-loop-step
invariant-loop-step l = Summing l.loan.heap l.loan.arena.now l.initial.at l.initial.floor l.before l.at l.floor l.total

abbrev pub decreases-loop-step : goal.decreases-loop-step
decreases-loop-step l = l.loan.heap.top.0 + min_size - l.floor.0
