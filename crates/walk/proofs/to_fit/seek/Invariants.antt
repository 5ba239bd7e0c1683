-- `walk::to_fit::seek` meets its contract: at each turn cursor, sum and count are those of the holes passed, and the floor rises.
-- Assumes nothing.
use Prim.Native.Nat.{◌+◌, ◌-◌}
use Rattle.rules.specs.Fixed.{min_size}
use Rattle.rules.specs.Allocate.{suits}
use Rattle.walk.proofs.Gathered.{Seeking}
use Rattle.walk.proofs.to_fit.seek.Given as goal

abbrev pub invariant-loop-step : goal.invariant-loop-step
invariant-loop-step l = Seeking (suits l.layout.size l.layout.align) l.loan.heap l.loan.arena.now l.cursor l.floor l.total l.count

abbrev pub decreases-loop-step : goal.decreases-loop-step
decreases-loop-step l = l.loan.heap.top.0 + min_size - l.floor.0
