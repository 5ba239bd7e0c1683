-- `walk::to_span::neighbours` meets its contract: at each turn cursor and sum are those of the holes passed, and the floor rises.
-- Assumes nothing.
use Prim.Native.Nat.{ℕ, ◌+◌, ◌-◌}
use Rattle.rules.specs.Fixed.{min_size}
use Rattle.walk.specs.Walk.{is_beyond}
use Rattle.walk.proofs.Gathered.{Seeking}
use Rattle.walk.proofs.to_span.neighbours.Given as goal

abbrev pub invariant-loop-step : goal.invariant-loop-step
invariant-loop-step l = (count : ℕ) × Seeking (is_beyond l.addr) l.loan.heap l.loan.arena.now l.cursor l.floor l.total count

abbrev pub decreases-loop-step : goal.decreases-loop-step
decreases-loop-step l = l.loan.heap.top.0 + min_size - l.floor.0
