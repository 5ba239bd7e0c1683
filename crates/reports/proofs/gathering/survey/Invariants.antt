-- `reports::gathering::survey` meets its contract: at each turn sum, count and largest are those of the holes passed. Assumes nothing.
use mathlib.Core.Path.{◌≡◌}
use mathlib.Core.List.{List}
use Prim.Native.Nat.{◌+◌, ◌-◌}
use Rattle.rules.specs.Fixed.{min_size}
use Rattle.rules.specs.Allocate.{largest_grant}
use Rattle.rules.specs.declared.Hole.{Hole}
use Rattle.walk.specs.Walk.{never}
use Rattle.walk.proofs.Gathered.{Counting}
use Rattle.reports.proofs.gathering.survey.Given as goal

abbrev pub invariant-loop-step : goal.invariant-loop-step
invariant-loop-step l =
    (front : List Hole) × Counting never l.loan.heap l.loan.arena.now l.at l.floor l.total l.count front ×
    (l.largest ≡ largest_grant l.layout.align front)

abbrev pub decreases-loop-step : goal.decreases-loop-step
decreases-loop-step l = l.loan.heap.top.0 + min_size - l.floor.0
