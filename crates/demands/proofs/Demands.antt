-- The demands hold: each proof at its statement. Assumes nothing.
use Rattle.demands.specs.Demands.{Demands}
use Rattle.demands.proofs.Weighed.{weighed}
use Rattle.demands.proofs.LeftOut.{merges, harmless}
use Rattle.rules.proofs.Unaltered.{nothing_loose}
use Rattle.rules.proofs.Statements.{statements}
use Rattle.demands.proofs.RunLaws.{follows_from_calls, never_unsound}
use Rattle.demands.proofs.TwoRuns.{side_by_side}
use Rattle.demands.proofs.HeldRuns.{held_tile, held_is_freed, held_untouched}
use Rattle.demands.proofs.Premises.{met}
use Rattle.demands.proofs.Determined.{determined}
use Rattle.demands.proofs.Frauds.{frauds}

pub demands : Demands
demands =
    record {
      calls = statements;
      determined = determined;
      frauds = frauds;
      follows_from_calls = follows_from_calls;
      side_by_side = side_by_side;
      never_unsound = never_unsound;
      held_tile = held_tile;
      held_is_freed = held_is_freed;
      held_untouched = held_untouched;
      nothing_loose = nothing_loose;
      merges = merges;
      harmless = harmless;
      weighed = weighed;
      met = met;
    }
