-- The demands, gathered: the statements of the calls, that they leave nothing open and no room for a fraud, those of runs, the table, and
-- that the premises can be met. The proofs are held to these types in proofs/Demands.antt, whose one value of `Demands` the gate checks.
use Rattle.rules.specs.Behaviour.{ours}
use Rattle.rules.specs.Statements.{Statements, Determined, FollowsFromCalls, SideBySide, NeverUnsound, HeldTile, HeldIsFreed, HeldUntouched, NothingLoose}
use Rattle.demands.specs.Frauds.{Frauds}
use Rattle.demands.specs.LeftOut.{Merges, Harmless}
use Rattle.demands.specs.Weighed.{Weighed}
use Rattle.demands.specs.Premises.{Met}

pub record Demands : Type 0 where
  pub calls : Statements ours
  pub determined : Determined
  pub frauds : Frauds
  pub follows_from_calls : FollowsFromCalls
  pub side_by_side : SideBySide
  pub never_unsound : NeverUnsound
  pub held_tile : HeldTile
  pub held_is_freed : HeldIsFreed
  pub held_untouched : HeldUntouched
  pub nothing_loose : NothingLoose
  pub merges : Merges
  pub harmless : Harmless
  pub weighed : Weighed
  pub met : Met
