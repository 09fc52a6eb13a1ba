-- What the orchestrator of a trial tells, and how it is at first.
use Rattle.std.specs.Prelude.{◌≡◌, []}
use Rattle.site_traits.specs.Counts.{CallCounts}
use Rattle.site_traits.specs.Peers.{OrchestratorState}
use Rattle.grant_desk.specs.GrantAll as grants
use Rattle.trial_outside.specs.declared.orchestrator.TrialOrchestrator.{TrialOrchestrator}

-- it tells what the orchestrator in it does
abbrev pub state_of : TrialOrchestrator → OrchestratorState
state_of o = grants.state_of o.inner

-- the counts are those of the orchestrator in it
abbrev pub counts_of : TrialOrchestrator → CallCounts
counts_of o = grants.counts_of o.inner

-- it was never called
pub record IsFreshOrchestrator (o : TrialOrchestrator) : Type 0 where
  pub answers : (state_of o).answers ≡ []
  pub asked : (state_of o).asked ≡ []
  pub polled : (state_of o).polled ≡ []
  pub counts : counts_of o ≡ record { calls = 0; faults = 0 }
