-- An orchestrator in memory.
use Rattle.std.specs.Prelude.{◌≡◌, ◌↔◌, ℕ, List, length, IsSome}
use Rattle.site_traits.specs.Counts.{CallCounts, one_more}
use Rattle.site_traits.specs.Log.{Recorded, HasRoom, SameRoom, empty}
use Rattle.site_traits.specs.Peers.{OrchestratorState}
use Rattle.site_traits.specs.MemPeers.{answers_of, bytes_of, next_answer, place_after}
use Rattle.site_traits.specs.declared.orchestrator.Call.{Call}
use Rattle.site_traits.specs.declared.orchestrator.Call.TheVariants as call
use Rattle.site_traits.specs.declared.mem_orchestrator.GrantPlan.{GrantPlan}
use Rattle.site_traits.specs.declared.mem_orchestrator.MemOrchestrator.{MemOrchestrator}

-- what an orchestrator in memory tells
abbrev pub state_of : MemOrchestrator → OrchestratorState
state_of o = record {
  answers = answers_of o.plans.items o.next;
  asked = bytes_of o.asked.calls;
  polled =
      bytes_of o.polled.calls;
}

-- how often it was called, and how often that failed
abbrev pub counts_of : MemOrchestrator → CallCounts
counts_of o = record { calls = o.calls; faults = o.faults }

-- it has this plan, no call was made, and there is room for 1,048,576 calls and 64 MiB of each kind (own rule)
pub record IsNewOrchestrator (plans : List GrantPlan) (o : MemOrchestrator) : Type 0 where
  pub plans_are : o.plans.items ≡ plans
  pub next : o.next ≡ 0
  pub asked : o.asked ≡ empty 1048576 67108864
  pub polled : o.polled ≡ empty 1048576 67108864
  pub calls : o.calls ≡ 0
  pub faults : o.faults ≡ 0

-- the count of faults after a call
abbrev pub faults_after : Call → ℕ → ℕ
faults_after call.Failed faults = one_more faults
faults_after call.Came faults = faults

-- A call with these bytes is answered exactly where the plan has an answer and its record has room; its plan is used,
-- and its fault is counted (own rule).
pub record RunsCall (bytes : List ℕ) (result : Call) (before after : Recorded (Unit {0}))
    (old new : MemOrchestrator) : Type 0 where
  pub served : (result ≡ call.Came) ↔ (IsSome (next_answer old.plans.items old.next) × HasRoom (length bytes) before)
  pub plans : new.plans.items ≡ old.plans.items
  pub place : new.next ≡ place_after result (next_answer old.plans.items old.next) old.next (length old.plans.items)
  pub room : SameRoom before after
  pub faults : new.faults ≡ faults_after result old.faults
