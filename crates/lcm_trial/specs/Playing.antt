-- What the parts of a trial are at a stage of it.
use Rattle.std.specs.Prelude.{List, Err, Ok, Result, false, length, map, true, ℕ, ◌≡◌}
use Rattle.executor.specs.Managed.{IsReady}
use Rattle.lcm_events.specs.declared.events.Event.{Event}
use Rattle.lcm_model.specs.Allowed.{IsLegal}
use Rattle.occ_table.specs.Rows.{StandsFor}
use Rattle.occ_table.specs.declared.rows.OccRow.{OccRow}
use Rattle.occ_work.specs.Around.{Around}
use Rattle.trial_outside.specs.TrialOrchestrator as peer
use Rattle.trial_outside.specs.TrialSite as site
use Rattle.trial_outside.specs.declared.orchestrator.TrialOrchestrator.{TrialOrchestrator}
use Rattle.trial_outside.specs.declared.site.TrialSite.{TrialSite}
use Rattle.lcm_trial.specs.Stages.{Stage}
use Rattle.lcm_trial.specs.Trial.{is_full_at}
use Rattle.lcm_trial.specs.declared.counts.TrialFault.{TrialFault}
use Rattle.lcm_trial.specs.declared.counts.TrialFault.TheVariants as fault
use Rattle.lcm_trial.specs.declared.trial.Trial.{Trial}

-- the rows are those of a legal history
pub record AreOfLegal (rs : List OccRow) : Type 0 where
  pub manager : ℕ
  pub history : List Event
  pub legal : IsLegal manager history
  pub stands : StandsFor rs history

-- what the outside tells is that of this stage: the attempts of its jobs, and how often begins and asks were answered
pub record IsAround (s : Stage) (a : Around) : Type 0 where
  pub jobs : map (λ j. j.tag) a.infrastructure.jobs ≡ s.jobs
  pub begins : length a.infrastructure.answers.begins ≡ s.begins
  pub grants : length a.orchestrator.state.answers ≡ s.grants

-- what is around the manager of a trial
abbrev pub outside_of : TrialSite → TrialOrchestrator → Around
outside_of s o = record {
  orchestrator = record { state = peer.state_of o; counts = peer.counts_of o };
  infrastructure =
      record { jobs = (site.state_of s).jobs; answers = (site.state_of s).answers; counts = site.counts_of s };
}

-- the manager of a trial and what is around it are at this stage
pub record IsAt (s : Stage) (t : Trial) : Type 0 where
  pub number : t.manager.ledger.manager ≡ 1
  pub saved : t.manager.ledger.saved ≡ 0
  pub ready : IsReady (Unit {0}) t.manager s.history (site.state_of t.site)
  pub around : IsAround s (outside_of t.site t.orchestrator)
  pub drawn : t.drawn ≡ s.drawn
  pub requests : t.requests ≡ s.requests
  pub accepted : t.accepted ≡ s.accepted

-- what an answer tells of the room at this stage: there is some, or there is none
abbrev pub TellsRoom : Result (Unit {0}) TrialFault → Stage → Type 0
TellsRoom (Ok done) s = is_full_at s ≡ false
TellsRoom (Err fault.Room) s = is_full_at s ≡ true
TellsRoom (Err fault.Memory) s = Unit {0}
