-- The stages of a trial: what happened so far, as it follows step by step from the number that it starts with. All
-- happens at moment 0, at manager 1 (own rule, docs/FORMATS.md, "The trial").
use Rattle.std.specs.Option.{option_map_or}
use Rattle.std.specs.Prelude.{Err, List, None, Ok, Option, Result, Some, [], if◌then◌else◌, length}
use Rattle.std.specs.Prelude.{nat_lt, option_and_then, option_map, reverse, suc, zero, ℕ, ◌+◌, ◌++◌, ◌∷◌}
use Rattle.change_planner.specs.Tags.{act_of}
use Rattle.grant_desk.specs.GrantAll.{answer_to}
use Rattle.http_wire.specs.declared.request.Request.{Request}
use Rattle.lcm_api.specs.Outcome.{outcome}
use Rattle.lcm_api.specs.Planning.{Outcome}
use Rattle.lcm_events.specs.Same.{same_tag}
use Rattle.lcm_events.specs.declared.attempts.Tag.{Tag}
use Rattle.lcm_events.specs.declared.descriptor.Vnfd.{Vnfd}
use Rattle.lcm_events.specs.declared.events.Event.{Event}
use Rattle.lcm_events.specs.declared.events.EventKind.TheVariants.{Onboarded}
use Rattle.lcm_events.specs.declared.states.Role.TheVariants.{Orchestrator}
use Rattle.lcm_model.specs.Next.{next_action}
use Rattle.lcm_model.specs.declared.actions.Action.{Action}
use Rattle.lcm_model.specs.declared.actions.Action.TheVariants.{AskForGrant, Begin, Look, MoveTo}
use Rattle.occ_table.specs.Going.{active}
use Rattle.occ_work.specs.Deeds.{Deed, Exchange, asked, began, looked, nothing, once_done}
use Rattle.occ_work.specs.Requests.{grant_request}
use Rattle.site_traits.specs.KeptJobs.{resource_name}
use Rattle.site_traits.specs.declared.jobs.BeginAnswer.TheVariants as begin
use Rattle.site_traits.specs.declared.jobs.LookAnswer.TheVariants.{Done}
use Rattle.site_traits.specs.declared.orchestrator.Call.TheVariants.{Came}
use Rattle.trial_outside.specs.Planned.{planned}
use Rattle.vnfd_document.specs.declared.fault.VnfdFault.{VnfdFault}
use Rattle.vnfd_reader.specs.Answer.{answer}
use Rattle.lcm_trial.specs.Requests.{draw_over, request_of}
use Rattle.lcm_trial.specs.declared.descriptor.TheConstants.{DESCRIPTOR}
use Rattle.lcm_trial.specs.declared.requests.Draw.{Draw}

-- what happened so far: the number that was drawn last, the history, the attempts whose jobs were taken, the latest
-- first, how many begins and how many grants were answered, how many requests were made, and how many of them were
-- accepted
pub record Stage : Type 0 where
  pub drawn : ℕ
  pub history : List Event
  pub jobs : List Tag
  pub begins : ℕ
  pub grants : ℕ
  pub requests : ℕ
  pub accepted : ℕ

-- the history in which a descriptor was onboarded, where one was read
abbrev pub history_with : Result Vnfd VnfdFault → List Event
history_with (Ok d) = record { moment = 0; kind = Onboarded d } ∷ []
history_with (Err why) = []

-- the history of a trial before its first step: its descriptor was onboarded
unfoldable pub first_history : List Event
first_history = history_with (answer DESCRIPTOR.now)

-- before the first step of a trial of this start
unfoldable pub first_stage : ℕ → Stage
first_stage start = record {
  drawn = start;
  history = first_history;
  jobs = [];
  begins = 0;
  grants = 0;
  requests = 0;
  accepted = 0;
}

-- the place of the job of an attempt among those that were taken, from 1, the oldest first: that of its latest job
abbrev pub place_of : Tag → List Tag → Option ℕ
place_of t [] = None
place_of t (u ∷ earlier) = if same_tag t u then Some (length earlier + 1) else place_of t earlier

-- what is exchanged for the next action of an occurrence: a grant request is answered by what is granted for it, a
-- begin by its place among all begins, and a look finds the job done. An action of another kind never comes.
abbrev pub exchange_at : Stage → ℕ → Action → Option Exchange
exchange_at s o (MoveTo to) = Some nothing
exchange_at s o AskForGrant =
    option_and_then (λ body. option_map (asked body Came) (answer_to s.grants body)) (grant_request 1 s.history o)
exchange_at s o (Begin t) = option_map (λ work. began t work (planned (s.begins + 1))) (act_of s.history t)
exchange_at s o (Look t) = option_map (λ place. looked t (Done (resource_name place))) (place_of t s.jobs)
exchange_at s o _ = None

-- what is done for an occurrence that has a next action
abbrev pub deed_with : ℕ → Action → Exchange → Deed
deed_with o action x = record { occ = o; action = action; exchange = x }

abbrev pub deed_at : Stage → ℕ → Option Deed
deed_at s o =
    option_and_then (λ action. option_map (deed_with o action) (exchange_at s o action)) (next_action s.history o)

-- the attempts whose jobs were taken, after an exchange
abbrev pub jobs_after : Exchange → List Tag → List Tag
jobs_after (began t work begin.Begun) ts = t ∷ ts
jobs_after _ ts = ts

-- how many begins, and how many grants, were answered after an exchange
abbrev pub begins_after : Exchange → ℕ → ℕ
begins_after (began t work answer) n = n + 1
begins_after _ n = n

abbrev pub grants_after : Exchange → ℕ → ℕ
grants_after (asked body ended heard) n = n + 1
grants_after _ n = n

-- once this was done
unfoldable pub done_at : Stage → Deed → Stage
done_at s d = record s {
  history = once_done 0 s.history d;
  jobs = jobs_after d.exchange s.jobs;
  begins =
      begins_after d.exchange s.begins;
  grants = grants_after d.exchange s.grants;
}

-- once the next action of an occurrence was done, where it has one
unfoldable pub acted : ℕ → Stage → Stage
acted o s = option_map_or (done_at s) (deed_at s o) s

-- once the next actions of these occurrences were done, the last of them first
unfoldable pub all_acted : List ℕ → Stage → Stage
all_acted [] s = s
all_acted (o ∷ before) s = acted o (all_acted before s)

-- once a turn was made: one action of each occurrence that is active, in the order of their numbers
unfoldable pub turned : Stage → Stage
turned s = all_acted (reverse (active s.history)) s

-- one more where the status is one of success
abbrev pub accepted_with : ℕ → ℕ → ℕ
accepted_with status n = if nat_lt status 400 then n + 1 else n

-- once a request came to this
abbrev pub come_to : Stage → Outcome → Stage
come_to s o = record s {
  history = o.after ++ s.history;
  requests = s.requests + 1;
  accepted = accepted_with o.reply.status s.accepted;
}

-- once the orchestrator made this request
unfoldable pub requested : Stage → Request → Stage
requested s r = come_to s (outcome 1 0 s.history 0 Orchestrator r)

-- once a step drew this, and its request was made, where there is one
abbrev pub asked_with : Stage → Draw → Stage
asked_with s d =
    option_map_or (requested (record s { drawn = d.drawn })) (request_of d.wish s.history d.chosen)
    (record s { drawn = d.drawn })

unfoldable pub asked_of : Stage → Stage
asked_of s = asked_with s (draw_over s.history s.drawn)

-- once a step was made: its request, and three turns
unfoldable pub stepped : Stage → Stage
stepped s = turned (turned (turned (asked_of s)))

-- once so many steps of a trial of this start were made
unfoldable pub stage_after : ℕ → ℕ → Stage
stage_after start zero = first_stage start
stage_after start (suc k) = stepped (stage_after start k)
