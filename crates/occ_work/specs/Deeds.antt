-- What is done for an occurrence at one time: its next action, what is exchanged with the orchestrator or the
-- infrastructure, and what that appends (own rule over SOL 003 5.6.2, 9.4.2, Grants, and 9.4.3, Individual grant).
use Rattle.std.specs.Prelude.{Bool, List, map, Some, false, if◌then◌else◌, true, ℕ, ◌≡◌, ◌⊎◌, Result, Err}
use Rattle.change_planner.specs.Tags.{act_of}
use Rattle.executor.specs.declared.manager.WorkFault.{WorkFault}
use Rattle.executor.specs.declared.manager.WorkFault.TheVariants as fault
use Rattle.grant_desk.specs.Answers.{answer_of}
use Rattle.grant_desk.specs.declared.answers.GrantAnswer.{GrantAnswer}
use Rattle.grant_desk.specs.declared.answers.GrantAnswer.TheVariants as says
use Rattle.lcm_events.specs.declared.acts.Act.{Act}
use Rattle.lcm_events.specs.declared.attempts.Tag.{Tag}
use Rattle.lcm_events.specs.declared.changes.Change.{Change}
use Rattle.lcm_events.specs.declared.events.Event.{Event}
use Rattle.lcm_events.specs.declared.events.EventKind.{EventKind}
use Rattle.lcm_laws.specs.Acting.{with_events}
use Rattle.lcm_model.specs.Attempts.{open_of}
use Rattle.lcm_model.specs.Grants.{covers, granted_places, granted_spots, location}
use Rattle.lcm_model.specs.Next.{Answer, BeginFailed, BeginRefused, BeginTaken, GrantCame, GrantDenied, GrantLater}
use Rattle.lcm_model.specs.Next.{GrantMissesSome, GrantTrouble, LookFailed, LookedAbsent, LookedAborted, LookedBroken}
use Rattle.lcm_model.specs.Next.{LookedDone, LookedRunning, appended, next_action}
use Rattle.lcm_model.specs.Operations.{changes}
use Rattle.lcm_model.specs.declared.actions.Action.{Action}
use Rattle.lcm_model.specs.declared.actions.Action.TheVariants.{AbortAndLook, AskForGrant, Begin, Look, MoveTo, Poll}
use Rattle.site_traits.specs.Answer.{Answer as Heard}
use Rattle.site_traits.specs.declared.jobs.AbortAnswer.{AbortAnswer}
use Rattle.site_traits.specs.declared.jobs.BeginAnswer.{BeginAnswer}
use Rattle.site_traits.specs.declared.jobs.BeginAnswer.TheVariants as begin
use Rattle.site_traits.specs.declared.jobs.LookAnswer.{LookAnswer}
use Rattle.site_traits.specs.declared.jobs.LookAnswer.TheVariants as look
use Rattle.site_traits.specs.declared.orchestrator.Call.{Call}
use Rattle.site_traits.specs.declared.orchestrator.Call.TheVariants as call
use Rattle.occ_work.specs.Requests.{grant_request}
use Rattle.occ_work.specs.declared.ends.Acted.{Acted}
use Rattle.occ_work.specs.declared.ends.Acted.TheVariants.{Recorded, Unreached, Waiting}

-- where work is taken up: the manager's number, how many bytes its journal saves, the moment, and the history, the
-- latest event first
pub record Point : Type 0 where
  pub manager : ℕ
  pub saved : ℕ
  pub moment : ℕ
  pub history : List Event

abbrev pub point : ℕ → ℕ → ℕ → List Event → Point
point m saved now H = record { manager = m; saved = saved; moment = now; history = H }

-- What was exchanged: nothing; with the orchestrator, a grant request with this body, or a poll of this location, how
-- the call ended and what was heard; with the infrastructure, the begin of an attempt's job with this work, a look at
-- an attempt's job, or aborts of attempts' jobs, the latest first, and then a look at one, and what was answered.
pub data Exchange : Type 0 where
  nothing : Exchange
  asked : List ℕ → Call → Heard → Exchange
  polled : List ℕ → Call → Heard → Exchange
  began : Tag → Act → BeginAnswer → Exchange
  looked : Tag → LookAnswer → Exchange
  aborted : List (Tag × AbortAnswer) → Tag → LookAnswer → Exchange

-- what was done for an occurrence: its action, and what was exchanged for it
pub record Deed : Type 0 where
  pub occ : ℕ
  pub action : Action
  pub exchange : Exchange

-- what a grant answer comes to for these changes: a grant covers them or not (SOL 003 9.5.2.3)
abbrev pub answer_with : List Change → GrantAnswer → Answer
answer_with xs (says.Granted rows) =
    if covers xs rows.add rows.remove rows.update
    then GrantCame rows.grant (granted_places xs rows.add rows.remove rows.update)
    (granted_spots xs rows.add rows.remove rows.update)
    else GrantMissesSome
answer_with xs (says.Later at) = GrantLater at
answer_with xs says.Denied = GrantDenied
answer_with xs says.Trouble = GrantTrouble

-- what was answered to an ask, or else to a poll, for these changes: a call that failed is trouble (SOL 003 9.4.2,
-- 9.4.3)
abbrev pub answer_heard : Bool → List Change → Call → Heard → Answer
answer_heard asking xs call.Came heard = answer_with xs (answer_of asking heard)
answer_heard asking xs call.Failed heard = GrantTrouble

-- what an answer to a begin comes to (own rule)
abbrev pub answer_begun : BeginAnswer → Answer
answer_begun begin.Begun = BeginTaken
answer_begun (begin.Refused code) = BeginRefused code
answer_begun begin.Failed = BeginFailed

-- what an answer to a look comes to (own rule)
abbrev pub answer_looked : LookAnswer → Answer
answer_looked look.Absent = LookedAbsent
answer_looked look.Running = LookedRunning
answer_looked (look.Done name) = LookedDone name
answer_looked (look.Broken code) = LookedBroken code
answer_looked look.Aborted = LookedAborted
answer_looked look.Failed = LookFailed

-- What was answered in an exchange, for these changes. Where there was none, all that there is to record is that an
-- attempt is to begin, which is recorded before the infrastructure is asked.
abbrev pub answer_in : List Change → Exchange → Answer
answer_in xs nothing = BeginTaken
answer_in xs (asked body ended heard) = answer_heard true xs ended heard
answer_in xs (polled at ended heard) = answer_heard false xs ended heard
answer_in xs (began t work answer) = answer_begun answer
answer_in xs (looked t answer) = answer_looked answer
answer_in xs (aborted aborts t answer) = answer_looked answer

-- the first open attempt is looked at, or all are aborted and then it is looked at (own rule)
abbrev pub look_at : Bool → Tag → Action
look_at true t = AbortAndLook t
look_at false t = Look t

-- what is exchanged for it: the aborts, the latest first, if there are to be any, and the look
abbrev pub look_exchange : Bool → List (Tag × AbortAnswer) → Tag → LookAnswer → Exchange
look_exchange true aborts t answer = aborted aborts t answer
look_exchange false aborts t answer = looked t answer

-- The exchange is that of the action of occurrence o, over history H of manager m: an ask has the body of its grant
-- request, a poll the location that was told, a begin its attempt with the work that the history gives it, a look the
-- attempt; and aborts are of all attempts of the occurrence that are open, one each, in the order of their intents,
-- behind which the first of them is looked at (SOL 003 9.4.2, 9.4.3; own rule).
abbrev pub IsExchangeOf : ℕ → List Event → ℕ → Action → Exchange → Type 0
IsExchangeOf m H o AskForGrant (asked body ended heard) = grant_request m H o ≡ Some body
IsExchangeOf m H o Poll (polled at ended heard) = location H o ≡ Some at
IsExchangeOf m H o (MoveTo to) nothing = Unit {0}
IsExchangeOf m H o (Begin t) (began tag work answer) = (tag ≡ t) × (act_of H t ≡ Some work)
IsExchangeOf m H o (Look t) (looked tag answer) = tag ≡ t
IsExchangeOf m H o (AbortAndLook t) (aborted aborts tag answer) = (tag ≡ t) × (map (λ a. a.0) aborts ≡ open_of H o)
IsExchangeOf m H o _ _ = ⊥

-- what was answered to a deed over history H
abbrev pub answered : List Event → Deed → Answer
answered H d = answer_in (changes H d.occ) d.exchange

-- the kinds of the events that a deed appends to history H, the latest first (own rule)
abbrev pub kinds_of : List Event → Deed → List EventKind
kinds_of H d = appended d.occ d.action (answered H d)

-- the history once the deed was done at this moment
abbrev pub once_done : ℕ → List Event → Deed → List Event
once_done now H d = with_events now (kinds_of H d) H

-- how an act ends by what was answered: it waits where a poll is told that the grant comes later still or a look that
-- the attempt runs, and nobody was reached where a look failed; else events were recorded (own rule)
abbrev pub ending : Action → Answer → Acted
ending Poll (GrantLater at) = Waiting
ending (Look t) LookedRunning = Waiting
ending (Look t) LookFailed = Unreached
ending (AbortAndLook t) LookedRunning = Waiting
ending (AbortAndLook t) LookFailed = Unreached
ending _ _ = Recorded

-- the deed is the next action of its occurrence with its exchange
pub record IsDeed (m : ℕ) (H : List Event) (d : Deed) : Type 0 where
  pub next : next_action H d.occ ≡ Some d.action
  pub exchange : IsExchangeOf m H d.occ d.action d.exchange

-- why nothing was exchanged for an action: a begin wasn't asked for, since its intent isn't safe; or there was no
-- memory
abbrev pub IsUnexchanged : Action → Exchange → Result Acted WorkFault → Type 0
IsUnexchanged (Begin t) nothing (Err why) = Unit {0}
IsUnexchanged action nothing (Err fault.Memory) = Unit {0}
IsUnexchanged action x result = ⊥

-- How an act may end behind its exchange: a begin that was taken has nothing left to record, and no memory is taken
-- behind a call of the infrastructure.
abbrev pub MayEnd : Exchange → Result Acted WorkFault → Type 0
MayEnd (began t work begin.Begun) (Err why) = ⊥
MayEnd (began t work answer) (Err fault.Memory) = ⊥
MayEnd (looked t answer) (Err fault.Memory) = ⊥
MayEnd (aborted aborts t answer) (Err fault.Memory) = ⊥
MayEnd x result = Unit {0}

-- the deed was tried: it is one, unless what is exchanged for it couldn't be
pub record IsTried (m : ℕ) (H : List Event) (d : Deed) (result : Result Acted WorkFault) : Type 0 where
  pub next : next_action H d.occ ≡ Some d.action
  pub exchange : IsExchangeOf m H d.occ d.action d.exchange ⊎ IsUnexchanged d.action d.exchange result
  pub ended : MayEnd d.exchange result
