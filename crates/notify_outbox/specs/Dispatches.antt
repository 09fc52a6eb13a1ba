-- Which notice is posted next to a subscription, what its body says, and what its post records (SOL 003 5.4.20,
-- Notification endpoint). A history has the latest event first.
use Rattle.std.specs.Prelude.{List, None, Option, Some, if◌then◌else◌, option_and_then, option_map, ℕ, ◌==◌, ◌∷◌}
use Rattle.executor.specs.Reading.{event_in}
use Rattle.lcm_events.specs.declared.events.Event.{Event}
use Rattle.lcm_events.specs.declared.events.EventKind.{EventKind}
use Rattle.lcm_events.specs.declared.events.EventKind.TheVariants.{Asked, Created, Deleted, Moved, Posted}
use Rattle.lcm_events.specs.declared.events.Operation.{Operation}
use Rattle.lcm_events.specs.declared.events.PostOutcome.{PostOutcome}
use Rattle.lcm_events.specs.declared.events.PostOutcome.TheVariants.{Delivered, NotTaken}
use Rattle.lcm_events.specs.declared.states.OpState.{OpState}
use Rattle.lcm_events.specs.declared.states.OpState.TheVariants.{Starting}
use Rattle.lcm_model.specs.Lives.{subscription}
use Rattle.lcm_model.specs.Operations.{kind_of, operation}
use Rattle.notice_views.specs.Notice.{notice_text}
use Rattle.notice_views.specs.declared.notices.Notice.{Notice}
use Rattle.notice_views.specs.declared.notices.Subject.{Subject}
use Rattle.notice_views.specs.declared.notices.Subject.TheVariants as about
use Rattle.site_traits.specs.declared.courier.PostAnswer.{PostAnswer}
use Rattle.site_traits.specs.declared.courier.PostAnswer.TheVariants as post

-- that an operation came into a state (SOL 003 5.5.2.17)
abbrev pub occurrence_subject : OpState → Operation → Subject
occurrence_subject at a = about.Occurrence a.occ a.instance (kind_of a.ask) at

-- what the notice of an event is about, where the event makes one (SOL 003 5.5.2.17 to 5.5.2.19)
abbrev pub subject_of : List Event → EventKind → Option Subject
subject_of H (Created instance vnfd name text) = Some (about.Creation instance)
subject_of H (Deleted instance) = Some (about.Deletion instance)
subject_of H (Asked a) = Some (occurrence_subject Starting a)
subject_of H (Moved o to) = option_map (occurrence_subject to) (operation H o)
subject_of H _ = None

-- the notice of the event at this place to a subscription of manager m (SOL 003 5.5.2.17 to 5.5.2.19)
abbrev pub notice_of : ℕ → List Event → ℕ → ℕ → Event → Option Notice
notice_of m H s place e =
    option_map (λ x. record { manager = m; subscription = s; place = place; moment = e.moment; subject = x })
    (subject_of H e.kind)

-- the body of the notice of the event at this place of a history (SOL 003 5.4.20)
abbrev pub body_at : ℕ → List Event → ℕ → ℕ → Option (List ℕ)
body_at m H s place = option_map notice_text (option_and_then (notice_of m H s place) (event_in H place))

-- where the notices of a subscription go (SOL 003 5.5.2.16, callbackUri)
abbrev pub callback : List Event → ℕ → Option (List ℕ)
callback H s = option_map (λ x. x.callback) (subscription H s)

-- that a notice was posted: to which subscription, the place of its event, and what was answered
pub record Dispatch : Type 0 where
  pub subscription : ℕ
  pub place : ℕ
  pub answer : PostAnswer

-- the receiver took the notice exactly where it answered 204 (SOL 003 5.4.20.3.1)
abbrev pub outcome_of : PostAnswer → PostOutcome
outcome_of (post.Status status) = if status == 204 then Delivered else NotTaken
outcome_of post.Failed = NotTaken

-- the event that a notice was posted, at this moment (own rule)
abbrev pub posted_event : ℕ → ℕ → ℕ → PostOutcome → Event
posted_event now s place outcome = record { moment = now; kind = Posted s place outcome }

-- the history once a dispatch was recorded at this moment
abbrev pub once_dispatched : ℕ → List Event → Dispatch → List Event
once_dispatched now H p = posted_event now p.subscription p.place (outcome_of p.answer) ∷ H
