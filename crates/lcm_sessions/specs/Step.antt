-- One step of a session: a request is answered and the session goes on, or it ends.
use Rattle.std.specs.Prelude.{◌≡◌, ◌<◌, ◌≤◌, ℕ, true, false, List, [], ◌∷◌, ◌++◌, Some, None, Result, Ok, Err}
use Rattle.std.specs.Prelude.{if◌then◌else◌}
use Rattle.std.specs.Result.{is_ok, is_err}
use Rattle.std.specs.declared.alloc.AllocError.{AllocError}
use Rattle.executor.specs.Chain.{AreTold}
use Rattle.executor.specs.Managed.{Managed}
use Rattle.executor.specs.Work.{Works}
use Rattle.http_wire.specs.declared.TheConstants.{CONNECTION_REQUESTS}
use Rattle.http_wire.specs.declared.request.Request.{Request}
use Rattle.lcm_mouth.specs.Mouth.{MouthState, OnlyAtDoor}
use Rattle.lcm_replies.specs.Replies.{starved}
use Rattle.lcm_replies.specs.Response.{text}
use Rattle.lcm_replies.specs.Failing.{FailsOnce}
use Rattle.lcm_replies.specs.Telling.{WorldTells}
use Rattle.lcm_replies.specs.declared.door.DoorFailed.{DoorFailed}
use Rattle.lcm_replies.specs.declared.reply.Reply.{Reply}
use Rattle.lcm_sessions.specs.Session.{Ask, Closing, Talk, life, once_answered, replies, said, taken_by, told_last}
use Rattle.lcm_sessions.specs.Session.{behind_told, breaks, counts_behind, work_of}
use Rattle.lcm_mouth.specs.World as outside
use Rattle.lcm_mouth.specs.World.{World}
use Rattle.lcm_sessions.specs.Talking.{Converses, Ends, GaveAll, SaysLast}
use Rattle.lcm_sessions.specs.declared.session.Step.{Step}
use Rattle.lcm_sessions.specs.declared.session.Step.TheVariants as step
use Rattle.lcm_events.specs.declared.events.Event.{Event}
use Rattle.lcm_events.specs.declared.states.Role.{Role}
use Rattle.site_traits.specs.Door.{DoorState, NoNextFault}

-- the talk of one request whose reply was told whole
abbrev pub answered_one : Role → Ask → Talk
answered_one role x = record { role = role; asks = x ∷ []; end = None }

-- the talk of an end alone
abbrev pub ended_so : Role → Closing → Talk
ended_so role end = record { role = role; asks = []; end = Some end }

-- what a step was, by what it answers
abbrev pub IsStep : Role → Talk → Step → Type 0
IsStep role talk step.Told = (x : Ask) × (talk ≡ answered_one role x)
IsStep role talk step.ToldLast = (end : Closing) × (talk ≡ ended_so role end) × (told_last (Some end) ≡ 1)
    × (breaks (Some end) ≡ false)
IsStep role talk step.Over = (end : Closing) × (talk ≡ ended_so role end) × (told_last (Some end) ≡ 0)
    × (breaks (Some end) ≡ false)
IsStep role talk step.Broken = (end : Closing) × (talk ≡ ended_so role end) × (breaks (Some end) ≡ true)

-- nothing came in, and what is said went out
pub record Replies (m saved : ℕ) (H : List Event) (talk : Talk) (a b : DoorState) : Type 0 where
  pub final : List ℕ
  pub final_is : SaysLast m saved (life (once_answered m saved) H talk.asks) talk.end final
  pub door : Converses [] (said (replies m saved H talk.asks) ++ final) a b

-- what answering the request in hand does; the journal saves as much as before
pub record Responds (t : outside.WorldTells) (m saved : ℕ) (H : List Event) (talk : Talk) (n : Managed)
    (w v : World) : Type 0 where
  pub works : Works t.site m H (work_of m saved H talk) n w.site v.site
  pub saves : n.ledger.saved ≡ saved
  pub replies : t.door → Replies m saved H talk w.mouth.wire.intake.door v.mouth.wire.intake.door
  pub clock : t.clock → GaveAll (taken_by talk) w.clock v.clock
  pub ends : Ends t.door talk.end w.mouth.wire v.mouth.wire
  pub faults : v.mouth.wire.intake.counts ≡ counts_behind talk.end w.mouth.wire.intake.counts
  pub kept : OnlyAtDoor w.mouth v.mouth
  pub counts : NoNextFault w.mouth.wire.intake.counts v.mouth.wire.intake.counts
  pub told : AreTold t.site m (behind_told m saved H talk) w.mouth.told v.mouth.told w.site v.site

-- the talk is about this request, which was taken for its role
pub record IsAbout (r : Request) (talk : Talk) : Type 0 where
  pub value : ℕ
  pub is : taken_by talk ≡ record { role = talk.role; request = r; value = value } ∷ []

-- behind a step in which a request was answered one more was taken, and no more than a connection may have
pub record GoesOn (answer : Step) (old new : MouthState) : Type 0 where
  pub more : answer ≡ step.Told → old.wire.taken < new.wire.taken
  pub few : new.wire.taken ≤ CONNECTION_REQUESTS

-- the reply that was made, or 503 where there was no memory for it
abbrev pub IsOrStarved : Result Reply AllocError → Reply → Type 0
IsOrStarved (Ok made) reply = reply ≡ made
IsOrStarved (Err e) reply = reply ≡ starved

-- The reply was told at the end of a session, and the answer says whether it was told whole.
pub record TellsLast (tells : Type 0) (reply : Reply) (answer : Step) (a b : MouthState) : Type 0 where
  pub result : Result (Unit {0}) DoorFailed
  pub is : answer ≡ (if is_ok result then step.ToldLast else step.Over)
  pub told : tells → WorldTells (text reply) result a.wire.intake.door b.wire.intake.door
  pub cause : FailsOnce (is_err result) a.wire.intake.counts b.wire.intake.counts
