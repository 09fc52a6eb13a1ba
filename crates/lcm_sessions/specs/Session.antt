-- A session: the requests of one connection, answered one after the other, each over the history that those before it
-- left (RFC 9112 9.3, Persistence; 9.6, Tear-down; the order is an own rule).
use Rattle.std.specs.Prelude.{◌≡◌, ℕ, ◌+◌, Bool, true, false, List, [], ◌∷◌, ◌++◌, length, min, Option, Some, None}
use Rattle.std.specs.Prelude.{is_some, ◌&&◌, if◌then◌else◌, Result, Ok, Err}
use Rattle.std.specs.List.{AllByRecursion}
use Rattle.std.specs.Result.{is_ok, is_err}
use Rattle.executor.specs.Work.{Work, went, broke, stood}
use Rattle.http_wire.specs.declared.request.Request.{Request}
use Rattle.http_wire.specs.declared.request.WireFault.{WireFault}
use Rattle.http_wire.specs.declared.request.WireFault.TheVariants as fault
use Rattle.lcm_replies.specs.Failing.{counts_by}
use Rattle.lcm_api.specs.Outcome.{outcome}
use Rattle.lcm_api.specs.Planning.{Outcome}
use Rattle.lcm_replies.specs.Replies.{starved, faulted}
use Rattle.lcm_replies.specs.Response.{text}
use Rattle.lcm_replies.specs.declared.door.DoorFailed.{DoorFailed}
use Rattle.lcm_replies.specs.declared.reply.Reply.{Reply}
use Rattle.lcm_sessions.specs.declared.session.Closed.{Closed}
use Rattle.lcm_events.specs.declared.events.Event.{Event}
use Rattle.lcm_events.specs.declared.states.Role.{Role}
use Rattle.site_traits.specs.Door.{DoorCounts}

-- a request that was taken, for whom, and what the clock gave for it, in milliseconds
pub record Ask : Type 0 where
  pub role : Role
  pub request : Request
  pub value : ℕ

-- Why no more was answered: no request was left; the bytes that are left are none, for this cause, and this is told of
-- it; the reply to this request couldn't be told whole; there was no memory for it; the disk failed.
pub data Last : Type 0 where
  over : Last
  unheard : WireFault → Option Reply → Last
  untold : Ask → Last
  starving : Ask → Last
  breaking : Ask → Last

-- how a session ended, and whether what is told then was told whole
pub record Closing : Type 0 where
  pub last : Last
  pub told : Result (Unit {0}) DoorFailed

-- what became of a connection: whom it was served for, the requests whose replies were told whole, the latest first,
-- and how it ended, unless it goes on
pub record Talk : Type 0 where
  pub role : Role
  pub asks : List Ask
  pub end : Option Closing

-- the history once these steps were taken, the latest first, each behind those before it
abbrev pub life : {X : Type 0} → (List Event → X → List Event) → List Event → List X → List Event
life next H [] = H
life next H (x ∷ before) = next (life next H before) x

-- what a request comes to behind history H of manager m, whose journal saves so many bytes, for its role and at the
-- moment of the clock's value, which is the last of the year 9999 at most
abbrev pub outcome_of : ℕ → ℕ → List Event → Ask → Outcome
outcome_of m saved H x = outcome m saved H (min x.value 253402300799999) x.role x.request

-- the history once a request was answered
abbrev pub once_answered : ℕ → ℕ → List Event → Ask → List Event
once_answered m saved H x = (outcome_of m saved H x).after ++ H

-- the replies, the latest first, each to its request behind the history that those before it left
abbrev pub replies : ℕ → ℕ → List Event → List Ask → List Reply
replies m saved H [] = []
replies m saved H (x ∷ before) =
    (outcome_of m saved (life (once_answered m saved) H before) x).reply ∷ replies m saved H before

-- the bytes of these replies, the latest first, in the order in which they are told
abbrev pub said : List Reply → List ℕ
said [] = []
said (r ∷ before) = said before ++ text r

-- the request that the end is about, if it is about one
abbrev pub asked_last : Last → List Ask
asked_last over = []
asked_last (unheard cause reply) = []
asked_last (untold x) = x ∷ []
asked_last (starving x) = x ∷ []
asked_last (breaking x) = x ∷ []

abbrev pub asked_by : Option Closing → List Ask
asked_by None = []
asked_by (Some end) = asked_last end.last

-- each request was taken for this role
abbrev pub AreFor : Role → List Ask → Type 0
AreFor role asks = AllByRecursion (λ x. x.role ≡ role) asks

-- the requests that were taken, the latest first
abbrev pub taken_by : Talk → List Ask
taken_by talk = asked_by talk.end ++ talk.asks

-- what is told at the end, behind history H: 503 for want of memory, 500 where the disk failed
abbrev pub reply_last : ℕ → ℕ → List Event → Last → Option Reply
reply_last m saved H over = None
reply_last m saved H (unheard cause reply) = reply
reply_last m saved H (untold x) = Some (outcome_of m saved H x).reply
reply_last m saved H (starving x) = Some starved
reply_last m saved H (breaking x) = Some faulted

-- the work that is done at the end, behind history H: a reply that couldn't be told whole is none the less kept
abbrev pub work_last : ℕ → ℕ → List Event → Last → Work
work_last m saved H over = went H
work_last m saved H (unheard cause reply) = went H
work_last m saved H (untold x) = went (once_answered m saved H x)
work_last m saved H (starving x) = went H
work_last m saved H (breaking x) = broke H (once_answered m saved H x)

-- the work so far behind history H: all that was answered, and what the end does
abbrev pub work_by : ℕ → ℕ → List Event → Option Closing → Work
work_by m saved H None = went H
work_by m saved H (Some end) = work_last m saved H end.last

-- the work of a session behind history H
abbrev pub work_of : ℕ → ℕ → List Event → Talk → Work
work_of m saved H talk = work_by m saved (life (once_answered m saved) H talk.asks) talk.end

-- there is something to tell at the end
abbrev pub has_reply : Last → Bool
has_reply over = false
has_reply (unheard cause reply) = is_some reply
has_reply other = true

-- how many replies were told whole at the end: one or none
abbrev pub told_last : Option Closing → ℕ
told_last None = 0
told_last (Some end) = if has_reply end.last && is_ok end.told then 1 else 0

-- the histories behind the replies that were told whole, the latest first: behind each its request is answered
abbrev pub behind_replies : ℕ → ℕ → List Event → List Ask → List (List Event)
behind_replies m saved H [] = []
behind_replies m saved H (x ∷ before) = life (once_answered m saved) H (x ∷ before) ∷ behind_replies m saved H before

-- the history behind what is told at the end, where there is something to tell
abbrev pub behind_last : ℕ → ℕ → List Event → Option Closing → List (List Event)
behind_last m saved H None = []
behind_last m saved H (Some end) = if has_reply end.last then stood (work_last m saved H end.last) ∷ [] else []

-- the histories behind all that is told in a session, the latest first
abbrev pub behind_told : ℕ → ℕ → List Event → Talk → List (List Event)
behind_told m saved H talk =
    behind_last m saved (life (once_answered m saved) H talk.asks) talk.end ++ behind_replies m saved H talk.asks

-- the disk failed at the end
abbrev pub is_breaking : Last → Bool
is_breaking (breaking x) = true
is_breaking other = false

abbrev pub breaks : Option Closing → Bool
breaks None = false
breaks (Some end) = is_breaking end.last

-- the read for the next request failed
abbrev pub is_cut : Last → Bool
is_cut (unheard fault.Read reply) = true
is_cut other = false

-- something was to be told at the end, and wasn't told whole
abbrev pub is_lost : Closing → Bool
is_lost end = has_reply end.last && is_err end.told

-- The door's counts once a session ended so, or as far as it went: one fault more where the read for the next request
-- failed, one where what was to be told wasn't told whole, and else none (own rule).
abbrev pub counts_behind : Option Closing → DoorCounts → DoorCounts
counts_behind None c = c
counts_behind (Some end) c = counts_by (is_lost end) (counts_by (is_cut end.last) c)

-- what a session answers: how many replies were told whole, or that the disk failed
abbrev pub Answers : Talk → Result ℕ Closed → Type 0
Answers talk (Ok n) = (n ≡ length talk.asks + told_last talk.end) × (breaks talk.end ≡ false)
Answers talk (Err closed) = breaks talk.end ≡ true
