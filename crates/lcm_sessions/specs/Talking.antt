-- What a session does to all that is outside: the journal's file, the connection and the clock.
use Rattle.std.specs.Prelude.{◌≡◌, ◌+◌, ◌==◌, ◌||◌, ◌⊎◌, ℕ, Bool, false, List, [], ◌∷◌, ◌++◌, take, Option, Some, None}
use Rattle.std.specs.Prelude.{is_some, ◌&&◌, Result, Ok, Err}
use Rattle.std.specs.Result.{is_ok, is_err}
use Rattle.executor.specs.Chain.{AreTold}
use Rattle.executor.specs.Managed.{Managed}
use Rattle.executor.specs.Work.{Works}
use Rattle.http_frames.specs.Framing.{fields_of, media, closes}
use Rattle.http_frames.specs.Messages.{Message, ReadsMessage}
use Rattle.http_wire.specs.Wire.{ReadCounts, WireState, bytes_of}
use Rattle.http_wire.specs.declared.TheConstants.{CONNECTION_REQUESTS}
use Rattle.http_wire.specs.declared.request.Request.{Request}
use Rattle.http_wire.specs.declared.request.Taken.{Taken}
use Rattle.http_wire.specs.declared.request.Taken.TheVariants as taken
use Rattle.http_wire.specs.declared.request.WireFault.{WireFault}
use Rattle.http_wire.specs.declared.request.WireFault.TheVariants as fault
use Rattle.lcm_replies.specs.Failing.{counts_by}
use Rattle.lcm_mouth.specs.Mouth.{MouthState, Takes}
use Rattle.lcm_mouth.specs.World.{WorldTells, Peers, World, peers_of}
use Rattle.lcm_replies.specs.Replies.{malformed, too_large, starved}
use Rattle.lcm_replies.specs.Response.{text}
use Rattle.lcm_sessions.specs.Session.{AreFor, Ask, Last, Closing, Talk, over, unheard, untold, behind_told}
use Rattle.lcm_sessions.specs.Session.{counts_behind, life, once_answered, replies, said, taken_by, reply_last, work_of}
use Rattle.lcm_replies.specs.declared.door.DoorFailed.{DoorFailed}
use Rattle.lcm_replies.specs.declared.reply.Reply.{Reply}
use Rattle.lcm_events.specs.declared.events.Event.{Event}
use Rattle.site_traits.specs.Clock.{Gives}
use Rattle.site_traits.specs.Door.{DoorState, HangsUp, NoNextFault, closed}

-- what is left of a connection: its bytes that belong to no request yet, how many requests were taken, and whether the
-- last of them was the connection's last
pub record Remains : Type 0 where
  pub bytes : List ℕ
  pub taken : ℕ
  pub ended : Bool

abbrev pub remains_of : WireState → Remains
remains_of w = record { bytes = bytes_of w.intake; taken = w.taken; ended = w.ended }

-- the request is the one that the bytes begin with; it is the last where it asks so or stands at the last place (RFC
-- 9112 9.6)
pub record IsNext (r : Request) (a b : Remains) : Type 0 where
  pub goes_on : a.ended ≡ false
  pub message : Message
  pub reads : ReadsMessage a.bytes message b.bytes
  pub method : r.method ≡ message.head.method
  pub target : r.target ≡ message.head.target
  pub media : r.media ≡ media (fields_of message.head)
  pub body : r.body ≡ message.body
  pub last : r.last ≡ (closes message.head || (a.taken + 1 == CONNECTION_REQUESTS))
  pub taken : b.taken ≡ a.taken + 1
  pub ended : b.ended ≡ r.last

-- the requests, the latest first, are those that the bytes begin with, each behind the ones before it
abbrev pub AreRequests : List Ask → Remains → Remains → Type 0
AreRequests [] a c = c ≡ a
AreRequests (x ∷ before) a c = (b : Remains) × AreRequests before a b × IsNext x.request b c

-- the clock gave these values, the latest first, one after the other
abbrev pub GaveAll : List Ask → List ℕ → List ℕ → Type 0
GaveAll [] old new = new ≡ old
GaveAll (x ∷ before) old new = (between : List ℕ) × GaveAll before old between × Gives x.value between new

-- these bytes came in from the connection at hand, those went out to it, and nothing else happened at the door but that
-- a call may have failed
pub record Converses (read written : List ℕ) (a b : DoorState) : Type 0 where
  pub answers : b.answers ≡ a.answers
  pub past : b.past ≡ a.past
  pub bytes : b.conn.bytes ≡ a.conn.bytes
  pub left : a.conn.left ≡ read ++ b.conn.left
  pub out : b.conn.out ≡ a.conn.out ++ written
  pub hung_up : b.conn.hung_up ≡ a.conn.hung_up

-- the bytes are the reply's, or a front of them where it couldn't be told whole; where there is none there are none
abbrev pub IsSaid : Option Reply → Result (Unit {0}) DoorFailed → List ℕ → Type 0
IsSaid (Some reply) (Ok done) bytes = bytes ≡ text reply
IsSaid (Some reply) (Err failed) bytes = (n : ℕ) × (bytes ≡ take n (text reply))
IsSaid None (Ok done) bytes = bytes ≡ []
IsSaid None (Err failed) bytes = ⊥

-- the bytes that go out at the end, behind history H
abbrev pub SaysLast : ℕ → ℕ → List Event → Option Closing → List ℕ → Type 0
SaysLast m saved H None bytes = bytes ≡ []
SaysLast m saved H (Some end) bytes = IsSaid (reply_last m saved H end.last) end.told bytes

-- What went out are the replies to the requests, in order, and behind them what is told at the end.
pub record Speaks (m saved : ℕ) (H : List Event) (talk : Talk) (a b : DoorState) : Type 0 where
  pub read : List ℕ
  pub final : List ℕ
  pub final_is : SaysLast m saved (life (once_answered m saved) H talk.asks) talk.end final
  pub door : Converses read (said (replies m saved H talk.asks) ++ final) a b

-- what is told where the bytes that are left are no request: 400 where they are bad, 413 where they are too big, 503
-- for want of memory, and nothing where they stop short or a read failed
abbrev pub IsRejection : WireFault → Option Reply → Type 0
IsRejection fault.Malformed reply = (reply ≡ Some malformed) ⊎ (reply ≡ Some starved)
IsRejection fault.TooLarge reply = (reply ≡ Some too_large) ⊎ (reply ≡ Some starved)
IsRejection fault.Unfinished reply = reply ≡ None
IsRejection fault.Read reply = reply ≡ None
IsRejection fault.Memory reply = reply ≡ Some starved

-- The wire gave this answer when it was asked for the last time, between the session's start and its end. Before that
-- no call of the door failed; behind it nothing is taken, what is held stays, and no call failed but where what was to
-- be told was lost.
pub record AsksLast (tells : Type 0) (answer : Result Taken WireFault) (lost : Bool) (a b : WireState) : Type 0 where
  pub before : WireState
  pub behind : WireState
  pub takes : Takes tells answer before behind
  pub since : before.intake.counts ≡ a.intake.counts
  pub reads : ReadCounts answer before.intake.counts behind.intake.counts
  pub until : b.intake.counts ≡ counts_by lost behind.intake.counts
  pub bytes : tells → bytes_of b.intake ≡ bytes_of behind.intake
  pub held : b.intake.held ≡ behind.intake.held
  pub taken : b.taken ≡ behind.taken
  pub ended : b.ended ≡ behind.ended

-- why it ended: no request was left; the bytes that are left are none, and that is told; or telling a reply failed
abbrev pub EndsFor : Type 0 → Last → Result (Unit {0}) DoorFailed → WireState → WireState → Type 0
EndsFor tells over told a b = AsksLast tells (Ok taken.End) false a b
EndsFor tells (unheard cause reply) told a b = AsksLast tells (Err cause) (is_some reply && is_err told) a b
    × IsRejection cause reply
EndsFor tells (untold x) told a b = is_ok told ≡ false
EndsFor tells other told a b = Unit {0}

abbrev pub Ends : Type 0 → Option Closing → WireState → WireState → Type 0
Ends tells None a b = Unit {0}
Ends tells (Some end) a b = EndsFor tells end.last end.told a b

-- What a session does to the connection and the clock, or as much of it as was done so far, over history H of manager
-- m, whose journal saves so many bytes.
pub record Holds (t : WorldTells) (m saved : ℕ) (H : List Event) (talk : Talk) (a b : Peers) : Type 0 where
  pub roles : AreFor talk.role (taken_by talk)
  pub requests : t.door → AreRequests (taken_by talk) (remains_of a.mouth.wire) (remains_of b.mouth.wire)
  pub speaks : t.door → Speaks m saved H talk a.mouth.wire.intake.door b.mouth.wire.intake.door
  pub clock : t.clock → GaveAll (taken_by talk) a.clock b.clock
  pub ends : Ends t.door talk.end a.mouth.wire b.mouth.wire
  pub faults : b.mouth.wire.intake.counts ≡ counts_behind talk.end a.mouth.wire.intake.counts
  pub counts : NoNextFault a.mouth.wire.intake.counts b.mouth.wire.intake.counts

-- What it does to the journal too; the manager is now n, and the journal saves as much as before. From the telling of
-- each reply on no stop takes back the history behind it.
pub record Talks (t : WorldTells) (m saved : ℕ) (H : List Event) (talk : Talk) (n : Managed)
    (w v : World) : Type 0 where
  pub works : Works t.site m H (work_of m saved H talk) n w.site v.site
  pub saves : n.ledger.saved ≡ saved
  pub holds : Holds t m saved H talk (peers_of w) (peers_of v)
  pub told : AreTold t.site m (behind_told m saved H talk) w.mouth.told v.mouth.told w.site v.site

-- a session was held to its end, and then the connection was ended
pub record Attends (t : WorldTells) (m saved : ℕ) (H : List Event) (talk : Talk) (a b : Peers) : Type 0 where
  pub between : MouthState
  pub end : Closing
  pub ended : talk.end ≡ Some end
  pub holds : Holds t m saved H talk a (record { mouth = between; clock = b.clock })
  pub role : between.role ≡ talk.role
  pub gone : t.door → HangsUp between.wire.intake.door b.mouth.wire.intake.door
  pub counts : b.mouth.wire.intake.counts ≡ closed between.wire.intake.counts

-- What serving a connection does. The journal saves as much as before. From the telling of each reply on no stop takes
-- back the history behind it.
pub record Serves (t : WorldTells) (m saved : ℕ) (H : List Event) (talk : Talk) (n : Managed)
    (w v : World) : Type 0 where
  pub works : Works t.site m H (work_of m saved H talk) n w.site v.site
  pub saves : n.ledger.saved ≡ saved
  pub attends : Attends t m saved H talk (peers_of w) (peers_of v)
  pub told : AreTold t.site m (behind_told m saved H talk) w.mouth.told v.mouth.told w.site v.site
