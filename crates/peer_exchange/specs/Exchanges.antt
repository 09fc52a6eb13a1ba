-- One exchange on a connection: a request goes out, its reply comes in (own rules).
use Rattle.std.specs.Prelude.{◌≡◌, ◌⊎◌, ℕ, ◌+◌, ◌-◌, ◌<◌, ◌≤◌, Bool, true, false, List, [], ◌++◌, length, take, Result}
use Rattle.std.specs.Prelude.{Ok, Err, Option, Some, None, OnErr, IfOk, option_and_then, option_map, zero, suc}
use Rattle.edge_limits.specs.declared.limits.Exchange.{Exchange}
use Rattle.edge_limits.specs.Waits.{left, shorter}
use Rattle.host_calls.specs.Streams.{Incoming, Got, GotNothing}
use Rattle.net_calls.specs.Connections.{Vain, silent, faulted}
use Rattle.peer_exchange.specs.declared.replies.Judged.{Judged}
use Rattle.peer_exchange.specs.declared.replies.Judged.TheVariants as judged
use Rattle.peer_exchange.specs.declared.looking.Look.{Look}
use Rattle.peer_exchange.specs.declared.exchanging.Lost.{Lost}
use Rattle.peer_exchange.specs.declared.exchanging.Lost.TheVariants as lost

-- a front of these bytes was judged, or nothing of them
pub record HasJudgedFront (judged : List ℕ → Type 0) (bytes : List ℕ) : Type 0 where
  pub front : List ℕ
  pub more : List ℕ
  pub is : bytes ≡ front ++ more
  pub was : judged front

-- a call that is made at the moment of this look may wait for so long: a millisecond at least, no longer than the peer
-- may be silent, and within the whole time from the beginning on
pub record IsInTime (limits : Exchange) (began : ℕ) (look : Look) : Type 0 where
  pub some : 1 ≤ look.wait
  pub silence : look.wait ≤ limits.silence
  pub whole : (look.now - began) + look.wait ≤ limits.whole

-- the look that shows this: it waits for what is left of the two times, and where nothing is left, or the watch shows
-- nothing, there is none
abbrev pub look_at : Exchange → ℕ → Option ℕ → Option Look
look_at limits began None = None
look_at limits began (Some now) = option_map (λ wait. record { wait = wait; now = now })
    (shorter limits.silence (left limits.whole began now))

-- a call that was made behind a look was allowed to wait just as long as the look says
abbrev pub WaitsBy : Exchange → ℕ → Option ℕ → ℕ → Type 0
WaitsBy limits began shown allowed = option_map (λ look. look.wait) (look_at limits began shown) ≡ Some allowed

-- the last look of an exchange, by what the watch showed at its beginning and at that look
abbrev pub last_look : Exchange → Option ℕ → Option ℕ → Option Look
last_look limits shows shown = option_and_then (λ began. look_at limits began shown) shows

-- The last look and the last call, by why there was no reply, none where there was one: the time was over at that
-- look, or the call was allowed to wait just as long as the look says. Where there is no room for a byte, no call may
-- have been made.
abbrev pub IsTimed : ℕ → Option Look → ℕ → Option Lost → Type 0
IsTimed most look allowed (Some lost.Late) = look ≡ None
IsTimed most look allowed (Some lost.TooLong) = 1 ≤ most → option_map (λ l. l.wait) look ≡ Some allowed
IsTimed most look allowed why = option_map (λ l. l.wait) look ≡ Some allowed

-- the calls in vain behind so many that signals interrupted, each of which counts as a fault
abbrev pub interrupted : ℕ → Vain → Vain
interrupted zero v = v
interrupted (suc times) v = faulted (interrupted times v)

-- no call waited in vain, and those that failed were interrupted
abbrev pub IsInterrupted : Vain → Vain → Type 0
IsInterrupted old new = (times : ℕ) × (new ≡ interrupted times old)

-- the last call failed: it waited in vain, or failed in another way; those before it are as above
abbrev pub HasFailed : Vain → Vain → Type 0
HasFailed old new = (before : Vain) × IsInterrupted old before × ((new ≡ silent before) ⊎ (new ≡ faulted before))

-- the calls in vain, by why there was no reply, none where there was one: a write or a read failed, or none did but
-- those that were interrupted
abbrev pub Counts : Option Lost → Vain → Vain → Type 0
Counts (Some lost.Unsent) old new = HasFailed old new
Counts (Some lost.Unread) old new = HasFailed old new
Counts why old new = IsInterrupted old new

-- the last call of an exchange that began then was made at this moment, before the whole time was over
abbrev pub EndsInTime : Exchange → ℕ → ℕ → Type 0
EndsInTime limits began last = last - began < limits.whole

-- some bytes were read, and nothing else came of the connection
pub record HasRead (some : List ℕ) (old new : Incoming) : Type 0 where
  pub left : old.left ≡ some ++ new.left
  pub bytes : new.bytes ≡ old.bytes

-- what came is a whole reply: it was judged so, of a connection that has ended or not, and no byte more was read
pub record IsReplied (is : Bool → List ℕ → Judged → Type 0) (tells : Type 0) (bytes : List ℕ)
    (old new : Incoming) : Type 0 where
  pub ended : Bool
  pub whole : is ended bytes judged.Whole
  pub read : tells → HasRead bytes old new
  pub end : tells → ended ≡ true → new.left ≡ []

-- nothing came, or what came was judged a part of a reply
abbrev pub IsPartYet : (Bool → List ℕ → Judged → Type 0) → List ℕ → Type 0
IsPartYet is bytes = (bytes ≡ []) ⊎ is false bytes judged.Part

-- Why there was no reply, by what came. Where the request couldn't be sent, nothing came; where the connection ended,
-- what came was no whole reply all the same; where it was refused, it was judged so; where it was too long, as many
-- bytes came as there is room for; where memory was wanted, so it was told, or none was had to keep more; and but for
-- these what came was a part of a reply.
abbrev pub IsLost : (Bool → List ℕ → Judged → Type 0) → ℕ → List ℕ → Lost → Type 0
IsLost is most bytes lost.Unsent = bytes ≡ []
IsLost is most bytes lost.Late = IsPartYet is bytes
IsLost is most bytes lost.Unread = IsPartYet is bytes
IsLost is most bytes lost.Ended = is true bytes judged.Part ⊎ is true bytes judged.Never
IsLost is most bytes lost.NoReply = is false bytes judged.Never
IsLost is most bytes lost.TooLong = (most ≤ length bytes) × IsPartYet is bytes
IsLost is most bytes lost.Memory = IsPartYet is bytes ⊎ ((ended : Bool) × is ended bytes judged.Unknown)

-- what came in, by the answer
abbrev pub Receives : (Bool → List ℕ → Judged → Type 0) → Type 0 → ℕ → Exchange → ℕ → List ℕ → Incoming → Incoming
    → Result ℕ Lost → Type 0
Receives is tells most limits began bytes old new (Ok last) =
    IsReplied is tells bytes old new × EndsInTime limits began last
Receives is tells most limits began bytes old new (Err why) = IsLost is most bytes why

-- How much of the request went out behind what was sent before, by why there was no reply, none where there was one:
-- all of it, once; but where it couldn't be sent whole, a front that lacks some of it; and where the time was over, a
-- front.
abbrev pub IsSent : Option Lost → List ℕ → List ℕ → List ℕ → Type 0
IsSent (Some lost.Unsent) request old new = (k : ℕ) × (k < length request) × (new ≡ old ++ take k request)
IsSent (Some lost.Late) request old new = (k : ℕ) × (new ≡ old ++ take k request)
IsSent why request old new = new ≡ old ++ request

-- all of a request goes out behind what was sent before, once, or a front of it
abbrev pub SendsFront : Bool → List ℕ → List ℕ → List ℕ → Type 0
SendsFront true request old new = new ≡ old ++ request
SendsFront false request old new = (k : ℕ) × (new ≡ old ++ take k request)

-- what a read does whose moment is told with it
pub record GivesAt (before after : List ℕ) (result : Result (ℕ × ℕ) Lost) (old new : Incoming) : Type 0 where
  pub got : IfOk result (λ x. Got before after x.0 old new)
  pub failed : OnErr result (GotNothing before after old new)
