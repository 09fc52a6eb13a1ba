-- The requests of a connection's bytes, taken one by one.
use Rattle.std.specs.Prelude.{◌≡◌, ◌≤◌, ◌+◌, ◌==◌, ◌||◌, ◌⊎◌, ℕ, Bool, true, false, List, [], ◌++◌, length, take, drop}
use Rattle.std.specs.Prelude.{Option, Some, None, option_map, Result, Ok, Err}
use Rattle.http_frames.specs.declared.TheConstants.{CHUNKED_BYTES}
use Rattle.httparse.specs.Spans.{span_bytes}
use Rattle.site_traits.specs.Counts.{Rose}
use Rattle.site_traits.specs.Door.{DoorState, DoorCounts, WriteCounts, NoNextFault, call_failed}
use Rattle.http_frames.specs.declared.head.Body.TheVariants as framing
use Rattle.http_frames.specs.declared.head.HeadParts.{HeadParts}
use Rattle.http_frames.specs.Framing.{fields_of, media, closes}
use Rattle.http_frames.specs.Heads.{HasHead, frame_as}
use Rattle.http_frames.specs.Steps.{HasMoreChunks}
use Rattle.http_frames.specs.Messages.{Message, HasBody, ReadsMessage, HasNoMessage, BeginsBad, BeginsBig, IsCut}
use Rattle.http_frames.specs.Messages.{StopsInTarget, IsLongTarget}
use Rattle.http_wire.specs.declared.TheConstants.{CONNECTION_REQUESTS}
use Rattle.http_wire.specs.declared.request.Request.{Request}
use Rattle.http_wire.specs.declared.request.Taken.{Taken}
use Rattle.http_wire.specs.declared.request.Taken.TheVariants as taken
use Rattle.http_wire.specs.declared.request.WireFault.{WireFault}
use Rattle.http_wire.specs.declared.request.WireFault.TheVariants as fault
use Rattle.http_wire.specs.declared.take.Whole.{Whole}
use Rattle.http_wire.specs.Intake.{with_door, IntakeState, OnlyReads, NeedsMore}

-- what the intake holds, the number of requests of this connection so far, and whether the last of them was its last
pub record WireState : Type 0 where
  pub intake : IntakeState
  pub taken : ℕ
  pub ended : Bool

-- the state once the door is this one
abbrev pub over_door : {D : Type 0} → (D → DoorState) → (D → DoorCounts) → (D → WriteCounts) → WireState → D → WireState
over_door state counts writes w door = record w { intake = with_door state counts writes w.intake door }

-- the bytes of the connection that belong to no request yet: those that were read, and those that are not read yet
abbrev pub bytes_of : IntakeState → List ℕ
bytes_of i = i.held ++ i.door.conn.left

-- the bytes behind the head of a request, as far as a chunked body may go
abbrev pub window : List ℕ → HeadParts → List ℕ
window held p = take CHUNKED_BYTES (drop p.len held)

-- What memory is wanted for, by the bytes that are held: to read on where more bytes are needed, to keep whole chunks,
-- or for a whole request. So bytes that break the grammar or pass a limit are told as that, but behind a whole chunk
-- that can't be kept (own rule).
pub data WantsMemory (held : List ℕ) : Type 0 where
  to_read_on : NeedsMore held → WantsMemory held
  for_chunks : (p : HeadParts) → HasHead held p → p.body ≡ framing.Chunked → HasMoreChunks (window held p) 0
      → WantsMemory held
  for_request : (m : Message) (rest : List ℕ) → ReadsMessage held m rest → WantsMemory held

-- What the bytes of the connection are, by the fault. The one place where the pieces may show is where they stop in a
-- request target and are no more than a head may have, or where as many stop in one and more follow (own rule).
abbrev pub FaultIs : Type 0 → IntakeState → IntakeState → WireFault → Type 0
FaultIs tells a b fault.Malformed = tells → BeginsBad (bytes_of b)
FaultIs tells a b fault.TooLarge = tells → BeginsBig (bytes_of b) ⊎ IsLongTarget (bytes_of b)
FaultIs tells a b fault.Unfinished = tells → IsCut (bytes_of b) ⊎ StopsInTarget (bytes_of b)
FaultIs tells a b fault.Read = Rose a.counts.faults b.counts.faults × HasNoMessage b.held
FaultIs tells a b fault.Memory = WantsMemory b.held

-- what a fault leaves of the door's counts: one failed read where it is that, and else none (own rule)
abbrev pub FaultCounts : WireFault → DoorCounts → DoorCounts → Type 0
FaultCounts fault.Malformed a b = b ≡ a
FaultCounts fault.TooLarge a b = b ≡ a
FaultCounts fault.Unfinished a b = b ≡ a
FaultCounts fault.Read a b = b ≡ call_failed a
FaultCounts fault.Memory a b = b ≡ a

-- what an answer leaves of the door's counts: one failed read where that is told, and else none (own rule)
abbrev pub ReadCounts : {T : Type 0} → Result T WireFault → DoorCounts → DoorCounts → Type 0
ReadCounts (Ok x) a b = b ≡ a
ReadCounts (Err f) a b = FaultCounts f a b

-- what came at the front of the bytes, by the answer: a head, or no byte
abbrev pub HeadCame : Type 0 → IntakeState → IntakeState → Result (Option HeadParts) WireFault → Type 0
HeadCame tells a b (Ok (Some p)) = HasHead b.held p
HeadCame tells a b (Ok None) = tells → bytes_of b ≡ []
HeadCame tells a b (Err f) = FaultIs tells a b f

-- the length that a head announces is held, by the answer
abbrev pub SizedCame : Type 0 → IntakeState → IntakeState → ℕ → Result ℕ WireFault → Type 0
SizedCame tells a b due (Ok end) = (end ≡ due) × (end ≤ length b.held)
SizedCame tells a b due (Err f) = FaultIs tells a b f

-- the body behind a head and where it ends, by the answer
abbrev pub BodyCame : Type 0 → IntakeState → IntakeState → HeadParts → Result Whole WireFault → Type 0
BodyCame tells a b p (Ok w) = HasBody (frame_as p.body) (drop p.len b.held) w.body.items (drop w.end b.held)
    × (w.end ≤ length b.held)
BodyCame tells a b p (Err f) = FaultIs tells a b f

-- The request has these parts of the bytes that begin with the head. It is the last one where it asks so or stands at
-- the last place.
pub record HasParts (held : List ℕ) (p : HeadParts) (content : List ℕ) (at_last : Bool) (r : Request) : Type 0 where
  pub method : r.method ≡ span_bytes held p.method
  pub target : r.target ≡ span_bytes held p.target
  pub media : r.media ≡ option_map (span_bytes held) p.media
  pub body : r.body ≡ content
  pub last : r.last ≡ (p.closes || at_last)

-- the first request of the bytes was taken, and the bytes behind it stay
pub record TakesRequest (tells : Type 0) (at_last : Bool) (a b : IntakeState) (r : Request) : Type 0 where
  pub message : Message
  pub reads : tells → ReadsMessage (bytes_of a) message (bytes_of b)
  pub method : r.method ≡ message.head.method
  pub target : r.target ≡ message.head.target
  pub media : r.media ≡ media (fields_of message.head)
  pub body : r.body ≡ message.body
  pub last : r.last ≡ (closes message.head || at_last)

-- no byte is lost
abbrev pub KeepsBytes : Type 0 → IntakeState → IntakeState → Type 0
KeepsBytes tells a b = tells → bytes_of b ≡ bytes_of a

-- the door did nothing but read
pub record OnlyTakesIn (tells : Type 0) (a b : IntakeState) : Type 0 where
  pub door : tells → (read : List ℕ) × OnlyReads read a.door b.door
  pub counts : NoNextFault a.counts b.counts
  pub writes : b.writes ≡ a.writes

-- what was taken out of the bytes, by the answer: a request, or nothing where there is no byte
abbrev pub RequestCame : Type 0 → Bool → IntakeState → IntakeState → Result (Option Request) WireFault → Type 0
RequestCame tells at_last a b (Ok (Some r)) = TakesRequest tells at_last a b r
RequestCame tells at_last a b (Ok None) = KeepsBytes tells a b × (tells → bytes_of a ≡ [])
RequestCame tells at_last a b (Err f) = KeepsBytes tells a b × FaultIs tells a b f

-- a request was taken where the connection goes on, and it is counted
pub record Counts (tells : Type 0) (a b : WireState) (r : Request) : Type 0 where
  pub goes_on : a.ended ≡ false
  pub takes : TakesRequest tells (a.taken + 1 == CONNECTION_REQUESTS) a.intake b.intake r
  pub taken : b.taken ≡ a.taken + 1
  pub ended : b.ended ≡ r.last

-- nothing was taken, and no byte is lost
pub record TakesNone (tells : Type 0) (a b : WireState) : Type 0 where
  pub bytes : KeepsBytes tells a.intake b.intake
  pub taken : b.taken ≡ a.taken
  pub ended : b.ended ≡ a.ended

-- What was taken, by the answer. There is no request behind the connection's last one.
abbrev pub TakenIs : Type 0 → WireState → WireState → Result Taken WireFault → Type 0
TakenIs tells a b (Ok (taken.Request r)) = Counts tells a b r
TakenIs tells a b (Ok taken.End) = TakesNone tells a b
    × ((a.ended ≡ true) ⊎ ((a.ended ≡ false) × (tells → bytes_of a.intake ≡ [])))
TakenIs tells a b (Err f) = TakesNone tells a b × (a.ended ≡ false) × FaultIs tells a.intake b.intake f
