-- What becomes of a descriptor that is to be onboarded (own rule over SOL 001; docs/DESCRIPTORS.md).
use Rattle.std.specs.Prelude.{◌∷◌, ◌-◌, ℕ, List, [], length, nat_le, nat_lt, if◌then◌else◌, is_some, Result, Ok, Err}
use Rattle.event_codec.specs.Spell.{spelling}
use Rattle.executor.specs.Room.{is_full, journal_end}
use Rattle.journal_records.specs.declared.limits.TheConstants.{MAX_FILE, MAX_RECORD}
use Rattle.lcm_events.specs.declared.descriptor.Vnfd.{Vnfd}
use Rattle.lcm_events.specs.declared.events.Event.{Event}
use Rattle.lcm_events.specs.declared.events.EventKind.TheVariants as kind
use Rattle.lcm_model.specs.Lives.{descriptor_named, descriptors}
use Rattle.lcm_sessions.specs.declared.answer.DescriptorRefusal.{DescriptorRefusal}
use Rattle.lcm_sessions.specs.declared.answer.DescriptorRefusal.TheVariants.{Unread, IsOnboarded, TooMany, TooLong}
use Rattle.lcm_sessions.specs.declared.limits.TheConstants.{MAX_DESCRIPTORS}
use Rattle.vnfd_document.specs.declared.fault.VnfdFault.{VnfdFault}
use Rattle.vnfd_reader.specs.Answer.{answer}

-- the event that a descriptor was onboarded
abbrev pub onboarding : ℕ → Vnfd → Event
onboarding now vnfd = record { moment = now; kind = kind.Onboarded vnfd }

-- what becomes of a descriptor: it is refused, the journal has no room behind this place for so many bytes, or it is
-- onboarded
pub data Verdict : Type 0 where
  refused : DescriptorRefusal → Verdict
  full : ℕ → ℕ → Verdict
  accepted : Vnfd → Verdict

-- a record and the journal of history H, which saves so many bytes, have room for the descriptor, or not
abbrev pub room_verdict : ℕ → List Event → ℕ → Vnfd → Verdict
room_verdict saved H now vnfd =
    if nat_lt MAX_RECORD (length (spelling (onboarding now vnfd)))
    then refused (TooLong (length (spelling (onboarding now vnfd))))
    else (if is_full MAX_FILE saved (onboarding now vnfd ∷ H) then full (journal_end H - saved)
    (length (spelling (onboarding now vnfd))) else accepted vnfd)

-- a descriptor that was read, after history H: the first refusal that applies, or whether there is room for it
abbrev pub new_verdict : ℕ → List Event → ℕ → Vnfd → Verdict
new_verdict saved H now vnfd =
    if is_some (descriptor_named H vnfd.descriptor_id) then refused IsOnboarded
    else (if nat_le MAX_DESCRIPTORS (length (descriptors H)) then refused TooMany else room_verdict saved H now vnfd)

-- the same of what reading it gave
abbrev pub read_verdict : ℕ → List Event → ℕ → Result Vnfd VnfdFault → Verdict
read_verdict saved H now (Ok vnfd) = new_verdict saved H now vnfd
read_verdict saved H now (Err fault) = refused (Unread fault)

-- the same of its bytes
abbrev pub verdict : ℕ → List Event → ℕ → List ℕ → Verdict
verdict saved H now bytes = read_verdict saved H now (answer bytes)

-- the events that it adds to the history
abbrev pub onboarded : ℕ → Verdict → List Event
onboarded now (refused why) = []
onboarded now (full end more) = []
onboarded now (accepted vnfd) = onboarding now vnfd ∷ []
