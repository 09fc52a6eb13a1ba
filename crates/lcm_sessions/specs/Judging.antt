-- What is known of a descriptor that was judged and may be recorded.
use Rattle.std.specs.Prelude.{◌≡◌, ℕ, List, Result, Ok, Err}
use Rattle.executor.specs.Managed.{MayRecord}
use Rattle.lcm_events.specs.declared.descriptor.Vnfd.{Vnfd}
use Rattle.lcm_events.specs.declared.events.Event.{Event}
use Rattle.lcm_model.specs.Allowed.{MayOnboard}
use Rattle.lcm_sessions.specs.Verdict.{onboarding, refused, new_verdict, room_verdict, verdict}
use Rattle.lcm_sessions.specs.declared.answer.OnboardFault.{OnboardFault}
use Rattle.lcm_sessions.specs.declared.answer.OnboardFault.TheVariants as fault

-- what a descriptor that was read comes to but for its room, whenever it is judged and whatever the journal saves: it
-- is refused, or it may be onboarded
abbrev pub JudgesNew : List Event → Vnfd → Result Vnfd OnboardFault → Type 0
JudgesNew H vnfd (Ok same) = ((saved now : ℕ) → new_verdict saved H now vnfd ≡ room_verdict saved H now same)
    × MayOnboard H same
JudgesNew H vnfd (Err (fault.Refused why)) = (saved now : ℕ) → new_verdict saved H now vnfd ≡ refused why
JudgesNew H vnfd (Err other) = ⊥

-- what its bytes come to
abbrev pub Judges : List Event → List ℕ → Result Vnfd OnboardFault → Type 0
Judges H bytes (Ok vnfd) = ((saved now : ℕ) → verdict saved H now bytes ≡ room_verdict saved H now vnfd)
    × MayOnboard H vnfd
Judges H bytes (Err (fault.Refused why)) = (saved now : ℕ) → verdict saved H now bytes ≡ refused why
Judges H bytes (Err fault.Memory) = Unit {0}
Judges H bytes (Err other) = ⊥

-- the event of a descriptor that may be onboarded may be recorded: it keeps the format's rules (own rule)
abbrev pub OnboardingsMayBeRecorded : Type 0
OnboardingsMayBeRecorded = (m now : ℕ) (H : List Event) (d : Vnfd) → MayOnboard H d → MayRecord m H (onboarding now d)
