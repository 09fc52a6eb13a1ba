-- What onboarding does at the door, to the clock, and with the journal (own rule, docs/FORMATS.md).
use Rattle.std.specs.Prelude.{◌≡◌, ◌⊎◌, ℕ, List, [], Bool, true, false, min, take, Result, Ok, Err}
use Rattle.executor.specs.Managed.{Managed}
use Rattle.executor.specs.Work.{Works}
use Rattle.lcm_replies.specs.Failing.{FailsOnce}
use Rattle.lcm_replies.specs.Hearing.{Hears}
use Rattle.lcm_mouth.specs.Mouth.{MouthState}
use Rattle.lcm_mouth.specs.World.{WorldTells, Peers, World, peers_of}
use Rattle.lcm_mouth.specs.Waiting.{IsNobody, IsUnreached}
use Rattle.lcm_events.specs.declared.events.Event.{Event}
use Rattle.lcm_events.specs.declared.states.Role.{Role}
use Rattle.lcm_sessions.specs.Onboarding.{Onboarding, unready, unheard, cut_off, heard, onboarding_work}
use Rattle.lcm_sessions.specs.declared.limits.TheConstants.{MAX_READ}
use Rattle.lcm_sessions.specs.declared.hearing.Unheard.{Unheard}
use Rattle.lcm_sessions.specs.declared.hearing.Unheard.TheVariants.{Waiting, Reading}
use Rattle.site_traits.specs.Clock.{Gives}
use Rattle.site_traits.specs.Counts.{one_more}
use Rattle.site_traits.specs.Door.{Comes, DoorCounts, HangsUp, closed, opened as has_come}

-- Where this holds a call of the door failed, and is counted as one fault, among the failed waits too where it was one;
-- else none did (own rule).
pub record OnlyDoorFails (failed : Type 0) (a b : DoorCounts) : Type 0 where
  pub rose : failed → (b.faults ≡ one_more a.faults) × ((b.next ≡ a.next) ⊎ (b.next ≡ one_more a.next))
  pub stays : ¬ failed → (b.faults ≡ a.faults) × (b.next ≡ a.next)

-- A connection came, these bytes of it were read, up to its end or to one byte more than a descriptor may have, or up
-- to where a read failed, and it was ended. Nothing was written to it.
pub record Brings (tells : Type 0) (bytes : List ℕ) (failed : Bool) (a b : MouthState) : Type 0 where
  pub came : Role
  pub between : MouthState
  pub comes : tells → Comes came a.wire.intake.door between.wire.intake.door
  pub counts : between.wire.intake.counts ≡ has_come a.wire.intake.counts
  pub behind : MouthState
  pub hears : tells → Hears MAX_READ bytes failed between.wire.intake.door behind.wire.intake.door
  pub fails : FailsOnce failed between.wire.intake.counts behind.wire.intake.counts
  pub gone : tells → HangsUp behind.wire.intake.door b.wire.intake.door
  pub down : b.wire.intake.counts ≡ closed behind.wire.intake.counts
  pub silent : tells → b.wire.intake.door.conn.out ≡ []

-- nobody came, and so there are no bytes
pub record BringsNothing (tells : Type 0) (bytes : List ℕ) (a b : MouthState) : Type 0 where
  pub none : bytes ≡ []
  pub nobody : tells → IsNobody a.wire.intake.door b.wire.intake.door
  pub counts : b.wire.intake.counts ≡ a.wire.intake.counts

-- so many bytes at the front of the room were heard, or why there are none
abbrev pub HearsDescriptor : Type 0 → Result ℕ Unheard → List ℕ → MouthState → MouthState → Type 0
HearsDescriptor tells (Ok count) room a b = Brings tells (take count room) false a b
    ⊎ BringsNothing tells (take count room) a b
HearsDescriptor tells (Err Waiting) room a b = IsUnreached tells a b
HearsDescriptor tells (Err Reading) room a b = (bytes : List ℕ) × Brings tells bytes true a b

-- what onboarding does at the door
abbrev pub OnboardingAtDoor : Type 0 → Onboarding → MouthState → MouthState → Type 0
OnboardingAtDoor tells unready a b = b ≡ a
OnboardingAtDoor tells unheard a b = IsUnreached tells a b
OnboardingAtDoor tells (cut_off bytes) a b = Brings tells bytes true a b
OnboardingAtDoor tells (heard bytes now ended) a b = Brings tells bytes false a b ⊎ BringsNothing tells bytes a b

-- the moment is that of the clock's next value, which is the last of the year 9999 at most
pub record IsTimed (moment : ℕ) (old new : List ℕ) : Type 0 where
  pub value : ℕ
  pub gives : Gives value old new
  pub moment_is : moment ≡ min value 253402300799999

-- what onboarding does to the clock: it is read once, where bytes were heard
abbrev pub OnboardingAtClock : Onboarding → List ℕ → List ℕ → Type 0
OnboardingAtClock (heard bytes now ended) old new = IsTimed now old new
OnboardingAtClock other old new = new ≡ old

-- what onboarding does to both; nothing is told
pub record BringsIn (t : WorldTells) (o : Onboarding) (a b : Peers) : Type 0 where
  pub door : OnboardingAtDoor t.door o a.mouth b.mouth
  pub clock : t.clock → OnboardingAtClock o a.clock b.clock
  pub unnoted : b.mouth.told ≡ a.mouth.told

-- what onboarding does to the journal too, which saves so many bytes then as before; the manager is now n
pub record Onboards (t : WorldTells) (m saved : ℕ) (H : List Event) (o : Onboarding) (n : Managed)
    (w v : World) : Type 0 where
  pub works : Works t.site m H (onboarding_work saved H o) n w.site v.site
  pub saves : n.ledger.saved ≡ saved
  pub brings : BringsIn t o (peers_of w) (peers_of v)
