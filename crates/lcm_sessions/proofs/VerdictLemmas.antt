-- What a descriptor comes to, by the history and by what the commit of its event answered.
use Rattle.std.proofs.Common.{◌≡◌, ◌<◌, ◌-◌, arith, ℕ, List, length, false, Option, Some, None, Result, Ok, Err, refl, sym, subst, ap, ◌∙◌}
use Rattle.std.specs.Prelude.{is_some}
use Rattle.std.proofs.lemmas.Bool.{lt-leb, lt-ltb, le-ltb}
use Rattle.event_codec.specs.Spell.{spelling}
use Rattle.executor.specs.Managed.{Managed, MayRecord}
use Rattle.executor.specs.Room.{HasRoomFor, TellsRoom, journal_end}
use Rattle.executor.specs.Work.{Work, Works, recorded}
use Rattle.executor.specs.declared.manager.WorkFault.{WorkFault}
use Rattle.executor.specs.declared.manager.WorkFault.TheVariants as work
use Rattle.journal_records.specs.declared.limits.TheConstants.{MAX_FILE, MAX_RECORD}
use Rattle.lcm_events.specs.declared.descriptor.Vnfd.{Vnfd}
use Rattle.lcm_events.specs.declared.events.Event.{Event}
use Rattle.lcm_model.specs.Allowed.{MayOnboard}
use Rattle.lcm_model.specs.Descriptors.{IsValid}
use Rattle.lcm_model.specs.Lives.{descriptor_named, descriptors}
use Rattle.lcm_sessions.specs.Judging.{JudgesNew}
use Rattle.lcm_sessions.specs.Onboarding.{ended_by, judged_answer, said_of, work_fault, worked}
use Rattle.lcm_sessions.specs.Verdict.{Verdict, accepted, onboarded, onboarding, room_verdict}
use Rattle.lcm_sessions.specs.declared.answer.Onboarded.{Onboarded}
use Rattle.lcm_sessions.specs.declared.answer.OnboardFault.{OnboardFault}
use Rattle.lcm_sessions.specs.declared.limits.TheConstants.{MAX_DESCRIPTORS}
use Rattle.lcm_sessions.proofs.ValidLemmas.{valid_event}
use Rattle.site_traits.specs.Site.{SiteState}
use Rattle.std.specs.Result.{IsErrAnd}

none_named : (found : Option Vnfd) → is_some found ≡ false → found ≡ None
none_named None is = refl
none_named (Some vnfd) is = cc

-- a descriptor that may be onboarded
pub judges_new : (H : List Event) (vnfd : Vnfd) → is_some (descriptor_named H vnfd.descriptor_id) ≡ false
    → length (descriptors H) < MAX_DESCRIPTORS → IsValid vnfd → JudgesNew H vnfd (Ok vnfd)
judges_new H vnfd unknown few valid = (
  (λ saved now. rw (unknown, lt-leb MAX_DESCRIPTORS (length (descriptors H)) few) refl),
  record { valid = valid; unknown = none_named (descriptor_named H vnfd.descriptor_id) unknown; room = few },
)

-- what becomes of a descriptor whose event was to be recorded, by what that answered
pub record IsRecorded (H : List Event) (now : ℕ) (event : Event) (v : Verdict) (r : Result (Unit {0}) WorkFault)
    (answer : Result Onboarded OnboardFault) : Type 0 where
  pub answer_is : answer ≡ judged_answer v (ended_by answer)
  pub work_is : recorded H event r ≡ worked H (onboarded now v) (ended_by answer)

accepted_where : (z : ℕ) (H : List Event) (now : ℕ) (vnfd : Vnfd) → HasRoomFor MAX_FILE z H (onboarding now vnfd)
    → room_verdict z H now vnfd ≡ accepted vnfd
accepted_where z H now vnfd has = rw (le-ltb MAX_RECORD (length (spelling (onboarding now vnfd))) has.fits, has.room) refl

-- it was recorded
pub recorded_done : (z : ℕ) (H : List Event) (now : ℕ) (vnfd : Vnfd) (v : Verdict) → v ≡ room_verdict z H now vnfd
    → TellsRoom MAX_FILE z H (onboarding now vnfd) (Ok tt)
    → IsRecorded H now (onboarding now vnfd) v (Ok tt) (Ok (said_of vnfd))
recorded_done z H now vnfd v is room = rw (is ∙ accepted_where z H now vnfd room) (record { answer_is = refl; work_is = refl })

-- it wasn't
not_recorded : (z : ℕ) (H : List Event) (now : ℕ) (vnfd : Vnfd) (v : Verdict) (why : WorkFault) → v ≡ room_verdict z H now vnfd
    → TellsRoom MAX_FILE z H (onboarding now vnfd) (Err why)
    → IsRecorded H now (onboarding now vnfd) v (Err why) (Err (work_fault why))
not_recorded z H now vnfd v (work.TooLong n) is room =
    rw (is, lt-ltb MAX_RECORD (length (spelling (onboarding now vnfd))) room.long, room.is) (record { answer_is = refl; work_is = refl })
not_recorded z H now vnfd v (work.Full end more) is room =
    let end_is = room.end_is in
    let before : end ≡ journal_end H - z = omega (arith, end_is) in
    rw (is, le-ltb MAX_RECORD (length (spelling (onboarding now vnfd))) room.fits, room.full, before, room.more_is)
    (record { answer_is = refl; work_is = refl })
not_recorded z H now vnfd v work.Memory is room = record { answer_is = refl; work_is = refl }
not_recorded z H now vnfd v work.Disk is room = rw (is ∙ accepted_where z H now vnfd room) (record { answer_is = refl; work_is = refl })

pub recorded_not : (z : ℕ) (H : List Event) (now : ℕ) (vnfd : Vnfd) (event : Event) (v : Verdict) (why : WorkFault)
    → event ≡ onboarding now vnfd
    → v ≡ room_verdict z H now vnfd → TellsRoom MAX_FILE z H event (Err why)
    → IsRecorded H now event v (Err why) (Err (work_fault why))
recorded_not z H now vnfd event v why same is room =
    let P : Event → Type 0 = λ e. TellsRoom MAX_FILE z H e (Err why) in
    let Q : Event → Type 0 = λ e. IsRecorded H now e v (Err why) (Err (work_fault why)) in
    subst Q (sym same) (not_recorded z H now vnfd v why is (subst P same room))

-- its event may be recorded
pub may_record : (m : ℕ) (H : List Event) (now : ℕ) (vnfd : Vnfd) (event : Event) → event ≡ onboarding now vnfd → MayOnboard H vnfd
    → MayRecord m H event
may_record m H now vnfd event is may = rw is (record { rules = valid_event now vnfd may.valid; allowed = may; unsettled = refl })

-- work, under another name of it
pub works_as : (tells : Type 0) (m : ℕ) (H : List Event) (w v : Work) (n : Managed) (a b : SiteState) → w ≡ v → Works tells m H w n a b
    → Works tells m H v n a b
works_as tells m H w v n a b same works = let P : Work → Type 0 = λ x. Works tells m H x n a b in subst P same works

-- an answer that is this fault
pub err_is : (r : Result Onboarded OnboardFault) (why : OnboardFault) → IsErrAnd r (λ e. e ≡ why) → r ≡ Err why
err_is (Ok said) why is = absurd is
err_is (Err e) why is = ap Err is
