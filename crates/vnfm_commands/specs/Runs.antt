-- What a run does to the journal's file, the door and the clock, and with the orchestrator and the infrastructure.
use Rattle.std.specs.Prelude.{◌≡◌, ◌<◌, ◌⊎◌, ◌+◌, ℕ, List, false}
use Rattle.executor.specs.Chain.{AreTold}
use Rattle.executor.specs.History.{HasHistory}
use Rattle.executor.specs.Open.{Refuses}
use Rattle.executor.specs.Work.{Work, Works, WorksWithJobs, Grows, HasSome, StaysSound, aimed, failed, stood, went}
use Rattle.executor.specs.Managed.{Managed}
use Rattle.executor.specs.declared.manager.OpenFault.{OpenFault}
use Rattle.journal_core.specs.Create.{Creates}
use Rattle.journal_migration.specs.Reading.{HasOldHistory}
use Rattle.journal_core.specs.Header.{IsUnmade, IsForeign}
use Rattle.journal_core.specs.Load.{SyncsAndReads}
use Rattle.journal_records.specs.File.{batches, gate_place, records, size}
use Rattle.lcm_events.specs.declared.events.Event.{Event}
use Rattle.lcm_jobs.specs.Sound.{IsSound}
use Rattle.lcm_model.specs.Allowed.{IsLegal}
use Rattle.site_traits.specs.Counts.{Rose}
use Rattle.site_traits.specs.Door.{DoorCounts}
use Rattle.site_traits.specs.Site.{Pair, SiteState, IsSettled, KeepsJobs, LeavesOnly}
use Rattle.lcm_sessions.specs.Doing.{BringsIn}
use Rattle.vnfm_commands.specs.Course.{Course, misused, starved, making, migrating, trying, unopened, opened, Activity}
use Rattle.vnfm_commands.specs.Course.{serving, counting, onboarding, Opening, activity_work, service_work, told_by, IsOfWords}
use Rattle.lcm_sessions.specs.Onboarding.{onboarding_work}
use Rattle.vnfm_commands.specs.Outside.{Beside, Outside, Tells, beside, session_peers, session_tells}
use Rattle.vnfm_commands.specs.Rounds.{AsksNobody, Rests, Serves}
use Rattle.command_line.specs.declared.options.Command.{Command}
use Rattle.command_line.specs.declared.options.Command.TheVariants.{Check, Init, Migrate, Onboard, Once, Serve, Trial}

-- a site that wasn't called: what is read and what a stop may leave are as they were
pub record IsUntouched (a b : SiteState) : Type 0 where
  pub image : b.image ≡ a.image
  pub moment : b.moment ≡ a.moment
  pub since : (t : ℕ) (p : Pair) → b.since t p → a.since t p
  pub still : (t : ℕ) (p : Pair) → a.since t p → b.since t p

-- the journal wasn't opened: its bytes are the cause, and they are as they were at every moment
pub record IsRefused (why : OpenFault) (a b : SiteState) : Type 0 where
  pub because : Refuses why a.image
  pub reads : SyncsAndReads a b

-- what is read, and whatever a stop now may leave, is a file of manager m with this history
pub record IsStart (m : ℕ) (H : List Event) (s : SiteState) : Type 0 where
  pub number : m < 4294967296
  pub file : HasHistory m H s.image
  pub left : (p : Pair) → s.since s.moment p → HasHistory m H p.image

-- the file is unfinished, or its header differs at some place
abbrev pub IsNoJournal : List ℕ → Type 0
IsNoJournal image = IsUnmade image ⊎ ((place : ℕ) × IsForeign place image)

-- the status is this one, or yields to a disk fault or to want of memory
abbrev pub IsOrYields : ℕ → ℕ → Type 0
IsOrYields wanted status = (status ≡ wanted) ⊎ ((status ≡ 3) ⊎ (status ≡ 6))

-- the same, and the history is legal
pub record IsSoundStart (m : ℕ) (H : List Event) (s : SiteState) : Type 0 where
  pub start : IsStart m H s
  pub legal : IsLegal m H

-- why the door failed for a command: waiting for a connection failed, or for `onboard` a read did; `check`, `migrate`
-- and `trial` never ask it
abbrev pub IsDoorCause : Command → DoorCounts → DoorCounts → Type 0
IsDoorCause Onboard a b = Rose a.next b.next ⊎ Rose a.faults b.faults
IsDoorCause Check a b = ⊥
IsDoorCause Migrate a b = ⊥
IsDoorCause Trial a b = ⊥
IsDoorCause other a b = Rose a.next b.next

-- what is read is a file of format 1 of manager m with this history, which is legal
pub record IsSoundOldStart (m : ℕ) (H : List Event) (s : SiteState) : Type 0 where
  pub number : m < 4294967296
  pub file : HasOldHistory m H s.image
  pub legal : IsLegal m H

-- a sound start of a command: of `init` a file that is unfinished for some manager or not, of `migrate` a journal of
-- format 1 with a legal history, of `trial`, which calls no site, any, else a journal with a legal history
abbrev pub IsStartOf : Command → SiteState → Type 0
IsStartOf Init s = Unit {0}
IsStartOf Trial s = Unit {0}
IsStartOf Migrate s = (m : ℕ) × (H : List Event) × IsSoundOldStart m H s
IsStartOf other s = (m : ℕ) × (H : List Event) × IsSoundStart m H s

-- the command may end with this status from a sound start where no call fails
abbrev pub MayEndWith : Command → ℕ → Type 0
MayEndWith Init status = (status ≡ 0) ⊎ ((status ≡ 6) ⊎ (status ≡ 11))
MayEndWith Onboard status = (status ≡ 0) ⊎ ((status ≡ 6) ⊎ ((status ≡ 9) ⊎ (status ≡ 10)))
MayEndWith Once status = (status ≡ 0) ⊎ ((status ≡ 6) ⊎ (status ≡ 9))
MayEndWith Serve status = (status ≡ 0) ⊎ ((status ≡ 6) ⊎ (status ≡ 9))
MayEndWith Check status = (status ≡ 0) ⊎ (status ≡ 6)
MayEndWith Migrate status = (status ≡ 0) ⊎ ((status ≡ 6) ⊎ ((status ≡ 9) ⊎ (status ≡ 11)))
MayEndWith Trial status = (status ≡ 0) ⊎ ((status ≡ 3) ⊎ (status ≡ 6))

-- nothing is pending, and the file has this history
pub record IsAtRest (m : ℕ) (H : List Event) (s : SiteState) : Type 0 where
  pub settled : IsSettled s
  pub file : HasHistory m H s.image

-- The journal was opened with history H, and this work was done. At every moment a stop leaves a history from H to what
-- the work aimed at; at its end one that has all that was acknowledged; and unless the disk failed, nothing is pending
-- and the file has just that. Where the jobs were sound with H, a stop leaves sound ones at every moment.
pub record Recovers (m : ℕ) (H : List Event) (w : Work) (a b : SiteState) : Type 0 where
  pub found : HasHistory m H a.image
  pub any_moment : IsStart m H a → LeavesOnly (HasSome m H (aimed w)) a b
  pub sound : IsStart m H a → IsSound m H a.jobs → StaysSound m H w a b
  pub at_exit : (p : Pair) → b.since b.moment p → HasSome m (stood w) (aimed w) p
  pub rests : failed w ≡ false → IsAtRest m (stood w) b

-- what a run does to the journal's file
abbrev pub AtFile : Course → SiteState → SiteState → Type 0
AtFile misused a b = IsUntouched a b
AtFile starved a b = IsUntouched a b
AtFile (making manager result) a b = Creates manager result a b
AtFile (migrating result) a b = SyncsAndReads a b
AtFile (trying result) a b = IsUntouched a b
AtFile (unopened why) a b = IsRefused why a b
AtFile (opened start activity) a b = Recovers start.number start.history
    (activity_work start.number start.saved start.history activity) a b

-- what an activity does beside the journal: onboarding asks nobody but the door, and counting nobody
abbrev pub ActivityDoes : Tells → Opening → Activity → Beside → Beside → Type 0
ActivityDoes t start (serving service) a b = Serves t start.number start.saved start.history service a b
ActivityDoes t start (onboarding o) a b = BringsIn (session_tells t) o (session_peers a) (session_peers b)
    × AsksNobody t a b
ActivityDoes t start counting a b = b ≡ a

-- what an activity does to the journal: rounds have jobs begun and looked at, onboarding leaves the jobs alone, and
-- counting leaves all
abbrev pub ActivityWorks : Type 0 → ℕ → ℕ → List Event → Activity → Managed → SiteState → SiteState → Type 0
ActivityWorks tells m saved H (serving service) n a b = WorksWithJobs tells m H (service_work m saved H service) n a b
ActivityWorks tells m saved H (onboarding o) n a b = Works tells m H (onboarding_work saved H o) n a b
ActivityWorks tells m saved H counting n a b = Works tells m H (went H) n a b

-- what an activity does, behind the opening; the manager is now n
pub record Pursues (t : Tells) (m saved : ℕ) (H : List Event) (activity : Activity) (n : Managed)
    (w v : Outside) : Type 0 where
  pub works : ActivityWorks t.site m saved H activity n w.site v.site
  pub does : ActivityDoes t (record { number = m; saved = saved; history = H }) activity (beside w) (beside v)
  pub told : AreTold t.site m (told_by m saved H activity) w.mouth.told v.mouth.told w.site v.site

-- what a run does beside the journal: words that set nothing and a trial do nothing, and the making and the opening of a
-- journal ask nobody
abbrev pub CourseDoes : Tells → Course → Beside → Beside → Type 0
CourseDoes t misused a b = b ≡ a
CourseDoes t starved a b = b ≡ a
CourseDoes t (making manager result) a b = Rests t a b
CourseDoes t (migrating result) a b = Rests t a b
CourseDoes t (trying result) a b = b ≡ a
CourseDoes t (unopened why) a b = Rests t a b
CourseDoes t (opened start activity) a c = (b : Beside) × Rests t a b × ActivityDoes t start activity b c

-- the history is legal, and grows by the work as a legal one
pub record IsLegalRun (m : ℕ) (H : List Event) (w : Work) : Type 0 where
  pub number : m < 4294967296
  pub before : IsLegal m H
  pub grows : Grows m H w

-- what was opened is a legal history, and stays one
abbrev pub IsLegalCourse : Course → Type 0
IsLegalCourse (opened start activity) = IsLegalRun start.number start.history
    (activity_work start.number start.saved start.history activity)
IsLegalCourse other = Unit {0}

-- what a run does to the jobs: it leaves them alone, but for rounds, whose acts `CourseDoes` tells
abbrev pub AtJobsBy : Activity → SiteState → SiteState → Type 0
AtJobsBy (serving service) a b = Unit {0}
AtJobsBy (onboarding o) a b = KeepsJobs a b
AtJobsBy counting a b = KeepsJobs a b

abbrev pub AtJobs : Course → SiteState → SiteState → Type 0
AtJobs (opened start activity) a b = AtJobsBy activity a b
AtJobs other a b = KeepsJobs a b

-- a file whose journal was opened to be counted was synced and read, and nothing else was done to it
abbrev pub AtCountBy : Activity → SiteState → SiteState → Type 0
AtCountBy counting a b = SyncsAndReads a b
AtCountBy other a b = Unit {0}

abbrev pub AtCount : Course → SiteState → SiteState → Type 0
AtCount (opened start activity) a b = AtCountBy activity a b
AtCount other a b = Unit {0}

-- what was told in a run, and since when: from the telling of each reply on no stop takes back the history behind it
abbrev pub ToldIn : Type 0 → Course → List ℕ → List ℕ → SiteState → SiteState → Type 0
ToldIn tells (opened start activity) before now a b = AreTold tells start.number
    (told_by start.number start.saved start.history activity) before now a b
ToldIn tells other before now a b = now ≡ before

-- the closed gate of the file stands so many bytes nearer to the front than where each of its records has a batch of
-- its own (own format, docs/JOURNAL.md)
abbrev pub Saves : ℕ → List ℕ → Type 0
Saves saved image = gate_place (batches image) + saved ≡ size (records image)

-- the journal that was opened saves so many bytes
abbrev pub SavesIn : Course → List ℕ → Type 0
SavesIn (opened start activity) image = Saves start.saved image
SavesIn other image = Unit {0}

-- what a run does, by the way that it went
pub record Does (t : Tells) (course : Course) (w v : Outside) : Type 0 where
  pub legal : IsLegalCourse course
  pub site : t.site → AtFile course w.site v.site
  pub saved : t.site → SavesIn course w.site.image
  pub jobs : t.site → AtJobs course w.site v.site
  pub counted : t.site → AtCount course w.site v.site
  pub beside : CourseDoes t course (beside w) (beside v)
  pub told : ToldIn t.site course w.mouth.told v.mouth.told w.site v.site

-- a run of these words went so
pub record Runs (t : Tells) (words : List (List ℕ)) (course : Course) (w v : Outside) : Type 0 where
  pub words_are : IsOfWords words course
  pub does : Does t course w v
