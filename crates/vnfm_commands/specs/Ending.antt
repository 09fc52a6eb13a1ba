-- How a run ends: its status, and the line that it prints (own rule, docs/FORMATS.md).
use Rattle.std.specs.Prelude.{◌≡◌, ◌≤◌, ◌⊎◌, ℕ, ◌==◌, List, [], ◌∷◌, ◌++◌, codes, decimal, if◌then◌else◌, Bool, true}
use Rattle.std.specs.Prelude.{false, Result, Ok, Err}
use Rattle.lcm_sessions.specs.declared.answer.DescriptorRefusal.{DescriptorRefusal}
use Rattle.lcm_sessions.specs.declared.answer.DescriptorRefusal.TheVariants.{Unread, IsOnboarded, TooMany, TooLong}
use Rattle.lcm_sessions.specs.declared.answer.Onboarded.{Onboarded as Said}
use Rattle.lcm_trial.specs.declared.counts.Tried.{Tried as Numbers}
use Rattle.site_traits.specs.Counts.{CallCounts, called, called_in_vain}
use Rattle.vnfd_document.specs.Texts.{fault_text}
use Rattle.vnfm_commands.specs.declared.ending.Failure.{Failure}
use Rattle.vnfm_commands.specs.declared.ending.Failure.TheVariants.{Usage, SiteFault, DoorFault, NoJournal, NotAJournal}
use Rattle.vnfm_commands.specs.declared.ending.Failure.TheVariants.{NoMemory, BadRecord, JournalFull, DescriptorRefused}
use Rattle.vnfm_commands.specs.declared.ending.Failure.TheVariants.{Taken}
use Rattle.vnfm_commands.specs.declared.ending.Report.{Report}
use Rattle.vnfm_commands.specs.declared.ending.Report.TheVariants.{Counted, Done, Made, Migrated, Onboarded, Tried}
use Rattle.vnfm_commands.specs.declared.totals.Totals.{Totals}

-- how a run ended: what is reported, or why it failed
abbrev pub Ending : Type 0
Ending = Result Report Failure

-- the status of a failure
abbrev pub failure_status : Failure → ℕ
failure_status Usage = 2
failure_status SiteFault = 3
failure_status DoorFault = 4
failure_status NoJournal = 5
failure_status (NotAJournal place) = 5
failure_status NoMemory = 6
failure_status (BadRecord n) = 8
failure_status (JournalFull end more) = 9
failure_status (DescriptorRefused why) = 10
failure_status Taken = 11

-- the status of an ending
abbrev pub status_of : Ending → ℕ
status_of (Ok report) = 0
status_of (Err why) = failure_status why

-- a line that ends with a number
abbrev pub numbered_line : List ℕ → ℕ → List ℕ
numbered_line text n = text ++ decimal n ++ 10 ∷ []

-- the line of a journal that has no room: the place of its end, and the bytes that were to be added
abbrev pub full_line : ℕ → ℕ → List ℕ
full_line end more = codes "journal full: " ++ decimal end ++ codes " + " ++ decimal more ++ codes " bytes\n"

-- why a descriptor is refused, in words
abbrev pub refusal_text : DescriptorRefusal → List ℕ
refusal_text (Unread fault) = fault_text fault
refusal_text IsOnboarded = codes "vnfdId is onboarded"
refusal_text TooMany = codes "256 descriptors"
refusal_text (TooLong n) = codes "encodes to " ++ (decimal n ++ codes " bytes")

-- the line of a descriptor that is refused
abbrev pub refused_line : DescriptorRefusal → List ℕ
refused_line why = codes "descriptor refused: " ++ refusal_text why ++ codes "\n"

-- a text with a number and its unit behind it
abbrev pub with_count : List ℕ → ℕ → List ℕ → List ℕ
with_count text n unit = text ++ decimal n ++ unit

-- the line of a descriptor that was onboarded: its identifier, and how many VDUs, aspects and levels it has
abbrev pub onboarded_line : Said → List ℕ
onboarded_line d =
    with_count
    (with_count
    (with_count (codes "onboarded " ++ d.id ++ codes ": ") d.vdus (codes " vdus, "))
    d.aspects (codes " aspects, "))
    d.levels (codes " levels\n")

-- the line of what a journal has: its records, its live instances, its operations that go on, and its live
-- subscriptions, in this order
abbrev pub totals_line : Totals → List ℕ
totals_line t = codes "records " ++ decimal t.records ++ codes ", instances " ++ decimal t.instances
    ++ codes ", ongoing " ++ decimal t.ongoing ++ codes ", subscriptions " ++ decimal t.subscriptions ++ codes "\n"

-- the line of a journal that was migrated, of so many records
abbrev pub migrated_line : ℕ → List ℕ
migrated_line records = codes "migrated " ++ decimal records ++ codes " records\n"

-- the lines of a trial: its requests, how many were accepted and refused; its operations by how they ended, and those
-- that go on; the jobs that were begun, and the definitions that stand
abbrev pub requests_line : Numbers → List ℕ
requests_line t = codes "requests " ++ decimal t.requests ++ codes ", accepted " ++ decimal t.accepted
    ++ codes ", refused " ++ decimal t.refused ++ codes "\n"

abbrev pub ends_line : Numbers → List ℕ
ends_line t = codes "completed " ++ decimal t.completed ++ codes ", failed " ++ decimal t.failed
    ++ codes ", rolled back " ++ decimal t.rolled_back ++ codes ", ongoing " ++ decimal t.ongoing ++ codes "\n"

abbrev pub jobs_line : Numbers → List ℕ
jobs_line t = codes "jobs " ++ decimal t.jobs ++ codes ", standing " ++ decimal t.standing ++ codes "\n"

abbrev pub tried_lines : Numbers → List ℕ
tried_lines t = requests_line t ++ (ends_line t ++ jobs_line t)

-- the line of a report; a trial has three
abbrev pub report_line : Report → List ℕ
report_line (Done rounds) = codes "done after " ++ decimal rounds ++ codes " rounds\n"
report_line (Made manager) = numbered_line (codes "journal made for manager ") manager
report_line (Onboarded d) = onboarded_line d
report_line (Counted t) = totals_line t
report_line (Migrated records) = migrated_line records
report_line (Tried numbers) = tried_lines numbers

-- the line of a failure
abbrev pub failure_line : Failure → List ℕ
failure_line Usage = codes "usage: vnfm init|onboard|once|serve|check|trial|migrate\n"
failure_line SiteFault = codes "site fault\n"
failure_line DoorFault = codes "door fault\n"
failure_line NoJournal = codes "no journal\n"
failure_line (NotAJournal place) = numbered_line (codes "not a journal: byte ") place
failure_line NoMemory = codes "no memory\n"
failure_line (BadRecord n) = numbered_line (codes "bad record ") n
failure_line (JournalFull end more) = full_line end more
failure_line (DescriptorRefused why) = refused_line why
failure_line Taken = codes "taken\n"

-- the line of an ending
abbrev pub line_of : Ending → List ℕ
line_of (Ok report) = report_line report
line_of (Err why) = failure_line why

-- the program's status: the ending's, but 7 where that is 0 and the line couldn't be put
abbrev pub told_status : Bool → ℕ → ℕ
told_status true status = status
told_status false status = if status == 0 then 7 else status

-- the statuses that there are: 0, and 2 to 11
abbrev pub IsStatus : ℕ → Type 0
IsStatus status = (status ≡ 0) ⊎ ((2 ≤ status) × (status ≤ 11))

-- what a sink shows: its bytes so far, which count where it tells them, and how often it was put to
pub record Output : Type 0 where
  pub bytes : List ℕ
  pub counts : CallCounts

abbrev pub output_of : {W : Type 0} → (W → List ℕ) → (W → CallCounts) → W → Output
output_of state counts sink = record { bytes = state sink; counts = counts sink }

-- The line of the ending was put in one call, or none of it, which the sink counts; the status says so where it would
-- be 0.
pub record Ends (tells : Type 0) (ending : Ending) (status : ℕ) (a b : Output) : Type 0 where
  pub put : Bool
  pub status_is : status ≡ told_status put (status_of ending)
  pub line : tells → b.bytes ≡ (if put then a.bytes ++ line_of ending else a.bytes)
  pub counts : b.counts ≡ (if put then called a.counts else called_in_vain a.counts)
