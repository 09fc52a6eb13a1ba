-- How a run goes: what the words were, and what came of the command (own rule, docs/FORMATS.md).
use Rattle.std.specs.Prelude.{◌≡◌, ◌<◌, ℕ, true, List, [], ◌∷◌, ◌++◌, length, min, Option, Result, Ok, Err, Some, None}
use Rattle.executor.specs.Work.{Work, went, stood}
use Rattle.executor.specs.declared.manager.WorkFault.{WorkFault}
use Rattle.executor.specs.declared.manager.WorkFault.TheVariants as working
use Rattle.executor.specs.declared.manager.OpenFault.{OpenFault}
use Rattle.executor.specs.declared.manager.OpenFault.TheVariants as opening
use Rattle.journal_core.specs.declared.create.CreateFault.{CreateFault}
use Rattle.journal_core.specs.declared.create.CreateFault.TheVariants as creating
use Rattle.journal_migration.specs.declared.migration.MigrateFault.{MigrateFault}
use Rattle.journal_migration.specs.declared.migration.MigrateFault.TheVariants as moving
use Rattle.lcm_trial.specs.declared.counts.Tried.{Tried as Numbers}
use Rattle.lcm_trial.specs.declared.counts.TrialFault.{TrialFault}
use Rattle.lcm_trial.specs.declared.counts.TrialFault.TheVariants as trial
use Rattle.lcm_sessions.specs.Session.{Talk, behind_told, life, work_of}
use Rattle.lcm_events.specs.declared.events.Event.{Event}
use Rattle.lcm_events.specs.declared.states.Role.{Role}
use Rattle.notify_outbox.specs.Dispatches.{Dispatch}
use Rattle.notify_outbox.specs.Rounds.{RoundEnd, end_work, once_all_dispatched}
use Rattle.notify_outbox.specs.declared.faults.DeliveryFault.{DeliveryFault}
use Rattle.notify_outbox.specs.declared.faults.DeliveryFault.TheVariants as delivering
use Rattle.occ_work.specs.Deeds.{Deed}
use Rattle.occ_work.specs.Turns.{TurnEnd, once_all_done, turn_work}
use Rattle.lcm_sessions.specs.Onboarding.{Onboarding, answer_of, onboarding_work}
use Rattle.lcm_sessions.specs.declared.answer.Onboarded.{Onboarded as Said}
use Rattle.lcm_sessions.specs.declared.answer.OnboardFault.{OnboardFault}
use Rattle.lcm_sessions.specs.declared.answer.OnboardFault.TheVariants as fault
use Rattle.vnfm_commands.specs.Ending.{Ending}
use Rattle.command_line.specs.Words.{settings_of}
use Rattle.vnfm_commands.specs.Totals.{totals_of}
use Rattle.vnfm_commands.specs.Trying.{Tries}
use Rattle.vnfm_commands.specs.Words.{IsCommand, loads, makes_rounds}
use Rattle.vnfm_commands.specs.declared.ending.Failure.{Failure}
use Rattle.vnfm_commands.specs.declared.ending.Failure.TheVariants.{Usage, SiteFault, DoorFault, NoJournal, NotAJournal}
use Rattle.vnfm_commands.specs.declared.ending.Failure.TheVariants.{NoMemory, BadRecord, JournalFull, DescriptorRefused}
use Rattle.vnfm_commands.specs.declared.ending.Failure.TheVariants.{Taken}
use Rattle.vnfm_commands.specs.declared.ending.Report.TheVariants.{Counted, Done, Made, Migrated, Onboarded, Tried}
use Rattle.vnfm_commands.specs.declared.rounds.ServedRole.{ServedRole}
use Rattle.vnfm_commands.specs.declared.rounds.ServedRole.TheVariants.{Stated, ByDoor}
use Rattle.command_line.specs.declared.options.Command.{Command}
use Rattle.command_line.specs.declared.options.Command.TheVariants.{Check, Init, Migrate, Onboard, Serve, Trial}
use Rattle.command_line.specs.declared.options.Settings.{Settings}
use Rattle.command_line.specs.declared.options.SettingsFault.{SettingsFault}
use Rattle.command_line.specs.declared.options.SettingsFault.TheVariants as setting

-- What came of asking the door in a round: no connection came, or one came, from this role as the door tells, and this
-- talk was held on it.
pub data Visit : Type 0 where
  unasked : Visit
  served : Role → Talk → Visit

-- the turn of a round: what the clock gave for it, in milliseconds, and the acts that were made, the latest first
pub record Turning : Type 0 where
  pub value : ℕ
  pub acts : List Deed

-- what came of a round: a visit, then a turn that went through, and then deliveries that did, with the dispatches that
-- were made, the latest first
pub record Round : Type 0 where
  pub visit : Visit
  pub turn : Turning
  pub dispatches : List Dispatch

-- why a turn or the deliveries of a round didn't go through: the closed gate stands at this place, and behind it there
-- is no room for so many bytes of an event; there is no memory; the disk failed; or this record isn't the event that it
-- was
pub data Halt : Type 0 where
  full : ℕ → ℕ → Halt
  starving broken : Halt
  bad : ℕ → Halt

-- How the rounds ended: all were made, waiting for a connection failed, the disk failed in a talk on a connection from
-- this role, behind this visit the turn with these acts ended so, for this cause, or behind a visit and a turn that
-- went through the deliveries with these dispatches did.
pub data Close : Type 0 where
  finished unreached : Close
  stopped : Role → Talk → Close
  halted : Visit → Turning → TurnEnd → Halt → Close
  undelivered : Visit → Turning → List Dispatch → RoundEnd → Halt → Close

-- the role for which a connection is served, by the one that the door told of it: the stated one, or else that
abbrev pub role_for : ServedRole → Role → Role
role_for (Stated role) came = role
role_for ByDoor came = came

-- the rounds that were made for whoever asks, the latest first, and how they ended
pub record Service : Type 0 where
  pub role : ServedRole
  pub rounds : List Round
  pub close : Close

-- what was done with a journal that was opened: rounds were made, a descriptor was onboarded or not, or what it has was
-- counted
pub data Activity : Type 0 where
  serving : Service → Activity
  onboarding : Onboarding → Activity
  counting : Activity

-- the manager's number, how many bytes its journal saves, and the history that it had when it was opened, the latest
-- event first
pub record Opening : Type 0 where
  pub number : ℕ
  pub saved : ℕ
  pub history : List Event

-- How a run went: the words were no command, there was no memory for what they set, a journal was to be made for this
-- manager, one of format 1 was to be migrated, a trial was made, a journal wasn't opened, or it was opened and this was
-- done.
pub data Course : Type 0 where
  misused starved : Course
  making : ℕ → Result (Unit {0}) CreateFault → Course
  migrating : Result ℕ MigrateFault → Course
  trying : Result Numbers TrialFault → Course
  unopened : OpenFault → Course
  opened : Opening → Activity → Course

-- the history once a visit was served, behind history H of manager m, whose journal saves so many bytes
abbrev pub once_served : ℕ → ℕ → List Event → Visit → List Event
once_served m saved H unasked = H
once_served m saved H (served came talk) = stood (work_of m saved H talk)

-- the moment of a turn: that of the clock's value, which is the last of the year 9999 at most
abbrev pub moment_of : Turning → ℕ
moment_of turn = min turn.value 253402300799999

-- the history once a visit was served, and then these acts were made
abbrev pub once_acted : ℕ → ℕ → List Event → Visit → Turning → List Event
once_acted m saved H visit turn = once_all_done (moment_of turn) (once_served m saved H visit) turn.acts

-- the history once these dispatches were made, at the moment of the turn before them
abbrev pub once_posted : Turning → List Event → List Dispatch → List Event
once_posted turn H ps = once_all_dispatched (moment_of turn) H ps

-- the history once a round was made: its requests were answered, then its acts were made, and then its deliveries
abbrev pub once_made : ℕ → ℕ → List Event → Round → List Event
once_made m saved H r = once_posted r.turn (once_acted m saved H r.visit r.turn) r.dispatches

-- the work of the last talk, turn or deliveries, behind the rounds that were made
abbrev pub close_work : ℕ → ℕ → List Event → Close → Work
close_work m saved H finished = went H
close_work m saved H unreached = went H
close_work m saved H (stopped came talk) = work_of m saved H talk
close_work m saved H (halted visit turn end why) =
    turn_work (moment_of turn) (once_served m saved H visit) turn.acts end
close_work m saved H (undelivered visit turn ps end why) =
    end_work (moment_of turn) (once_posted turn (once_acted m saved H visit turn) ps) end

-- the work of the rounds behind history H of manager m
abbrev pub service_work : ℕ → ℕ → List Event → Service → Work
service_work m saved H service = close_work m saved (life (once_made m saved) H service.rounds) service.close

-- the work of an activity
abbrev pub activity_work : ℕ → ℕ → List Event → Activity → Work
activity_work m saved H (serving service) = service_work m saved H service
activity_work m saved H (onboarding o) = onboarding_work saved H o
activity_work m saved H counting = went H

-- the histories behind what is told in a visit, the latest first
abbrev pub told_in_visit : ℕ → ℕ → List Event → Visit → List (List Event)
told_in_visit m saved H unasked = []
told_in_visit m saved H (served came talk) = behind_told m saved H talk

-- those behind what is told in rounds
abbrev pub told_in_rounds : ℕ → ℕ → List Event → List Round → List (List Event)
told_in_rounds m saved H [] = []
told_in_rounds m saved H (r ∷ before) =
    told_in_visit m saved (life (once_made m saved) H before) r.visit ++ told_in_rounds m saved H before

-- those behind what is told at the end of rounds
abbrev pub told_at_close : ℕ → ℕ → List Event → Close → List (List Event)
told_at_close m saved H finished = []
told_at_close m saved H unreached = []
told_at_close m saved H (stopped came talk) = behind_told m saved H talk
told_at_close m saved H (halted visit turn end why) = told_in_visit m saved H visit
told_at_close m saved H (undelivered visit turn ps end why) = told_in_visit m saved H visit

-- those behind all replies that an activity tells, the latest first: behind each its request is answered
abbrev pub told_by : ℕ → ℕ → List Event → Activity → List (List Event)
told_by m saved H (serving service) = told_at_close m saved (life (once_made m saved) H service.rounds) service.close
    ++ told_in_rounds m saved H service.rounds
told_by m saved H (onboarding o) = []
told_by m saved H counting = []

-- which failure a fault of the settings is
abbrev pub unset : SettingsFault → Failure
unset setting.Usage = Usage
unset setting.Memory = NoMemory

-- which failure a fault of the making of a journal is
abbrev pub unmade : CreateFault → Failure
unmade creating.Taken = Taken
unmade creating.Disk = SiteFault

-- which failure a journal is that wasn't opened
abbrev pub unopened_failure : OpenFault → Failure
unopened_failure opening.Unmade = NoJournal
unopened_failure (opening.Foreign place) = NotAJournal place
unopened_failure (opening.BadRecord n) = BadRecord n
unopened_failure opening.Disk = SiteFault
unopened_failure opening.Memory = NoMemory

-- which failure a descriptor is that wasn't onboarded
abbrev pub unonboarded : OnboardFault → Failure
unonboarded fault.Door = DoorFault
unonboarded (fault.Refused why) = DescriptorRefused why
unonboarded (fault.Full end more) = JournalFull end more
unonboarded fault.Memory = NoMemory
unonboarded fault.Disk = SiteFault

-- which failure a turn is that didn't go through, or deliveries that didn't
abbrev pub halting : Halt → Failure
halting (full end more) = JournalFull end more
halting starving = NoMemory
halting broken = SiteFault
halting (bad n) = BadRecord n

-- the cause of a turn that ended in this fault; an event of an act always fits a record
abbrev pub halt_of : WorkFault → Option Halt
halt_of (working.Full end more) = Some (full end more)
halt_of working.Memory = Some starving
halt_of working.Disk = Some broken
halt_of (working.TooLong n) = None

-- the cause of deliveries that ended in this fault
abbrev pub undelivered_by : DeliveryFault → Halt
undelivered_by (delivering.Full end more) = full end more
undelivered_by delivering.Memory = starving
undelivered_by delivering.Disk = broken
undelivered_by (delivering.BadRecord n) = bad n

-- how a run ends after so many rounds
abbrev pub close_ending : ℕ → Close → Ending
close_ending n finished = Ok (Done n)
close_ending n unreached = Err DoorFault
close_ending n (stopped came talk) = Err SiteFault
close_ending n (halted visit turn end why) = Err (halting why)
close_ending n (undelivered visit turn ps end why) = Err (halting why)

-- how a run ends after onboarding
abbrev pub onboarding_ending : Result Said OnboardFault → Ending
onboarding_ending (Ok said) = Ok (Onboarded said)
onboarding_ending (Err why) = Err (unonboarded why)

-- how a run ends after an activity
abbrev pub activity_ending : ℕ → List Event → Activity → Ending
activity_ending saved H (serving service) = close_ending (length service.rounds) service.close
activity_ending saved H (onboarding o) = onboarding_ending (answer_of saved H o)
activity_ending saved H counting = Ok (Counted (totals_of H))

-- how a run ends where a journal was to be made
abbrev pub making_ending : ℕ → Result (Unit {0}) CreateFault → Ending
making_ending manager (Ok done) = Ok (Made manager)
making_ending manager (Err why) = Err (unmade why)

-- which failure a journal is that wasn't migrated
abbrev pub unmigrated : MigrateFault → Failure
unmigrated (moving.Open why) = unopened_failure why
unmigrated moving.Taken = Taken
unmigrated (moving.Full end more) = JournalFull end more
unmigrated moving.Disk = SiteFault

-- how a run ends where a journal of format 1 was to be migrated
abbrev pub migrating_ending : Result ℕ MigrateFault → Ending
migrating_ending (Ok records) = Ok (Migrated records)
migrating_ending (Err why) = Err (unmigrated why)

-- which failure a trial is that has no numbers
abbrev pub untried : TrialFault → Failure
untried trial.Room = SiteFault
untried trial.Memory = NoMemory

-- how a run ends where a trial was made
abbrev pub trying_ending : Result Numbers TrialFault → Ending
trying_ending (Ok tried) = Ok (Tried tried)
trying_ending (Err why) = Err (untried why)

-- the histories behind all replies that a run tells, the latest first: behind each its request is answered
abbrev pub told_of : Course → List (List Event)
told_of (opened start activity) = told_by start.number start.saved start.history activity
told_of other = []

-- how a run ends
abbrev pub ending_of : Course → Ending
ending_of misused = Err Usage
ending_of starved = Err NoMemory
ending_of (making manager result) = making_ending manager result
ending_of (migrating result) = migrating_ending result
ending_of (trying result) = trying_ending result
ending_of (unopened why) = Err (unopened_failure why)
ending_of (opened start activity) = activity_ending start.saved start.history activity

-- so many rounds were made where all were, and fewer where they ended before
abbrev pub IsCount : ℕ → ℕ → Close → Type 0
IsCount wanted n finished = n ≡ wanted
IsCount wanted n other = n < wanted

-- for whom a command serves connections: `serve` for the role that the door tells, and `once` for the one that its
-- words state
abbrev pub served_role : Command → Role → ServedRole
served_role Serve role = ByDoor
served_role other role = Stated role

-- the activity is one of these settings
pub record ServesAs (s : Settings) (service : Service) : Type 0 where
  pub command : makes_rounds s.command ≡ true
  pub role : service.role ≡ served_role s.command s.role
  pub count : IsCount s.rounds (length service.rounds) service.close

abbrev pub IsActivityOf : Settings → Activity → Type 0
IsActivityOf s (serving service) = ServesAs s service
IsActivityOf s (onboarding o) = s.command ≡ Onboard
IsActivityOf s counting = s.command ≡ Check

-- the course is one of these settings
abbrev pub IsOf : Settings → Course → Type 0
IsOf s misused = ⊥
IsOf s starved = ⊥
IsOf s (making number result) = (s.command ≡ Init) × (number ≡ s.manager)
IsOf s (migrating result) = s.command ≡ Migrate
IsOf s (trying result) = (s.command ≡ Trial) × Tries s.start s.count result
IsOf s (unopened why) = loads s.command ≡ true
IsOf s (opened start activity) = IsActivityOf s activity

-- the course is one of what the words set
pub record IsOfSettings (words : List (List ℕ)) (course : Course) : Type 0 where
  pub settings : Settings
  pub set : settings_of words ≡ Some settings
  pub is : IsOf settings course

-- the course is one of these words: misused exactly where they are no command, else of what they set
abbrev pub IsOfWords : List (List ℕ) → Course → Type 0
IsOfWords words misused = settings_of words ≡ None
IsOfWords words starved = IsCommand words
IsOfWords words course = IsOfSettings words course
