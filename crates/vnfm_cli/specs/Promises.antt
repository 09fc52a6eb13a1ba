-- What a run promises, over all that it works with and the sink of its line (own rule, docs/FORMATS.md).
use Rattle.std.specs.Prelude.{◌≡◌, ◌<◌, ◌++◌, ℕ, List}
use Rattle.command_line.specs.declared.options.Command.{Command}
use Rattle.command_line.specs.declared.options.Command.TheVariants.{Check, Migrate, Trial}
use Rattle.lcm_events.specs.declared.events.Event.{Event}
use Rattle.occ_work.specs.Around.{CountJobsAlike, DiskFails}
use Rattle.site_traits.specs.Counts.{Rose}
use Rattle.executor.specs.History.{HasHistory}
use Rattle.site_traits.specs.Site.{FileStep, LeavesOnly, Pair, Same, SiteState}
use Rattle.vnfm_cli.specs.Causes.{HasCauses}
use Rattle.vnfm_cli.specs.Headline.{AreStanding, IsFresh, IsFreshPair, IsSoundBeginning, IsSoundPair}
use Rattle.vnfm_commands.specs.Course.{Course, ending_of, told_of}
use Rattle.vnfm_commands.specs.Ending.{Ends, Output, totals_line}
use Rattle.vnfm_commands.specs.Outside.{Outside, Tells}
use Rattle.vnfm_commands.specs.Runs.{IsDoorCause, IsStartOf, MayEndWith, Runs}
use Rattle.vnfm_commands.specs.Totals.{totals_of}
use Rattle.vnfm_commands.specs.Words.{AreInit, AreServing, AreWordsOf}

-- all that a run works with, and the sink of its line
pub record Ground : Type 1 where
  pub outside : Outside
  pub lines : Output

abbrev pub ground_of : Outside → Output → Ground
ground_of outside lines = record { outside = outside; lines = lines }

-- from a sound beginning a stop leaves sound pairs, whenever it comes
abbrev pub StaysSound : Ground → Ground → Type 0
StaysSound a b = (m : ℕ) (H : List Event) → IsSoundBeginning m H a.outside.site
    → LeavesOnly (IsSoundPair m H) a.outside.site b.outside.site

-- and from the telling of each reply on, pairs that are sound from the history behind it on
abbrev pub Acknowledges : Course → Ground → Ground → Type 0
Acknowledges course a b =
    (m : ℕ) (H : List Event) → IsSoundBeginning m H a.outside.site
    → AreStanding m (told_of course) a.outside.mouth.told b.outside.mouth.told a.outside.site b.outside.site

-- from a fresh site `init` leaves fresh pairs
abbrev pub StaysFresh : List (List ℕ) → Ground → Ground → Type 0
StaysFresh words a b = (m : ℕ) → AreInit m words → IsFresh m a.outside.site
    → LeavesOnly (IsFreshPair m) a.outside.site b.outside.site

-- a stop before might have left this file, beside these jobs, of which running ones may have ended by themselves since
pub record MightBeLeft (a : SiteState) (p : Pair) : Type 0 where
  pub before : Pair
  pub was : a.since a.moment before
  pub step : FileStep Same before p

-- The file and the jobs of a site were left alone: a read gives what it gave, no call on jobs was answered, and a stop
-- leaves, whenever it comes, what one before might have left.
pub record IsLeftAlone (a b : SiteState) : Type 0 where
  pub image : b.image ≡ a.image
  pub answers : b.answers ≡ a.answers
  pub left : LeavesOnly (MightBeLeft a) a b

-- `check` changes nothing
abbrev pub ChangesNothing : List (List ℕ) → Ground → Ground → Type 0
ChangesNothing words a b = AreWordsOf Check words → IsLeftAlone a.outside.site b.outside.site

-- where `check` ends with 0, its line has the totals of the file's history
abbrev pub TellsTotals : List (List ℕ) → ℕ → Ground → Ground → Type 0
TellsTotals words status a b =
    AreWordsOf Check words → status ≡ 0 → (m : ℕ) (H : List Event) → m < 4294967296
    → HasHistory m H a.outside.site.image → b.lines.bytes ≡ a.lines.bytes ++ totals_line (totals_of H)

-- a command but `migrate` and `trial`, of which `MigratesAs` and `TriesAs` tell, ends with one of its statuses from a sound
-- start where no call of the disk, of the door or of the sink failed
abbrev pub IsComplete : List (List ℕ) → ℕ → Ground → Ground → Type 0
IsComplete words status a b =
    (command : Command) → ¬ (command ≡ Migrate) → ¬ (command ≡ Trial) → AreWordsOf command words
    → IsStartOf command a.outside.site
    → ¬ (Rose a.outside.counts.disk b.outside.counts.disk)
    → ¬ (IsDoorCause command a.outside.mouth.wire.intake.counts b.outside.mouth.wire.intake.counts)
    → ¬ (Rose a.lines.counts.faults b.lines.counts.faults)
    → MayEndWith command status

-- One run of these words went so, and ended with this status, of which its line tells. Where the site tells, a stop
-- leaves, whenever it comes, what the headline says: of a sound beginning sound pairs, which hold all that was
-- acknowledged before it, and of a fresh site of `init` fresh ones. `check` changes nothing, and tells what there is.
pub record Promises (t : Tells) (lines : Type 0) (words : List (List ℕ)) (status : ℕ) (a b : Ground) : Type 0 where
  pub course : Course
  pub runs : Runs t words course a.outside b.outside
  pub ends : Ends lines (ending_of course) status a.lines b.lines
  pub headline : t.site → StaysSound a b
  pub acknowledged : t.site → Acknowledges course a b
  pub beginning : t.site → StaysFresh words a b
  pub unchanged : t.site → ChangesNothing words a b
  pub totals : t.site → lines → TellsTotals words status a b
  pub disk : ¬ (AreWordsOf Migrate words) → ¬ (AreWordsOf Trial words)
      → DiskFails (status ≡ 3) a.outside.counts b.outside.counts
  pub untouched_jobs : ¬ (AreServing words) → CountJobsAlike a.outside.counts b.outside.counts
  pub causes : HasCauses t.site words status a.outside b.outside a.lines b.lines
  pub complete : t.site → IsComplete words status a b
