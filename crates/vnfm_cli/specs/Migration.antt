-- What a run of `migrate` promises, over both of its files and the sink of its line (own rule, docs/JOURNAL.md,
-- "Migration").
use Rattle.std.specs.Prelude.{◌≡◌, ◌⊎◌, ◌++◌, ℕ, List, length}
use Rattle.command_line.specs.declared.options.Command.TheVariants.{Migrate}
use Rattle.executor.specs.History.{spellings}
use Rattle.journal_core.specs.Create.{MayBeMade}
use Rattle.journal_core.specs.Header.{IsUnfinished}
use Rattle.journal_migration.specs.Migrating.{HasMigrated, IsMigrating}
use Rattle.journal_migration.specs.Packing.{AreTooMany}
use Rattle.journal_migration.specs.Reading.{IsBadOldRecord}
use Rattle.journal_migration.specs.declared.packing.Full.{Full}
use Rattle.lcm_events.specs.declared.events.Event.{Event}
use Rattle.old_journal.specs.Header.{IsForeign, IsUnmade}
use Rattle.site_traits.specs.Counts.{Rose, SiteCounts, one_more}
use Rattle.site_traits.specs.Site.{KeepsJobs, LeavesOnly}
use Rattle.vnfm_commands.specs.Ending.{migrated_line}
use Rattle.vnfm_commands.specs.Moving.{IsSpared, Spare}
use Rattle.vnfm_commands.specs.Outside.{Tells}
use Rattle.vnfm_commands.specs.Runs.{IsOrYields, IsSoundOldStart, IsStartOf, MayEndWith}
use Rattle.vnfm_commands.specs.Words.{AreWordsOf}
use Rattle.vnfm_cli.specs.Promises.{Ground, IsLeftAlone}

-- the file is no journal of format 1: it is unfinished, or its header differs at some place
abbrev pub IsNoOldJournal : List ℕ → Type 0
IsNoOldJournal image = IsUnmade image ⊎ ((place : ℕ) × IsForeign place image)

-- Where this holds a disk call failed, once, on one of the two files; else none did.
pub record OneDiskFails (failed : Type 0) (a b c d : SiteCounts) : Type 0 where
  pub rose : failed → ((b.disk ≡ one_more a.disk) × (d.disk ≡ c.disk)) ⊎ ((b.disk ≡ a.disk) × (d.disk ≡ one_more c.disk))
  pub stays : ¬ failed → (b.disk ≡ a.disk) × (d.disk ≡ c.disk)

-- A journal of format 1 was migrated from the first file to the second, or not, and the run ended with this status.
-- The first is as it was throughout. A stop leaves a second one that was unfinished unfinished, or migrated: a journal
-- of the present format with exactly the first one's history. Behind 0 and 7 it is migrated. Each status comes exactly
-- where its cause is, but that it yields to a disk fault and to want of memory: 5 where the first file is no journal of
-- format 1, 8 where one of its records is bad, 11 where the second file isn't unfinished for its manager, and 9 where it
-- is and the packed records are too many for a file. Behind these the second file is as it was.
pub record MigratesSo (lines : Type 0) (status : ℕ) (a b : Ground) (c d : Spare) : Type 0 where
  pub alone : IsLeftAlone a.outside.site b.outside.site
  pub jobs : KeepsJobs c.site d.site
  pub moments : (m : ℕ) (H : List Event) → IsSoundOldStart m H a.outside.site → MayBeMade m c.site
      → LeavesOnly (IsMigrating m H) c.site d.site
  pub made : (status ≡ 0) ⊎ (status ≡ 7) → (m : ℕ) × (H : List Event) × IsSoundOldStart m H a.outside.site
      × HasMigrated m H d.site
  pub line : lines → status ≡ 0 → (m : ℕ) (H : List Event) → IsSoundOldStart m H a.outside.site
      → b.lines.bytes ≡ a.lines.bytes ++ migrated_line (length H)
  pub no_journal : status ≡ 5 → IsNoOldJournal a.outside.site.image
  pub is_no_journal : IsNoOldJournal a.outside.site.image → IsOrYields 5 status × IsSpared c d
  pub record_is_bad : status ≡ 8 → (n : ℕ) × IsBadOldRecord n a.outside.site.image
  pub bad_record : (n : ℕ) → IsBadOldRecord n a.outside.site.image → IsOrYields 8 status × IsSpared c d
  pub taken : status ≡ 11 → (m : ℕ) × (H : List Event) × IsSoundOldStart m H a.outside.site
      × ¬ (IsUnfinished m c.site.image)
  pub is_taken : (m : ℕ) (H : List Event) → IsSoundOldStart m H a.outside.site → ¬ (IsUnfinished m c.site.image)
      → IsOrYields 11 status × IsLeftAlone c.site d.site
  pub full : status ≡ 9 → (m : ℕ) × (H : List Event) × IsSoundOldStart m H a.outside.site
      × IsUnfinished m c.site.image × ((unfit : Full) × AreTooMany (spellings H) unfit)
  pub is_full : (m : ℕ) (H : List Event) (unfit : Full) → IsSoundOldStart m H a.outside.site
      → IsUnfinished m c.site.image → AreTooMany (spellings H) unfit → IsOrYields 9 status × IsLeftAlone c.site d.site
  pub complete : IsStartOf Migrate a.outside.site → ¬ (Rose a.outside.counts.disk b.outside.counts.disk)
      → ¬ (Rose c.counts.disk d.counts.disk) → ¬ (Rose a.lines.counts.faults b.lines.counts.faults)
      → MayEndWith Migrate status

-- What a run of words of `migrate` does beside what each run promises. A disk fault of one of its files is told by 3;
-- where the journal wasn't read, the second file wasn't called; and where both files tell, it was migrated so.
pub record MigratesAs (t : Tells) (spare_tells lines : Type 0) (words : List (List ℕ)) (status : ℕ) (a b : Ground)
    (c d : Spare) : Type 0 where
  pub disk : AreWordsOf Migrate words → OneDiskFails (status ≡ 3) a.outside.counts b.outside.counts c.counts d.counts
  pub unread : AreWordsOf Migrate words → (status ≡ 5) ⊎ ((status ≡ 6) ⊎ (status ≡ 8)) → IsSpared c d
  pub told : t.site → spare_tells → AreWordsOf Migrate words → MigratesSo lines status a b c d
