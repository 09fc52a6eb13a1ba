-- What the migration of a journal of format 1 does to the file that it goes to (own rule, docs/JOURNAL.md, "Migration").
use Rattle.std.specs.Prelude.{◌≡◌, ◌⊎◌, ◌<◌, ℕ, List, length, Result, Err, IfOk}
use Rattle.executor.specs.History.{HasHistory, spellings}
use Rattle.journal_core.specs.Create.{MayBeMade}
use Rattle.journal_core.specs.Header.{IsUnfinished}
use Rattle.journal_core.specs.Load.{SyncsAndReads}
use Rattle.lcm_events.specs.declared.events.Event.{Event}
use Rattle.lcm_model.specs.Allowed.{IsLegal}
use Rattle.site_traits.specs.Site.{Pair, SiteState, LeavesOnly, IsSettled}
use Rattle.journal_migration.specs.Packing.{AreTooMany, IsPackedFile}
use Rattle.journal_migration.specs.Reading.{HasOldHistory}
use Rattle.journal_migration.specs.declared.migration.MigrateFault.{MigrateFault}
use Rattle.journal_migration.specs.declared.migration.MigrateFault.TheVariants as fault

-- The file is exactly the header of this manager, the spellings of the history's events, packed, and a closed gate. So
-- it is a journal of the present format with that history.
pub record IsMigrated (m : ℕ) (H : List Event) (image : List ℕ) : Type 0 where
  pub packed : IsPackedFile m (spellings H) image
  pub history : HasHistory m H image

-- the pair's file is unfinished for this manager, or migrated
pub record IsMigrating (m : ℕ) (H : List Event) (p : Pair) : Type 0 where
  pub file : IsUnfinished m p.image ⊎ IsMigrated m H p.image

-- nothing is pending, and the file is migrated
pub record HasMigrated (m : ℕ) (H : List Event) (s : SiteState) : Type 0 where
  pub settled : IsSettled s
  pub file : IsMigrated m H s.image

-- the answer is this one, or the file's disk failed
abbrev pub IsOrFails : Result ℕ MigrateFault → Result ℕ MigrateFault → Type 0
IsOrFails wanted result = (result ≡ wanted) ⊎ (result ≡ Err fault.Disk)

-- What the migration of a journal of this manager with this history does to the file that it goes to. `Taken` comes
-- exactly where that isn't unfinished for the manager, and `Full` exactly where it is and the packed records are too many
-- for a file, but that each yields to a disk fault; then the file is as it was throughout. A stop within leaves an
-- unfinished file unfinished or migrated. From Ok on, which gives the number of events, it is migrated, and nothing is
-- pending.
pub record Migrates (m : ℕ) (H : List Event) (result : Result ℕ MigrateFault) (a b : SiteState) : Type 0 where
  pub taken : result ≡ Err fault.Taken → ¬ (IsUnfinished m a.image)
  pub kept : ¬ (IsUnfinished m a.image) → SyncsAndReads a b × IsOrFails (Err fault.Taken) result
  pub full : (end more : ℕ) → result ≡ Err (fault.Full end more) → IsUnfinished m a.image × SyncsAndReads a b
      × AreTooMany (spellings H) (record { end = end; more = more })
  pub too_many : (end more : ℕ) → AreTooMany (spellings H) (record { end = end; more = more }) → IsUnfinished m a.image
      → SyncsAndReads a b × IsOrFails (Err (fault.Full end more)) result
  pub any_moment : MayBeMade m a → LeavesOnly (IsMigrating m H) a b
  pub made : IfOk result (λ n. (n ≡ length H) × HasMigrated m H b)

-- A journal of format 1 of this file was read: it has a legal history, and this was done to the other file. Where it
-- wasn't read nothing was.
abbrev pub MigratesFrom : List ℕ → Result ℕ MigrateFault → SiteState → SiteState → Type 0
MigratesFrom image (Err (fault.Open why)) a b = Unit {0}
MigratesFrom image result a b =
    (m : ℕ) × (H : List Event) × (m < 4294967296) × HasOldHistory m H image × IsLegal m H × Migrates m H result a b
