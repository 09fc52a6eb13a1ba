-- What a run does to the file to which a journal is migrated (own rule, docs/JOURNAL.md, "Migration").
use Rattle.std.specs.Prelude.{◌≡◌, ◌⊎◌, ℕ, List, Result, Ok, Err}
use Rattle.executor.specs.declared.manager.OpenFault.{OpenFault}
use Rattle.executor.specs.declared.manager.OpenFault.TheVariants as opening
use Rattle.journal_core.specs.Asking.{FailsWhere}
use Rattle.journal_migration.specs.Migrating.{MigratesFrom}
use Rattle.journal_migration.specs.Reading.{RefusesOld}
use Rattle.journal_migration.specs.declared.migration.MigrateFault.{MigrateFault}
use Rattle.journal_migration.specs.declared.migration.MigrateFault.TheVariants as fault
use Rattle.journal_core.specs.Load.{SyncsAndReads}
use Rattle.site_traits.specs.Counts.{SiteCounts, asked, OnlyDiskFails}
use Rattle.site_traits.specs.Counts.Ask.{sync}
use Rattle.site_traits.specs.Site.{KeepsJobs, SiteState}
use Rattle.vnfm_commands.specs.Course.{migrating_ending}
use Rattle.vnfm_commands.specs.Ending.{Ending}
use Rattle.vnfm_commands.specs.Runs.{IsUntouched}
use Rattle.vnfm_commands.specs.declared.ending.Failure.TheVariants.{NoMemory}

-- a file that a run works with: what its site tells, and what it counts
pub record Spare : Type 1 where
  pub site : SiteState
  pub counts : SiteCounts

abbrev pub spare_of : SiteState → SiteCounts → Spare
spare_of site counts = record { site = site; counts = counts }

-- the file wasn't called, nor its jobs
pub record IsSpared (a b : Spare) : Type 0 where
  pub site : IsUntouched a.site b.site
  pub jobs : KeepsJobs a.site b.site
  pub counts : b.counts ≡ a.counts

-- The journal of format 1 of the first file was migrated to the second, or why it wasn't. The first was read alone, and
-- where it was refused the second wasn't called.
pub record Moves (tells spare_tells : Type 0) (moved : Result ℕ MigrateFault) (a b c d : Spare) : Type 0 where
  pub refused : (why : OpenFault) → moved ≡ Err (fault.Open why) → IsSpared c d × (tells → RefusesOld why a.site.image)
  pub migrates : tells → spare_tells → MigratesFrom a.site.image moved c.site d.site
  pub reads : tells → SyncsAndReads a.site b.site
  pub jobs : spare_tells → KeepsJobs c.site d.site
  pub first : FailsWhere (moved ≡ Err (fault.Open opening.Disk)) (asked sync a.counts) b.counts
  pub second : OnlyDiskFails (moved ≡ Err fault.Disk) c.counts d.counts

-- it was migrated or not, and the run ends so; or there was no memory for what the words set, and neither was called
abbrev pub MovesOrStarves : Type 0 → Type 0 → Ending → Spare → Spare → Spare → Spare → Type 0
MovesOrStarves tells spare_tells ending a b c d =
    ((moved : Result ℕ MigrateFault) × (ending ≡ migrating_ending moved) × Moves tells spare_tells moved a b c d)
    ⊎ ((ending ≡ Err NoMemory) × IsSpared a b × IsSpared c d)
