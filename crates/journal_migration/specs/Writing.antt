-- The writing of a packed file (own rule, docs/JOURNAL.md, "Migration").
use Rattle.std.specs.Prelude.{◌≡◌, ◌⊎◌, ℕ, List, take, Option, Some, None, Result, Ok, Err}
use Rattle.journal_core.specs.Create.{MakesFile}
use Rattle.journal_core.specs.Header.{IsUnfinished}
use Rattle.journal_core.specs.Load.{SyncsAndReads}
use Rattle.journal_core.specs.declared.create.CreateFault.{CreateFault}
use Rattle.journal_core.specs.declared.create.CreateFault.TheVariants as creating
use Rattle.journal_records.specs.File.{header}
use Rattle.site_traits.specs.Site.{SiteState}
use Rattle.journal_migration.specs.Packing.{Packing}
use Rattle.journal_migration.specs.declared.migration.MigrateFault.{MigrateFault}
use Rattle.journal_migration.specs.declared.migration.MigrateFault.TheVariants as fault
use Rattle.journal_migration.specs.declared.packing.Full.{Full}

-- which fault of migrating a fault of making a file is
abbrev pub created_fault : CreateFault → MigrateFault
created_fault creating.Taken = fault.Taken
created_fault creating.Disk = fault.Disk

-- the answer of a making, as that of a migration
abbrev pub SameAnswer : Result (Unit {0}) CreateFault → Result (Unit {0}) MigrateFault → Type 0
SameAnswer (Ok done) result = result ≡ Ok tt
SameAnswer (Err why) result = result ≡ Err (created_fault why)

-- a packing whose file, where it has room for all, begins with the header of this manager
abbrev pub BeginsFile : ℕ → List ℕ → Option Full → Type 0
BeginsFile manager bytes None = take 32 bytes ≡ header manager
BeginsFile manager bytes (Some unfit) = Unit {0}

abbrev pub IsPackingOf : ℕ → Packing → Type 0
IsPackingOf manager p = BeginsFile manager p.bytes p.unfit

-- The file is as it was: it isn't unfinished for this manager, or it is, and has no room for this batch; or the disk
-- failed.
pub record RefusesFull (manager : ℕ) (unfit : Full) (result : Result (Unit {0}) MigrateFault)
    (a b : SiteState) : Type 0 where
  pub reads : SyncsAndReads a b
  pub taken : result ≡ Err fault.Taken → ¬ (IsUnfinished manager a.image)
  pub kept : ¬ (IsUnfinished manager a.image) → (result ≡ Err fault.Taken) ⊎ (result ≡ Err fault.Disk)
  pub unfinished : IsUnfinished manager a.image → (result ≡ Err (fault.Full unfit.end unfit.more)) ⊎ (result ≡ Err fault.Disk)
  pub full : (end more : ℕ) → result ≡ Err (fault.Full end more) → IsUnfinished manager a.image × (end ≡ unfit.end)
      × (more ≡ unfit.more)
  pub never : ¬ (result ≡ Ok tt)

-- the making of a file of these bytes, with an answer of a migration
pub record Makes (manager : ℕ) (whole : List ℕ) (result : Result (Unit {0}) MigrateFault)
    (a b : SiteState) : Type 0 where
  pub answer : Result (Unit {0}) CreateFault
  pub is : SameAnswer answer result
  pub makes : MakesFile manager whole answer a b

-- a file of the packed records is made, or refused where it has no room
abbrev pub WritesAs : ℕ → List ℕ → Option Full → Result (Unit {0}) MigrateFault → SiteState → SiteState → Type 0
WritesAs manager bytes None result a b = Makes manager bytes result a b
WritesAs manager bytes (Some unfit) result a b = RefusesFull manager unfit result a b

abbrev pub WritesPacked : ℕ → Packing → Result (Unit {0}) MigrateFault → SiteState → SiteState → Type 0
WritesPacked manager p result a b = WritesAs manager p.bytes p.unfit result a b
