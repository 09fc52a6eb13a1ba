-- What the calls of a journal ask of its site, and which faults they count (own rule).
use Rattle.std.specs.Prelude.{◌≡◌, ℕ, zero, suc, nat_lt, Bool, true, false, List, [], ◌∷◌, Result, Ok, Err}
use Rattle.site_traits.specs.Counts.{SiteCounts, Ask, asked, all_asked, disk_failed, OnlyDiskFails, StopsIn}
use Rattle.site_traits.specs.Counts.Ask.{write, cut, sync}
use Rattle.journal_core.specs.declared.create.CreateFault.{CreateFault}
use Rattle.journal_core.specs.declared.create.CreateFault.TheVariants as creating
use Rattle.journal_core.specs.declared.journal.AppendFault.{AppendFault}
use Rattle.journal_core.specs.declared.journal.AppendFault.TheVariants as appending

-- so many times a write and then a sync
abbrev pub through : ℕ → List Ask
through zero = []
through (suc n) = write ∷ sync ∷ through n

-- Where this holds the last call failed, which is counted once; else none failed. All was asked for then.
pub record FailsWhere (failed : Type 0) (asked now : SiteCounts) : Type 0 where
  pub rose : failed → now ≡ disk_failed asked
  pub stays : ¬ failed → now ≡ asked

-- What an append asks of the site: two writes and two syncs, or the front of these up to one that failed; nothing where
-- there is no room. It reads nothing.
abbrev pub AppendAsks : {T : Type 0} → Result T AppendFault → SiteCounts → SiteCounts → Type 0
AppendAsks (Ok done) a b = b ≡ all_asked (through 2) a
AppendAsks (Err (appending.Full end more)) a b = b ≡ a
AppendAsks (Err appending.Disk) a b = StopsIn (through 2) a b

-- what the making of an unfinished file asks for behind its first sync, by whether it is longer than a byte and is cut
abbrev pub to_make : Bool → List Ask
to_make true = cut ∷ sync ∷ through 3
to_make false = through 3

-- What the making of a file asks of the site: a sync, a cut and a sync where it is longer than a byte, and three times a
-- write and then a sync, or the front of these up to a call that failed; the first sync alone where the file is taken.
abbrev pub AsksToMake : {T : Type 0} → Bool → Result T CreateFault → SiteCounts → SiteCounts → Type 0
AsksToMake longer (Ok done) a b = b ≡ all_asked (sync ∷ to_make longer) a
AsksToMake longer (Err creating.Taken) a b = b ≡ asked sync a
AsksToMake longer (Err creating.Disk) a b = StopsIn (sync ∷ to_make longer) a b

-- the making of a file asks for this, of which the length that the file had is known where the site tells
pub record CreateAsks {T : Type 0} (tells : Type 0) (long : ℕ) (r : Result T CreateFault) (a b : SiteCounts) : Type 0 where
  pub longer : Bool
  pub is : tells → longer ≡ nat_lt 1 long
  pub asks : AsksToMake longer r a b

-- an append counts one disk fault where it answers one, and none else
abbrev pub AppendsCount : Type 0
AppendsCount = (r : Result (Unit {0}) AppendFault) (a b : SiteCounts) → AppendAsks r a b
    → OnlyDiskFails (r ≡ Err appending.Disk) a b

-- and so does the making of a file
abbrev pub CreatesCount : Type 0
CreatesCount = (longer : Bool) (r : Result (Unit {0}) CreateFault) (a b : SiteCounts) → AsksToMake longer r a b
    → OnlyDiskFails (r ≡ Err creating.Disk) a b
