-- What the making of a journal file does (own rule, docs/JOURNAL.md).
use Rattle.std.specs.Prelude.{◌≡◌, ◌⊎◌, ◌≤◌, ℕ, List, [], ◌∷◌, length, drop, Option, Some, None, Result, Ok, Err, OnOk}
use Rattle.site_traits.specs.Site.{Pair, SiteState, LeavesOnly, IsSettled, KeepsJobs}
use Rattle.journal_core.specs.declared.create.CreateFault.{CreateFault}
use Rattle.journal_core.specs.declared.create.CreateFault.TheVariants as fault
use Rattle.journal_records.specs.File.{HasRecords}
use Rattle.journal_core.specs.Header.{first, IsUnfinished}
use Rattle.journal_core.specs.Load.{SyncsAndReads}

-- the pair's file is unfinished for this manager, or made for it with no record
pub record IsMaking (manager : ℕ) (p : Pair) : Type 0 where
  pub file : IsUnfinished manager p.image ⊎ HasRecords manager [] p.image

-- nothing is pending, and the file is made for this manager with no record
pub record IsMade (manager : ℕ) (s : SiteState) : Type 0 where
  pub settled : IsSettled s
  pub file : HasRecords manager [] s.image

-- a stop now leaves only files that are unfinished for this manager
pub record MayBeMade (manager : ℕ) (s : SiteState) : Type 0 where
  pub each : (p : Pair) → s.since s.moment p → IsUnfinished manager p.image

-- The making of a file. `Taken` comes only where the file isn't unfinished for the manager; such a file is as it was
-- throughout, whatever the answer, and then the answer isn't Ok. A stop within leaves an unfinished file unfinished or
-- made. From Ok on it is made, and nothing is pending.
pub record Creates (manager : ℕ) (result : Result (Unit {0}) CreateFault) (a b : SiteState) : Type 0 where
  pub taken : result ≡ Err fault.Taken → ¬ (IsUnfinished manager a.image)
  pub kept : ¬ (IsUnfinished manager a.image) → SyncsAndReads a b × ¬ (result ≡ Ok tt)
  pub any_moment : MayBeMade manager a → LeavesOnly (IsMaking manager) a b
  pub made : OnOk result (IsMade manager b)

-- the pair's file is unfinished for this manager, or has these bytes
pub record IsMakingOf (manager : ℕ) (whole : List ℕ) (p : Pair) : Type 0 where
  pub file : IsUnfinished manager p.image ⊎ (p.image ≡ whole)

-- nothing is pending, and the file has these bytes
pub record IsWritten (whole : List ℕ) (s : SiteState) : Type 0 where
  pub settled : IsSettled s
  pub file : s.image ≡ whole

-- The making of a file of these bytes. `Taken` comes only where the file isn't unfinished for the manager; such a file is
-- as it was throughout, whatever the answer, and then the answer isn't Ok. A stop within leaves an unfinished file
-- unfinished, or with all of these bytes and no other. From Ok on it has them, and nothing is pending.
pub record MakesFile (manager : ℕ) (whole : List ℕ) (result : Result (Unit {0}) CreateFault)
    (a b : SiteState) : Type 0 where
  pub taken : result ≡ Err fault.Taken → ¬ (IsUnfinished manager a.image)
  pub kept : ¬ (IsUnfinished manager a.image) → SyncsAndReads a b × ¬ (result ≡ Ok tt)
  pub any_moment : MayBeMade manager a → LeavesOnly (IsMakingOf manager whole) a b
  pub made : OnOk result (IsWritten whole b)

-- the file has these bytes
pub record IsWhole (whole image : List ℕ) : Type 0 where
  pub is : image ≡ whole

-- the file has all of these bytes but the first, in place of which another stands than `V`
pub record IsFilled (whole image : List ℕ) : Type 0 where
  pub not_made : ¬ (first image ≡ 86)
  pub rest : drop 1 image ≡ drop 1 whole

-- the file is one `v`
pub record IsBegun (image : List ℕ) : Type 0 where
  pub is : image ≡ 118 ∷ []

-- the file has at most one byte
pub record IsEmpty (image : List ℕ) : Type 0 where
  pub short : length image ≤ 1

-- the length of a file that is unfinished for this manager; or the file isn't
abbrev pub LengthIs : ℕ → Option ℕ → List ℕ → Type 0
LengthIs manager (Some len) image = IsUnfinished manager image × (len ≡ length image)
LengthIs manager None image = ¬ (IsUnfinished manager image)

-- nothing is pending on the site, and its file is so
pub record StandsSo (so : List ℕ → Type 0) (s : SiteState) : Type 0 where
  pub settled : IsSettled s
  pub file : so s.image

-- a step of the making of a file of these bytes: a stop within leaves the file unfinished or made, and where it
-- succeeded the file is so; it leaves the jobs alone
pub record Steps {T E : Type 0} (manager : ℕ) (whole : List ℕ) (so : List ℕ → Type 0) (result : Result T E)
    (a b : SiteState) : Type 0 where
  pub any_moment : LeavesOnly (IsMakingOf manager whole) a b
  pub stands : OnOk result (StandsSo so b)
  pub jobs : KeepsJobs a b
