-- What a journal of format 1 stands for (own rule, docs/JOURNAL.md).
use Rattle.std.specs.Prelude.{◌≡◌, ℕ, Bool, List, length, All}
use Rattle.site_traits.specs.Site.{SiteState, IsSettled}
use Rattle.old_journal.specs.declared.marks.Mark.{Mark}
use Rattle.old_journal.specs.File.{records, size, HasRecords}
use Rattle.old_journal.specs.Marks.{IsMark}

-- a journal: whose it is, how many records it has, where its closed gate stands, whether a disk call failed on it, the
-- places that it keeps, and the bytes of the record that was read back last
pub record Ledger : Type 0 where
  pub manager : ℕ
  pub count : ℕ
  pub end : ℕ
  pub closed : Bool
  pub marks : List Mark
  pub back : List ℕ

-- The journal stands for the records of its file, and nothing is pending on the site (own rule).
pub record Stands (s : SiteState) (j : Ledger) : Type 0 where
  pub settled : IsSettled s
  pub file : HasRecords j.manager (records s.image) s.image
  pub count : j.count ≡ length (records s.image)
  pub end : j.end ≡ size (records s.image)
  pub marks : All (IsMark (records s.image)) j.marks
