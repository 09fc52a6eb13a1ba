-- What a journal stands for, and what an append does.
use Rattle.std.specs.Prelude.{◌≡◌, ◌⊎◌, ℕ, ◌+◌, Bool, List, [], ◌∷◌, ◌++◌, length, Result, OnOk, All}
use Rattle.site_traits.specs.Site.{Pair, SiteState, LeavesOnly, IsSettled}
use Rattle.journal_core.specs.declared.marks.Mark.{Mark}
use Rattle.journal_records.specs.File.{batches, records, gate_place, size, HasRecords}
use Rattle.journal_records.specs.Reading.{Reading, StandsBehind}
use Rattle.journal_core.specs.Marks.{IsMark}

-- A journal: whose it is, how many records it has, where its closed gate stands, how many bytes nearer to the front than
-- where each record has a batch of its own, whether a disk call failed on it, the places that it keeps, the bytes of the
-- record that was read back last, and how far the file was read then: behind so many records.
pub record Ledger : Type 0 where
  pub manager : ℕ
  pub count : ℕ
  pub end : ℕ
  pub saved : ℕ
  pub closed : Bool
  pub marks : List Mark
  pub back : List ℕ
  pub behind : ℕ
  pub reading : Reading

-- a file of these batches was read up to behind the first so many of its records
pub record IsReadUpTo (batches : List (List (List ℕ))) (given : ℕ) (r : Reading) (end : ℕ) (image : List ℕ) : Type 0 where
  pub before : List (List (List ℕ))
  pub behind : List (List (List ℕ))
  pub records : List (List ℕ)
  pub splits : batches ≡ before ++ behind
  pub many : given ≡ length records
  pub reading : StandsBehind before records r end image

-- The journal stands for the records of its file, and nothing is pending on the site (own rule).
pub record Stands (s : SiteState) (j : Ledger) : Type 0 where
  pub settled : IsSettled s
  pub file : HasRecords j.manager (records s.image) s.image
  pub count : j.count ≡ length (records s.image)
  pub end : j.end ≡ gate_place (batches s.image)
  pub saved : j.end + j.saved ≡ size (records s.image)
  pub marks : All (IsMark (batches s.image)) j.marks
  pub reading : IsReadUpTo (batches s.image) j.behind j.reading j.end s.image

-- the pair's file has the records that the site had, or these and one more
pub record HasOrAdds (manager : ℕ) (bytes : List ℕ) (from : SiteState) (p : Pair) : Type 0 where
  pub file : HasRecords manager (records from.image) p.image
      ⊎ HasRecords manager (records from.image ++ bytes ∷ []) p.image

-- What an append does. At each moment since its start a stop leaves all earlier records, and this one or not; from Ok
-- on the journal stands for them and this one (own rule).
pub record Appends {T E : Type 0} (bytes : List ℕ) (result : Result T E) (old new : Ledger)
    (a b : SiteState) : Type 0 where
  pub any_moment : LeavesOnly (HasOrAdds old.manager bytes a) a b
  pub stands : OnOk result (Stands b new)
  pub added : OnOk result (records b.image ≡ records a.image ++ bytes ∷ [])
