-- How an object of the outside counts its failures (own rule).
use Rattle.std.specs.Prelude.{◌≡◌, ℕ, Result, OnOk, OnErr}
use Rattle.site_traits.specs.Counts.{CallCounts, one_more}

-- a call that failed counts one failure more, and one that succeeded none
pub record CountsOne {T E : Type 0} (result : Result T E) (before now : ℕ) : Type 0 where
  pub succeeded : OnOk result (now ≡ before)
  pub failed : OnErr result (now ≡ one_more before)

-- the counts of an object each of whose calls fails
abbrev pub counted : ℕ → CallCounts
counted faults = record { calls = faults; faults = faults }
