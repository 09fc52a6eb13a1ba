-- What a sink tells: the bytes that were put so far.
use Rattle.std.specs.Prelude.{◌≡◌, ℕ, List, ◌++◌, Result, OnOk, OnErr}
use Rattle.site_traits.specs.Counts.{CallCounts, called, called_in_vain}

-- bytes were put behind those so far, or none of them (own rule)
pub record Puts {T E : Type 0} (bytes : List ℕ) (result : Result T E) (old new : List ℕ) : Type 0 where
  pub put : OnOk result (new ≡ old ++ bytes)
  pub kept : OnErr result (new ≡ old)

-- one put more is counted, and one fault more where it failed (own rule)
pub record SinkCause {T E : Type 0} (before now : CallCounts) (result : Result T E) : Type 0 where
  pub put : OnOk result (now ≡ called before)
  pub failed : OnErr result (now ≡ called_in_vain before)
