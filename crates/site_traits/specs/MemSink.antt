-- A sink in memory.
use Rattle.std.specs.Prelude.{◌≡◌, ◌≤◌, ◌↔◌, ℕ, ◌+◌, List, [], length, Option, Some, Result, IsOk, is_ok, if◌then◌else◌}
use Rattle.site_traits.specs.Counts.{CallCounts, one_more}
use Rattle.site_traits.specs.declared.mem_sink.MemSink.{MemSink}

-- how often it was put to, and how often that failed
abbrev pub counts_of : MemSink → CallCounts
counts_of s = record { calls = s.calls; faults = s.faults }

-- nothing was put yet, and this put is to fail
pub record IsEmpty (failing : Option ℕ) (s : MemSink) : Type 0 where
  pub bytes : s.bytes.items ≡ []
  pub calls : s.calls ≡ 0
  pub faults : s.faults ≡ 0
  pub failing_is : s.failing ≡ failing

-- the sink takes these bytes: the put is not the one that is to fail, and it is within 1,048,576 calls and 64 MiB (own
-- rule)
pub record TakesBytes (bytes : List ℕ) (s : MemSink) : Type 0 where
  pub unnamed : s.failing ≡ Some (one_more s.calls) → ⊥
  pub call : one_more s.calls ≤ 1048576
  pub room : length s.bytes.items + length bytes ≤ 67108864

-- a put succeeds exactly where the sink takes the bytes; it is counted, and so is its fault (own rule)
pub record RunsPut {T E : Type 0} (bytes : List ℕ) (result : Result T E) (old new : MemSink) : Type 0 where
  pub taken : IsOk result ↔ TakesBytes bytes old
  pub failing : new.failing ≡ old.failing
  pub calls : new.calls ≡ one_more old.calls
  pub faults : new.faults ≡ (if is_ok result then old.faults else one_more old.faults)
