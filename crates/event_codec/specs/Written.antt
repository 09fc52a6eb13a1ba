-- What a record's buffer holds: how many bytes were put into it, and those bytes as long as a record has room for them.
use Rattle.std.specs.Prelude.{ℕ, ◌+◌, ◌-◌, ◌^◌, List, [], ◌++◌, length, min, nat_lt, if◌then◌else◌}
use Rattle.vnfm_base.specs.declared.limits.TheConstants.{MAX_RECORD}

-- how much was put, and what is kept of it
pub record Written : Type 0 where
  pub len : ℕ
  pub kept : List ℕ

-- nothing was put
abbrev pub nothing : Written
nothing = record { len = 0; kept = [] }

-- some bytes more: past 65,536 nothing is kept, and only the count goes on
unfoldable pub put : Written → List ℕ → Written
put w bytes = record {
  len = min (w.len + length bytes) (2 ^ 64 - 1);
  kept = if nat_lt MAX_RECORD (w.len + length bytes) then [] else w.kept ++ bytes;
}
