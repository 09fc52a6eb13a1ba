-- What calls of std on connections leave beside their bytes (std, `TcpStream`).
use Rattle.std.specs.Prelude.{◌≡◌, ◌≢◌, ◌+◌, ◌^◌, ◌-◌, min, max, if◌then◌else◌, nat_lt, ℕ, Bool, true, false, List}
use Rattle.std.specs.Prelude.{length, drop, Option, Some, None, Result, Ok, Err, OnOk, OnErr, IfErr}
use Rattle.std.specs.IoError.{error_kind}
use Rattle.std.specs.declared.io.ErrorKind.{ErrorKind}
use Rattle.std.specs.declared.io.Error.{Error}
use Rattle.host_calls.specs.Streams.{Incoming}
use Rattle.site_traits.specs.Counts.{one_more}
use Rattle.net_calls.specs.declared.told_connections.Step.{Step}
use Rattle.net_calls.specs.declared.told_connections.Step.TheVariants.{Piece, Silence, Reset}

-- how often a read or a write on a connection waited its whole limit in vain, and how often a call on it failed in
-- another way
pub record Vain : Type 0 where
  pub silences : ℕ
  pub faults : ℕ

-- once a call waited in vain
abbrev pub silent : Vain → Vain
silent v = record v { silences = one_more v.silences }

-- once a call failed in another way
abbrev pub faulted : Vain → Vain
faulted v = record v { faults = one_more v.faults }

-- a read or a write that succeeds is none of them, one to which nothing came in its time is a silence, and every other
-- failure a fault
pub record CountsCall {T : Type 0} (result : Result T Error) (old new : Vain) : Type 0 where
  pub done : OnOk result (new ≡ old)
  pub silence : IfErr result (λ e. error_kind e ≡ ErrorKind.WouldBlock → new ≡ silent old)
  pub fault : IfErr result (λ e. error_kind e ≢ ErrorKind.WouldBlock → new ≡ faulted old)

-- what an end of this side leaves: it is over, or the call failed
pub record Finishes {T : Type 0} (result : Result T Error) (finished was : Bool) (old new : Vain) : Type 0 where
  pub done : OnOk result ((finished ≡ true) × (new ≡ old))
  pub failed : OnErr result ((finished ≡ was) × (new ≡ faulted old))

-- what the next look or read meets is a silence
abbrev pub is_silence : Option Step → Bool
is_silence (Some Silence) = true
is_silence _ = false

-- the step at a place: behind the last all that is left comes at once
abbrev pub or_all : Option Step → Step
or_all (Some step) = step
or_all None = Piece (2 ^ 64 - 1)

-- the place behind one more step
abbrev pub place_after : List Step → ℕ → ℕ
place_after steps place = if nat_lt place (length steps) then place + 1 else place

-- so many bytes were read or written
abbrev pub Gave : ℕ → Result ℕ Error → Type 0
Gave count (Ok n) = n ≡ count
Gave count (Err fault) = ⊥

-- the call failed with a fault of this kind
abbrev pub FailedWith : ErrorKind → Result ℕ Error → Type 0
FailedWith kind (Ok n) = ⊥
FailedWith kind (Err fault) = error_kind fault ≡ kind

-- what a read gives that meets this step, where so many bytes are left and there is room for so many (own rule)
abbrev pub Meets : Step → ℕ → ℕ → Result ℕ Error → Type 0
Meets (Piece most) left room result = Gave (min (min (max most 1) left) room) result
Meets Silence left room result = FailedWith ErrorKind.WouldBlock result
Meets Reset left room result = FailedWith ErrorKind.ConnectionReset result

-- the bytes in of a connection in memory of which so many were read
abbrev pub read_to : List ℕ → ℕ → Incoming
read_to bytes at = record { bytes = bytes; left = drop at bytes }

-- its calls in vain
abbrev pub in_vain : ℕ → ℕ → Vain
in_vain silences faults = record { silences = silences; faults = faults }
