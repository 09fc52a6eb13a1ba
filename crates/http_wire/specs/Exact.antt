-- Which answer comes where, for each thing that a connection's bytes can begin with.
use Rattle.std.specs.Prelude.{◌≡◌, ◌⊎◌, ℕ, List, Option, Some, None, IfSome, Result, Ok, Err}
use Rattle.http_frames.specs.Messages.{StopsInTarget, IsLongTarget}
use Rattle.http_frames.specs.Beginnings.{Beginning, BeginsWith}
use Rattle.http_frames.specs.Beginnings as begins
use Rattle.http_wire.specs.declared.request.Taken.{Taken}
use Rattle.http_wire.specs.declared.request.Taken.TheVariants as taken
use Rattle.http_wire.specs.declared.request.WireFault.{WireFault}
use Rattle.http_wire.specs.declared.request.WireFault.TheVariants as fault
use Rattle.http_wire.specs.Intake.{NeedsMore}

-- what the answer says that the bytes begin with: nothing where a read failed or there was no memory
abbrev pub said_by : Result Taken WireFault → Option Beginning
said_by (Ok (taken.Request r)) = Some begins.whole
said_by (Ok taken.End) = Some begins.none
said_by (Err fault.Malformed) = Some begins.bad
said_by (Err fault.TooLarge) = Some begins.big
said_by (Err fault.Unfinished) = Some begins.cut
said_by (Err fault.Read) = None
said_by (Err fault.Memory) = None

-- What may be said of bytes that are bad but that: inside a request target alone, that they are cut where they stop in
-- it and are no more than a head may have, and that they are big where as many stop in it and more follow (own rule).
abbrev pub IsExcused : List ℕ → Beginning → Type 0
IsExcused bytes begins.whole = ⊥
IsExcused bytes begins.none = ⊥
IsExcused bytes begins.cut = StopsInTarget bytes
IsExcused bytes begins.bad = ⊥
IsExcused bytes begins.big = IsLongTarget bytes

-- this may be said of bytes that begin with this: that, or what is excused where they are bad
abbrev pub MaySay : List ℕ → Beginning → Beginning → Type 0
MaySay bytes beginning said = (said ≡ beginning) ⊎ ((beginning ≡ begins.bad) × IsExcused bytes said)

-- Each answer comes exactly where the bytes begin with what it says: whatever they begin with, the answer says that,
-- but where a read failed, where there was no memory, and where bad bytes stop in a request target (own rule).
abbrev pub IsExact : List ℕ → Result Taken WireFault → Type 0
IsExact bytes answer = (beginning : Beginning) → BeginsWith bytes beginning
    → IfSome (said_by answer) (MaySay bytes beginning)

-- what bytes begin with that need more: nothing, a part of a request, or, where they stop in a request target, bad
-- bytes
abbrev pub MayWait : List ℕ → Beginning → Type 0
MayWait bytes begins.whole = ⊥
MayWait bytes begins.none = Unit {0}
MayWait bytes begins.cut = Unit {0}
MayWait bytes begins.bad = StopsInTarget bytes
MayWait bytes begins.big = ⊥

-- nothing that is whole or refused waits for more bytes, but bad bytes that stop in a request target (own rule)
abbrev pub NothingRefusedWaits : Type 0
NothingRefusedWaits = (bytes : List ℕ) (beginning : Beginning) → NeedsMore bytes → BeginsWith bytes beginning
    → MayWait bytes beginning
