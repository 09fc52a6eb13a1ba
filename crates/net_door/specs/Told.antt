-- What a door at addresses tells, and its counts (own rules).
use Rattle.std.specs.Prelude.{ℕ, Bool, []}
use Rattle.site_traits.specs.Door.{DoorCounts, DoorState, nobody}

-- the door's counts: how often a call failed, how often `next` did, and whether a connection is at hand
abbrev pub counts_of : ℕ → ℕ → Bool → DoorCounts
counts_of faults next up = record { faults = faults; next = next; up = up }

-- it tells nothing
abbrev pub nothing_told : DoorState
nothing_told = record { answers = []; conn = nobody; past = [] }
