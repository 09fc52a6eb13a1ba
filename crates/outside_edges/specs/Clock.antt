-- The moment that a clock gives.
use Rattle.std.specs.Prelude.{ℕ, ◌-◌, ◌/◌, ◌^◌, min, Option, Some, None}
use Rattle.std.specs.Duration.{as_nanos}
use Rattle.std.specs.declared.time.Duration.{Duration}

-- the whole milliseconds of a duration, as far as a u64 counts
abbrev pub millis : Duration → ℕ
millis since = min (as_nanos since / 1_000_000) (2 ^ 64 - 1)

-- the milliseconds since 1970 where the time of day can be had, else the moment that was given last
abbrev pub moment_after : Option Duration → ℕ → ℕ
moment_after (Some since) last = millis since
moment_after None last = last
