-- The numbers that a trial draws (own rule).
use Rattle.std.specs.Prelude.{ℕ, ◌+◌, ◌*◌, ◌/◌, ◌%◌, ◌^◌}

-- the number that is drawn behind this one
unfoldable pub next_drawn : ℕ → ℕ
next_drawn x = (x * 6364136223846793005 + 1442695040888963407) % 2 ^ 64

-- the number below a limit that a drawn one gives: its upper 31 bits, modulo the limit
unfoldable pub below : ℕ → ℕ → ℕ
below limit x = (x / 2 ^ 33) % limit
