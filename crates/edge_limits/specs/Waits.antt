-- How long a call on a connection may wait, and what was done between two waits (own rules).
use Rattle.std.specs.Prelude.{ℕ, true, false, ◌+◌, ◌-◌, ◌*◌, ◌^◌, ◌==◌, nat_le, Option, Some, None, min, if◌then◌else◌}
use Rattle.edge_limits.specs.declared.pulse.Pulse.{Pulse}

-- a call waits for the shorter of two times; where one of them is over it isn't made
abbrev pub shorter : ℕ → ℕ → Option ℕ
shorter a b = if min a b == 0 then None else Some (min a b)

-- what is left now of a time that began then
abbrev pub left : ℕ → ℕ → ℕ → ℕ
left whole began now = whole - (now - began)

-- before the first wait something was recorded, so that what a life before left goes on at once
abbrev pub at_start : Pulse
at_start = record { acted = true; asked = false; failed = false; rounds = 0 }

-- the rounds in a row in which something was asked and nothing recorded, behind one more
abbrev pub rounds_after : Pulse → ℕ
rounds_after p = if p.acted then 0 else if p.asked then min (p.rounds + 1) (2 ^ 32 - 1) else 0

-- behind a wait nothing was done yet
abbrev pub renewed : Pulse → Pulse
renewed p = record { acted = false; asked = false; failed = false; rounds = rounds_after p }
