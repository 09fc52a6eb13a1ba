-- When looks and aborts are made on an infrastructure that met silence (own rule).
use Rattle.std.specs.Prelude.{ℕ, ◌+◌, ◌-◌, ◌*◌, ◌^◌, Bool, true, false, min, nat_le, nat_lt, Option, Some, None}
use Rattle.std.specs.Prelude.{if◌then◌else◌}
use Rattle.vim_peers.specs.declared.resting.Rest.{Rest}

-- no silence was met
abbrev pub no_rest : Rest
no_rest = record { silences = 0; until = 0 }

-- the milliseconds of the pause behind so many silences, one more: 1,000, twice as many each further time, to 16,000
abbrev pub pause_behind : ℕ → ℕ
pause_behind silences = 1000 * 2 ^ min silences 4

-- the pause runs at this moment; where no moment can be read none does
abbrev pub rests : Rest → Option ℕ → Bool
rests rest None = false
rests rest (Some now) = nat_lt now rest.until

-- behind one silence more, that ended then
abbrev pub silent_until : Rest → ℕ → Rest
silent_until rest ended = record {
  silences = min (rest.silences + 1) 4;
  until = min (ended + pause_behind rest.silences) (2 ^ 64 - 1);
}

-- Behind a call that began and ended then: an answer ends it; a failure that was waited for, a second or longer, is a
-- silence; and another failure leaves it as it was.
abbrev pub rest_after : Rest → Bool → Option ℕ → Option ℕ → Rest
rest_after rest true began ended = no_rest
rest_after rest false (Some began) (Some ended) =
    if nat_le 1000 (ended - began) then silent_until rest ended else rest
rest_after rest false began ended = rest
