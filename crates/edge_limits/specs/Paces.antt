-- When a round is due, by what came of the rounds before it (own rules).
use Rattle.std.specs.Prelude.{ℕ, Bool, true, false, ◌+◌, ◌-◌, ◌*◌, ◌^◌, ◌&&◌, ◌||◌, min, nat_lt, if◌then◌else◌}
use Rattle.edge_limits.specs.declared.pace.Pace.{Pace}

-- milliseconds to the next try behind so many rounds with one in vain: 2, 4, 8 and 16 seconds, and 1 behind the fifth
abbrev pub between_tries : ℕ → ℕ
between_tries rounds = if nat_lt rounds 4 then 1000 * 2 ^ (rounds + 1) else 1000

-- A round is due at once behind one in which something went on. Where a try was in vain it is due behind the next of
-- these pauses, or a second where something is waited for too. Else it is due behind a second where a call on the
-- infrastructure failed; where something is waited for, behind 10 ms, twice as long in each further such round, to a
-- second; and else behind a second.
abbrev pub due_after : Pace → ℕ
due_after p =
    if p.went_on then 0
    else if p.in_vain && p.awaited then 1000
    else if p.in_vain then between_tries p.vain_rounds
    else if p.failed then 1000
    else if p.awaited then min (10 * 2 ^ min p.waiting_rounds 7) 1000
    else 1000

-- a pause runs behind tries in vain
abbrev pub is_paused : Pace → Bool
is_paused p = p.in_vain && (if p.went_on then false else true)

-- once the journal was written: something went on, where no notice was posted before and no ask was in vain
abbrev pub once_written : Pace → Pace
once_written p = if p.posted || p.in_vain then p else record p { went_on = true }

-- one more round with a try in vain, of five
abbrev pub one_more_in_vain : ℕ → ℕ
one_more_in_vain rounds = if nat_lt rounds 4 then rounds + 1 else 0

-- the rounds with a try in vain, since one in which something went on and none was
abbrev pub vain_rounds_after : Pace → ℕ
vain_rounds_after p = if p.in_vain then one_more_in_vain p.vain_rounds else if p.went_on then 0 else p.vain_rounds

-- the rounds in a row in which something was waited for and nothing went on
abbrev pub waiting_rounds_after : Pace → ℕ
waiting_rounds_after p = if p.awaited && (if p.went_on then false else true) then min (p.waiting_rounds + 1) (2 ^ 32 - 1) else 0

-- behind a round nothing was done yet
abbrev pub after_round : Pace → Pace
after_round p = record {
  went_on = false;
  in_vain = false;
  awaited = false;
  failed = false;
  posted = false;
  vain_rounds = vain_rounds_after p;
  waiting_rounds = waiting_rounds_after p;
}
