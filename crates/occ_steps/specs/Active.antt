-- Which occurrences are worked on: their grant is asked for, their changes are made, or they are undone (SOL 003
-- 5.6.2).
use Rattle.std.specs.Prelude.{Bool, List, is_some, true, ℕ, ◌&&◌, ◌≡◌}
use Rattle.lcm_events.specs.declared.events.Event.{Event}
use Rattle.lcm_model.specs.Moves.{is_active, state}
use Rattle.lcm_model.specs.Operations.{operation}

-- the occurrence of this number was asked for and is worked on (SOL 003 5.6.2)
abbrev pub is_active_at : List Event → ℕ → Bool
is_active_at H o = is_some (operation H o) && is_active (state H o)

-- the occurrence of this number was asked for and is worked on (SOL 003 5.6.2)
abbrev pub IsActive : List Event → ℕ → Type 0
IsActive H o = is_active_at H o ≡ true
