-- The states of an occurrence follow the graph (SOL 003 5.6.2, States and state transitions).
use Rattle.std.specs.Prelude.{List, ℕ}
use Rattle.lcm_events.specs.declared.events.Event.{Event}
use Rattle.lcm_model.specs.Allowed.{IsLegalWithin}
use Rattle.lcm_model.specs.Moves.{IsPath, moves}

-- the states of each occurrence of a legal history are a path of the graph from STARTING (SOL 003 5.6.2)
abbrev pub MovesArePaths : Type 0
MovesArePaths = (width m : ℕ) (H : List Event) → IsLegalWithin width m H → (o : ℕ) → IsPath (moves H o)
