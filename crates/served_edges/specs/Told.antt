-- What a door tells that tells nothing.
use Rattle.std.specs.Prelude.{[]}
use Rattle.site_traits.specs.Door.{DoorState, nobody}

abbrev pub nothing_told : DoorState
nothing_told = record { answers = []; conn = nobody; past = [] }
