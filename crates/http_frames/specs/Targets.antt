-- What bytes can begin with that stop in a request target (own rule).
use Rattle.std.specs.Prelude.{◌≡◌, ◌⊎◌, ℕ, List}
use Rattle.http_frames.specs.Messages.{StopsInTarget, IsLongTarget}
use Rattle.http_frames.specs.Beginnings.{Beginning, BeginsWith}
use Rattle.http_frames.specs.Beginnings as begins

-- where they are no more than a head may have, they are cut or bad
abbrev pub StopTwoWays : Type 0
StopTwoWays = (bytes : List ℕ) (b : Beginning) → StopsInTarget bytes → BeginsWith bytes b
    → (b ≡ begins.cut) ⊎ (b ≡ begins.bad)

-- where as many as a head may have stop in one and more follow, they are big or bad
abbrev pub GoOnTwoWays : Type 0
GoOnTwoWays = (bytes : List ℕ) (b : Beginning) → IsLongTarget bytes → BeginsWith bytes b
    → (b ≡ begins.big) ⊎ (b ≡ begins.bad)
