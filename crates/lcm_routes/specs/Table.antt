-- What a table of paths finds (own rule).
use Rattle.std.specs.Prelude.{ℕ, ◌<◌, get_or, List, [], ◌∷◌, Option, Result, Ok, Err}
use Rattle.matchit.specs.Rows.{RowsOf}
use Rattle.matchit.specs.Router.{RouteOf, map_key, route_from}
use Rattle.matchit.specs.Order.{placed}
use Rattle.matchit.specs.Route.{Scan, parse_route}
use Rattle.matchit.specs.Seek.{first}
use Rattle.matchit.specs.declared.error.InsertError.{InsertError}
use Rattle.lcm_routes.specs.Paths.{Names}
use Rattle.lcm_routes.specs.declared.resources.Resource.{Resource}

-- the rows of a table of paths: each path with the resource that it names
abbrev pub Routed : Type 0
Routed = RowsOf (RouteOf Resource)

-- the resource that stands beside the row of this path
abbrev pub found : Routed → List ℕ → Option Resource
found rows path = map_key (λ route. route.value) (first rows path)

-- the rows with one more, where its text reads as a path
abbrev pub with_route : Result Scan InsertError → Resource → Routed → Routed
with_route (Ok scan) resource rows = placed (scan.pattern, route_from scan resource) rows
with_route (Err _) resource rows = rows

-- the rows with one more for each of these paths
abbrev pub with_routes : Names → Routed → Routed
with_routes [] rows = rows
with_routes ((path, resource) ∷ rest) rows = with_routes rest (with_route (parse_route path) resource rows)

-- each of these is a byte
abbrev pub AreBytes : List ℕ → Type 0
AreBytes path = (i : ℕ) → get_or path i 0 < 256
