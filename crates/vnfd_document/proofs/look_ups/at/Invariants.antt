-- What stands under all the names stands under those that are left, in what was found.
use Rattle.std.proofs.Common.{◌≡◌, map, drop}
use Rattle.serde_json.specs.View.{view}
use Rattle.vnfd_document.specs.Json.{at}
use Rattle.vnfd_document.proofs.look_ups.at.Given as goal

abbrev pub invariant-loop-name : goal.invariant-loop-name
invariant-loop-name l =
    at (map (λ name. name.now) l.fn.names) (view l.fn.value) ≡ at (map (λ name. name.now) (drop l.name-index l.names)) (view l.found)
