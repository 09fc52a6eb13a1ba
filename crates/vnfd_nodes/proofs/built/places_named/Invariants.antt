-- What was taken, and the places among what is left, are the places of all.
use Rattle.std.proofs.Common.{◌≡◌, ◌++◌, map, drop}
use Rattle.serde_json.specs.View.{view}
use Rattle.vnfd_document.specs.Seen.{seen}
use Rattle.vnfd_nodes.specs.Built.{places_named}
use Rattle.vnfd_nodes.proofs.built.places_named.Given as goal

abbrev pub invariant-loop-at : goal.invariant-loop-at
invariant-loop-at l =
    places_named 0 (map seen l.fn.things) (map (λ v. view v.now) l.fn.aims)
    ≡ l.found.items ++ places_named l.at (map seen (drop l.at l.things)) (map (λ v. view v.now) l.aims)
