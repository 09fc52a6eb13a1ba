-- What was taken, and the members of what is left, are the members of all.
use Rattle.std.proofs.Common.{◌≡◌, ◌++◌, map, drop}
use Rattle.std.specs.List.{filter_map}
use Rattle.serde_json.specs.View.{items_view}
use Rattle.vnfd_document.specs.Json.{items_in, only_member}
use Rattle.vnfd_document.specs.Seen.{seen}
use Rattle.vnfd_document.proofs.policies.named.Given as goal

abbrev pub invariant-loop-value : goal.invariant-loop-value
invariant-loop-value l =
    filter_map only_member (items_in (items_view l.fn.values))
    ≡ map seen l.found.items ++ filter_map only_member (items_in (items_view (drop l.value-index l.values)))
