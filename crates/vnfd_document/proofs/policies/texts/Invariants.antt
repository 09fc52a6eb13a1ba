-- What was taken, and the texts of what is left, are the texts of all; all are texts where what is left is.
use Rattle.std.proofs.Common.{◌≡◌, ◌++◌, map, drop}
use Rattle.std.specs.List.{filter_map, list_all}
use Rattle.std.specs.Prelude.{is_some}
use Rattle.serde_json.specs.Find.{as_str}
use Rattle.serde_json.specs.View.{items_view}
use Rattle.vnfd_document.specs.Json.{items_in}
use Rattle.vnfd_document.proofs.policies.texts.Given as goal

abbrev pub invariant-loop-value : goal.invariant-loop-value
invariant-loop-value l =
    (filter_map as_str (items_in (items_view l.fn.values)) ≡ map (λ text. text.now) l.found.items
    ++ filter_map as_str (items_in (items_view (drop l.value-index l.values))))
    × (list_all (λ d. is_some (as_str d)) (items_in (items_view l.fn.values))
    ≡ list_all (λ d. is_some (as_str d)) (items_in (items_view (drop l.value-index l.values))))
