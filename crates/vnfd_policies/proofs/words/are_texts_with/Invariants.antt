-- All are texts where those that are left are, and the text is among them where it was found or is among those.
use Rattle.std.proofs.Common.{◌≡◌, drop}
use Rattle.std.specs.List.{filter_map, list_all, list_any}
use Rattle.std.specs.Prelude.{is_some, ◌||◌}
use Rattle.std.specs.Str.{bytes_eq}
use Rattle.serde_json.specs.Find.{as_str}
use Rattle.serde_json.specs.View.{items_view}
use Rattle.vnfd_document.specs.Json.{items_in}
use Rattle.vnfd_policies.proofs.words.are_texts_with.Given as goal

abbrev pub invariant-loop-value : goal.invariant-loop-value
invariant-loop-value l =
    (list_all (λ d. is_some (as_str d)) (items_in (items_view l.fn.values))
    ≡ list_all (λ d. is_some (as_str d)) (items_in (items_view (drop l.value-index l.values))))
    × (list_any (bytes_eq l.text) (filter_map as_str (items_in (items_view l.fn.values)))
    ≡ (l.found || list_any (bytes_eq l.text) (filter_map as_str (items_in (items_view (drop l.value-index l.values))))))
