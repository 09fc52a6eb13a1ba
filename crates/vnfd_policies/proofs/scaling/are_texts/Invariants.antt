-- All are texts where those that are left are.
use Rattle.std.proofs.Common.{◌≡◌, drop}
use Rattle.std.specs.List.{list_all}
use Rattle.std.specs.Prelude.{is_some}
use Rattle.serde_json.specs.Find.{as_str}
use Rattle.serde_json.specs.View.{items_view}
use Rattle.vnfd_document.specs.Json.{items_in}
use Rattle.vnfd_policies.proofs.scaling.are_texts.Given as goal

abbrev pub invariant-loop-value : goal.invariant-loop-value
invariant-loop-value l =
    list_all (λ d. is_some (as_str d)) (items_in (items_view l.fn.values))
    ≡ list_all (λ d. is_some (as_str d)) (items_in (items_view (drop l.value-index l.values)))
