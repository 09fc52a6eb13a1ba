-- All are objects where what is left are.
use Rattle.std.proofs.Common.{◌≡◌, drop}
use Rattle.std.specs.List.{list_all}
use Rattle.std.specs.Prelude.{is_some}
use Rattle.serde_json.specs.Find.{as_object}
use Rattle.serde_json.specs.View.{items_view}
use Rattle.json_bodies.specs.Forms.{items_in}
use Rattle.json_bodies.proofs.scaling.are_objects.Given as goal

abbrev pub invariant-loop-entry : goal.invariant-loop-entry
invariant-loop-entry l =
    list_all (λ d. is_some (as_object d)) (items_in (items_view l.fn.entries))
    ≡ list_all (λ d. is_some (as_object d)) (items_in (items_view (drop l.entry-index l.entries)))
