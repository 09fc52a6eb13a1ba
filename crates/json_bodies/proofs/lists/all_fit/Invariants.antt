-- All have the form where what is left has.
use Rattle.std.proofs.Common.{◌≡◌, drop}
use Rattle.std.specs.List.{list_all}
use Rattle.std.specs.Prelude.{is_some}
use Rattle.serde_json.specs.View.{items_view}
use Rattle.json_bodies.specs.Forms.{items_in}
use Rattle.json_bodies.proofs.lists.all_fit.Given as goal

abbrev pub invariant-loop-value : goal.invariant-loop-value
invariant-loop-value g l =
    list_all (λ d. is_some (g.F.Form.says l.form d)) (items_in (items_view l.fn.values))
    ≡ list_all (λ d. is_some (g.F.Form.says l.form d)) (items_in (items_view (drop l.value-index l.values)))
