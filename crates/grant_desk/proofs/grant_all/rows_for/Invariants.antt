-- The rows so far, and those for the entries that are left, are the rows for all.
use Rattle.std.proofs.Common.{◌≡◌, ◌++◌, drop, map}
use Rattle.std.specs.Prelude.{option_map}
use Rattle.serde_json.specs.View.{items_view, view}
use Rattle.grant_desk.specs.GrantAll.{rows_for}
use Rattle.grant_desk.proofs.grant_all.rows_for.Given as goal

abbrev pub invariant-loop-entry : goal.invariant-loop-entry
invariant-loop-entry l = rows_for (items_view l.fn.entries) ≡ option_map (λ more. map view l.rows.items ++ more)
    (rows_for (items_view (drop l.entry-index l.entries)))
