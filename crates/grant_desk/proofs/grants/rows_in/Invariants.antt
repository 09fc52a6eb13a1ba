-- The rows so far, and those that the values that are left are, are the rows of all.
use Rattle.std.proofs.Common.{◌≡◌, ◌++◌, drop}
use Rattle.std.specs.Prelude.{option_map}
use Rattle.serde_json.specs.View.{items_view}
use Rattle.grant_desk.specs.Answers.{rows_in}
use Rattle.grant_desk.proofs.grants.rows_in.Given as goal

abbrev pub invariant-loop-value : goal.invariant-loop-value
invariant-loop-value l = rows_in (items_view l.fn.values) ≡ option_map (λ more. l.rows ++ more)
    (rows_in (items_view (drop l.value-index l.values)))
