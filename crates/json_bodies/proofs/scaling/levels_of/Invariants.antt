-- The levels so far, and those that the entries that are left say, are those that all say.
use Rattle.std.proofs.Common.{◌≡◌, ◌++◌, Ok, drop}
use Rattle.serde_json.specs.View.{items_view}
use Rattle.json_bodies.specs.Body.{and_then}
use Rattle.json_bodies.specs.Forms.{items_in}
use Rattle.json_bodies.specs.Operations.{aspect_level_in, each_read}
use Rattle.json_bodies.proofs.scaling.levels_of.Given as goal

abbrev pub invariant-loop-entry : goal.invariant-loop-entry
invariant-loop-entry l =
    each_read aspect_level_in (items_in (items_view l.fn.entries))
    ≡ and_then (each_read aspect_level_in (items_in (items_view (drop l.entry-index l.entries)))) (λ more. Ok (l.levels.items ++ more))
