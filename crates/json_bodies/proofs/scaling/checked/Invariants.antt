-- All entries are refused for what those that are left are refused for.
use Rattle.std.proofs.Common.{◌≡◌, drop}
use Rattle.serde_json.specs.View.{items_view}
use Rattle.json_bodies.specs.Forms.{items_in}
use Rattle.json_bodies.specs.Operations.{aspect_level_in, each_read}
use Rattle.json_bodies.specs.Tables.{fault_in}
use Rattle.json_bodies.proofs.scaling.checked.Given as goal

abbrev pub invariant-loop-entry : goal.invariant-loop-entry
invariant-loop-entry l =
    fault_in (each_read aspect_level_in (items_in (items_view l.entries)))
    ≡ fault_in (each_read aspect_level_in (items_in (items_view (drop l.entry-index l.entries))))
