-- What is written so far, and the entries that are left behind it, is the array.
use Rattle.std.proofs.Common.{◌≡◌, drop, map}
use Rattle.std.specs.Prelude.{filter}
use Rattle.serde_json.specs.View.{items_of}
use Rattle.json_members.specs.Text.{with_value}
use Rattle.json_members.proofs.TextLaws.{with_items}
use Rattle.json_views.specs.Views.{array_of}
use Rattle.json_views.proofs.members.write_array.Given as goal

abbrev pub invariant-loop-entry : goal.invariant-loop-entry
invariant-loop-entry g l =
    with_items (items_of (map (g.S.Shows.shown l.shows) (filter (g.S.Shows.has l.shows) (drop l.entry-index l.entries)))) l.text
    ≡ with_value (array_of (g.S.Shows.shown l.fn.shows) (filter (g.S.Shows.has l.fn.shows) l.fn.entries)) l.fn.text
