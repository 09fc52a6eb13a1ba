-- What was shown, and what is shown of the entries that are left, is what is shown of all.
use Rattle.std.proofs.Common.{◌≡◌, ◌++◌, map, drop}
use Rattle.std.specs.Prelude.{filter}
use Rattle.serde_json.specs.View.{view}
use Rattle.json_views.proofs.members.values_of.Given as goal

abbrev pub invariant-loop-entry : goal.invariant-loop-entry
invariant-loop-entry g l =
    map (g.S.Shows.shown l.fn.shows) (filter (g.S.Shows.has l.fn.shows) l.fn.entries)
    ≡ map view l.values.items ++ map (g.S.Shows.shown l.shows) (filter (g.S.Shows.has l.shows) (drop l.entry-index l.entries))
