-- What is written so far, and the entries of the changes that are left behind it, is the list.
use Rattle.std.proofs.Common.{◌≡◌, map, drop, filter}
use Rattle.std.specs.List.{enumerate_from}
use Rattle.serde_json.specs.View.{items_of}
use Rattle.json_members.specs.Text.{with_value}
use Rattle.json_members.proofs.TextLaws.{with_items}
use Rattle.grant_desk.specs.Parts.{asks}
use Rattle.grant_desk.specs.Requests.{entries, entry}
use Rattle.grant_desk.proofs.entries.write_entries.Given as goal

abbrev pub invariant-loop-k : goal.invariant-loop-k
invariant-loop-k l =
    with_items (items_of (map (entry l.vnfd l.holding) (filter (λ x. asks l.part x.1.verb)
    (enumerate_from l.k (drop l.k l.changes))))) l.text
    ≡ with_value (entries l.fn.vnfd l.fn.holding l.fn.part l.fn.changes) l.fn.text
