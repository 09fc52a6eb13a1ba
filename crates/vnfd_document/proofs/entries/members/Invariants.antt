-- What was taken, and what is left, are the members.
use Rattle.std.proofs.Common.{◌≡◌, ◌++◌, map}
use Rattle.serde_json.specs.View.{members_view}
use Rattle.vnfd_document.specs.Json.{members_in}
use Rattle.vnfd_document.specs.Seen.{seen}
use Rattle.vnfd_document.proofs.entries.members.Given as goal

abbrev pub invariant-loop-key : goal.invariant-loop-key
invariant-loop-key l = members_in (members_view l.fn.object.entries) ≡ map seen l.found.items ++ members_in (members_view l.key-iterator)
