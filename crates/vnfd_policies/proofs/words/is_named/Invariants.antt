-- One of all has the name where one of those that are left has.
use Rattle.std.proofs.Common.{◌≡◌, map, drop}
use Rattle.vnfd_document.specs.Seen.{seen}
use Rattle.vnfd_policies.specs.Policies.{is_named}
use Rattle.vnfd_policies.proofs.words.is_named.Given as goal

abbrev pub invariant-loop-thing : goal.invariant-loop-thing
invariant-loop-thing l = is_named l.fn.name (map seen l.fn.things) ≡ is_named l.name (map seen (drop l.thing-index l.things))
