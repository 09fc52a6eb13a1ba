-- The first that aims at nothing known is among those that are left.
use Rattle.std.proofs.Common.{◌≡◌, map, drop}
use Rattle.serde_json.specs.View.{view}
use Rattle.vnfd_document.specs.Checks.{first_failing}
use Rattle.vnfd_document.specs.Places.{node_named}
use Rattle.vnfd_document.specs.Seen.{seen}
use Rattle.vnfd_nodes.specs.Nodes.{aim_refusal}
use Rattle.vnfd_nodes.proofs.refusals.refuse_aims.Given as goal

abbrev pub invariant-loop-requirement : goal.invariant-loop-requirement
invariant-loop-requirement l =
    first_failing (λ r. aim_refusal (map seen l.fn.known) (node_named r)) (map (λ v. view v.now) l.fn.requirements)
    ≡ first_failing (λ r. aim_refusal (map seen l.known) (node_named r)) (map (λ v. view v.now) (drop l.requirement-index l.requirements))
