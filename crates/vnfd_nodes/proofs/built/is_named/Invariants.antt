-- One of all names it where one of those that are left does.
use Rattle.std.proofs.Common.{◌≡◌, map, drop}
use Rattle.serde_json.specs.View.{view}
use Rattle.vnfd_nodes.specs.Built.{is_named}
use Rattle.vnfd_nodes.proofs.built.is_named.Given as goal

abbrev pub invariant-loop-aim : goal.invariant-loop-aim
invariant-loop-aim l = is_named l.fn.key (map (λ v. view v.now) l.fn.aims)
    ≡ is_named l.key (map (λ v. view v.now) (drop l.aim-index l.aims))
