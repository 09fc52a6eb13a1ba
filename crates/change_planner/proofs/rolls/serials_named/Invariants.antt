use Rattle.std.proofs.Common.{drop, map, ◌++◌, ◌==◌, ◌≡◌}
use Rattle.std.specs.Prelude.{filter}
use Rattle.change_planner.proofs.rolls.serials_named.Given as goal

abbrev pub invariant-loop-vnfc : goal.invariant-loop-vnfc
invariant-loop-vnfc l = l.serials.items ++ map (λ x. x.serial) (filter (λ x. x.vdu == l.vdu) (drop l.vnfc-index l.named))
    ≡ map (λ x. x.serial) (filter (λ x. x.vdu == l.vdu) l.named)
