use Rattle.std.proofs.Common.{◌≡◌, [], ap, ◌∙◌}
use Rattle.lcm_routes.specs.Table.{found, with_routes}
use Rattle.lcm_routes.proofs.TableLemmas.{paths, found-all}
use Rattle.lcm_routes.proofs.table.Routes.new.Goals as goal

pub invariant_of-result : goal.invariant_of-result
invariant_of-result c path bytes =
    let filled : c.fill.new.router ≡ with_routes paths [] = c.in_ok-fill.ensures ∙ ap (with_routes paths) c.new-router.ensures in
    ap (λ rows. found rows path) filled ∙ found-all path bytes
