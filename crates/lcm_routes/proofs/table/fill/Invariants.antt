use Rattle.std.proofs.Common.{◌≡◌, drop, map}
use Rattle.lcm_routes.specs.Table.{with_routes}
use Rattle.lcm_routes.proofs.table.fill.Given as goal

abbrev pub invariant-loop-path : goal.invariant-loop-path
invariant-loop-path l = with_routes (map (λ row. (row.0.now, row.1)) (drop l.path-index l.paths)) l.router
    ≡ with_routes (map (λ row. (row.0.now, row.1)) l.fn.paths) l.fn.router
