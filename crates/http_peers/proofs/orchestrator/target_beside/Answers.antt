-- The target of the location is at the address of the grants; where one of both has none, neither has the location.
use Rattle.std.proofs.Common.{rules, subst}
use Rattle.http_peers.specs.Targets.{IsLocatedTarget, IsTargetOf}
use Rattle.http_peers.proofs.TargetLemmas.{none_by, same_ok}
use Rattle.http_peers.proofs.orchestrator.target_beside.Goals as goal

pub returns-in_err-of_grants : goal.returns-in_err-of_grants
returns-in_err-of_grants c =
    none_by (IsTargetOf c.args.grants.now) (IsLocatedTarget c.args.grants.now c.args.location.now) c.from_residual.result _
    (search rules) (λ target is. (is.1.1.0, is.1.1.1)) c.in_err-of_grants.ensures

pub returns-in_err-target : goal.returns-in_err-target
returns-in_err-target c =
    none_by (IsTargetOf c.in-Ok.url) (IsLocatedTarget c.args.grants.now c.args.location.now) c.from_residual-in_err-target.result _
    (search rules)
    (λ target is. (target, subst (λ url. IsTargetOf url target) (same_ok _ is.0 c.in-Ok.url is.1.0 (search rules)) is.2))
    c.in_err-target.ensures

pub returns-then-eq : goal.returns-then-eq
returns-then-eq c =
    (c.in-Ok.url, (search rules, (c.in_ok-of_grants.of_grants, c.in_ok-of_grants.ensures, search rules)), c.in_ok-target.ensures)
