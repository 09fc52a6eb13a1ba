-- The grants at an address are one.
use Rattle.std.proofs.Common.{rules, subst}
use Rattle.http_peers.specs.Targets.{AreGrantsOf, CanBeAskedAt, IsTargetOf, TellsOf}
use Rattle.http_peers.proofs.TargetLemmas.{grants_by, grants_one, none_by}
use Rattle.http_peers.proofs.orchestrator.grants_at.Goals as goal

pub returns-in_err-url_of : goal.returns-in_err-url_of
returns-in_err-url_of c =
    none_by (TellsOf c.args.address.now) (CanBeAskedAt c.args.address.now) c.from_residual.result _ (search rules)
    (λ grants can. (can.0.0, can.0.1)) c.in_err-url_of.ensures

pub returns-in_err-grants : goal.returns-in_err-grants
returns-in_err-grants c =
    none_by (AreGrantsOf c.in_ok-url_of.field-0) (CanBeAskedAt c.args.address.now) c.from_residual-in_err-grants.result _ (search rules)
    (λ grants can. (grants, grants_by c.args.address.now c.in_ok-url_of.field-0 grants c.in_ok-url_of.ensures can.0))
    c.in_err-grants.ensures

pub returns-in_err-target_of : goal.returns-in_err-target_of
returns-in_err-target_of c =
    none_by (IsTargetOf c.in_ok-grants.grants) (CanBeAskedAt c.args.address.now) c.from_residual-in_err-target_of.result _ (search rules)
    (λ grants can. (
      can.1.0,
      subst (λ url. IsTargetOf url can.1.0)
          (grants_one c.args.address.now c.in_ok-url_of.field-0 c.in_ok-grants.grants grants c.in_ok-url_of.ensures
          c.in_ok-grants.ensures can.0)
          can.1.1,
    ))
    c.in_err-target_of.ensures
