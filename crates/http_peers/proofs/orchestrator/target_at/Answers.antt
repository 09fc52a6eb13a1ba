-- What was found of the grants, or of the location beside them.
use Rattle.std.proofs.Common.{sym, subst}
use Rattle.std.specs.Option.{option_copied}
use Rattle.http_peers.specs.Targets.{Finds, IsGrantTarget}
use Rattle.http_peers.proofs.TargetLemmas.{grant_found, located_found}
use Rattle.http_peers.proofs.orchestrator.target_at.Goals as goal

pub returns-in-Some-location : goal.returns-in-Some-location
returns-in-Some-location c =
    subst (λ l. Finds (IsGrantTarget c.args.at.now (option_copied l)) c.target_beside.result) (sym c.in-Some-location.is)
    (located_found c.args.at.now c.in-Some.grants c.in-Some-location.location.now c.target_beside.result c.in-Some.is
    c.target_beside.ensures)

pub returns-in-None : goal.returns-in-None
returns-in-None c =
    subst (λ l. Finds (IsGrantTarget c.args.at.now (option_copied l)) c.target_of.result) (sym c.in-None.is)
    (grant_found c.args.at.now c.in-Some.grants c.target_of.result c.in-Some.is c.target_of.ensures)
