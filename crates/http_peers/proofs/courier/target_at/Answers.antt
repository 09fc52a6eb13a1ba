-- A callback tells of one URL.
use Rattle.std.proofs.Common.{rules, sym, subst}
use Rattle.http_peers.specs.Targets.{IsCallbackTarget, TellsOf}
use Rattle.http_peers.proofs.TargetLemmas.{callback_found, none_by}
use Rattle.http_peers.proofs.courier.target_at.Goals as goal

pub returns-in_err-url : goal.returns-in_err-url
returns-in_err-url c =
    none_by (TellsOf c.as_str.result.now) (IsCallbackTarget c.args.uri.now) c.from_residual.result _ (search rules)
    (λ target is. (is.0, subst (λ text. TellsOf text is.0) (sym c.as_str.ensures.value) is.1)) c.in_err-url.ensures

pub returns : goal.returns
returns c = callback_found c.args.uri.now c.in_ok-url.url c.target_of.result (search rules) c.target_of.ensures
