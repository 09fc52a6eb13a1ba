-- Where the exchange goes on, all that are kept do.
use Rattle.std.proofs.Common.{subst, sym}
use Rattle.http_peers.specs.Kept.{GoesOn, KeptGoesOn}
use Rattle.http_peers.proofs.KeptLemmas.{all_put_in}
use Rattle.http_peers.proofs.caller.HttpCaller.keep.Goals as goal

pub returns-clause-own : goal.returns-clause-own
returns-clause-own g c = λ tells goes holds.
    all_put_in (KeptGoesOn g.N.Connection.Connection.outgoing g.N.Connection.Connection.incoming) _ _ _ c.put_in.ensures
    (subst (λ came. GoesOn g.N.Connection.Connection.outgoing g.N.Connection.Connection.incoming c.args.opened.connection c.args.request came.items)
    (sym c.replace-came.ensures.value) goes) holds
