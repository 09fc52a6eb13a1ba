-- A connection is open to where the call leads, or why none is.
use Rattle.std.proofs.Common.{None}
use Rattle.net_calls.specs.Network.{offer_of}
use Rattle.http_peers.specs.Targets.{IsGrantTarget}
use Rattle.http_peers.proofs.SentLemmas.{open_for, unopened_for}
use Rattle.http_peers.proofs.orchestrator.RealOrchestrator.connect.Goals as goal

pub returns-clause-opens : goal.returns-clause-opens
returns-clause-opens g c = λ is.
    open_for (IsGrantTarget c.args.self.now.at None) c.target_at-target.result c.connect.new.self.caller.opened c.target_at-target.ensures
    (c.connect.ensures.opens is)

pub returns-clause-why : goal.returns-clause-why
returns-clause-why g c = λ tells.
    unopened_for g.N.Connection.Connection.outgoing (λ x. (g.N.Connection.Connection.incoming x).left) g.N.Connection.Connection.vain
    c.args.self.now.peer.caller.opened (λ a. offer_of (g.N.HostNet.peers c.args.self.now.peer.caller.net a))
    (IsGrantTarget c.args.self.now.at None) c.target_at-target.result c.connect.new.self.fault c.target_at-target.ensures
    (c.connect.ensures.why tells)
