-- What goes out to the target that was found goes out to where the call leads.
use Rattle.std.specs.Prelude.{codes}
use Rattle.std.proofs.Common.{sym, ap, subst, ◌∙◌, Some, []}
use Rattle.std.specs.Option.{is_none}
use Rattle.http_client.specs.Requests.{request}
use Rattle.net_calls.specs.Network.{offer_of}
use Rattle.edge_limits.specs.declared.limits.TheConstants.{ORCHESTRATOR}
use Rattle.http_peers.specs.Kept.{limits_by}
use Rattle.http_peers.specs.Sent.{IsHeardFrom}
use Rattle.http_peers.specs.Targets.{IsGrantTarget}
use Rattle.http_peers.proofs.SentLemmas.{calls_for}
use Rattle.http_peers.proofs.orchestrator.RealOrchestratorOrchestrator.poll.Goals as goal

pub returns-clause-sends : goal.returns-clause-sends
returns-clause-sends g c = λ tells told.
    calls_for g.N.Connection.Connection.outgoing g.N.Connection.Connection.incoming g.N.Connection.Connection.vain
    c.args.self.now.peer.caller.opened (λ a. offer_of (g.N.HostNet.peers c.args.self.now.peer.caller.net a))
    (IsGrantTarget c.args.self.now.at (Some c.args.location.now)) (λ host path. request (codes "GET") host path []) (limits_by c.args.self.now.peer.caller.silent.items ORCHESTRATOR)
    (IsHeardFrom c.request-came.new.self.caller.room.bytes.items c.answer.new.heard)
    (IsHeardFrom c.request-came.new.self.caller.room.bytes.items c.request-came.new.self.caller.reply.heard)
    c.target_at-target.result c.request-came.new.self.fault
    c.args.self.now.peer.caller.kept.items c.request-came.new.self.caller.kept.items
    c.args.self.now.peer.caller.log.sent c.request-came.new.self.caller.log.sent c.target_at-target.ensures
    (λ none bytes. subst (λ heard. IsHeardFrom c.request-came.new.self.caller.room.bytes.items heard bytes)
    (sym (c.answer.ensures.came (c.request-came.ensures.fault ∙ ap is_none none))))
    (c.request-came.ensures.sends tells told)
