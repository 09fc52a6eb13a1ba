-- What goes out to the target that was found goes out to where the call leads.
use Rattle.std.specs.Prelude.{codes}
use Rattle.http_client.specs.Requests.{request}
use Rattle.net_calls.specs.Network.{offer_of}
use Rattle.edge_limits.specs.declared.limits.TheConstants.{POST}
use Rattle.http_peers.specs.Kept.{limits_by}
use Rattle.http_peers.specs.Sent.{IsHeardFrom}
use Rattle.http_peers.specs.Targets.{IsCallbackTarget}
use Rattle.http_peers.proofs.SentLemmas.{calls_for}
use Rattle.http_peers.proofs.courier.RealCourierCourier.post.Goals as goal

pub returns-then-request-clause-sends : goal.returns-then-request-clause-sends
returns-then-request-clause-sends g c = λ tells told.
    calls_for g.N.Connection.Connection.outgoing g.N.Connection.Connection.incoming g.N.Connection.Connection.vain
    c.args.self.now.peer.caller.opened (λ a. offer_of (g.N.HostNet.peers c.args.self.now.peer.caller.net a))
    (IsCallbackTarget c.args.uri.now) (λ host path. request (codes "POST") host path c.args.body.now) (limits_by c.args.self.now.peer.caller.silent.items POST)
    (IsHeardFrom c.request.new.self.caller.room.bytes.items c.request.new.self.caller.reply.heard)
    (IsHeardFrom c.request.new.self.caller.room.bytes.items c.request.new.self.caller.reply.heard)
    c.target_at-target.result c.request.new.self.fault
    c.args.self.now.peer.caller.kept.items c.request.new.self.caller.kept.items
    c.args.self.now.peer.caller.log.sent c.request.new.self.caller.log.sent c.target_at-target.ensures
    (λ _ bytes is. is) (c.request.ensures.sends tells told)

pub returns-else-request-clause-sends : goal.returns-else-request-clause-sends
returns-else-request-clause-sends g c = λ tells told.
    calls_for g.N.Connection.Connection.outgoing g.N.Connection.Connection.incoming g.N.Connection.Connection.vain
    c.args.self.now.peer.caller.opened (λ a. offer_of (g.N.HostNet.peers c.args.self.now.peer.caller.net a))
    (IsCallbackTarget c.args.uri.now) (λ host path. request (codes "POST") host path c.args.body.now) (limits_by c.args.self.now.peer.caller.silent.items POST)
    (IsHeardFrom c.request.new.self.caller.room.bytes.items c.request.new.self.caller.reply.heard)
    (IsHeardFrom c.request.new.self.caller.room.bytes.items c.request.new.self.caller.reply.heard)
    c.target_at-target.result c.request.new.self.fault
    c.args.self.now.peer.caller.kept.items c.request.new.self.caller.kept.items
    c.args.self.now.peer.caller.log.sent c.request.new.self.caller.log.sent c.target_at-target.ensures
    (λ _ bytes is. is) (c.request.ensures.sends tells told)
