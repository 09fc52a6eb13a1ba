-- What goes out by the target is told of the call as a whole.
use Rattle.std.proofs.Common.{Some, ap, ◌∙◌}
use Rattle.std.specs.Result.{result_err}
use Rattle.http_client.specs.Requests.{request}
use Rattle.net_calls.specs.Network.{offer_of}
use Rattle.http_peers.specs.Kept.{limits_by}
use Rattle.http_peers.specs.Sent.{IsHeardFrom}
use Rattle.http_peers.proofs.SentLemmas.{calls_found, calls_none}
use Rattle.http_peers.proofs.peer.HttpPeer.request.Goals.{in-Ok, in-Err}
use Rattle.http_peers.proofs.peer.HttpPeer.request.Goals as goal

pub returns-clause-sends : goal.returns-clause-sends
returns-clause-sends g c = elim c.match-target.branch [
  | in-Ok w ↦ λ tells told.
      calls_found g.N.Connection.Connection.outgoing g.N.Connection.Connection.incoming g.N.Connection.Connection.vain
      c.args.self.now.caller.opened (λ a. offer_of (g.N.HostNet.peers c.args.self.now.caller.net a))
      (λ host path. request c.args.method.now host path c.args.body.now) (limits_by c.args.self.now.caller.silent.items c.args.limits)
      (IsHeardFrom c.note.new.self.caller.room.bytes.items c.note.new.self.caller.reply.heard)
      (IsHeardFrom w.call-done.new.self.room.bytes.items w.call-done.new.self.reply.heard) c.args.target w.in-Ok.target
      c.note.new.self.fault (result_err w.call-done.result)
      c.args.self.now.caller.kept.items c.note.new.self.caller.kept.items w.call-done.new.self.kept.items
      c.args.self.now.caller.log.sent c.note.new.self.caller.log.sent w.call-done.new.self.log.sent w.in-Ok.is
      (ap (λ s. IsHeardFrom s.caller.room.bytes.items s.caller.reply.heard) c.note.ensures.rest
      ∙ ap (λ s. IsHeardFrom s.caller.room.bytes.items s.caller.reply.heard) w.self-is)
      (c.note.ensures.fault ∙ ap result_err w.done-is)
      (ap (λ s. s.caller.kept.items) c.note.ensures.rest ∙ ap (λ s. s.caller.kept.items) w.self-is)
      (ap (λ s. s.caller.log.sent) c.note.ensures.rest ∙ ap (λ s. s.caller.log.sent) w.self-is)
      (w.call-done.ensures.sends tells told)
  | in-Err w ↦ λ tells told.
      calls_none g.N.Connection.Connection.outgoing g.N.Connection.Connection.incoming g.N.Connection.Connection.vain
      c.args.self.now.caller.opened (λ a. offer_of (g.N.HostNet.peers c.args.self.now.caller.net a))
      (λ host path. request c.args.method.now host path c.args.body.now) (limits_by c.args.self.now.caller.silent.items c.args.limits)
      (IsHeardFrom c.note.new.self.caller.room.bytes.items c.note.new.self.caller.reply.heard) c.args.target
      w.in-Err.fault c.note.new.self.fault c.args.self.now.caller.kept.items c.note.new.self.caller.kept.items
      c.args.self.now.caller.log.sent c.note.new.self.caller.log.sent w.in-Err.is
      (c.note.ensures.fault ∙ ap result_err w.done-is ∙ ap Some w.fault_of.ensures)
      (ap (λ s. s.caller.log.sent) c.note.ensures.rest ∙ ap (λ s. s.caller.log.sent) w.self-is ∙ ap (λ s. s.log.sent) w.close.ensures)
]
