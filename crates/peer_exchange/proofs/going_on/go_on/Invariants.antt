use Rattle.std.proofs.Common.{◌≡◌, ◌-◌, length}
use Rattle.peer_exchange.specs.Exchanges.{HasJudgedFront}
use Rattle.peer_exchange.specs.GoingOn.{ReadsOn}
use Rattle.peer_exchange.proofs.going_on.go_on.Given as goal

abbrev pub invariant-reads : goal.invariant-reads
invariant-reads g l = HasJudgedFront (g.R.Reply.judged l.reply) l.room.bytes.items
    × (l.room.most ≡ l.fn.room.most)
    × (g.C.Connection.tells → (g.C.Connection.outgoing l.connection ≡ g.C.Connection.outgoing l.fn.connection)
    × ReadsOn l.fn.room.bytes.items l.room.bytes.items (g.C.Connection.incoming l.fn.connection)
    (g.C.Connection.incoming l.connection))

abbrev pub decreases-reads : goal.decreases-reads
decreases-reads g l = l.room.most - length l.room.bytes.items
