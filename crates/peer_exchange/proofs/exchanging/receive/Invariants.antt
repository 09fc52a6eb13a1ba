use Rattle.std.proofs.Common.{◌≡◌, ◌≤◌, ◌-◌, length}
use Rattle.peer_exchange.specs.Exchanges.{HasRead, IsInterrupted, IsPartYet, WaitsBy}
use Rattle.peer_exchange.proofs.exchanging.receive.Given as goal

abbrev pub invariant-reads : goal.invariant-reads
invariant-reads g l = g.R.Reply.judged l.reply l.room.bytes.items
    × IsPartYet (g.R.Reply.is l.reply) l.room.bytes.items
    × (l.room.most ≡ l.fn.room.most)
    × (g.C.Connection.tells → (g.C.Connection.outgoing l.connection ≡ g.C.Connection.outgoing l.fn.connection)
    × HasRead l.room.bytes.items (g.C.Connection.incoming l.fn.connection) (g.C.Connection.incoming l.connection)
    × IsInterrupted (g.C.Connection.vain l.fn.connection) (g.C.Connection.vain l.connection)
    × (g.T.Stopwatch.tells → 1 ≤ length l.room.bytes.items
    → WaitsBy l.limits l.began (g.T.Stopwatch.shown l.watch) (g.C.Connection.allowed l.connection)))

abbrev pub decreases-reads : goal.decreases-reads
decreases-reads g l = l.room.most - length l.room.bytes.items
