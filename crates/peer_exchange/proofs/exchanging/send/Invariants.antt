use Rattle.std.proofs.Common.{◌≡◌, ◌≤◌, ◌-◌, ◌++◌, length, take}
use Rattle.peer_exchange.specs.Exchanges.{IsInterrupted}
use Rattle.peer_exchange.proofs.exchanging.send.Given as goal

abbrev pub invariant-writes : goal.invariant-writes
invariant-writes g l = (l.sent ≤ length l.bytes)
    × (g.C.Connection.tells → (g.C.Connection.incoming l.connection ≡ g.C.Connection.incoming l.fn.connection)
    × (g.C.Connection.outgoing l.connection ≡ g.C.Connection.outgoing l.fn.connection ++ take l.sent l.bytes)
    × IsInterrupted (g.C.Connection.vain l.fn.connection) (g.C.Connection.vain l.connection))

abbrev pub decreases-writes : goal.decreases-writes
decreases-writes g l = length l.bytes - l.sent
