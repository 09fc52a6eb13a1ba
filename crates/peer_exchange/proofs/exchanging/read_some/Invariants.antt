use Rattle.std.proofs.Common.{◌≡◌, ◌≤◌, length}
use Rattle.peer_exchange.specs.Exchanges.{WaitsBy, interrupted}
use Rattle.peer_exchange.proofs.exchanging.read_some.Given as goal

abbrev pub invariant-tries : goal.invariant-tries
invariant-tries g l = (length l.into ≡ length l.fn.into)
    × (g.C.Connection.tells → (g.C.Connection.incoming l.connection ≡ g.C.Connection.incoming l.fn.connection)
    × (g.C.Connection.outgoing l.connection ≡ g.C.Connection.outgoing l.fn.connection) × (l.into ≡ l.fn.into)
    × (g.C.Connection.vain l.connection ≡ interrupted l.counter (g.C.Connection.vain l.fn.connection))
    × (g.T.Stopwatch.tells → 1 ≤ l.counter
    → WaitsBy l.limits l.began (g.T.Stopwatch.shown l.watch) (g.C.Connection.allowed l.connection)))
