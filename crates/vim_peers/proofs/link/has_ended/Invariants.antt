use Rattle.std.proofs.Common.{◌≡◌, true}
use Rattle.vim_peers.proofs.link.has_ended.Given as goal

abbrev pub invariant-reads : goal.invariant-reads
invariant-reads g l = (l.opened.failed ≡ true) × (l.opened.used ≡ l.fn.opened.used)
    × (g.C.Connection.tells → ((g.C.Connection.incoming l.opened.connection).bytes ≡ (g.C.Connection.incoming l.fn.opened.connection).bytes)
    × (g.C.Connection.outgoing l.opened.connection ≡ g.C.Connection.outgoing l.fn.opened.connection))
