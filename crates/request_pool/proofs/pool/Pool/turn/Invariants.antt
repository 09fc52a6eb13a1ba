use Rattle.std.proofs.Common.{◌≡◌, length}
use Rattle.request_pool.proofs.pool.Pool.turn.Given as goal

abbrev pub invariant-stale : goal.invariant-stale
invariant-stale l = (l.self.clients.items ≡ l.fn.self.clients.items) × (l.self.hand ≡ l.fn.self.hand)

abbrev pub decreases-stale : goal.decreases-stale
decreases-stale l = length l.self.line.items
