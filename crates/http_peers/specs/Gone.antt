-- What went out on the connections of a peer (own rule).
use Rattle.std.specs.Prelude.{ℕ, List}
use Rattle.edge_limits.specs.declared.limits.Exchange.{Exchange}
use Rattle.net_calls.specs.Connections.{Vain}

-- the bytes that went out on one connection, the address that it was opened to, the limits of the call on it, how many
-- milliseconds the last read or write of that call might wait, and the calls on it that were in vain by then
pub record GoneOut : Type 0 where
  pub address : List ℕ
  pub bytes : List ℕ
  pub limits : Exchange
  pub allowed : ℕ
  pub vain : Vain
