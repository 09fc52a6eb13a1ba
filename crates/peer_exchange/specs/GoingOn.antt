-- A reply that is read on, behind what was read of it before (own rules).
use Rattle.std.specs.Prelude.{◌≡◌, ℕ, Bool, true, List, [], ◌++◌}
use Rattle.host_calls.specs.Streams.{Incoming}
use Rattle.peer_exchange.specs.Exchanges.{HasRead}
use Rattle.peer_exchange.specs.declared.replies.Judged.{Judged}
use Rattle.peer_exchange.specs.declared.replies.Judged.TheVariants as judged

-- some bytes were read behind those that had been
pub record ReadsOn (before after : List ℕ) (old new : Incoming) : Type 0 where
  pub some : List ℕ
  pub behind : after ≡ before ++ some
  pub read : HasRead some old new

-- these bytes are a whole reply, of a connection that has ended or not; where they are it only at its end, no byte is
-- left
pub record HasCome (is : Bool → List ℕ → Judged → Type 0) (tells : Type 0) (bytes : List ℕ) (new : Incoming) : Type 0 where
  pub ended : Bool
  pub whole : is ended bytes judged.Whole
  pub end : tells → ended ≡ true → new.left ≡ []
