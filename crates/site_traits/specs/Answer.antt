-- A peer's answer over HTTP, as far as the manager reads it.
use Rattle.std.specs.Prelude.{ℕ, Option, List}

-- a status, the Location where there is one that is a line, and the body (own rule)
pub record Answer : Type 0 where
  pub status : ℕ
  pub location : Option (List ℕ)
  pub body : List ℕ
