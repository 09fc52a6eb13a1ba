-- What stands in an answer that may be missing.
use Rattle.std.proofs.Common.{◌≡◌, ℕ, List, Option, Some, None, Bor, ap}
use Rattle.std.specs.Option.{unwrap_or, option_map}

-- a text or another one, by the bytes of both
pub unwrap_or-now : (text : Option (Bor (List ℕ))) (other : Bor (List ℕ)) (bytes : Option (List ℕ)) → option_map (λ t. t.now) text ≡ bytes
    → (unwrap_or text other).now ≡ unwrap_or bytes other.now
unwrap_or-now None other bytes e = ap (λ b. unwrap_or b other.now) e
unwrap_or-now (Some t) other bytes e = ap (λ b. unwrap_or b other.now) e
