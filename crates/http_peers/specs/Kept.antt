-- Exchanges whose answers weren't whole in their time, and may come yet (own rules).
use Rattle.std.specs.Prelude.{◌≡◌, ◌<◌, ℕ, ◌+◌, ◌&&◌, Bool, String, List, [], ◌∷◌, ◌++◌, ◌⊎◌, length, take, drop, slice_index_or, if◌then◌else◌}
use Rattle.std.specs.List.{list_any}
use Rattle.std.specs.Str.{bytes_eq}
use Rattle.std.specs.String.{string_bytes}
use Rattle.edge_limits.specs.declared.limits.Exchange.{Exchange}
use Rattle.host_calls.specs.Streams.{Incoming}
use Rattle.peer_exchange.specs.Exchanges.{HasRead}
use Rattle.http_peers.specs.declared.kept.Kept.{Kept}

-- the exchange is with this address
abbrev pub is_with : {C : Type 0} → List ℕ → Kept C → Bool
is_with address k = bytes_eq (string_bytes k.address) address

-- it is of this request with this address
abbrev pub is_of : {C : Type 0} → List ℕ → List ℕ → Kept C → Bool
is_of address request k = is_with address k && bytes_eq k.request request

-- the address is among those of which an answer is awaited
abbrev pub is_silent : {Z : Type 0} → List ℕ → List (String Z) → Bool
is_silent address silent = list_any (λ one. bytes_eq (string_bytes one) address) silent

-- an exchange that nobody waits for
abbrev pub at_once : Exchange
at_once = record { silence = 1; whole = 1000 }

-- the limits of an exchange with an address: where an answer of it is awaited already nobody waits
abbrev pub limits_by : {Z : Type 0} → List (String Z) → Exchange → List ℕ → Exchange
limits_by silent limits address = if is_silent address silent then at_once else limits

-- this is the exchange of this request with this address
pub record IsOf {C : Type 0} (address request : List ℕ) (k : Kept C) : Type 0 where
  pub with : string_bytes k.address ≡ address
  pub of : k.request ≡ request

-- the exchange at a place is kept no longer, and all others are
abbrev pub without : {C : Type 0} → ℕ → List (Kept C) → List (Kept C)
without place kept = take place kept ++ drop (place + 1) kept

-- one exchange is kept no longer
abbrev pub IsOneLess : {C : Type 0} → List (Kept C) → List (Kept C) → Type 0
IsOneLess old new = (place : ℕ) × (new ≡ without place old)

-- this exchange of this request with this address was kept, and is no longer
pub record IsTakenAt {C : Type 0} (address request : List ℕ) (old new : List (Kept C)) (k : Kept C) : Type 0 where
  pub place : ℕ
  pub within : place < length old
  pub is : slice_index_or old place k ≡ k
  pub of : IsOf address request k
  pub rest : new ≡ without place old

-- The exchange goes on: its request was sent once and whole on its connection, behind which nothing was, and what has
-- come is all that was read behind it.
pub record GoesOn {C : Type 0} (outgoing : C → List ℕ) (incoming : C → Incoming) (connection : C) (request came : List ℕ)
    : Type 0 where
  pub began : C
  pub sent : outgoing connection ≡ outgoing began ++ request
  pub read : HasRead came (incoming began) (incoming connection)

-- the same of one that is kept
abbrev pub KeptGoesOn : {C : Type 0} → (C → List ℕ) → (C → Incoming) → Kept C → Type 0
KeptGoesOn outgoing incoming k = GoesOn outgoing incoming k.connection k.request k.came.items

-- this exchange was kept behind the others, or wasn't for want of memory, and the first of the others may be kept no longer
pub record IsPutIn {C : Type 0} (k : Kept C) (old new : List (Kept C)) : Type 0 where
  pub others : List (Kept C)
  pub are : (others ≡ old) ⊎ IsOneLess old others
  pub put : (new ≡ others ++ (k ∷ [])) ⊎ (new ≡ others)
