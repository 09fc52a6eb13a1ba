-- What calls of std on addresses give (std, `TcpListener` and `TcpStream`; POSIX, `accept` and `poll`).
use Rattle.std.specs.Prelude.{◌≡◌, ◌≢◌, ◌==◌, if◌then◌else◌, ℕ, Bool, List, [], ◌∷◌, Option, Some, None, Result, Err}
use Rattle.std.specs.Prelude.{IfOk, OnOk, OnErr}
use Rattle.std.specs.List.{list_any}
use Rattle.site_traits.specs.Counts.{one_more}
use Rattle.net_calls.specs.declared.network.NoConnection.{NoConnection}
use Rattle.net_calls.specs.declared.network.NoConnection.TheVariants.{Nobody, Spent, Failed}

-- what an accept gives by what is still to come: the first of it, and nobody behind the last
abbrev pub first_of : {C : Type 0} → List (Result C NoConnection) → Result C NoConnection
first_of [] = Err Nobody
first_of (one ∷ later) = one

-- what is still to come behind it
abbrev pub later_of : {C : Type 0} → List (Result C NoConnection) → List (Result C NoConnection)
later_of [] = []
later_of (one ∷ later) = later

-- what is offered next is had, and where it is nothing, or no more is offered, the call fails
abbrev pub offer_of : {T : Type 0} → List (Option T) → Option T
offer_of [] = None
offer_of (one ∷ later) = one

-- what is offered behind it
abbrev pub offers_after : {T : Type 0} → List (Option T) → List (Option T)
offers_after [] = []
offers_after (one ∷ later) = later

-- no listener is offered at this address
abbrev pub IsNotAt : {L : Type 0} → (L → List ℕ) → List ℕ → Option L → Type 0
IsNotAt address_of address (Some listener) = address_of listener ≢ address
IsNotAt address_of address None = Unit {0}

-- this is a listener at this address
abbrev pub IsAt : {L : Type 0} → (L → List ℕ) → List ℕ → Option L → Type 0
IsAt address_of address (Some listener) = address_of listener ≡ address
IsAt address_of address None = ⊥

-- what listening at this address gives by what is offered: the next listener, where it is at this address
pub record Listens {L E : Type 0} (address_of : L → List ℕ) (address : List ℕ) (result : Result L E)
    (old new : List (Option L)) : Type 0 where
  pub had : IfOk result (λ l. (offer_of old ≡ Some l) × (address_of l ≡ address))
  pub none : OnErr result (IsNotAt address_of address (offer_of old))
  pub later : new ≡ offers_after old

-- what connecting gives by what is offered
pub record Has {T E : Type 0} (result : Result T E) (old new : List (Option T)) : Type 0 where
  pub had : IfOk result (λ t. offer_of old ≡ Some t)
  pub none : OnErr result (offer_of old ≡ None)
  pub later : new ≡ offers_after old

-- how often it was waited, for how many milliseconds at most the last time, and how often a wait failed
pub record Waits : Type 0 where
  pub count : ℕ
  pub last : ℕ
  pub failed : ℕ

-- behind a wait of so many milliseconds at most
abbrev pub waited : ℕ → Waits → Waits
waited limit w = record w { count = one_more w.count; last = limit }

-- behind one that failed
abbrev pub waited_in_vain : ℕ → Waits → Waits
waited_in_vain limit w = record { count = one_more w.count; last = limit; failed = one_more w.failed }

-- what a wait of so many milliseconds at most leaves
pub record WaitsFor {T E : Type 0} (limit : ℕ) (result : Result T E) (old new : Waits) : Type 0 where
  pub done : OnOk result (new ≡ waited limit old)
  pub failed : OnErr result (new ≡ waited_in_vain limit old)

-- the faults of the system behind which the next connection may be taken, by their numbers: EPERM, EINTR, EAGAIN,
-- ENONET, EPROTO, ENOPROTOOPT, EOPNOTSUPP, ENETDOWN, ENETUNREACH, ECONNABORTED, ETIMEDOUT, EHOSTDOWN, EHOSTUNREACH
-- (Linux, `accept`)
abbrev pub passing : List ℕ
passing = 1 ∷ 4 ∷ 11 ∷ 64 ∷ 71 ∷ 92 ∷ 95 ∷ 100 ∷ 101 ∷ 103 ∷ 110 ∷ 112 ∷ 113 ∷ []

-- those that say that nothing is left for a connection now: ENOMEM, ENFILE, EMFILE, ENOBUFS
abbrev pub spent : List ℕ
spent = 12 ∷ 23 ∷ 24 ∷ 105 ∷ []

-- the number is one of these
abbrev pub is_one_of : List ℕ → ℕ → Bool
is_one_of numbers number = list_any (λ one. one == number) numbers

-- why an accept gave no connection, by the number of the fault
abbrev pub none_by : Option ℕ → NoConnection
none_by None = Failed
none_by (Some number) = if is_one_of passing number then Nobody else if is_one_of spent number then Spent else Failed

-- the waits of a network in memory
abbrev pub waits_of : ℕ → ℕ → ℕ → Waits
waits_of count last failed = record { count = count; last = last; failed = failed }
