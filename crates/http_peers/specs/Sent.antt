-- Which request goes out to a peer over HTTP, and where, and why one doesn't (own rule).
use Rattle.std.specs.Prelude.{◌≡◌, ◌⊎◌, ℕ, Bool, true, false, List, [], ◌∷◌, ◌++◌, Option, Some, None, IsSomeAnd}
use Rattle.std.specs.Prelude.{Result, Ok, Err}
use Rattle.std.specs.String.{string_bytes}
use Rattle.edge_limits.specs.declared.limits.Exchange.{Exchange}
use Rattle.net_calls.specs.Connections.{Vain}
use Rattle.net_calls.specs.Network.{offers_after}
use Rattle.peer_exchange.specs.Exchanges.{Counts, IsLost, IsSent, IsTimed, last_look}
use Rattle.peer_exchange.specs.declared.exchanging.Lost.{Lost}
use Rattle.http_client.specs.Responses.{AreAnswer, whole}
use Rattle.site_traits.specs.Answer.{Answer}
use Rattle.site_traits.specs.declared.courier.PostAnswer.{PostAnswer}
use Rattle.site_traits.specs.declared.courier.PostAnswer.TheVariants as post
use Rattle.site_traits.specs.declared.orchestrator.Call.{Call}
use Rattle.site_traits.specs.declared.orchestrator.Call.TheVariants as call
use Rattle.host_calls.specs.Streams.{Incoming}
use Rattle.http_peers.specs.Gone.{GoneOut}
use Rattle.http_peers.specs.Kept.{IsTakenAt, KeptGoesOn}
use Rattle.http_peers.specs.declared.kept.Kept.{Kept}
use Rattle.http_peers.specs.Peers.{JudgedIs}
use Rattle.http_peers.specs.declared.faults.CallFault.{CallFault}
use Rattle.http_peers.specs.declared.faults.CallFault.TheVariants as fault
use Rattle.http_peers.specs.declared.opened.Opened.{Opened}
use Rattle.http_peers.specs.declared.targets.Target.{Target}
use Rattle.http_peers.specs.declared.targets.TargetFault.{TargetFault}
use Rattle.http_peers.specs.declared.targets.TargetFault.TheVariants as target

-- whether an answer came
abbrev pub has_come : Call → Bool
has_come call.Came = true
has_come call.Failed = false

-- whether an answer came to a post
abbrev pub was_posted : PostAnswer → Bool
was_posted (post.Status status) = true
was_posted post.Failed = false

-- a connection to this address is open
abbrev pub IsOpenTo : {C : Type 0} → List ℕ → Option (Opened C) → Type 0
IsOpenTo address opened = IsSomeAnd opened (λ o. string_bytes o.address ≡ address)

-- this is the connection to an address: the one that is open to it, and where none is, the one that the network offers
-- there next
abbrev pub IsHad : {C : Type 0} → Option (Opened C) → (List ℕ → Option C) → List ℕ → C → Type 0
IsHad was offered address connection =
    IsSomeAnd was (λ o. (string_bytes o.address ≡ address) × (o.connection ≡ connection))
    ⊎ ((IsOpenTo address was → ⊥) × (offered address ≡ Some connection))

-- there is none: none is open, and the network offers none
abbrev pub IsNotHad : {C : Type 0} → Option (Opened C) → (List ℕ → Option C) → List ℕ → Type 0
IsNotHad was offered address = (IsOpenTo address was → ⊥) × (offered address ≡ None)

-- a connection that is open is the one to its address
abbrev pub IsConnected : {C : Type 0} → Option (Opened C) → (List ℕ → Option C) → Opened C → Type 0
IsConnected was offered o = IsHad was offered (string_bytes o.address) o.connection

-- the faults for which none is opened: the network gave none, or there was no memory
abbrev pub IsUnopened : CallFault → Type 0
IsUnopened why = (why ≡ fault.Unreached) ⊎ (why ≡ fault.Memory)

-- why none could be opened to an address
abbrev pub IsWhyUnopened : {C : Type 0} → Option (Opened C) → (List ℕ → Option C) → List ℕ → CallFault → Type 0
IsWhyUnopened was offered address fault.NoTarget = ⊥
IsWhyUnopened was offered address fault.Unreached = IsNotHad was offered address
IsWhyUnopened was offered address (fault.Lost why) = ⊥
IsWhyUnopened was offered address fault.Memory = IsOpenTo address was → ⊥

-- one connection at most is asked of the network, by what it offers at an address
abbrev pub ConnectsAtMostOnce : {C : Type 0} → List (Option C) → List (Option C) → Type 0
ConnectsAtMostOnce old new = (new ≡ old) ⊎ (new ≡ offers_after old)

-- Why no request goes out: it leads nowhere, or the network gives no connection to where it leads, or there was no
-- memory.
abbrev pub IsWhyUnsent : {C : Type 0} → Option (Opened C) → (List ℕ → Option C) → (Target → Type 0) → CallFault → Type 0
IsWhyUnsent was offered leads fault.NoTarget = (target : Target) → leads target → ⊥
IsWhyUnsent was offered leads fault.Unreached =
    (target : Target) × leads target × IsNotHad was offered (string_bytes target.address)
IsWhyUnsent was offered leads (fault.Lost why) = ⊥
IsWhyUnsent was offered leads fault.Memory = Unit {0}

-- a connection is open to where a request leads
abbrev pub IsOpenFor : {C : Type 0} → (Target → Type 0) → Option (Opened C) → Type 0
IsOpenFor leads opened = (target : Target) × leads target × IsOpenTo (string_bytes target.address) opened

-- this answer was heard of these bytes, the first that were left to read on a connection: they are a whole one, and
-- where they are it only at the connection's end, nothing more came
pub record IsHeardFrom (came : List ℕ) (heard : Answer) (left : List ℕ) : Type 0 where
  pub ended : Bool
  pub are : AreAnswer ended came (whole heard)
  pub more : List ℕ
  pub first : left ≡ came ++ more
  pub end : ended ≡ true → more ≡ []

-- One request went out under the limits of its address on one connection to where it leads: all of it, or as much as by then where
-- the exchange was lost for this cause. As many calls on it were in vain as the cause says. Where an answer came, that
-- was heard from this connection.
pub record SendsTo {C : Type 0} (outgoing : C → List ℕ) (left : C → List ℕ) (vain : C → Vain) (was : Option (Opened C))
    (offered : List ℕ → Option C) (leads : Target → Type 0) (request : List ℕ → List ℕ → List ℕ)
    (limits : List ℕ → Exchange) (why : Option Lost) (hears : List ℕ → Type 0) (old new : List GoneOut) : Type 0 where
  pub target : Target
  pub connection : C
  pub bytes : List ℕ
  pub allowed : ℕ
  pub in_vain : Vain
  pub leads_to : leads target
  pub had : IsHad was offered (string_bytes target.address) connection
  pub gone : new ≡ record {
    address = string_bytes target.address;
    bytes = bytes;
    limits = limits (string_bytes target.address);
    allowed = allowed;
    vain = in_vain;
  } ∷ old
  pub sent : IsSent why (request target.host target.path) (outgoing connection) bytes
  pub counts : Counts why (vain connection) in_vain
  pub read : why ≡ None → hears (left connection)

-- What goes out for a call, by why it has no answer: the request once, all of it where an answer came; as much of it as
-- the cause says where the exchange was lost; and nothing for another cause.
abbrev pub Sends : {C : Type 0} → (C → List ℕ) → (C → List ℕ) → (C → Vain) → Option (Opened C)
    → (List ℕ → Option C) → (Target → Type 0) → (List ℕ → List ℕ → List ℕ) → (List ℕ → Exchange) → (List ℕ → Type 0)
    → Option CallFault → List GoneOut → List GoneOut → Type 0
Sends outgoing left vain was offered leads request limits hears None old new =
    SendsTo outgoing left vain was offered leads request limits None hears old new
Sends outgoing left vain was offered leads request limits hears (Some (fault.Lost why)) old new =
    SendsTo outgoing left vain was offered leads request limits (Some why) hears old new
Sends outgoing left vain was offered leads request limits hears (Some why) old new =
    IsWhyUnsent was offered leads why × (new ≡ old)

-- why there is no answer, as the fault of a call
abbrev pub fault_by : TargetFault → CallFault
fault_by target.NoTarget = fault.NoTarget
fault_by target.Memory = fault.Memory

-- a connection is open to this target
abbrev pub IsOpenAt : {C : Type 0} → Result Target TargetFault → Option (Opened C) → Type 0
IsOpenAt (Ok target) opened = IsOpenTo (string_bytes target.address) opened
IsOpenAt (Err why) opened = ⊥

-- why none could be opened to this target, or to none
abbrev pub IsWhyUnopenedAt : {C : Type 0} → Option (Opened C) → (List ℕ → Option C) → Result Target TargetFault
    → CallFault → Type 0
IsWhyUnopenedAt was offered (Ok target) why = IsWhyUnopened was offered (string_bytes target.address) why
IsWhyUnopenedAt was offered (Err none) why = why ≡ fault_by none

-- the fault of an exchange that was lost says what came
abbrev pub IsLostBy : Answer → ℕ → List ℕ → CallFault → Type 0
IsLostBy heard most bytes (fault.Lost why) =
    IsLost (λ ended came judged. JudgedIs ended came heard judged) most bytes why
IsLostBy heard most bytes why = Unit {0}

-- the last look and the last call of the exchange that went out last, under its limits, by what the watch showed at its
-- beginning and at that look, and by why it was lost, none where it wasn't
abbrev pub IsTimedBy : ℕ → Option ℕ → Option ℕ → Option Lost → List GoneOut → Type 0
IsTimedBy most shows shown why [] = ⊥
IsTimedBy most shows shown why (gone ∷ before) = IsTimed most (last_look gone.limits shows shown) gone.allowed why

-- Of a call for which something went out: the last read of an answer was allowed to wait just as long as the last look
-- says; and where the exchange was lost, that says what its last call was allowed, or that the time was over.
abbrev pub IsInLimits : ℕ → Option ℕ → Option ℕ → Option CallFault → List GoneOut → Type 0
IsInLimits most shows shown None sent = IsTimedBy most shows shown None sent
IsInLimits most shows shown (Some (fault.Lost why)) sent = IsTimedBy most shows shown (Some why) sent
IsInLimits most shows shown (Some why) sent = Unit {0}

-- An answer is heard of an exchange of this request that was kept, and is no longer; the others are. Where that one went
-- on, the answer was heard from its connection, on which the request had gone out once.
pub record TakesFrom {C : Type 0} (outgoing : C → List ℕ) (incoming : C → Incoming) (leads : Target → Type 0)
    (request : List ℕ → List ℕ → List ℕ) (hears : List ℕ → Type 0) (old new : List (Kept C)) : Type 0 where
  pub target : Target
  pub kept : Kept C
  pub leads_to : leads target
  pub taken : IsTakenAt (string_bytes target.address) (request target.host target.path) old new kept
  pub read : (goes : KeptGoesOn outgoing incoming kept) → hears (incoming goes.began).left

-- an exchange of this request is kept
pub record IsAwaited {C : Type 0} (leads : Target → Type 0) (request : List ℕ → List ℕ → List ℕ) (old : List (Kept C))
    : Type 0 where
  pub target : Target
  pub kept : Kept C
  pub rest : List (Kept C)
  pub leads_to : leads target
  pub taken : IsTakenAt (string_bytes target.address) (request target.host target.path) old rest kept

-- What a call for which nothing goes out comes to: an answer is taken of an exchange that was kept, or such an exchange
-- has none yet.
abbrev pub Awaits : {C : Type 0} → (C → List ℕ) → (C → Incoming) → (Target → Type 0) → (List ℕ → List ℕ → List ℕ)
    → (List ℕ → Type 0) → Option CallFault → List (Kept C) → List (Kept C) → Type 0
Awaits outgoing incoming leads request hears None old new = TakesFrom outgoing incoming leads request hears old new
Awaits outgoing incoming leads request hears (Some (fault.Lost why)) old new = IsAwaited leads request old
Awaits outgoing incoming leads request hears (Some why) old new = ⊥

-- What goes out for a call on a peer of which these exchanges were kept: the request, by what `Sends` says; or nothing, and an answer is taken of an exchange
-- that was kept, or awaited still.
abbrev pub Calls : {C : Type 0} → (C → List ℕ) → (C → Incoming) → (C → Vain) → Option (Opened C) → (List ℕ → Option C)
    → (Target → Type 0) → (List ℕ → List ℕ → List ℕ) → (List ℕ → Exchange) → (List ℕ → Type 0) → Option CallFault
    → List (Kept C) → List (Kept C) → List GoneOut → List GoneOut → Type 0
Calls outgoing incoming vain was offered leads request limits hears why kept kept_new old new =
    Sends outgoing (λ c. (incoming c).left) vain was offered leads request limits hears why old new
    ⊎ ((new ≡ old) × Awaits outgoing incoming leads request hears why kept kept_new)

-- the same of a call to this target, or to none
abbrev pub CallsBy : {C : Type 0} → (C → List ℕ) → (C → Incoming) → (C → Vain) → Option (Opened C) → (List ℕ → Option C)
    → Result Target TargetFault → (List ℕ → List ℕ → List ℕ) → (List ℕ → Exchange) → (List ℕ → Type 0) → Option CallFault
    → List (Kept C) → List (Kept C) → List GoneOut → List GoneOut → Type 0
CallsBy outgoing incoming vain was offered (Ok target) request limits hears why kept kept_new old new =
    Calls outgoing incoming vain was offered (λ t. t ≡ target) request limits hears why kept kept_new old new
CallsBy outgoing incoming vain was offered (Err none) request limits hears why kept kept_new old new =
    (why ≡ Some (fault_by none)) × (new ≡ old)
