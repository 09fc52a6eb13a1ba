-- What goes out on a connection to a target, and what doesn't.
use Rattle.std.proofs.Common.{◌≡◌, ◌∙◌, ℕ, List, ◌∷◌, Option, Some, None, Result, Ok, Err, refl, sym, ap, subst, inl, inr}
use Rattle.std.specs.Prelude.{IfSome, MatchOption}
use Rattle.std.specs.String.{string_bytes}
use Rattle.edge_limits.specs.declared.limits.Exchange.{Exchange}
use Rattle.net_calls.specs.Connections.{Vain}
use Rattle.peer_exchange.specs.Exchanges.{Counts, IsSent}
use Rattle.peer_exchange.specs.declared.exchanging.Lost.{Lost}
use Rattle.host_calls.specs.Streams.{Incoming}
use Rattle.http_peers.specs.Gone.{GoneOut}
use Rattle.http_peers.specs.declared.kept.Kept.{Kept}
use Rattle.http_peers.specs.Sent.{IsConnected, IsHad, IsNotHad, IsOpenAt, IsOpenFor, IsOpenTo, IsWhyUnopened}
use Rattle.http_peers.specs.Sent.{Awaits, Calls, CallsBy, IsWhyUnopenedAt, IsWhyUnsent, Sends, SendsTo, fault_by}
use Rattle.http_peers.specs.Targets.{Finds}
use Rattle.http_peers.specs.declared.faults.CallFault.{CallFault}
use Rattle.http_peers.specs.declared.faults.CallFault.TheVariants as fault
use Rattle.http_peers.specs.declared.opened.Opened.{Opened}
use Rattle.http_peers.specs.declared.targets.Target.{Target}
use Rattle.http_peers.specs.declared.targets.TargetFault.{TargetFault}
use Rattle.http_peers.specs.declared.targets.TargetFault.TheVariants as none

-- a call that was lost has no answer
pub unanswered : {P : Type 0} {why : Lost} → Some why ≡ None → P
unanswered e = absurd (subst (λ (w : Option Lost). MatchOption w ⊥ (λ _. Unit {0})) e tt)

module _ {C : Type 0} (outgoing left : C → List ℕ) (vain : C → Vain) (was : Option (Opened C)) (offered : List ℕ → Option C) where
  -- where no connection to a target could be opened, nothing goes out to it
  pub sends_nothing : (request : List ℕ → List ℕ → List ℕ) (limits : List ℕ → Exchange) (hears : List ℕ → Type 0) (target : Target)
      (address : List ℕ) (why : CallFault) (old new : List GoneOut) → address ≡ string_bytes target.address
      → IsWhyUnopened was offered address why → new ≡ old
      → Sends outgoing left vain was offered (λ t. t ≡ target) request limits hears (Some why) old new
  sends_nothing request limits hears target address fault.NoTarget old new at unopened same = absurd unopened
  sends_nothing request limits hears target address fault.Unreached old new at unopened same =
      ((target, refl, subst (IsNotHad was offered) at unopened), same)
  sends_nothing request limits hears target address (fault.Lost why) old new at unopened same = absurd unopened
  sends_nothing request limits hears target address fault.Memory old new at unopened same = (tt, same)

  -- the request that goes out on the connection that was opened to a target goes to this target
  pub sends_one : (request : List ℕ → List ℕ → List ℕ) (limits : List ℕ → Exchange) (why : Option Lost) (hears : List ℕ → Type 0) (target : Target)
      (address sent bytes : List ℕ) (used : Exchange) (allowed : ℕ) (in_vain : Vain) (now : Option (Opened C)) (opened : Opened C)
      (old before new : List GoneOut) → address ≡ string_bytes target.address → used ≡ limits address → now ≡ Some opened → IsOpenTo address now
      → IfSome now (IsConnected was offered)
      → sent ≡ request target.host target.path → IsSent why sent (outgoing opened.connection) bytes
      → Counts why (vain opened.connection) in_vain → (why ≡ None → hears (left opened.connection)) → before ≡ old
      → new ≡ record { address = string_bytes opened.address; bytes = bytes; limits = used; allowed = allowed; vain = in_vain } ∷ before
      → SendsTo outgoing left vain was offered (λ t. t ≡ target) request limits why hears old new
  sends_one request limits why hears target address sent bytes used allowed in_vain now opened old before new at is_used is is_open had is_sent front
      counts read is_old is_new =
      let there : string_bytes opened.address ≡ string_bytes target.address = subst (IsOpenTo address) is is_open ∙ at in
      record {
        target = target;
        connection = opened.connection;
        bytes = bytes;
        allowed = allowed;
        in_vain = in_vain;
        leads_to = refl;
        had = subst (λ a. IsHad was offered a opened.connection) there (subst (λ o. IfSome o (IsConnected was offered)) is had);
        gone = is_new
            ∙ ap (λ a. record { address = a; bytes = bytes; limits = used; allowed = allowed; vain = in_vain } ∷ before) there
            ∙ ap (λ log. record {
              address = string_bytes target.address;
              bytes = bytes;
              limits = used;
              allowed = allowed;
              vain = in_vain;
            } ∷ log) is_old
            ∙ ap (λ l. record {
              address = string_bytes target.address;
              bytes = bytes;
              limits = l;
              allowed = allowed;
              vain = in_vain;
            } ∷ old) (is_used ∙ ap limits at);
        sent = subst (λ s. IsSent why s (outgoing opened.connection) bytes) is_sent front;
        counts = counts;
        read = read;
      }

  -- what goes out to one target goes out to where that one leads
  sends_where : (leads : Target → Type 0) (request : List ℕ → List ℕ → List ℕ) (limits : List ℕ → Exchange) (why : Option Lost)
      (hears heard : List ℕ → Type 0) (target : Target) (old new : List GoneOut) → leads target
      → (why ≡ None → (bytes : List ℕ) → heard bytes → hears bytes)
      → SendsTo outgoing left vain was offered (λ t. t ≡ target) request limits why heard old new
      → SendsTo outgoing left vain was offered leads request limits why hears old new
  sends_where leads request limits why hears heard target old new is same sends = record {
    target = sends.target;
    connection = sends.connection;
    bytes = sends.bytes;
    allowed = sends.allowed;
    in_vain = sends.in_vain;
    leads_to = subst leads (sym sends.leads_to) is;
    had = sends.had;
    gone = sends.gone;
    sent = sends.sent;
    counts = sends.counts;
    read = λ came. same came (left sends.connection) (sends.read came);
  }

  -- what goes out for a call to a target that was found goes out to where that one leads
  sends_for : (leads : Target → Type 0) (request : List ℕ → List ℕ → List ℕ) (limits : List ℕ → Exchange)
      (hears heard : List ℕ → Type 0) (target : Target) (why : Option CallFault) (old new : List GoneOut) → leads target
      → (why ≡ None → (bytes : List ℕ) → heard bytes → hears bytes)
      → Sends outgoing left vain was offered (λ t. t ≡ target) request limits heard why old new
      → Sends outgoing left vain was offered leads request limits hears why old new
  sends_for leads request limits hears heard target None old new found same sends =
      sends_where leads request limits _ hears heard target old new found (λ _. same refl) sends
  sends_for leads request limits hears heard target (Some fault.NoTarget) old new found same sends = absurd (sends.0 target refl)
  sends_for leads request limits hears heard target (Some fault.Unreached) old new found same sends =
      ((sends.0.0, subst leads (sym sends.0.1) found, sends.0.2), sends.1)
  sends_for leads request limits hears heard target (Some (fault.Lost why)) old new found same sends =
      sends_where leads request limits _ hears heard target old new found unanswered sends
  sends_for leads request limits hears heard target (Some fault.Memory) old new found same sends = sends

  -- why no connection could be opened by what was found of a target
  pub unopened_for : (leads : Target → Type 0) (target : Result Target TargetFault) (why : Option CallFault) → Finds leads target
      → IfSome why (IsWhyUnopenedAt was offered target) → IfSome why (IsWhyUnsent was offered leads)
  unopened_for leads target None found unopened = unopened
  unopened_for leads (Ok target) (Some fault.NoTarget) found unopened = absurd unopened
  unopened_for leads (Ok target) (Some fault.Unreached) found unopened = (target, found, unopened)
  unopened_for leads (Ok target) (Some (fault.Lost why)) found unopened = absurd unopened
  unopened_for leads (Ok target) (Some fault.Memory) found unopened = tt
  unopened_for leads (Err none.NoTarget) (Some why) found unopened = subst (IsWhyUnsent was offered leads) (sym unopened) found
  unopened_for leads (Err none.Memory) (Some why) found unopened = subst (IsWhyUnsent was offered leads) (sym unopened) tt

-- a connection is open to the target that was found
pub open_for : {C : Type 0} (leads : Target → Type 0) (target : Result Target TargetFault) (now : Option (Opened C)) → Finds leads target
    → IsOpenAt target now → IsOpenFor leads now
open_for leads (Ok target) now found is_open = (target, found, is_open)
open_for leads (Err why) now found is_open = absurd is_open

module _ {C : Type 0} (outgoing : C → List ℕ) (incoming : C → Incoming) (vain : C → Vain) (was : Option (Opened C))
    (offered : List ℕ → Option C) where
  -- what is awaited of one target is awaited of where that one leads
  awaits_for : (leads : Target → Type 0) (request : List ℕ → List ℕ → List ℕ) (hears heard : List ℕ → Type 0) (target : Target)
      (why : Option CallFault) (kept now : List (Kept C)) → leads target
      → (why ≡ None → (bytes : List ℕ) → heard bytes → hears bytes)
      → Awaits outgoing incoming (λ t. t ≡ target) request heard why kept now
      → Awaits outgoing incoming leads request hears why kept now
  awaits_for leads request hears heard target None kept now found same awaits = record {
    target = awaits.target;
    kept = awaits.kept;
    leads_to = subst leads (sym awaits.leads_to) found;
    taken = awaits.taken;
    read = λ goes. same refl (incoming goes.began).left (awaits.read goes);
  }
  awaits_for leads request hears heard target (Some (fault.Lost why)) kept now found same awaits = record {
    target = awaits.target;
    kept = awaits.kept;
    rest = awaits.rest;
    leads_to = subst leads (sym awaits.leads_to) found;
    taken = awaits.taken;
  }
  awaits_for leads request hears heard target (Some fault.NoTarget) kept now found same awaits = absurd awaits
  awaits_for leads request hears heard target (Some fault.Unreached) kept now found same awaits = absurd awaits
  awaits_for leads request hears heard target (Some fault.Memory) kept now found same awaits = absurd awaits

  -- a call by what was found of its target
  pub calls_for : (leads : Target → Type 0) (request : List ℕ → List ℕ → List ℕ) (limits : List ℕ → Exchange) (hears heard : List ℕ → Type 0)
      (target : Result Target TargetFault) (why : Option CallFault) (kept now : List (Kept C)) (old new : List GoneOut)
      → Finds leads target → (why ≡ None → (bytes : List ℕ) → heard bytes → hears bytes)
      → CallsBy outgoing incoming vain was offered target request limits heard why kept now old new
      → Calls outgoing incoming vain was offered leads request limits hears why kept now old new
  calls_for leads request limits hears heard (Ok target) why kept now old new found same (inl sends) =
      inl (sends_for outgoing (λ c. (incoming c).left) vain was offered leads request limits hears heard target why old new
      found same sends)
  calls_for leads request limits hears heard (Ok target) why kept now old new found same (inr awaits) =
      inr (awaits.0, awaits_for leads request hears heard target why kept now found same awaits.1)
  calls_for leads request limits hears heard (Err none.NoTarget) why kept now old new found same calls =
      subst (λ w. Calls outgoing incoming vain was offered leads request limits hears w kept now old new) (sym calls.0)
      (inl (found, calls.1))
  calls_for leads request limits hears heard (Err none.Memory) why kept now old new found same calls =
      subst (λ w. Calls outgoing incoming vain was offered leads request limits hears w kept now old new) (sym calls.0)
      (inl (tt, calls.1))

  -- a call to a target that was found
  pub calls_found : (request : List ℕ → List ℕ → List ℕ) (limits : List ℕ → Exchange) (hears heard : List ℕ → Type 0)
      (found : Result Target TargetFault) (target : Target) (why was_why : Option CallFault) (kept now was_now : List (Kept C))
      (old new was_new : List GoneOut) → found ≡ Ok target → hears ≡ heard → why ≡ was_why → now ≡ was_now → new ≡ was_new
      → Calls outgoing incoming vain was offered (λ t. t ≡ target) request limits heard was_why kept was_now old was_new
      → CallsBy outgoing incoming vain was offered found request limits hears why kept now old new
  calls_found request limits hears heard found target why was_why kept now was_now old new was_new is is_heard is_why is_now is_new calls =
      subst (λ f. CallsBy outgoing incoming vain was offered f request limits hears why kept now old new) (sym is)
      (subst (λ h. Calls outgoing incoming vain was offered (λ t. t ≡ target) request limits h why kept now old new) (sym is_heard)
      (subst (λ w. Calls outgoing incoming vain was offered (λ t. t ≡ target) request limits heard w kept now old new) (sym is_why)
      (subst (λ n. Calls outgoing incoming vain was offered (λ t. t ≡ target) request limits heard was_why kept n old new) (sym is_now)
      (subst (Calls outgoing incoming vain was offered (λ t. t ≡ target) request limits heard was_why kept was_now old) (sym is_new)
      calls))))

  -- nothing goes out where none was found
  pub calls_none : (request : List ℕ → List ℕ → List ℕ) (limits : List ℕ → Exchange) (hears : List ℕ → Type 0)
      (found : Result Target TargetFault) (fault : TargetFault) (why : Option CallFault) (kept now : List (Kept C))
      (old new : List GoneOut) → found ≡ Err fault → why ≡ Some (fault_by fault) → new ≡ old
      → CallsBy outgoing incoming vain was offered found request limits hears why kept now old new
  calls_none request limits hears found fault why kept now old new is is_why same =
      subst (λ f. CallsBy outgoing incoming vain was offered f request limits hears why kept now old new) (sym is) (is_why, same)
