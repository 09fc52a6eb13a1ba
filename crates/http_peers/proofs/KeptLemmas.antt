-- Exchanges that are kept.
use Rattle.std.proofs.Common.{◌≡◌, ◌⊎◌, ℕ, ◌+◌, zero, suc, List, [], ◌∷◌, ◌++◌, take, drop, Some}
use Rattle.std.proofs.Common.{Result, Ok, Err, All, IfErr, OnOk, refl, sym, ap, subst, ◌∙◌, inl, inr, arith}
use Rattle.std.proofs.lemmas.List.{append_assoc}
use Rattle.std.proofs.lemmas.List.Elements.{All-append, All-drop, All-take}
use Rattle.std.specs.Result.{result_err}
use Rattle.std.specs.String.{string_bytes}
use Rattle.host_calls.specs.Streams.{Incoming}
use Rattle.peer_exchange.specs.Exchanges.{HasRead}
use Rattle.peer_exchange.specs.GoingOn.{HasCome, ReadsOn}
use Rattle.peer_exchange.specs.declared.exchanging.Lost.TheVariants as lost
use Rattle.site_traits.specs.Answer.{Answer}
use Rattle.http_peers.specs.Kept.{GoesOn, IsOneLess, IsPutIn, IsTakenAt, KeptGoesOn, without}
use Rattle.http_peers.specs.Peers.{JudgedIs}
use Rattle.http_peers.specs.Sent.{Awaits, IsHeardFrom}
use Rattle.http_peers.specs.declared.faults.CallFault.{CallFault}
use Rattle.http_peers.specs.declared.faults.CallFault.TheVariants as fault
use Rattle.http_peers.specs.declared.kept.Kept.{Kept}
use Rattle.http_peers.specs.declared.targets.Target.{Target}

-- one element, of which it holds
all_one : {X : Type 0} (P : X → Type 0) (x : X) → P x → All P (x ∷ [])
all_one P x holds zero d within = holds
all_one P x holds (suc k) d within = absurd (omega (arith, within))

-- what holds of all holds of all but one
all_without : {C : Type 0} (P : Kept C → Type 0) (place : ℕ) (kept : List (Kept C)) → All P kept → All P (without place kept)
all_without P place kept holds =
    All-append P (take place kept) (drop (place + 1) kept) (All-take P place kept holds) (All-drop P (place + 1) kept holds)

-- the same where one is kept no longer, or none
pub all_less : {C : Type 0} (P : Kept C → Type 0) (old new : List (Kept C)) → (new ≡ old) ⊎ IsOneLess old new → All P old → All P new
all_less P old new (inl same) holds = subst (All P) (sym same) holds
all_less P old new (inr less) holds = subst (All P) (sym less.1) (all_without P less.0 old holds)

-- what holds of all, and of one that is kept behind them, holds of all
pub all_put_in : {C : Type 0} (P : Kept C → Type 0) (k : Kept C) (old new : List (Kept C)) → IsPutIn k old new → P k → All P old → All P new
all_put_in P k old new put one holds = behind put.put
  where
    others : All P put.others
    others = all_less P old put.others put.are holds

    behind : (new ≡ put.others ++ (k ∷ [])) ⊎ (new ≡ put.others) → All P new
    behind (inl is) = subst (All P) (sym is) (All-append P put.others (k ∷ []) others (all_one P k one))
    behind (inr is) = subst (All P) (sym is) others

-- one that is taken out was one of all, and all others are left
pub taken_is : {C : Type 0} (P : Kept C → Type 0) (address request : List ℕ) (old new : List (Kept C)) (k : Kept C)
    → IsTakenAt address request old new k → All P old → P k
taken_is P address request old new k taken holds = subst P taken.is (holds taken.place k taken.within)

pub others_are : {C : Type 0} (P : Kept C → Type 0) (address request : List ℕ) (old new : List (Kept C)) (k : Kept C)
    → IsTakenAt address request old new k → All P old → All P new
others_are P address request old new k taken holds = subst (All P) (sym taken.rest) (all_without P taken.place old holds)

-- what is read behind what was read before, all in all
read_on : (before after : List ℕ) (i j k : Incoming) → HasRead before i j → ReadsOn before after j k → HasRead after i k
read_on before after i j k read on = record {
  left = read.left ∙ ap (λ l. before ++ l) on.read.left ∙ sym (append_assoc before on.some k.left) ∙ ap (λ a. a ++ k.left) (sym on.behind);
  bytes = on.read.bytes ∙ read.bytes;
}

-- an exchange goes on where more of its answer is read, and nothing is sent
pub goes_on : {C : Type 0} (outgoing : C → List ℕ) (incoming : C → Incoming) (old new : C) (request before after : List ℕ)
    → GoesOn outgoing incoming old request before → outgoing new ≡ outgoing old
    → ReadsOn before after (incoming old) (incoming new) → GoesOn outgoing incoming new request after
goes_on outgoing incoming old new request before after goes same on = record {
  began = goes.began;
  sent = same ∙ goes.sent;
  read = read_on before after (incoming goes.began) (incoming old) (incoming new) goes.read on;
}

-- an answer that has come is heard from the connection of its exchange
pub heard_from : {C : Type 0} (outgoing : C → List ℕ) (incoming : C → Incoming) (tells : Type 0) (old new : C) (request before after : List ℕ)
    (heard : Answer) → tells → (goes : GoesOn outgoing incoming old request before)
    → ReadsOn before after (incoming old) (incoming new)
    → HasCome (λ ended bytes judged. JudgedIs ended bytes heard judged) tells after (incoming new)
    → IsHeardFrom after heard (incoming goes.began).left
heard_from outgoing incoming tells old new request before after heard told goes on come = record {
  ended = come.ended;
  are = come.whole;
  more = (incoming new).left;
  first = (read_on before after (incoming goes.began) (incoming old) (incoming new) goes.read on).left;
  end = come.end told;
}

-- what a call comes to that takes up an exchange that was kept
pub awaits_taken : {C T : Type 0} (outgoing : C → List ℕ) (incoming : C → Incoming) (request : List ℕ → List ℕ → List ℕ)
    (hears : List ℕ → Type 0) (target : Target) (address sent : List ℕ) (result : Result T CallFault) (kept : Kept C)
    (old mid now : List (Kept C)) → address ≡ string_bytes target.address → sent ≡ request target.host target.path
    → IsTakenAt address sent old mid kept → IfErr result (λ why. why ≡ fault.Lost lost.Unread) → OnOk result (now ≡ mid)
    → OnOk result ((goes : KeptGoesOn outgoing incoming kept) → hears (incoming goes.began).left)
    → Awaits outgoing incoming (λ t. t ≡ target) request hears (result_err result) old now
awaits_taken outgoing incoming request hears target address sent (Ok done) kept old mid now at is taken why same heard = record {
  target = target;
  kept = kept;
  leads_to = refl;
  taken = subst (λ n. IsTakenAt (string_bytes target.address) (request target.host target.path) old n kept) (sym same)
      (subst (λ a. IsTakenAt a (request target.host target.path) old mid kept) at
      (subst (λ s. IsTakenAt address s old mid kept) is taken));
  read = heard;
}
awaits_taken outgoing incoming request hears target address sent (Err why) kept old mid now at is taken is_why same heard =
    subst (λ w. Awaits outgoing incoming (λ t. t ≡ target) request hears (Some w) old now) (sym is_why) (record {
      target = target;
      kept = kept;
      rest = mid;
      leads_to = refl;
      taken = subst (λ a. IsTakenAt a (request target.host target.path) old mid kept) at
          (subst (λ s. IsTakenAt address s old mid kept) is taken);
    })
