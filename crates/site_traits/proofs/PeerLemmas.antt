-- One plan more of an orchestrator in memory.
use Rattle.std.proofs.Common.{◌≡◌, ◌∷◌, ◌++◌, [], ℕ, List, take, get_or, length, ◌<◌, ◌+◌, ap, ◌∙◌, ◌↔◌, Option, Some, None, IsSome, sym}
use Rattle.std.proofs.Common.{subst, refl, arith, option_to_list}
use Rattle.std.specs.Prelude.{option_and_then}
use Rattle.std.specs.List.{filter_map}
use Rattle.std.proofs.lemmas.Option.{slice_get_read}
use Rattle.std.proofs.lemmas.List.{take_more, append-nil, map_push}
use Rattle.std.proofs.lemmas.List.Elements.{filter_map-append}
use Rattle.site_traits.specs.Answer.{Answer}
use Rattle.site_traits.specs.MemPeers.{answer_of, answers_of, bytes_of, next_answer, place_after}
use Rattle.site_traits.specs.declared.orchestrator.Call.TheVariants as call
use Rattle.site_traits.specs.declared.mem_orchestrator.GrantPlan.{GrantPlan}

-- the answer of one plan
answer-one : (plan : GrantPlan) → filter_map answer_of (plan ∷ []) ≡ option_to_list (answer_of plan)
answer-one plan = of (answer_of plan) refl where
  of : (o : Option Answer) → answer_of plan ≡ o → filter_map answer_of (plan ∷ []) ≡ option_to_list (answer_of plan)
  of None e = rw e
  of (Some y) e = rw e

-- the answers with one plan more
pub answers-more : (plans : List GrantPlan) (i : ℕ) (plan : GrantPlan) → i < length plans → get_or plans i plan ≡ plan
    → answers_of plans (i + 1) ≡ answers_of plans i ++ option_to_list (answer_of plan)
answers-more plans i plan lt is =
    ap (filter_map answer_of) (take_more plans i plan lt)
    ∙ filter_map-append answer_of (take i plans) (get_or plans i plan ∷ [])
    ∙ ap (λ (p : GrantPlan). answers_of plans i ++ filter_map answer_of (p ∷ [])) is
    ∙ ap (λ (rest : List Answer). answers_of plans i ++ rest) (answer-one plan)

-- a plan that gives this answer
pub answers-came : (plans : List GrantPlan) (i : ℕ) (plan : GrantPlan) (answer : Answer) → i < length plans → get_or plans i plan ≡ plan
    → answer_of plan ≡ Some answer
    → answers_of plans (i + 1) ≡ answers_of plans i ++ answer ∷ []
answers-came plans i plan answer lt is gives =
    answers-more plans i plan lt is ∙ ap (λ (o : Option Answer). answers_of plans i ++ option_to_list o) gives

-- a plan that gives none
pub answers-failed : (plans : List GrantPlan) (i : ℕ) (plan : GrantPlan) → i < length plans → get_or plans i plan ≡ plan
    → answer_of plan ≡ None
    → answers_of plans (i + 1) ≡ answers_of plans i
answers-failed plans i plan lt is gives =
    answers-more plans i plan lt is ∙ ap (λ (o : Option Answer). answers_of plans i ++ option_to_list o) gives
    ∙ append-nil (answers_of plans i)

-- the bytes with one call more
pub bytes-more : {T : Type 0} (calls new : List (T × List ℕ)) (what : T) (bytes : List ℕ) → new ≡ calls ++ (what, bytes ++ []) ∷ []
    → bytes_of new ≡ bytes_of calls ++ bytes ∷ []
bytes-more {T} calls new what bytes is =
    ap bytes_of is ∙ map_push (λ (c : T × List ℕ). c.1) calls (what, bytes ++ [])
    ∙ ap (λ (b : List ℕ). bytes_of calls ++ b ∷ []) (append-nil bytes)

-- the answer that the plan at this place has
pub answer-here : (plans : List GrantPlan) (i : ℕ) (plan : GrantPlan) → i < length plans → get_or plans i plan ≡ plan
    → next_answer plans i ≡ answer_of plan
answer-here plans i plan lt is = ap (option_and_then answer_of) (slice_get_read plans (length plans) i plan refl lt (sym is))

-- a plan without an answer is used, and serves no call
pub place-used : (plans : List GrantPlan) (i : ℕ) → i < length plans → next_answer plans i ≡ None
    → i + 1 ≡ place_after call.Failed (next_answer plans i) i (length plans)
place-used plans i lt none =
    let P : Option Answer → Type 0 = λ o. i + 1 ≡ place_after call.Failed o i (length plans) in
    subst P (sym none) (omega arith)

pub none-served : (P : Type 0) (o : Option Answer) → o ≡ None → (call.Failed ≡ call.Came) ↔ (IsSome o × P)
none-served P None none = (λ came. absurd (cc came), λ both. absurd (cc both.0))
none-served P (Some answer) none = absurd (cc none)

-- one with an answer stays where the call fails
pub place-stays : (plans : List GrantPlan) (i : ℕ) (answer : Answer) → next_answer plans i ≡ Some answer
    → i ≡ place_after call.Failed (next_answer plans i) i (length plans)
place-stays plans i answer some =
    let P : Option Answer → Type 0 = λ o. i ≡ place_after call.Failed o i (length plans) in
    subst P (sym some) refl
