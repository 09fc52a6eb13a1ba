-- An instance has at most one operation that goes on.
use Rattle.std.proofs.Common.{◌≡◌, ◌≤◌, ◌==◌, ℕ, List, [], ◌∷◌, Bool, true, false, cond, not, Option, None, Some, refl, ap, length, arith}
use Rattle.std.proofs.Common.{eqb-true, subst, if◌then◌else◌}
use Rattle.lcm_events.specs.declared.descriptor.Vnfd.{Vnfd}
use Rattle.lcm_events.specs.declared.events.Event.{Event}
use Rattle.lcm_events.specs.declared.events.EventKind.{EventKind}
use Rattle.lcm_events.specs.declared.events.EventKind.TheVariants.{Asked, Moved}
use Rattle.lcm_events.specs.declared.events.Operation.{Operation}
use Rattle.lcm_events.specs.declared.states.OpState.{OpState}
use Rattle.lcm_events.specs.declared.states.OpState.TheVariants.{Completed, Failed, RolledBack}
use Rattle.lcm_model.specs.declared.refusals.Refusal.TheVariants as refusals
use Rattle.lcm_model.specs.Moves.{edge, is_final, state}
use Rattle.lcm_model.specs.Operations.{goes_on, is_ongoing, ongoing, operations}
use Rattle.lcm_model.specs.Refusals.{Situation, ask_refusal, content_refusal, instantiation_refusal, situation, state_refusal}
use Rattle.lcm_model.specs.Work.{MayMove}
use Rattle.lcm_model.specs.Allowed.{IsAllowedWithin, IsLegalWithin, IsPlanOf}
use Rattle.lcm_laws.proofs.Histories.{event, legal_induction}
use Rattle.lcm_laws.proofs.Lists.{by_test, filter_shorter, first-none, none_of-front, none_of-rest, not-false, and_left, and_right}
use Rattle.lcm_laws.proofs.Lists.{and_true, when-none}
use Rattle.lcm_laws.proofs.PathLaws.{may_move-edge}

-- the state after a move
pub state-moved : (H : List Event) (t o occ : ℕ) (to : OpState) (same : Bool) → (occ == o) ≡ same
    → state (event t (Moved occ to) ∷ H) o ≡ (if same then to else state H o)
state-moved H t o occ to true e = rw e refl
state-moved H t o occ to false e = rw e refl

-- an edge leads out of a state that isn't final
pub edge-goes_on : (from to : OpState) → edge from to ≡ true → is_final from ≡ false
edge-goes_on Completed to e = cc
edge-goes_on Failed to e = cc
edge-goes_on RolledBack to e = cc
edge-goes_on _ to e = refl

-- what goes on after a move went on before it
pub goes_on-before : (H : List Event) (t occ : ℕ) (to : OpState) (a : Operation) → MayMove H occ (state H occ) to
    → goes_on (event t (Moved occ to) ∷ H) a ≡ true → goes_on H a ≡ true
unfolding goes_on
goes_on-before H t occ to a may h = by_test (occ == a.occ)
    (λ same.
    let is : occ ≡ a.occ = eqb-true occ a.occ same in
    let may_a : MayMove H a.occ (state H a.occ) to = subst (λ (n : ℕ). MayMove H n (state H n) to) is may in
    not-false (is_final (state H a.occ)) (edge-goes_on (state H a.occ) to (may_move-edge H a.occ (state H a.occ) to may_a)))
    (λ other.
    let e : state (event t (Moved occ to) ∷ H) a.occ ≡ state H a.occ = state-moved H t a.occ occ to false other in
    subst (λ (s : OpState). not (is_final s) ≡ true) e h)

-- an ask that isn't refused is for an instance that isn't busy
unbusy : (d : Vnfd) (now : Situation) (ask : _) → ask_refusal d now ask ≡ None → now.busy ≡ false
unbusy d now ask e =
    let state : state_refusal d now ask ≡ None =
    none_of-front _ _ (none_of-rest (content_refusal d ask) _ e) in
    when-none now.busy refusals.Ongoing
    (none_of-front _ _ (none_of-rest (instantiation_refusal ask now.instantiated) _ state))

planned_idle : (H : List Event) (a : Operation) (o : Option Vnfd) → IsPlanOf H a o → ongoing H a.instance ≡ []
planned_idle H a None h = absurd h
planned_idle H a (Some d) h = first-none (ongoing H a.instance) (unbusy d (situation d H a.instance) a.ask h.0)

-- an operation may be asked for only where none of the instance goes on
pub asked_idle : (width m : ℕ) (H : List Event) (a : Operation) → IsAllowedWithin width m H (Asked a) → ongoing H a.instance ≡ []
asked_idle width m H a allowed = planned_idle H a _ allowed.planned

one_more : (a : Operation) (b : Bool) (xs : List Operation) → xs ≡ [] → length (cond b (a ∷ xs) xs) ≤ 1
one_more a true xs e = let n : length xs ≡ 0 = ap length e in omega arith
one_more a false xs e = let n : length xs ≡ 0 = ap length e in omega arith

ongoing_asked : (width m : ℕ) (H : List Event) (t : ℕ) (a : Operation) (i : ℕ) → IsAllowedWithin width m H (Asked a)
    → length (ongoing H i) ≤ 1 → length (ongoing (event t (Asked a) ∷ H) i) ≤ 1
unfolding goes_on
ongoing_asked width m H t a i allowed h = by_test (a.instance == i)
    (λ same.
    let is : a.instance ≡ i = eqb-true a.instance i same in
    let idle : ongoing H i ≡ [] = subst (λ (n : ℕ). ongoing H n ≡ []) is (asked_idle width m H a allowed) in
    one_more a (is_ongoing H i a) (ongoing H i) idle)
    (λ other. rw other h)

ongoing_step : (width m : ℕ) (H : List Event) (t : ℕ) (k : EventKind) (i : ℕ) → IsAllowedWithin width m H k
    → length (ongoing H i) ≤ 1 → length (ongoing (event t k ∷ H) i) ≤ 1
unfolding goes_on
ongoing_step width m H t (Asked a) i allowed h = ongoing_asked width m H t a i allowed h
ongoing_step width m H t (Moved occ to) i allowed h =
    let fewer : length (ongoing (event t (Moved occ to) ∷ H) i) ≤ length (ongoing H i) =
    filter_shorter (is_ongoing (event t (Moved occ to) ∷ H) i) (is_ongoing H i) (operations H)
    (λ a g. and_true (a.instance == i) (goes_on H a) (and_left (a.instance == i) (goes_on (event t (Moved occ to) ∷ H) a) g)
    (goes_on-before H t occ to a allowed.1 (and_right (a.instance == i) (goes_on (event t (Moved occ to) ∷ H) a) g))) in
    omega (arith, fewer, h)
ongoing_step width m H t _ i allowed h = h

-- at most one operation of an instance goes on
pub one_ongoing : (width m : ℕ) (H : List Event) → IsLegalWithin width m H → (i : ℕ) → length (ongoing H i) ≤ 1
one_ongoing width m H legal i = legal_induction width m (λ H. length (ongoing H i) ≤ 1) (omega arith)
    (λ H t k legal allowed h. ongoing_step width m H t k i allowed h) H legal
