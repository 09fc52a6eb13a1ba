-- A plan fits what stands: what it makes doesn't, and what else it touches does.
use Rattle.std.proofs.Common.{◌≡◌, ◌≤◌, ◌<◌, ◌+◌, ◌-◌, ℕ, List, [], ◌∷◌, false, Option, None, Some, refl, ap, subst, arith, suc, zero, inl}
use Rattle.std.proofs.Common.{inr, length, take}
use Rattle.std.specs.List.{range_with_len}
use Rattle.std.proofs.lemmas.List.FromFn.{length-range_with_len}
use Rattle.lcm_events.specs.declared.asks.Ask.{Ask}
use Rattle.lcm_events.specs.declared.asks.Ask.TheVariants.{Operate, Terminate}
use Rattle.lcm_events.specs.declared.changes.Change.{Change}
use Rattle.lcm_events.specs.declared.changes.Def.{Def}
use Rattle.lcm_events.specs.declared.changes.Verb.{Verb}
use Rattle.lcm_events.specs.declared.changes.Verb.TheVariants.{Create}
use Rattle.lcm_events.specs.declared.descriptor.Vnfd.{Vnfd}
use Rattle.lcm_events.specs.declared.events.Event.{Event}
use Rattle.lcm_events.specs.declared.events.EventKind.TheVariants.{Asked}
use Rattle.lcm_events.specs.declared.events.Operation.{Operation}
use Rattle.lcm_model.specs.Words.{IsIn}
use Rattle.lcm_model.specs.Holding.{stands}
use Rattle.lcm_model.specs.Lives.{descriptor}
use Rattle.lcm_model.specs.Levels.{count}
use Rattle.lcm_model.specs.Plans.{Case, may_stay, new, new_by, stay, stay_by, want}
use Rattle.lcm_model.specs.Planned.{IsPlannedBy}
use Rattle.lcm_model.specs.Refusals.{case_in, situation}
use Rattle.lcm_model.specs.Allowed.{IsAllowedWithin, IsLegalWithin, IsPlanOf}
use Rattle.lcm_laws.specs.Planning.{AimsAtCounts, FitsWhatStands}
use Rattle.lcm_laws.specs.Standing.{IsOfInstance}
use Rattle.lcm_laws.proofs.Lists.{by_test}
use Rattle.lcm_laws.proofs.Members.{of_range}
use Rattle.lcm_laws.proofs.MakerLaws.{asked_stands}
use Rattle.lcm_laws.proofs.PlanMembers.{in_plan-planned}
use Rattle.lcm_laws.proofs.StandLaws.{stands_of}

above_range : (a s n : ℕ) → IsIn s (range_with_len (a + 1) n) → a < s
above_range a s n h = let low = (of_range s (a + 1) n h).0 in omega (arith, low)

-- the serials that a plan makes are above the greatest
pub new_above : (p : Case) (ask : Ask) (v s : ℕ) → IsIn s (new_by ask p v) → p.held.top v < s
new_above p (Operate started stop) v s h = absurd h
new_above p (Terminate mode timeout) v s h = absurd h
new_above p _ v s h = above_range (p.held.top v) s _ h

make_absent : (width m : ℕ) (H : List Event) (d : Vnfd) (i : ℕ) (ask : Ask) (v : Verb) (x : Def) → IsLegalWithin width m H → v ≡ Create
    → IsPlannedBy (case_in d (situation d H i) ask) v x → stands H i x ≡ false
make_absent width m H d i ask Create x legal is (inl h) = by_test (stands H i x)
    (λ s.
    let of : IsOfInstance H i x = stands_of width m H legal i x s in
    let low = of.3 in
    let high = new_above (case_in d (situation d H i) ask) ask x.vdu x.serial h.1 in
    absurd (omega (arith, low, high)))
    (λ none. none)
make_absent width m H d i ask Create x legal is (inr h) = h.2
make_absent width m H d i ask _ x legal is h = cc

asked_absent_of : (width m : ℕ) (H : List Event) (a : Operation) (d : Option Vnfd) → IsLegalWithin width m H → IsPlanOf H a d → (k : Change)
    → IsIn k a.changes
    → k.verb ≡ Create → stands H a.instance k.def ≡ false
asked_absent_of width m H a None legal h k has is = absurd h
asked_absent_of width m H a (Some d) legal h k has is =
    let p = case_in d (situation d H a.instance) a.ask in
    make_absent width m H d a.instance a.ask k.verb k.def legal is (in_plan-planned p k (subst (λ (ks : List Change). IsIn k ks) h.1 has)).1

-- what a plan makes doesn't stand when it is planned
pub asked_absent : (width m : ℕ) (H : List Event) (a : Operation) → IsLegalWithin width m H → IsAllowedWithin width m H (Asked a)
    → (k : Change) → IsIn k a.changes
    → k.verb ≡ Create → stands H a.instance k.def ≡ false
asked_absent width m H a legal allowed = asked_absent_of width m H a (descriptor H a.instance) legal allowed.planned

-- a plan fits what stands
pub plan_fits : (width m : ℕ) (H : List Event) (a : Operation) → IsLegalWithin width m H → IsAllowedWithin width m H (Asked a)
    → (k : Change) → IsIn k a.changes
    → FitsWhatStands H a.instance k
plan_fits width m H a legal allowed k has = record {
  makes = λ is. asked_absent width m H a legal allowed k has is;
  others = λ other. asked_stands width m H a allowed k has other;
}

-- as many machines stay or are new as are wanted
stay_few : {A : Type 0} → (n : ℕ) (xs : List A) → length (take n xs) ≤ n
stay_few zero xs = omega arith
stay_few (suc n) [] = omega arith
stay_few (suc n) (x ∷ xs) = let rest = stay_few n xs in omega (arith, rest)

filled : (n a : ℕ) (xs : List ℕ) → length (take n xs) + length (range_with_len a (n - length (take n xs))) ≡ n
filled n a xs = omega (arith, stay_few n xs, length-range_with_len a (n - length (take n xs)))

counts_by : (p : Case) (v : ℕ) (ask : Ask) → p.ask ≡ ask → AimsAtCounts ask → length (stay_by ask p v) + length (new_by ask p v) ≡ want p v
counts_by p v (Operate started stop) is h = absurd h
counts_by p v (Terminate mode timeout) is h = absurd h
counts_by p v ask is h =
    let one : length (stay p v) ≡ length (stay_by ask p v) = ap (λ (z : Ask). length (stay_by z p v)) is in
    rw one (filled (want p v) (p.held.top v + 1) (may_stay ask p v))

pub counts_met : (p : Case) (v : ℕ) → AimsAtCounts p.ask → length (stay p v) + length (new p v) ≡ count p.vnfd v p.to
counts_met p v h = counts_by p v p.ask refl h
