-- The tags of a history's attempts keep the format's rules, and so do the events about them that come next.
use Rattle.std.proofs.Common.{◌≡◌, ◌||◌, ℕ, Bool, List, [], ◌∷◌, false, true, true≢false, arith, sym, subst}
use Rattle.std.specs.List.{AllByRecursion, list_any}
use Rattle.event_codec.specs.Typed.{TypedEvent}
use Rattle.event_codec.specs.Valid.{IsEvent, IsKind, IsTag}
use Rattle.executor.specs.Managed.{MayPut, MayRecord, is_settled}
use Rattle.lcm_events.proofs.SameLaws.{same_tag-true}
use Rattle.lcm_events.specs.Same.{same_tag}
use Rattle.lcm_events.specs.declared.attempts.Tag.{Tag}
use Rattle.lcm_events.specs.declared.events.Event.{Event}
use Rattle.lcm_events.specs.declared.events.EventKind.{EventKind}
use Rattle.lcm_events.specs.declared.events.EventKind.TheVariants.{CallFailed, Intent, Settled}
use Rattle.lcm_laws.proofs.Lists.{any_of_filter, by_test}
use Rattle.lcm_model.specs.Allowed.{IsAllowed}
use Rattle.lcm_model.specs.Attempts.{intents, is_open, is_unsettled}
use Rattle.occ_work.specs.Attempting.{is_of_attempt}

-- the tag of an event's attempt keeps the rules, where those before do
tag_in : (H : List Event) (now : ℕ) (k : EventKind) (t : Tag) → IsKind k → (list_any (same_tag t) (intents H) ≡ true → IsTag t)
    → list_any (same_tag t) (intents (record { moment = now; kind = k } ∷ H)) ≡ true → IsTag t
tag_in H now (Intent u) t kind before known = by_test (same_tag t u)
    (λ same. subst IsTag (sym (same_tag-true t u same)) kind)
    (λ other. before (subst (λ (b : Bool). (b || list_any (same_tag t) (intents H)) ≡ true) other known))
tag_in H now _ t kind before known = before known

begun_tag : (H : List Event) (t : Tag) → AllByRecursion IsEvent H → list_any (same_tag t) (intents H) ≡ true → IsTag t
begun_tag [] t events known = absurd (true≢false (sym known))
begun_tag (e ∷ H) t events known = tag_in H e.moment e.kind t events.0.1 (begun_tag H t events.1) known

-- the tag of an open attempt keeps the rules
pub open_tag : (H : List Event) (t : Tag) → AllByRecursion IsEvent H → is_open H t ≡ true → IsTag t
open_tag H t events is = begun_tag H t events (any_of_filter (same_tag t) (is_unsettled H) (intents H) is)

attempt_rules : (m : ℕ) (H : List Event) (now : ℕ) (kind : EventKind) → AllByRecursion IsEvent H → IsAllowed m H kind
    → is_of_attempt kind ≡ true
    → TypedEvent (record { moment = now; kind = kind }) → IsEvent (record { moment = now; kind = kind })
attempt_rules m H now (Intent t) events allowed is typed =
    let number = allowed.number in
    (typed.0, (typed.1.0, typed.1.1, (omega (arith, number), typed.1.2)))
attempt_rules m H now (CallFailed t) events allowed is typed = (typed.0, open_tag H t events allowed.0)
attempt_rules m H now (Settled t how) events allowed is typed = (typed.0, (open_tag H t events allowed, typed.1.1))
attempt_rules m H now _ events allowed is typed = absurd (cc is)

-- an event about an attempt that is allowed may be put
pub attempt_put : (m : ℕ) (H : List Event) (e : Event) → AllByRecursion IsEvent H → IsAllowed m H e.kind → is_of_attempt e.kind ≡ true
    → MayPut m H e
attempt_put m H e events allowed is = record { rules = attempt_rules m H e.moment e.kind events allowed is; allowed = allowed }

-- and recorded, where it isn't a Settled
pub attempt_recorded : (m : ℕ) (H : List Event) (e : Event) → AllByRecursion IsEvent H → IsAllowed m H e.kind → is_of_attempt e.kind ≡ true
    → is_settled e.kind ≡ false → MayRecord m H e
attempt_recorded m H e events allowed is unsettled = record {
  rules = attempt_rules m H e.moment e.kind events allowed is;
  allowed = allowed;
  unsettled = unsettled;
}
