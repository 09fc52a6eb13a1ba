-- What an attempt finds when it begins, and what an operation finds when it is asked for.
use Rattle.std.proofs.Common.{◌≡◌, ◌++◌, ◌∙◌, ℕ, List, [], ◌∷◌, true, false, Option, None, Some, refl, ap, sym, subst, inl, inr, ◌↔◌}
use Rattle.std.proofs.Common.{slice_get, option_and_then}
use Rattle.std.specs.Option.{option_map_or}
use Rattle.lcm_events.specs.declared.asks.Ask.{Ask}
use Rattle.lcm_events.specs.declared.asks.Ask.TheVariants.{Heal, Instantiate, Operate, Scale, ScaleToLevel, Terminate}
use Rattle.lcm_events.specs.declared.attempts.Tag.{Tag}
use Rattle.lcm_events.specs.declared.attempts.Way.{Way}
use Rattle.lcm_events.specs.declared.attempts.Way.TheVariants.{Forward, Undo}
use Rattle.lcm_events.specs.declared.changes.Change.{Change}
use Rattle.lcm_events.specs.declared.changes.Def.{Def}
use Rattle.lcm_events.specs.declared.changes.DefKind.{DefKind}
use Rattle.lcm_events.specs.declared.changes.DefKind.TheVariants.{Compute, Link, Port, Storage}
use Rattle.lcm_events.specs.declared.changes.Verb.{Verb}
use Rattle.lcm_events.specs.declared.changes.Verb.TheVariants.{Create, Remove, Start, Stop}
use Rattle.lcm_events.specs.declared.descriptor.Port as port
use Rattle.lcm_events.specs.declared.descriptor.Vnfd.{Vnfd}
use Rattle.lcm_events.specs.declared.events.Event.{Event}
use Rattle.lcm_events.specs.declared.events.EventKind.TheVariants.{Asked, Intent}
use Rattle.lcm_events.specs.declared.events.Operation.{Operation}
use Rattle.lcm_model.specs.Words.{IsIn}
use Rattle.lcm_model.specs.Attempts.{net}
use Rattle.lcm_model.specs.Operations.{operation, verb_done}
use Rattle.lcm_model.specs.Holding.{stands}
use Rattle.lcm_model.specs.Instances.{inventory, is_started, levels}
use Rattle.lcm_model.specs.Lives.{descriptor}
use Rattle.lcm_model.specs.Vnfcs.{all_defs, compute_def, defs, is_in_step, link_def}
use Rattle.lcm_model.specs.Needs.{made_on, needs, port_links}
use Rattle.lcm_model.specs.Plans.{Case, change}
use Rattle.lcm_model.specs.Refusals.{needs_step, situation}
use Rattle.lcm_model.specs.Allowed.{IsAllowedWithin, IsLegalWithin, IsPlanOf}
use Rattle.lcm_model.specs.Work.{net_before}
use Rattle.lcm_laws.specs.Needing.{IsMadeOn, IsNeeded, IsPartBeside}
use Rattle.lcm_laws.specs.Planning.{FitsWhatStands, IsOfWholeMachines}
use Rattle.lcm_laws.proofs.Histories.{allowed_at, event}
use Rattle.lcm_laws.proofs.Lists.{by_test}
use Rattle.lcm_laws.proofs.Members.{get_in}
use Rattle.lcm_laws.proofs.NeedLaws.{IsPlannedOver, Tracks, one_number, one_zero}
use Rattle.lcm_laws.proofs.OrderLaws.{turn_at}
use Rattle.lcm_laws.proofs.PlanMembers.{in_all, of_all, of_defs}
use Rattle.lcm_laws.proofs.WorldLaws.{Follows, follows_at, in_step, work_needs}

-- what work needs
of_link : (l : Option ℕ) (y : Def) → IsIn y (option_map_or (λ n. link_def n ∷ []) l []) → (n : ℕ) × (l ≡ Some n) × (y ≡ link_def n)
of_link None y h = absurd h
of_link (Some n) y (inl e) = (n, refl, sym e)
of_link (Some n) y (inr g) = absurd g

of_port : (o : Option port.Port) (y : Def) → IsIn y (option_map_or (λ p. option_map_or (λ l. link_def l ∷ []) p.link []) o [])
    → (n : ℕ) × (option_and_then (λ p. p.link) o ≡ Some n) × (y ≡ link_def n)
of_port None y h = absurd h
of_port (Some p) y h = of_link p.link y h

in_link : (l : Option ℕ) (n : ℕ) → l ≡ Some n → IsIn (link_def n) (option_map_or (λ n. link_def n ∷ []) l [])
in_link None n e = cc
in_link (Some k) n e = inl (ap link_def (let one : k ≡ n = cc in one))

in_port : (o : Option port.Port) (n : ℕ) → option_and_then (λ p. p.link) o ≡ Some n
    → IsIn (link_def n) (option_map_or (λ p. option_map_or (λ l. link_def l ∷ []) p.link []) o [])
in_port None n e = cc
in_port (Some p) n e = in_link p.link n e

of_made_on : (d : Vnfd) (kind : DefKind) (x y : Def) → x.kind ≡ kind → IsIn y (made_on d kind x) → IsMadeOn d x y
of_made_on d Link x y is h = absurd h
of_made_on d Storage x y is h = absurd h
of_made_on d Compute x y is h = inl (
  is,
  record {
    kind = (of_defs d Storage x.vdu x.serial y h).0;
    among =
        in_all d Storage x.vdu x.serial y h;
  },
)
of_made_on d Port x y is (inl e) =
    let here : IsIn (compute_def x.vdu x.serial) (all_defs d x.vdu x.serial) =
    in_all d Compute x.vdu x.serial (compute_def x.vdu x.serial) (inl refl) in
    inr (
      is,
      inl (record {
        kind = ap (λ (z : Def). z.kind) (sym e);
        among =
            subst (λ (z : Def). IsIn z (all_defs d x.vdu x.serial)) e here;
      }),
    )
of_made_on d Port x y is (inr g) = inr (is, inr (of_port (slice_get d.ports x.item) y g))

part : (d : Vnfd) (kind : DefKind) (x y : Def) → IsPartBeside d kind x y → IsIn y (defs d kind x.vdu x.serial)
part d kind x y b = subst (λ (k : DefKind). IsIn y (defs d k x.vdu x.serial)) b.kind (of_all d x.vdu x.serial y b.among).1

only_compute : (d : Vnfd) (x y : Def) → IsIn y (defs d Compute x.vdu x.serial) → compute_def x.vdu x.serial ≡ y
only_compute d x y (inl e) = e
only_compute d x y (inr g) = absurd g

in_made_on : (d : Vnfd) (x y : Def) → IsMadeOn d x y → IsIn y (made_on d x.kind x)
in_made_on d x y (inl h) = subst (λ (k : DefKind). IsIn y (made_on d k x)) (sym h.0) (part d Storage x y h.1)
in_made_on d x y (inr h) = elim h.1 [
  | inl b ↦ subst (λ (k : DefKind). IsIn y (made_on d k x)) (sym h.0) (inl (only_compute d x y (part d Compute x y b)))
  | inr l ↦
      (let at : IsIn (link_def l.0) (port_links d x.item) = in_port (slice_get d.ports x.item) l.0 l.1 in
      let here : IsIn y (port_links d x.item) = subst (λ (z : Def). IsIn z (port_links d x.item)) (sym l.2) at in
      subst (λ (k : DefKind). IsIn y (made_on d k x)) (sym h.0) (inr here))
]

only_itself : (x y : Def) → IsIn y (x ∷ []) → x ≡ y
only_itself x y (inl e) = e
only_itself x y (inr g) = absurd g

-- what work needs is exactly that
pub needs_exact : (d : Vnfd) (verb : Verb) (x y : Def) → IsIn y (needs d verb x) ↔ IsNeeded d verb x y
needs_exact d Create x y = (of_made_on d x.kind x y refl, in_made_on d x y)
needs_exact d Remove x y = (only_itself x y, λ e. inl e)
needs_exact d Start x y = (only_itself x y, λ e. inl e)
needs_exact d Stop x y = (only_itself x y, λ e. inl e)

on_itself : (d : Vnfd) (verb : Verb) (x : Def) → (verb ≡ Create → ⊥) → IsIn x (needs d verb x)
on_itself d Create x f = absurd (f refl)
on_itself d Remove x f = inl refl
on_itself d Start x f = inl refl
on_itself d Stop x f = inl refl

-- what work makes doesn't stand
absent_at : (H : List Event) (i : ℕ) (t : Tag) (a : Operation) (k : Change) (p : Case) (w : Way) (v : Verb) → IsPlannedOver p a
    → Tracks H i t.occ a p.held.stands
    → slice_get a.changes t.change ≡ Some k → net H t.occ t.change ≡ net_before w → k.verb ≡ v → verb_done w v ≡ Create
    → stands H i k.def ≡ true → ⊥
absent_at H i t a k p Forward Create h tracks is before verb makes s = elim (tracks.came k.def s) [
  | inl stood ↦ (let none = h.makes k (get_in k a.changes t.change is) verb in let clash : true ≡ false = sym stood ∙ none in cc)
  | inr has ↦
      (let one : t.change ≡ has.0 = one_number p a t.change has.0 k has.1 h is has.2 (sym has.3) (verb ∙ sym has.4) in
      one_zero (net H t.occ t.change) (ap (λ (n : ℕ). net H t.occ n) one ∙ has.5) before)
]
absent_at H i t a k p Undo Remove h tracks is before verb makes s =
    one_zero (net H t.occ t.change) before (tracks.kept k.def s t.change k is refl verb)
absent_at H i t a k p Forward Remove h tracks is before verb makes s = cc
absent_at H i t a k p Forward Start h tracks is before verb makes s = cc
absent_at H i t a k p Forward Stop h tracks is before verb makes s = cc
absent_at H i t a k p Undo Create h tracks is before verb makes s = cc
absent_at H i t a k p Undo Start h tracks is before verb makes s = cc
absent_at H i t a k p Undo Stop h tracks is before verb makes s = cc

-- when an attempt may begin, what its work makes doesn't stand, and what it is otherwise about stands
pub work_fits : (width m : ℕ) (H : List Event) (t : Tag) → IsLegalWithin width m H → IsAllowedWithin width m H (Intent t)
    → (a : Operation) (k : Change) → operation H t.occ ≡ Some a → slice_get a.changes t.change ≡ Some k
    → FitsWhatStands H a.instance (change (verb_done t.way k.verb) k.def)
work_fits width m H t legal allowed a k found is =
    let f : Follows H a.instance t.occ a = follows_at width m H t legal allowed a found in
    let turn = turn_at width m H t a k allowed found is in
    record {
      makes = λ makes. by_test (stands H a.instance k.def)
          (λ s. absurd (absent_at H a.instance t a k f.p t.way k.verb f.over f.tracks is turn.0 refl makes s))
          (λ none. none);
      others = λ other. work_needs width m H t legal allowed a k f.p.vnfd found is f.described k.def
          (on_itself f.p.vnfd (verb_done t.way k.verb) k.def other);
    }

-- an instance is in step when it is asked to be scaled, started or stopped
step_asked : (ask : Ask) → IsOfWholeMachines ask → needs_step ask ≡ true
step_asked (Scale way aspect steps) h = refl
step_asked (ScaleToLevel aim) h = refl
step_asked (Operate started stop) h = refl
step_asked (Instantiate flavour level) h = absurd h
step_asked (Heal cause named) h = absurd h
step_asked (Terminate mode timeout) h = absurd h

in_step_of : (H : List Event) (a : Operation) (d : Vnfd) (o : Option Vnfd) → IsPlanOf H a o → o ≡ Some d → IsOfWholeMachines a.ask
    → is_in_step d (inventory H a.instance) (levels d H a.instance) (is_started H a.instance) ≡ true
in_step_of H a d None h e whole = absurd h
in_step_of H a d (Some c) h e whole =
    let one : c ≡ d = cc in
    let mine : IsPlanOf H a (Some d) = subst (λ (z : Vnfd). IsPlanOf H a (Some z)) one h in
    in_step d (situation d H a.instance) a.ask mine.0 (step_asked a.ask whole)

pub begun_in_step : (width m : ℕ) (H later : List Event) (time : ℕ) (a : Operation) (d : Vnfd)
    → IsLegalWithin width m (later ++ record { moment = time; kind = Asked a } ∷ H) → descriptor H a.instance ≡ Some d
    → IsOfWholeMachines a.ask
    → is_in_step d (inventory H a.instance) (levels d H a.instance) (is_started H a.instance) ≡ true
begun_in_step width m H later time a d legal described whole =
    let allowed : IsAllowedWithin width m H (Asked a) = allowed_at width m H (event time (Asked a)) later legal in
    in_step_of H a d (descriptor H a.instance) allowed.planned described whole
