-- What work leaves running.
use Rattle.std.proofs.Common.{◌≡◌, ◌==◌, ℕ, List, ◌∷◌, Bool, true, Some, refl, ap, slice_get, eq-eqb}
use Rattle.lcm_events.specs.Same.{same_def, same_kind}
use Rattle.lcm_events.proofs.SameLaws.{same_def-refl}
use Rattle.lcm_events.specs.declared.attempts.Outcome.TheVariants.{Done}
use Rattle.lcm_events.specs.declared.attempts.Tag.{Tag}
use Rattle.lcm_events.specs.declared.changes.Change.{Change}
use Rattle.lcm_events.specs.declared.changes.DefKind.{DefKind}
use Rattle.lcm_events.specs.declared.changes.DefKind.TheVariants.{Compute}
use Rattle.lcm_events.specs.declared.changes.Verb.{Verb}
use Rattle.lcm_events.specs.declared.changes.Verb.TheVariants.{Create, Remove, Start, Stop}
use Rattle.lcm_events.specs.declared.events.Event.{Event}
use Rattle.lcm_events.specs.declared.events.EventKind.TheVariants.{Settled}
use Rattle.lcm_events.specs.declared.events.Operation.{Operation}
use Rattle.lcm_model.specs.Operations.{operation, verb_done}
use Rattle.lcm_model.specs.Holding.{effect, effect_in, leaves_it_running, runs}
use Rattle.lcm_laws.specs.Standing.{RunsAfter}
use Rattle.lcm_laws.proofs.Histories.{event}

runs_by : (v : Verb) (running : Bool) → running ≡ leaves_it_running v → RunsAfter v running
runs_by Create running e = e
runs_by Start running e = e
runs_by Stop running e = e
runs_by Remove running e = e

effect_of : (H : List Event) (t : Tag) (name : List ℕ) (a : Operation) (k : Change) → operation H t.occ ≡ Some a
    → slice_get a.changes t.change ≡ Some k
    → effect_in H (Settled t (Done name)) ≡ Some (effect t name a k)
unfolding effect_in
effect_of H t name a k found is = rw (found, is) refl

left_running : (H : List Event) (time : ℕ) (t : Tag) (name : List ℕ) (a : Operation) (k : Change)
    → effect_in H (Settled t (Done name)) ≡ Some (effect t name a k)
    → k.def.kind ≡ Compute → runs (event time (Settled t (Done name)) ∷ H) a.instance k.def ≡ leaves_it_running (verb_done t.way k.verb)
left_running H time t name a k eff is =
    let kind : same_kind k.def.kind Compute ≡ true = ap (λ (z : DefKind). same_kind z Compute) is in
    let here : (a.instance == a.instance) ≡ true = eq-eqb a.instance a.instance refl in
    let same : same_def k.def k.def ≡ true = same_def-refl k.def in
    rw (eff, kind, here, same) refl

-- a compute runs as what was done to it last left it
pub runs_left : (H : List Event) (time : ℕ) (t : Tag) (name : List ℕ) (a : Operation) (k : Change) → operation H t.occ ≡ Some a
    → slice_get a.changes t.change ≡ Some k
    → k.def.kind ≡ Compute → RunsAfter (verb_done t.way k.verb) (runs (event time (Settled t (Done name)) ∷ H) a.instance k.def)
runs_left H time t name a k found is compute =
    runs_by (verb_done t.way k.verb) (runs (event time (Settled t (Done name)) ∷ H) a.instance k.def)
    (left_running H time t name a k (effect_of H t name a k found is) compute)
