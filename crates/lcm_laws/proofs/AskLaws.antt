-- How an operation that goes on stands to what its instance holds.
use Rattle.std.proofs.Common.{◌≡◌, ◌≤◌, ◌<◌, ◌+◌, ◌&&◌, ◌==◌, ◌∙◌, ℕ, List, [], ◌∷◌, Bool, true, false, not, Option, None, Some, is_some}
use Rattle.std.proofs.Common.{refl, ap, sym, subst, length, arith, zero, suc, inl, inr, ◌⊎◌, ltb-true, eqb-true, slice_get, take, ltb}
use Rattle.lcm_events.specs.Same.{same_kind, same_tag}
use Rattle.lcm_events.proofs.SameLaws.{def_ext, same_kind-true, same_tag-refl}
use Rattle.lcm_model.specs.declared.holding.Effect.{Effect}
use Rattle.std.specs.List.{range_with_len}
use Rattle.std.specs.Option.{option_map_or}
use Rattle.std.specs.Prelude.{option_map}
use Rattle.lcm_events.specs.declared.asks.Ask.{Ask}
use Rattle.lcm_events.specs.declared.asks.Ask.TheVariants.{Heal, Instantiate, Operate, Scale, ScaleToLevel, Terminate}
use Rattle.lcm_events.specs.declared.asks.StopType.{StopType}
use Rattle.lcm_events.specs.declared.attempts.Tag.{Tag}
use Rattle.lcm_events.specs.declared.changes.Change.{Change}
use Rattle.lcm_events.specs.declared.changes.Def.{Def}
use Rattle.lcm_events.specs.declared.changes.DefKind.{DefKind}
use Rattle.lcm_events.specs.declared.changes.DefKind.TheVariants.{Compute, Link, Port, Storage}
use Rattle.lcm_events.specs.declared.changes.Verb.{Verb}
use Rattle.lcm_events.specs.declared.changes.Verb.TheVariants.{Create, Remove, Start, Stop}
use Rattle.lcm_events.specs.declared.descriptor.Vnfd.{Vnfd}
use Rattle.lcm_events.specs.declared.events.Event.{Event}
use Rattle.lcm_events.specs.declared.events.EventKind.TheVariants.{Asked}
use Rattle.lcm_events.specs.declared.events.Operation.{Operation}
use Rattle.lcm_events.specs.declared.states.OpState.TheVariants.{Starting}
use Rattle.lcm_model.specs.declared.refusals.Refusal.TheVariants as refusals
use Rattle.lcm_model.specs.Words.{IsIn, first, is_among}
use Rattle.lcm_model.specs.Moves.{state}
use Rattle.lcm_model.specs.Attempts.{is_of, is_open, net, open_attempts, open_tags}
use Rattle.lcm_model.specs.Operations.{ongoing, operation, operations}
use Rattle.lcm_model.specs.Holding.{effects, leaves_it, leaves_it_running, runs, stands}
use Rattle.lcm_model.specs.Instances.{is_instantiated}
use Rattle.lcm_model.specs.Vnfcs.{all_defs, def_of, defs, is_def_in, is_def_of, is_there, items, link_def, there}
use Rattle.lcm_model.specs.Plans.{Case, change, leaving, makes_links, removes_links, new_by, phase, plan, stay, stay_by, starts, stops}
use Rattle.lcm_model.specs.Plans.{want}
use Rattle.lcm_model.specs.Planned.{IsPlannedBy}
use Rattle.lcm_model.specs.Refusals.{Situation, ask_refusal, case_in, content_refusal, instantiation_refusal, is_terminate, situation}
use Rattle.lcm_model.specs.Refusals.{state_refusal}
use Rattle.lcm_model.specs.Work.{works_in}
use Rattle.lcm_model.specs.Allowed.{IsAllowedWithin, IsLegalWithin, IsPlanOf}
use Rattle.lcm_model.specs.Lives.{descriptor}
use Rattle.lcm_laws.specs.Standing.{IsOfInstance}
use Rattle.lcm_laws.proofs.Lists.{and_left, and_right, by_test, none_of-front, none_of-rest, not-false, when-none}
use Rattle.lcm_laws.proofs.Members.{any_in, in_get, among_in, in_filter, in_map, in_range, of_filter}
use Rattle.lcm_laws.proofs.EndLaws.{open_state, starting_untouched, unasked_starting}
use Rattle.lcm_laws.proofs.NumberLaws.{found_within, operations_counted}
use Rattle.lcm_laws.proofs.OngoingLaws.{asked_idle}
use Rattle.lcm_laws.proofs.PlanMembers.{in_all, in_plan-planned, planned-in_plan}
use Rattle.lcm_laws.proofs.SettledLaws.{works_later}
use Rattle.lcm_laws.proofs.StandLaws.{stands_of}

-- the operation has a change with this verb at the definition, and the change has this net
abbrev pub HasChange : List Event → ℕ → Operation → Verb → ℕ → Def → Type 0
HasChange H o a v n x = (c : ℕ) × (k : Change) × (slice_get a.changes c ≡ Some k) × (k.def ≡ x) × (k.verb ≡ v) × (net H o c ≡ n)

-- the operation removes what a change stops, in a later phase
abbrev pub Paired : Operation → Change → Type 0
Paired a k = (c : ℕ) × (r : Change) × (slice_get a.changes c ≡ Some r) × (r.def ≡ k.def) × (r.verb ≡ Remove) × (k.phase < r.phase)

-- a change of a later phase isn't touched before one of an earlier phase is made
abbrev pub Waits : List Event → ℕ → Operation → Type 0
Waits H o a =
    (b c : ℕ) (j k : Change) → slice_get a.changes b ≡ Some j → slice_get a.changes c ≡ Some k → j.phase < k.phase → net H o b ≡ 0
    → (net H o c ≡ 0) × (open_attempts H o c ≡ [])

-- an INSTANTIATE that goes on: what stands it has made, and it only makes
pub record IsBuilding (H : List Event) (i o : ℕ) (a : Operation) : Type 0 where
  pub stand : (x : Def) → stands H i x ≡ true → HasChange H o a Create 1 x
  pub makes : (k : Change) → IsIn k a.changes → k.verb ≡ Create

-- a TERMINATE that goes on: what stands it has yet to remove
pub record IsTearing (H : List Event) (i o : ℕ) (a : Operation) : Type 0 where
  pub instantiated : is_instantiated H i ≡ true
  pub stand : (x : Def) → stands H i x ≡ true → HasChange H o a Remove 0 x
  pub takes : (k : Change) → IsIn k a.changes → (k.verb ≡ Remove) ⊎ ((k.verb ≡ Stop) × Paired a k)
  pub waits : Waits H o a

-- what holds while an operation goes on, by its ask
abbrev pub ByAsk : List Event → ℕ → ℕ → Operation → Ask → Type 0
ByAsk H i o a (Instantiate flavour level) = IsBuilding H i o a
ByAsk H i o a (Terminate mode timeout) = IsTearing H i o a
ByAsk H i o a _ = is_instantiated H i ≡ true

-- the nets of the operation's changes are the same
abbrev pub NetsStay : List Event → List Event → ℕ → Operation → Type 0
NetsStay H H' o a = (c : ℕ) (k : Change) → slice_get a.changes c ≡ Some k → net H' o c ≡ net H o c

has_kept : (H H' : List Event) (o : ℕ) (a : Operation) (v : Verb) (n : ℕ) (x : Def) → NetsStay H H' o a → HasChange H o a v n x
    → HasChange H' o a v n x
has_kept H H' o a v n x nets h = (h.0, h.1, h.2, h.3, h.4, nets h.0 h.1 h.2 ∙ h.5)

-- where an event leaves all this, it still holds
pub by_ask_kept : (H H' : List Event) (i o : ℕ) (a : Operation) (ask : Ask) → ((x : Def) → stands H' i x ≡ stands H i x) → NetsStay H H' o a
    → (is_terminate ask ≡ true → Waits H o a → Waits H' o a) → is_instantiated H' i ≡ is_instantiated H i → ByAsk H i o a ask
    → ByAsk H' i o a ask
by_ask_kept H H' i o a (Instantiate flavour level) stand nets waits inst h = record {
  stand = λ x s. has_kept H H' o a Create 1 x nets (h.stand x (sym (stand x) ∙ s));
  makes = h.makes;
}
by_ask_kept H H' i o a (Terminate mode timeout) stand nets waits inst h = record {
  instantiated = inst ∙ h.instantiated;
  stand = λ x s. has_kept H H' o a Remove 0 x nets (h.stand x (sym (stand x) ∙ s));
  takes = h.takes;
  waits = waits refl h.waits;
}
by_ask_kept H H' i o a _ stand nets waits inst h = inst ∙ h

-- when an operation is asked for
instantiation : (d : Vnfd) (now : Situation) (ask : Ask) → ask_refusal d now ask ≡ None → instantiation_refusal ask now.instantiated ≡ None
instantiation d now ask e =
    let state : state_refusal d now ask ≡ None = none_of-front _ _ (none_of-rest (content_refusal d ask) _ e) in
    none_of-front (instantiation_refusal ask now.instantiated) _ state

unless_none : (b : Bool) → not b ≡ false → b ≡ true
unless_none true e = refl
unless_none false e = cc

-- the plan of an INSTANTIATE where nothing stands only makes
makes_only : (p : Case) (flavour : List ℕ) (level : Option (List ℕ)) (v : Verb) (y : Def) → p.ask ≡ Instantiate flavour level
    → ((x : Def) → p.held.stands x ≡ false) → IsPlannedBy p v y → v ≡ Create
makes_only p flavour level Create y is none h = refl
makes_only p flavour level Remove y is none h = let no_way : false ≡ true = sym (none y) ∙ h.0 in cc
makes_only p flavour level Start y is none h =
    let starts_none : starts p.ask ≡ false = ap starts is in let no_way : false ≡ true = sym starts_none ∙ h.0 in cc
makes_only p flavour level Stop y is none h =
    let stops_none : stops p.ask ≡ false = ap stops is in let no_way : false ≡ true = sym stops_none ∙ h.0 in cc

building_asked : (H : List Event) (d : Vnfd) (i o : ℕ) (a : Operation) (flavour : List ℕ) (level : Option (List ℕ))
    → ((x : Def) → stands H i x ≡ false) → a.changes ≡ plan (case_in d (situation d H i) (Instantiate flavour level)) → IsBuilding H i o a
building_asked H d i o a flavour level none planned = record {
  stand = λ x s. (let no_way : false ≡ true = sym (none x) ∙ s in cc);
  makes = λ k has.
      (let p = case_in d (situation d H i) (Instantiate flavour level) in
      makes_only p flavour level k.verb k.def refl none (in_plan-planned p k (subst (λ (ks : List Change). IsIn k ks) planned has)).1);
}

none_stays : (p : Case) (v s : ℕ) → (ask : Ask) → is_terminate ask ≡ true → IsIn s (stay_by ask p v) → ⊥
none_stays p v s (Instantiate flavour level) e h = cc
none_stays p v s (Scale way aspect steps) e h = cc
none_stays p v s (ScaleToLevel aim) e h = cc
none_stays p v s (Heal cause named) e h = cc
none_stays p v s (Operate started stop) e h = cc
none_stays p v s (Terminate mode timeout) e h = taken (want p v) h where
  taken : (n : ℕ) → IsIn s (take n []) → ⊥
  taken zero h = h
  taken (suc n) h = h

pub leaves : (p : Case) (v s : ℕ) → is_terminate p.ask ≡ true → IsIn s (there p.vnfd p.held v) → IsIn s (leaving p v)
leaves p v s e h =
    in_filter (λ s. not (is_among (stay p v) s)) s (there p.vnfd p.held v) h
    (not-false (is_among (stay p v) s) (by_test (is_among (stay p v) s)
    (λ among. absurd (none_stays p v s p.ask e (among_in (stay p v) s among)))
    (λ other. other)))

pub takes_links : (ask : Ask) → is_terminate ask ≡ true → removes_links ask ≡ true
takes_links (Terminate mode timeout) e = refl
takes_links (Instantiate flavour level) e = cc
takes_links (Scale way aspect steps) e = cc
takes_links (ScaleToLevel aim) e = cc
takes_links (Heal cause named) e = cc
takes_links (Operate started stop) e = cc

pub item_in : (d : Vnfd) (kind : DefKind) (x : Def) → x.kind ≡ kind → IsIn x.item (items d kind x.vdu) → IsIn x (defs d kind x.vdu x.serial)
item_in d kind x is h =
    let made : IsIn (def_of kind x.vdu x.serial x.item) (defs d kind x.vdu x.serial) =
    in_map (def_of kind x.vdu x.serial) x.item (items d kind x.vdu) h in
    let same : def_of kind x.vdu x.serial x.item ≡ x = def_ext (sym is) refl refl refl in
    subst (λ (y : Def). IsIn y (defs d kind x.vdu x.serial)) same made

pub serial_in : (s n : ℕ) → 0 < s → s ≤ n → IsIn s (range_with_len 1 n)
serial_in s n above low = in_range s 1 n (omega (arith, above)) (omega (arith, low))

-- what stands of a machine is removed
machine_removed : (p : Case) (kind : DefKind) (x : Def) → x.kind ≡ kind → is_terminate p.ask ≡ true → p.held.stands x ≡ true
    → x.serial ≤ p.held.top x.vdu
    → (ltb x.vdu (length p.vnfd.vdus) && is_among (items p.vnfd kind x.vdu) x.item && ltb 0 x.serial) ≡ true → IsPlannedBy p Remove x
machine_removed p kind x is e stand low h =
    let vdu : x.vdu < length p.vnfd.vdus = ltb-true x.vdu (length p.vnfd.vdus) (and_left _ _ (and_left _ _ h)) in
    let item : IsIn x.item (items p.vnfd kind x.vdu) = among_in (items p.vnfd kind x.vdu) x.item (and_right _ _ (and_left _ _ h)) in
    let above : 0 < x.serial = ltb-true 0 x.serial (and_right _ _ h) in
    let all : IsIn x (all_defs p.vnfd x.vdu x.serial) = in_all p.vnfd kind x.vdu x.serial x (item_in p.vnfd kind x is item) in
    let range : IsIn x.serial (range_with_len 1 (p.held.top x.vdu)) = serial_in x.serial (p.held.top x.vdu) above low in
    let stays : IsIn x.serial (there p.vnfd p.held x.vdu) =
    in_filter (is_there p.vnfd p.held x.vdu) x.serial (range_with_len 1 (p.held.top x.vdu)) range
    (any_in p.held.stands x (all_defs p.vnfd x.vdu x.serial) all stand) in
    (stand, inl (vdu, leaves p x.vdu x.serial e stays, all))

link_removed : (p : Case) (x : Def) → x.kind ≡ Link → is_terminate p.ask ≡ true → p.held.stands x ≡ true
    → (ltb x.item (length p.vnfd.links) && (x.vdu == 65535) && (x.serial == 0)) ≡ true → IsPlannedBy p Remove x
link_removed p x is e stand h =
    let item : x.item < length p.vnfd.links = ltb-true x.item (length p.vnfd.links) (and_left _ _ (and_left _ _ h)) in
    let vdu : x.vdu ≡ 65535 = eqb-true x.vdu 65535 (and_right _ _ (and_left _ _ h)) in
    let serial : x.serial ≡ 0 = eqb-true x.serial 0 (and_right _ _ h) in
    let same : x ≡ link_def x.item = def_ext is refl vdu serial in
    (stand, inr (takes_links p.ask e, (x.item, item, same)))

pub what_stands_removed : (p : Case) (kind : DefKind) (x : Def) → x.kind ≡ kind → is_terminate p.ask ≡ true → p.held.stands x ≡ true
    → x.serial ≤ p.held.top x.vdu
    → is_def_in p.vnfd kind x ≡ true → IsPlannedBy p Remove x
what_stands_removed p Link x is e stand low h = link_removed p x is e stand h
what_stands_removed p Storage x is e stand low h = machine_removed p Storage x is e stand low h
what_stands_removed p Compute x is e stand low h = machine_removed p Compute x is e stand low h
what_stands_removed p Port x is e stand low h = machine_removed p Port x is e stand low h

-- a planned change is found under a number
pub planned_get : (p : Case) (v : Verb) (y : Def) (xs : List Change) → xs ≡ plan p → IsPlannedBy p v y
    → (n : ℕ) × (slice_get xs n ≡ Some (change v y))
planned_get p v y xs is h =
    in_get (change v y) xs (subst (λ (ks : List Change). IsIn (change v y) ks) (sym is) (planned-in_plan p (change v y) (refl, h)))

some_runs : (ys : List Effect) → option_map_or leaves_it_running (option_map (λ y. y.verb) (first ys)) false ≡ true
    → option_map_or leaves_it (option_map (λ y. y.verb) (first ys)) false ≡ true
some_runs [] e = cc
some_runs (y ∷ ys) e = by_verb y.verb e where
  by_verb : (v : Verb) → leaves_it_running v ≡ true → leaves_it v ≡ true
  by_verb Create e = refl
  by_verb Start e = refl
  by_verb Stop e = refl
  by_verb Remove e = cc

-- what runs stands
pub runs-stands : (H : List Event) (i : ℕ) (x : Def) → runs H i x ≡ true → stands H i x ≡ true
runs-stands H i x h = some_runs (effects H i x) (and_right (same_kind x.kind Compute) _ h)

-- what runs is a compute, and stands
pub runs-compute : (H : List Event) (i : ℕ) (x : Def) → runs H i x ≡ true → (x.kind ≡ Compute) × (stands H i x ≡ true)
runs-compute H i x h = (same_kind-true x.kind Compute (and_left (same_kind x.kind Compute) _ h), runs-stands H i x h)

pub nothing_new : (p : Case) (v s : ℕ) (ask : Ask) → is_terminate ask ≡ true → IsIn s (new_by ask p v) → ⊥
nothing_new p v s (Terminate mode timeout) e h = h
nothing_new p v s (Instantiate flavour level) e h = cc
nothing_new p v s (Scale way aspect steps) e h = cc
nothing_new p v s (ScaleToLevel aim) e h = cc
nothing_new p v s (Heal cause named) e h = cc
nothing_new p v s (Operate started stop) e h = cc

no_links_made : (ask : Ask) → is_terminate ask ≡ true → makes_links ask ≡ false
no_links_made (Terminate mode timeout) e = refl
no_links_made (Instantiate flavour level) e = cc
no_links_made (Scale way aspect steps) e = cc
no_links_made (ScaleToLevel aim) e = cc
no_links_made (Heal cause named) e = cc
no_links_made (Operate started stop) e = cc

no_starts : (ask : Ask) → is_terminate ask ≡ true → starts ask ≡ false
no_starts (Terminate mode timeout) e = refl
no_starts (Instantiate flavour level) e = cc
no_starts (Scale way aspect steps) e = cc
no_starts (ScaleToLevel aim) e = cc
no_starts (Heal cause named) e = cc
no_starts (Operate started stop) e = cc

-- each change of a TERMINATE removes, or stops what is removed later
takes_by : (p : Case) (v : Verb) (k : Change) (a : Operation) → is_terminate p.ask ≡ true
    → ((x : Def) → p.held.runs x ≡ true → p.held.stands x ≡ true)
    → a.changes ≡ plan p → k.verb ≡ v → k.phase ≡ phase v k.def.kind → IsPlannedBy p v k.def
    → (k.verb ≡ Remove) ⊎ ((k.verb ≡ Stop) × Paired a k)
takes_by p Create k a e f planned is at (inl h) = absurd (nothing_new p k.def.vdu k.def.serial p.ask e h.1)
takes_by p Create k a e f planned is at (inr h) = let no_way : false ≡ true = sym (no_links_made p.ask e) ∙ h.0 in cc
takes_by p Remove k a e f planned is at h = inl is
takes_by p Start k a e f planned is at h = let no_way : false ≡ true = sym (no_starts p.ask e) ∙ h.0 in cc
takes_by p Stop k a e f planned is at h =
    let stand : p.held.stands k.def ≡ true = f k.def h.3 in
    let gone : IsPlannedBy p Remove k.def = (stand, inl (h.2.0, leaves p k.def.vdu k.def.serial e h.2.1, h.2.2)) in
    let found = planned_get p Remove k.def a.changes planned gone in
    let removal_phase : phase Remove k.def.kind ≡ 6 = ap (phase Remove) h.1 in
    inr (is, (found.0, change Remove k.def, found.1, refl, refl, omega (arith, at, removal_phase)))

starting_none : (width m : ℕ) (H : List Event) (o c : ℕ) → IsLegalWithin width m H → state H o ≡ Starting → open_attempts H o c ≡ []
starting_none width m H o c legal is = empty (open_attempts H o c) (λ t h.
    let from = of_filter (is_of o c) t (open_tags H) h in
    let at : t.occ ≡ o = eqb-true t.occ o (and_left (t.occ == o) (t.change == c) from.1) in
    let opened : is_open H t ≡ true = any_in (same_tag t) t (open_tags H) from.0 (same_tag-refl t) in
    let work : state H o ≡ works_in t.way = subst (λ (n : ℕ). state H n ≡ works_in t.way) at (open_state width m H legal t opened) in
    absurd (works_later t.way (sym work ∙ is))) where
      empty : (ts : List Tag) → ((t : Tag) → IsIn t ts → ⊥) → ts ≡ []
      empty [] f = refl
      empty (t ∷ ts) f = absurd (f t (inl refl))

same_descriptor : (x : Option Vnfd) (d e : Vnfd) → x ≡ Some d → x ≡ Some e → d ≡ e
same_descriptor x d e h g = let both : Some d ≡ Some e = sym h ∙ g in cc

tearing_asked : (width m : ℕ) (H : List Event) (d : Vnfd) (i o : ℕ) (a : Operation) (mode : StopType) (timeout : _)
    → IsLegalWithin width m H → descriptor H i ≡ Some d
    → state H o ≡ Starting → is_instantiated H i ≡ true → a.changes ≡ plan (case_in d (situation d H i) (Terminate mode timeout))
    → IsTearing H i o a
tearing_asked width m H d i o a mode timeout legal described starting inst planned =
    let p = case_in d (situation d H i) (Terminate mode timeout) in
    record {
      instantiated = inst;
      stand = λ x s.
          (let of : IsOfInstance H i x = stands_of width m H legal i x s in
          let same : of.0 ≡ d = same_descriptor (descriptor H i) of.0 d of.1 described in
          let own : is_def_of d x ≡ true = subst (λ (y : Vnfd). is_def_of y x ≡ true) same of.2 in
          let found = planned_get p Remove x a.changes planned (what_stands_removed p x.kind x refl refl s of.3 own) in
          (found.0, change Remove x, found.1, refl, refl, starting_untouched width m H legal o starting found.0));
      takes = λ k has.
          (let is = in_plan-planned p k (subst (λ (ks : List Change). IsIn k ks) planned has) in
          takes_by p k.verb k a refl (λ x r. runs-stands H i x r) planned refl is.0 is.1);
      waits = λ b c j k eb ec less zero_b. (starting_untouched width m H legal o starting c, starting_none width m H o c legal starting);
    }

ask_holds : (width m : ℕ) (H : List Event) (d : Vnfd) (i o : ℕ) (a : Operation) (ask : Ask) → IsLegalWithin width m H
    → descriptor H i ≡ Some d → state H o ≡ Starting
    → (is_instantiated H i ≡ false → (x : Def) → stands H i x ≡ false) → instantiation_refusal ask (is_instantiated H i) ≡ None
    → a.changes ≡ plan (case_in d (situation d H i) ask) → ByAsk H i o a ask
ask_holds width m H d i o a (Instantiate flavour level) legal described starting idle fits planned =
    building_asked H d i o a flavour level (idle (when-none (is_instantiated H i) refusals.Instantiated fits)) planned
ask_holds width m H d i o a (Terminate mode timeout) legal described starting idle fits planned =
    tearing_asked width m H d i o a mode timeout legal described starting
    (unless_none (is_instantiated H i) (when-none (not (is_instantiated H i)) refusals.NotInstantiated fits)) planned
ask_holds width m H d i o a _ legal described starting idle fits planned =
    unless_none (is_instantiated H i) (when-none (not (is_instantiated H i)) refusals.NotInstantiated fits)

pub new_none : (width m : ℕ) (H : List Event) (o : ℕ) (x : Option Operation) → IsLegalWithin width m H → o ≡ length (operations H) + 1
    → operation H o ≡ x → operation H o ≡ None
new_none width m H o None legal number is = is
new_none width m H o (Some a) legal number is =
    let found : is_some (operation H o) ≡ true = rw is refl in
    let within = found_within (λ a. a.occ) (operations H) o (operations_counted width m H legal) found in
    absurd (omega (arith, number, within.1))

asked_of : (width m : ℕ) (H : List Event) (a : Operation) (d : Option Vnfd) → IsLegalWithin width m H → a.occ ≡ length (operations H) + 1
    → descriptor H a.instance ≡ d
    → IsPlanOf H a d → (is_instantiated H a.instance ≡ false → (x : Def) → stands H a.instance x ≡ false) → ByAsk H a.instance a.occ a a.ask
asked_of width m H a None legal number described h idle = absurd h
asked_of width m H a (Some d) legal number described h idle =
    ask_holds width m H d a.instance a.occ a a.ask legal described
    (unasked_starting width m H legal a.occ (new_none width m H a.occ (operation H a.occ) legal number refl)) idle
    (instantiation d (situation d H a.instance) a.ask h.0) h.1

-- what holds once an operation is asked for
pub asked_holds : (width m : ℕ) (H : List Event) (a : Operation) → IsLegalWithin width m H → IsAllowedWithin width m H (Asked a)
    → (ongoing H a.instance ≡ [] → is_instantiated H a.instance ≡ false → (x : Def) → stands H a.instance x ≡ false)
    → ByAsk H a.instance a.occ a a.ask
asked_holds width m H a legal allowed idle =
    asked_of width m H a (descriptor H a.instance) legal allowed.number refl allowed.planned (idle (asked_idle width m H a allowed))
