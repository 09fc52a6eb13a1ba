-- The work of the attempt that an occurrence begins next, by its row.
use Rattle.std.proofs.Common.{◌≡◌, ◌∙◌, ℕ, List, [], Bool, true, false, cond, Option, None, Some, is_some, refl, ap, sym, subst, arith}
use Rattle.std.proofs.Common.{length, filter, option_map, slice_get, ◌∷◌}
use Rattle.std.specs.Prelude.{option_and_then}
use Rattle.change_planner.specs.Tags.{IsOfAttempt}
use Rattle.instance_table.specs.Rows.{instance}
use Rattle.instance_table.specs.Standing.{RowsHaveHoldings}
use Rattle.instance_table.specs.declared.rows.InstanceRow.{InstanceRow}
use Rattle.lcm_events.specs.declared.attempts.Tag.{Tag}
use Rattle.lcm_events.specs.declared.attempts.Way.{Way}
use Rattle.lcm_events.specs.declared.attempts.Way.TheVariants.{Forward, Undo}
use Rattle.lcm_events.specs.declared.changes.Change.{Change}
use Rattle.lcm_events.specs.declared.changes.Def.{Def}
use Rattle.lcm_events.specs.declared.changes.Verb.{Verb}
use Rattle.lcm_events.specs.declared.changes.Verb.TheVariants.{Create, Remove, Start, Stop}
use Rattle.lcm_events.specs.declared.descriptor.Vnfd.{Vnfd}
use Rattle.lcm_events.specs.declared.events.Event.{Event}
use Rattle.lcm_events.specs.declared.events.EventKind.TheVariants.{Intent}
use Rattle.lcm_events.specs.declared.events.Operation.{Operation}
use Rattle.lcm_events.specs.declared.held.Holding.{Holding}
use Rattle.lcm_events.specs.declared.places.Place.{Place}
use Rattle.held_items.specs.Following.{ItemsFollowWhatIsDone, OtherEventsLeavePlaces, place_made}
use Rattle.lcm_laws.specs.Acting.{NextActionsAreAllowed}
use Rattle.lcm_laws.specs.Granting.{AttemptsStandBehindGrants, GrantedChangesHavePlaces}
use Rattle.lcm_laws.specs.Needing.{WorkFitsWhatStands}
use Rattle.lcm_laws.specs.Planning.{FitsWhatStands}
use Rattle.lcm_laws.specs.Standing.{WhatStandsHasAPlace}
use Rattle.lcm_laws.proofs.GrantLaws.{place_grant}
use Rattle.lcm_laws.proofs.Lists.{by_test}
use Rattle.lcm_model.specs.Allowed.{IsAllowedWithin, IsLegalWithin}
use Rattle.lcm_model.specs.Attempts.{is_open}
use Rattle.lcm_model.specs.Grants.{GivenGrant, grant, granted_place, is_granted, place_at}
use Rattle.lcm_model.specs.Holding.{effects, is_creation, is_forward_creation, place, resource}
use Rattle.lcm_model.specs.Instances.{holding}
use Rattle.lcm_model.specs.Lives.{descriptor, descriptor_named}
use Rattle.lcm_model.specs.Moves.{is_final, state}
use Rattle.lcm_model.specs.Next.{BeginRefused, BeginTaken, next_action}
use Rattle.lcm_model.specs.Operations.{change_of, changes, operation, verb_done}
use Rattle.lcm_model.specs.Plans.{change}
use Rattle.lcm_model.specs.Words.{first}
use Rattle.lcm_model.specs.Work.{IsTurnOf, window}
use Rattle.lcm_model.specs.declared.actions.Action.TheVariants.{Begin}
use Rattle.lcm_model.specs.declared.holding.Effect.{Effect}
use Rattle.occ_table.specs.Ended.{is_over, kept_grant}
use Rattle.occ_table.specs.Needed.{WorkIsOnWhatIsNeeded, is_needed, needed}
use Rattle.occ_table.specs.Resources.{place_by}
use Rattle.occ_table.specs.Rows.{occurrence}
use Rattle.occ_table.specs.Used.{known, placed}
use Rattle.occ_table.specs.declared.used.Used.{Used}
use Rattle.occ_table.specs.declared.rows.Grant.{Grant}
use Rattle.occ_table.specs.declared.rows.OccRow.{OccRow}
use Rattle.occ_table.proofs.JudgeLaws.{found_row}
use Rattle.occ_table.proofs.PhaseLaws.{some_within}
use Rattle.occ_steps.specs.Active.{IsActive}
use Rattle.occ_steps.proofs.ActiveLemmas.{active_asked, active_on}
use Rattle.occ_work.proofs.RequestLemmas.{descriptor_of_row, holding_of_row}
use Rattle.occ_steps.proofs.StepLemmas.{changes_of_row}

-- The attempt begins next over a history, by the laws.
pub record Begins (m : ℕ) (H : List Event) (t : Tag) : Type 0 where
  pub legal : IsLegalWithin window m H
  pub active : IsActive H t.occ
  pub allowed : IsAllowedWithin window m H (Intent t)
  pub granted : is_granted H t.occ ≡ true
  pub opened : is_open (record { moment = 0; kind = Intent t } ∷ H) t ≡ true

-- an attempt that is the next action begins
pub begins_next : NextActionsAreAllowed → AttemptsStandBehindGrants → (m : ℕ) (H : List Event) (t : Tag) → IsLegalWithin window m H
    → IsActive H t.occ
    → next_action H t.occ ≡ Some (Begin t) → Begins m H t
begins_next allows behind m H t legal is next =
    let onward = allows window m H (omega arith) legal t.occ 0 (Begin t) BeginTaken (active_asked H t.occ is) next tt in
    let ended = allows window m H (omega arith) legal t.occ 0 (Begin t) (BeginRefused 0) (active_asked H t.occ is) next tt in
    record { legal = legal; active = is; allowed = onward.0; granted = behind window m H [] 0 t onward; opened = ended.0 }

turned : (H : List Event) (t : Tag) (x : Option Change) → IsTurnOf H t x → is_some x ≡ true
turned H t None turn = absurd turn
turned H t (Some x) turn = refl

-- its change is in the row
pub begun_change : (m : ℕ) (H : List Event) (t : Tag) (r : OccRow) → Begins m H t → occurrence H t.occ ≡ Some r
    → slice_get r.changes t.change ≡ None → ⊥
begun_change m H t r begins found none =
    let there : is_some (slice_get (changes H t.occ) t.change) ≡ true = turned H t (change_of H t) begins.allowed.turn in
    let here : is_some (slice_get r.changes t.change) ≡ true = subst (λ (xs : List Change). is_some (slice_get xs t.change) ≡ true)
    (changes_of_row H t.occ r found) there in
    let clash : true ≡ false = sym here ∙ ap is_some none in
    cc

-- a place of a grant is kept until the occurrence is over
place_kept : (g : Option GivenGrant) (over : Bool) (c : ℕ) → over ≡ false
    → option_and_then (λ (k : Grant). place_at k.places k.spots c) (option_map (kept_grant over) g)
    ≡ option_and_then (λ (k : GivenGrant). place_at k.places k.spots c) g
place_kept None over c on = refl
place_kept (Some g) over c on = rw on refl

-- the place by the row is the one that was granted
pub granted_by_row : (H : List Event) (o : ℕ) (r : OccRow) (c : ℕ) → IsActive H o → occurrence H o ≡ Some r
    → place_by c r ≡ granted_place H o c
granted_by_row H o r c is found =
    let mine = found_row H o r found in
    let on : is_over H mine.0.occ ≡ false = ap (λ (n : ℕ). is_final (state H n)) mine.2 ∙ active_on H o is in
    ap (place_by c) (sym mine.3)
    ∙ (place_kept (grant H mine.0.occ) (is_over H mine.0.occ) c on
    ∙ (sym (place_grant H mine.0.occ c) ∙ ap (λ (n : ℕ). granted_place H n c) mine.2))

-- the change has a place
pub begun_place : GrantedChangesHavePlaces → (m : ℕ) (H : List Event) (t : Tag) (r : OccRow) (k : Change) → Begins m H t
    → occurrence H t.occ ≡ Some r → slice_get r.changes t.change ≡ Some k
    → place_by t.change r ≡ None → ⊥
begun_place placed m H t r k begins found at none =
    let within = some_within r.changes t.change k at in
    let same : length (changes H t.occ) ≡ length r.changes = ap length (changes_of_row H t.occ r found) in
    let there = placed window m H begins.legal t.occ begins.granted t.change (omega (arith, within, same)) in
    lost (granted_place H t.occ t.change) there (sym (granted_by_row H t.occ r t.change begins.active found) ∙ none) where
      lost : {A : Type 0} → (x : Option A) → is_some x ≡ true → x ≡ None → ⊥
      lost None some e = cc
      lost (Some x) some e = cc

-- and an attempt at that change may begin over the descriptor and the holding of the row
pub of_attempt : RowsHaveHoldings → (m : ℕ) (H : List Event) (t : Tag) (r : OccRow) (x : InstanceRow) (d : Vnfd) (k : Change) → Begins m H t
    → occurrence H t.occ ≡ Some r
    → instance H r.instance ≡ Some x → descriptor_named H x.vnfd ≡ Some d → slice_get r.changes t.change ≡ Some k
    → IsOfAttempt d x.holding k H t
of_attempt held m H t r x d k begins found live named at =
    let mine = found_row H t.occ r found in
    let a : Operation = mine.0 in
    let same : a.instance ≡ r.instance = ap (λ (y : OccRow). y.instance) mine.3 in
    let plan : a.changes ≡ r.changes = ap (λ (y : OccRow). y.changes) mine.3 in
    record {
      width = window;
      manager = m;
      legal = begins.legal;
      allowed = begins.allowed;
      asked = a;
      found = mine.1;
      change = ap (λ (xs : List Change). slice_get xs t.change) plan ∙ at;
      described = ap (descriptor H) same ∙ (descriptor_of_row H r.instance x live ∙ named);
      held = holding_of_row m H r.instance x d held begins.legal live named ∙ ap (holding d H) (sym same);
    }

-- what was made where it was granted has a resource
resource_there : (g : Effect → Option Place) (ys : List Effect) → is_some (option_and_then g (first (filter is_forward_creation ys))) ≡ true
    → is_some (option_map (λ y. y.resource) (first (filter is_creation ys))) ≡ true
resource_there g [] some = cc
resource_there g (y ∷ ys) some = by_test (is_creation y)
    (λ makes. rw makes refl)
    (λ other. rw other (resource_there g ys (sym (rw other refl) ∙ some)))

-- where something has a place, what is known of it says so
placed_known : (r : Option (List ℕ)) (p : Option Place) → is_some r ≡ true → option_map (λ (u : Used). u.place) (placed r p) ≡ p
placed_known None p some = cc
placed_known (Some name) None some = refl
placed_known (Some name) (Some at) some = refl

-- what an undo is about has a place
undone_place : WorkFitsWhatStands → WhatStandsHasAPlace → ItemsFollowWhatIsDone → OtherEventsLeavePlaces
    → (m : ℕ) (H : List Event) (t : Tag) (a : Operation) (k : Change) (d : Vnfd)
    → Begins m H t → t.way ≡ Undo → operation H t.occ ≡ Some a → slice_get a.changes t.change ≡ Some k → descriptor H a.instance ≡ Some d
    → is_some (place H a.instance k.def) ≡ true
undone_place fits stand follows leaves m H t a k d begins back found at described = by (verb_done t.way k.verb) refl where
  G : List Event
  G = record { moment = 0; kind = Intent t } ∷ H

  fit : FitsWhatStands H a.instance (change (verb_done t.way k.verb) k.def)
  fit = fits window m H t begins.legal begins.allowed a k found at

  standing : (v : Verb) → verb_done t.way k.verb ≡ v → (v ≡ Create → ⊥) → is_some (place H a.instance k.def) ≡ true
  standing v is other = (stand window m H begins.legal a.instance k.def (fit.others (λ makes. other (sym is ∙ makes)))).1

  made_anew : verb_done t.way k.verb ≡ Create → is_some (place H a.instance k.def) ≡ true
  made_anew makes =
      let followed = follows window m G 0 t [] a k d (begins.allowed, begins.legal) begins.opened found at described in
      let there : is_some (place_made G t Undo a.instance k.def) ≡ true =
      subst (λ (w : Way). is_some (place_made G t w a.instance k.def) ≡ true) back (followed.placed makes) in
      subst (λ (p : Option Place). is_some p ≡ true) (leaves window m H 0 (Intent t) a.instance k.def begins.legal begins.allowed refl)
      there

  by : (v : Verb) → verb_done t.way k.verb ≡ v → is_some (place H a.instance k.def) ≡ true
  by Create is = made_anew is
  by Remove is = standing Remove is (λ e. cc)
  by Start is = standing Start is (λ e. cc)
  by Stop is = standing Stop is (λ e. cc)

-- and what is known of it tells that place
pub undone_known : WorkFitsWhatStands → WhatStandsHasAPlace → ItemsFollowWhatIsDone → OtherEventsLeavePlaces
    → (m : ℕ) (H : List Event) (t : Tag) (d : Vnfd) (h : Holding) (k : Change)
    → Begins m H t → t.way ≡ Undo → (s : IsOfAttempt d h k H t)
    → (option_map (λ (u : Used). u.place) (known H s.asked.instance k.def) ≡ place H s.asked.instance k.def)
    × (is_some (place H s.asked.instance k.def) ≡ true)
undone_known fits stand follows leaves m H t d h k begins back s =
    let there = undone_place fits stand follows leaves m H t s.asked k d begins back s.found s.change s.described in (
      placed_known (resource H s.asked.instance k.def) (place H s.asked.instance k.def)
          (resource_there (λ y. granted_place H y.tag.occ y.tag.change) (effects H s.asked.instance k.def) there),
      there,
    )

-- the instance of an attempt that begins is that of the row
pub its_instance : (H : List Event) (t : Tag) (r : OccRow) (d : Vnfd) (h : Holding) (k : Change) → occurrence H t.occ ≡ Some r
    → (s : IsOfAttempt d h k H t) → s.asked.instance ≡ r.instance
its_instance H t r d h k found s =
    let mine = found_row H t.occ r found in
    let both : Some s.asked ≡ Some mine.0 = sym s.found ∙ mine.1 in
    let same : s.asked ≡ mine.0 = cc in
    ap (λ (a : Operation). a.instance) same ∙ ap (λ (y : OccRow). y.instance) mine.3

-- of what is needed all is kept that is known
needed_known : (H : List Event) (i : ℕ) (x : Def) → is_needed H i x ≡ true → needed H i x ≡ known H i x
needed_known H i x need = ap (λ (n : Bool). cond n (known H i x) None) need

-- so that what the table keeps of the definition is where it stands, or stood last
pub undone_at : WorkFitsWhatStands → WorkIsOnWhatIsNeeded → WhatStandsHasAPlace → ItemsFollowWhatIsDone → OtherEventsLeavePlaces
    → (m : ℕ) (H : List Event) (t : Tag) (r : OccRow) (d : Vnfd)
    (h : Holding) (k : Change) (x : Option Place) → Begins m H t → t.way ≡ Undo → occurrence H t.occ ≡ Some r → (s : IsOfAttempt d h k H t)
    → x ≡ option_map (λ (u : Used). u.place) (needed H r.instance k.def) → (x ≡ place H s.asked.instance k.def) × (is_some x ≡ true)
undone_at fits needs stand follows leaves m H t r d h k x begins back found s is =
    let own = undone_known fits stand follows leaves m H t d h k begins back s in
    let need : is_needed H s.asked.instance k.def ≡ true =
    needs window m H t begins.legal begins.allowed s.asked k s.found s.change
    (λ forward makes. let clash : Undo ≡ Forward = sym back ∙ forward in cc) in
    let same : x ≡ place H s.asked.instance k.def =
    is ∙ (ap (λ (i : ℕ). option_map (λ (u : Used). u.place) (needed H i k.def)) (sym (its_instance H t r d h k found s))
    ∙ (ap (λ (u : Option Used). option_map (λ (v : Used). v.place) u) (needed_known H s.asked.instance k.def need) ∙ own.0)) in
    (same, ap is_some same ∙ own.1)

-- what is some isn't none
pub never_none : {A : Type 0} → (x : Option A) → is_some x ≡ true → x ≡ None → ⊥
never_none None some none = cc
never_none (Some a) some none = cc
