-- The grant request of an occurrence, by the rows of its tables.
use Rattle.std.proofs.Common.{◌≡◌, ◌≤◌, ◌<◌, ◌+◌, ◌∙◌, ℕ, List, [], ◌∷◌, Bool, true, false, cond, Option, None, Some, is_some, refl, ap}
use Rattle.std.proofs.Common.{sym, subst, arith, length, option_map, Result, Ok, Err, IfOk}
use Rattle.std.specs.Prelude.{option_and_then}
use Rattle.grant_desk.specs.Requests.{request_text}
use Rattle.held_items.specs.Following.{ItemsAreInOrder}
use Rattle.held_items.specs.Items.{AreInOrder}
use Rattle.instance_table.specs.Rows.{instance, instance_row}
use Rattle.instance_table.specs.Standing.{RowsHaveHoldings}
use Rattle.instance_table.specs.declared.rows.InstanceRow.{InstanceRow}
use Rattle.lcm_events.specs.declared.asks.Ask.{Ask}
use Rattle.lcm_events.specs.declared.changes.Change.{Change}
use Rattle.lcm_events.specs.declared.descriptor.Vnfd.{Vnfd}
use Rattle.lcm_events.specs.declared.events.Event.{Event}
use Rattle.lcm_events.specs.declared.events.EventKind.{EventKind}
use Rattle.lcm_events.specs.declared.events.EventKind.TheVariants.{Asked, Created}
use Rattle.lcm_events.specs.declared.events.Operation.{Operation}
use Rattle.lcm_events.specs.declared.held.Holding.{Holding}
use Rattle.lcm_model.specs.Allowed.{IsLegalWithin}
use Rattle.lcm_model.specs.Instances.{holding}
use Rattle.lcm_model.specs.Lives.{CreatedInstance, creation, creations, descriptor, descriptor_named, instances_made, is_live}
use Rattle.lcm_model.specs.Operations.{occurrences_made, operation, operations}
use Rattle.lcm_model.specs.Work.{window}
use Rattle.lcm_laws.proofs.Lists.{and_left}
use Rattle.lcm_laws.proofs.NumberLaws.{found_within, instances_counted, operations_counted}
use Rattle.lcm_laws.proofs.SettledLaws.{found_number}
use Rattle.occ_table.specs.Rows.{occurrence}
use Rattle.occ_table.specs.declared.rows.OccRow.{OccRow}
use Rattle.occ_table.proofs.JudgeLaws.{found_row}
use Rattle.vnfm_base.specs.Ident.{IsIdentNumber}
use Rattle.occ_steps.specs.Active.{IsActive}
use Rattle.occ_work.specs.Requests.{grant_request, request_over}
use Rattle.occ_steps.proofs.ActiveLemmas.{active_asked, active_on}
use Rattle.occ_work.proofs.LiveLemmas.{living}

-- the instance of an active occurrence is live
pub its_instance_lives : (m : ℕ) (H : List Event) (o : ℕ) (r : OccRow) → IsLegalWithin window m H → IsActive H o → occurrence H o ≡ Some r
    → is_live H r.instance ≡ true
its_instance_lives m H o r legal is found =
    let mine = found_row H o r found in
    let live : is_live H mine.0.instance ≡ true = living window m H legal o mine.0 mine.1 (active_on H o is) in
    subst (λ (x : OccRow). is_live H x.instance ≡ true) mine.3 live

-- a live instance has a row
pub row_there : (H : List Event) (i : ℕ) → is_live H i ≡ true → instance H i ≡ None → ⊥
row_there H i live none =
    let there = and_left (is_some (creation H i)) _ live in
    no_row (instance_row H) (creation H i) there (sym (rw live refl) ∙ none) where
      no_row : {A B : Type 0} → (f : A → B) (x : Option A) → is_some x ≡ true → option_map f x ≡ None → ⊥
      no_row f None h e = cc
      no_row f (Some x) h e = cc

chosen : {A : Type 0} → (b : Bool) (x : Option A) (r : A) → cond b x None ≡ Some r → x ≡ Some r
chosen true x r e = e
chosen false x r e = cc

mapped : {A B : Type 0} → (f : A → B) (x : Option A) (y : B) → option_map f x ≡ Some y → (a : A) × (x ≡ Some a) × (f a ≡ y)
mapped f None y e = cc
mapped f (Some a) y e = (a, refl, cc)

-- the row of an instance is that of its creation
row_found : (H : List Event) (i : ℕ) (r : InstanceRow) → instance H i ≡ Some r
    → (x : CreatedInstance) × (creation H i ≡ Some x) × (x.instance ≡ i) × (instance_row H x ≡ r)
row_found H i r e =
    let mine = mapped (instance_row H) (creation H i) r (chosen (is_live H i) (option_map (instance_row H) (creation H i)) r e) in
    (mine.0, mine.1, found_number (λ x. x.instance) (creations H) i mine.0 mine.1, mine.2)

-- the descriptor that the row of an instance names is the instance's
pub descriptor_of_row : (H : List Event) (i : ℕ) (r : InstanceRow) → instance H i ≡ Some r → descriptor H i ≡ descriptor_named H r.vnfd
descriptor_of_row H i r found =
    let mine = row_found H i r found in
    ap (option_and_then (λ (x : CreatedInstance). descriptor_named H x.vnfd)) mine.1
    ∙ ap (λ (y : InstanceRow). descriptor_named H y.vnfd) mine.3

-- the descriptor of a live instance is there
pub descriptor_there : (m : ℕ) (H : List Event) (i : ℕ) (r : InstanceRow) → RowsHaveHoldings → IsLegalWithin window m H
    → instance H i ≡ Some r
    → descriptor_named H r.vnfd ≡ None → ⊥
descriptor_there m H i r held legal found none =
    let it = held window m H legal i r found in
    let clash : Some it.0 ≡ None = sym it.1 ∙ (descriptor_of_row H i r found ∙ none) in
    cc

-- what stands of the instance is what its row holds
pub holding_of_row : (m : ℕ) (H : List Event) (i : ℕ) (r : InstanceRow) (d : Vnfd) → RowsHaveHoldings → IsLegalWithin window m H
    → instance H i ≡ Some r
    → descriptor_named H r.vnfd ≡ Some d → r.holding ≡ holding d H i
holding_of_row m H i r d held legal found named =
    let it = held window m H legal i r found in
    let both : Some it.0 ≡ Some d = sym it.1 ∙ (descriptor_of_row H i r found ∙ named) in
    let same : it.0 ≡ d = cc in
    it.2 ∙ ap (λ (x : Vnfd). holding x H i) same

-- what the row of an instance holds is in order
pub order_of_row : (m : ℕ) (H : List Event) (i : ℕ) (r : InstanceRow) (d : Vnfd) → RowsHaveHoldings → ItemsAreInOrder
    → IsLegalWithin window m H → instance H i ≡ Some r
    → descriptor_named H r.vnfd ≡ Some d → AreInOrder r.holding.items
order_of_row m H i r d held ordered legal found named =
    subst (λ (h : Holding). AreInOrder h.items) (sym (holding_of_row m H i r d held legal found named))
    (ordered window m H legal i d (descriptor_of_row H i r found ∙ named)).0

instances_step : (time : ℕ) (k : EventKind) (H : List Event) → instances_made H ≤ length H
    → instances_made (record { moment = time; kind = k } ∷ H) ≤ length H + 1
instances_step time (Created i vnfd name text) H h = omega (arith, h)
instances_step time _ H h = omega (arith, h)

few_instances : (H : List Event) → instances_made H ≤ length H
few_instances [] = omega arith
few_instances (e ∷ H) = let step : instances_made (e ∷ H) ≤ length H + 1 = instances_step e.moment e.kind H (few_instances H) in
    omega (arith, step)

-- an identifier can carry the number of a live instance of a history of few events
pub instance_number : (m : ℕ) (H : List Event) (i : ℕ) → IsLegalWithin window m H → length H < 268435456 → is_live H i ≡ true
    → IsIdentNumber i
instance_number m H i legal few live =
    let there = and_left (is_some (creation H i)) _ live in
    let within = found_within (λ x. x.instance) (creations H) i (instances_counted window m H legal) there in
    let made = few_instances H in
    (within.0, omega (arith, within.1, made, few))

operations_step : (time : ℕ) (k : EventKind) (H : List Event) → occurrences_made H ≤ length H
    → occurrences_made (record { moment = time; kind = k } ∷ H) ≤ length H + 1
operations_step time (Asked a) H h = omega (arith, h)
operations_step time _ H h = omega (arith, h)

-- no more operations were asked for than there are events
pub few_operations : (H : List Event) → occurrences_made H ≤ length H
few_operations [] = omega arith
few_operations (e ∷ H) = let step : occurrences_made (e ∷ H) ≤ length H + 1 = operations_step e.moment e.kind H (few_operations H) in
    omega (arith, step)

-- and that of an occurrence
pub occurrence_number : (m : ℕ) (H : List Event) (o : ℕ) → IsLegalWithin window m H → length H < 268435456 → IsActive H o → IsIdentNumber o
occurrence_number m H o legal few is =
    let within = found_within (λ a. a.occ) (operations H) o (operations_counted window m H legal) (active_asked H o is) in
    let made = few_operations H in
    (within.0, omega (arith, within.1, made, few))

-- the request over a descriptor and a holding
abbrev body : ℕ → Operation → ℕ → Vnfd → Holding → List ℕ
body m a o d h = request_text d h (record { manager = m; instance = a.instance; occ = o }) a.ask a.changes

asked_for : (m : ℕ) (H : List Event) (o : ℕ) (a : Operation) (d : Vnfd) → operation H o ≡ Some a → descriptor H a.instance ≡ Some d
    → grant_request m H o ≡ Some (body m a a.occ d (holding d H a.instance))
asked_for m H o a d found whole =
    ap (option_and_then (λ (a : Operation). option_map (request_over m H a) (descriptor H a.instance))) found
    ∙ ap (option_map (request_over m H a)) whole

-- the request by the rows is that of the history
pub requested : (m : ℕ) (H : List Event) (o : ℕ) (r : OccRow) (x : InstanceRow) (d : Vnfd) → RowsHaveHoldings → IsLegalWithin window m H
    → occurrence H o ≡ Some r
    → instance H r.instance ≡ Some x → descriptor_named H x.vnfd ≡ Some d
    → grant_request m H o ≡ Some (request_text d x.holding (record { manager = m; instance = r.instance; occ = o }) r.ask r.changes)
requested m H o r x d held legal found live named =
    let mine = found_row H o r found in
    let a : Operation = mine.0 in
    let same : a.instance ≡ r.instance = ap (λ (y : OccRow). y.instance) mine.3 in
    let whole : descriptor H a.instance ≡ Some d = ap (descriptor H) same ∙ (descriptor_of_row H r.instance x live ∙ named) in
    let stands : holding d H a.instance ≡ x.holding = ap (holding d H) same
    ∙ sym (holding_of_row m H r.instance x d held legal live named) in
    asked_for m H o a d mine.1 whole
    ∙ (ap (λ (h : Holding). Some (body m a a.occ d h)) stands
    ∙ (ap (λ (n : ℕ). Some (body m a n d x.holding)) mine.2
    ∙ ap (λ (y : OccRow). Some (request_text d x.holding (record { manager = m; instance = y.instance; occ = o }) y.ask y.changes)) mine.3))

-- and so is the body that was made of them
pub request_made : {E : Type 0} → (m k : ℕ) (H : List Event) (o : ℕ) (r : OccRow) (x : InstanceRow) (d : Vnfd) (ask : Ask)
    (xs : List Change) (result : Result (List ℕ) E) → RowsHaveHoldings
    → IsLegalWithin window m H → occurrence H o ≡ Some r → instance H r.instance ≡ Some x → descriptor_named H x.vnfd ≡ Some d → k ≡ m
    → ask ≡ r.ask → xs ≡ r.changes
    → IfOk result (λ body. body ≡ request_text d x.holding (record { manager = k; instance = r.instance; occ = o }) ask xs)
    → IfOk result (λ body. grant_request m H o ≡ Some body)
request_made m k H o r x d ask xs (Err why) held legal found live named number same plan made = tt
request_made m k H o r x d ask xs (Ok bytes) held legal found live named number same plan made =
    requested m H o r x d held legal found live named
    ∙ (ap (λ (n : ℕ). Some (request_text d x.holding (record { manager = n; instance = r.instance; occ = o }) r.ask r.changes)) (sym number)
    ∙ (ap (λ (a : Ask). Some (request_text d x.holding (record { manager = k; instance = r.instance; occ = o }) a r.changes)) (sym same)
    ∙ (ap (λ (ys : List Change). Some (request_text d x.holding (record { manager = k; instance = r.instance; occ = o }) ask ys)) (sym plan)
    ∙ ap Some (sym made))))
