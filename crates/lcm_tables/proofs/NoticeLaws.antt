-- What the rows say of the notices of an instance.
use Rattle.std.proofs.Common.{◌≡◌, ◌≤◌, ◌<◌, ◌+◌, ◌∙◌, ℕ, List, [], ◌∷◌, true, false, Option, None, Some, is_some, refl, ap, sym, arith}
use Rattle.std.proofs.Common.{length, option_and_then, option_map}
use Rattle.lcm_events.specs.declared.asks.OpKind.{OpKind}
use Rattle.lcm_events.specs.declared.events.Event.{Event}
use Rattle.lcm_events.specs.declared.events.EventKind.{EventKind}
use Rattle.lcm_events.specs.declared.events.EventKind.TheVariants.{Created, Moved}
use Rattle.lcm_events.specs.declared.events.Operation.{Operation}
use Rattle.lcm_events.specs.declared.filters.NoticeKind.{NoticeKind}
use Rattle.lcm_events.specs.declared.filters.NoticeKind.TheVariants.{Occurrence}
use Rattle.lcm_events.specs.declared.states.OpState.{OpState}
use Rattle.lcm_model.specs.Allowed.{IsLegalWithin}
use Rattle.lcm_model.specs.Lives.{CreatedInstance, creation, creations, instances_made, is_live}
use Rattle.lcm_model.specs.Notices.{NoticeFacts, facts_of, occurrence_facts}
use Rattle.lcm_model.specs.Operations.{kind_of, operation}
use Rattle.lcm_laws.proofs.Lists.{and_left}
use Rattle.lcm_laws.proofs.NumberLaws.{found_within, instances_counted}
use Rattle.instance_table.specs.Rows.{instance, instance_row}
use Rattle.instance_table.specs.declared.rows.InstanceRow.{InstanceRow}
use Rattle.vnfm_base.specs.Ident.{IsIdentNumber}
use Rattle.lcm_tables.specs.Notices.{instance_facts}
use Rattle.lcm_tables.proofs.FoundLaws.{row_found}

made_step : (time : ℕ) (k : EventKind) (H : List Event) → instances_made H ≤ length H
    → instances_made (record { moment = time; kind = k } ∷ H) ≤ length H + 1
made_step time (Created i vnfd name text) H h = omega (arith, h)
made_step time _ H h = omega (arith, h)

-- no more instances were made than there are events
pub few_made : (H : List Event) → instances_made H ≤ length H
few_made [] = omega arith
few_made (e ∷ H) = let step : instances_made (e ∷ H) ≤ length H + 1 = made_step e.moment e.kind H (few_made H) in omega (arith, step)

-- an identifier can carry the number of a live instance of a history of few events
pub live_number : (width m : ℕ) (H : List Event) (i : ℕ) → IsLegalWithin width m H → length H < 4611686018427387903 → is_live H i ≡ true
    → IsIdentNumber i
live_number width m H i legal few live =
    let there = and_left (is_some (creation H i)) _ live in
    let within = found_within (λ x. x.instance) (creations H) i (instances_counted width m H legal) there in
    let made = few_made H in
    (within.0, omega (arith, within.1, made, few))

-- the notice of an instance whose row is found tells what its creation says
pub row_tells : (H : List Event) (i : ℕ) (r : InstanceRow) (which : NoticeKind) (op : Option OpKind) (state : Option OpState)
    → instance H i ≡ Some r
    → Some (record { which = which; vnfd = r.vnfd; instance = i; name = r.name; op = op; state = state })
    ≡ instance_facts which op state H i
row_tells H i r which op state e =
    let mine = row_found H i r e in
    let facts : CreatedInstance → NoticeFacts = λ x. record {
      which = which;
      vnfd = x.vnfd;
      instance = i;
      name = x.name;
      op = op;
      state =
          state;
    } in
    ap (λ (y : InstanceRow). Some (record { which = which; vnfd = y.vnfd; instance = i; name = y.name; op = op; state = state }))
    (sym mine.4)
    ∙ ap (option_map facts) (sym mine.2)

-- a live instance has a row
pub row_there : (H : List Event) (i : ℕ) → is_live H i ≡ true → instance H i ≡ None → true ≡ false
row_there H i live none =
    let there = and_left (is_some (creation H i)) _ live in
    no_row (instance_row H) (creation H i) there (sym (rw live refl) ∙ none) where
      no_row : {A B : Type 0} → (f : A → B) (x : Option A) → is_some x ≡ true → option_map f x ≡ None → true ≡ false
      no_row f None h e = sym h
      no_row f (Some x) h e = cc

-- the notice of a move tells of the instance of its operation
pub move_tells : (H : List Event) (o : ℕ) (to : OpState) (a : Operation) (i : ℕ) (op : OpKind) → operation H o ≡ Some a → a.instance ≡ i
    → op ≡ kind_of a.ask
    → instance_facts Occurrence (Some op) (Some to) H i ≡ facts_of H (Moved o to)
move_tells H o to a i op found own kind =
    ap (λ (k : OpKind). instance_facts Occurrence (Some k) (Some to) H i) kind
    ∙ (ap (λ (n : ℕ). instance_facts Occurrence (Some (kind_of a.ask)) (Some to) H n) (sym own)
    ∙ ap (option_and_then (occurrence_facts H to)) (sym found))
