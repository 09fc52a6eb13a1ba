-- The rows of a legal history can be shown.
use Rattle.std.proofs.Common.{◌≡◌, ◌≤◌, ◌<◌, ◌==◌, ◌∙◌, ℕ, List, [], ◌∷◌, Bool, true, not, cond, Option, None, Some, is_some, refl, ap, sym}
use Rattle.std.proofs.Common.{subst, arith, length, map, find, option_map, inl, inr}
use Rattle.std.specs.Prelude.{All, filter_map}
use Rattle.std.proofs.lemmas.List.Elements.{All-cons, All-nil}
use Rattle.lcm_events.specs.Same.{same_name}
use Rattle.lcm_events.specs.declared.descriptor.Vnfd.{Vnfd}
use Rattle.lcm_events.specs.declared.events.Event.{Event}
use Rattle.lcm_events.specs.declared.held.Holding.{Holding}
use Rattle.lcm_model.specs.Allowed.{IsLegalWithin}
use Rattle.lcm_model.specs.Lives.{CreatedInstance, created_in, creation, creations, descriptor_named, instances_made, is_deleted, is_kept}
use Rattle.lcm_model.specs.Lives.{is_live, live_instances}
use Rattle.lcm_model.specs.Words.{IsIn}
use Rattle.lcm_laws.proofs.HoldLaws.{some_value}
use Rattle.lcm_laws.proofs.Lists.{and_left, by_test}
use Rattle.lcm_laws.proofs.Members.{of_filter, of_map}
use Rattle.lcm_laws.proofs.NumberLaws.{found_within, instances_counted}
use Rattle.lcm_laws.proofs.PlanHistory.{found_in}
use Rattle.lcm_laws.proofs.SettledLaws.{find-own, found_number}
use Rattle.held_items.proofs.ItemLaws.{items_in_order}
use Rattle.held_items.specs.Items.{AreInOrder}
use Rattle.instance_table.proofs.RowLaws.{of_reverse, ordered, rows_held, vnfd_found}
use Rattle.instance_table.proofs.TopLaws.{named_of}
use Rattle.instance_table.specs.Rows.{Rows, StandsFor, instance, instance_row, instance_rows}
use Rattle.instance_table.specs.Table.{vnfd_named}
use Rattle.instance_table.specs.declared.rows.InstanceRow.{InstanceRow}
use Rattle.vnfm_base.specs.Ident.{IsIdentNumber}
use Rattle.json_views.specs.Instances.{IsShowable}
use Rattle.json_views.specs.Showable.{CanAllBeShown, IsFoundShowable}

-- what holds of each that is in a list holds of all
all_in : {A : Type 0} → (P : A → Type 0) (xs : List A) → ((x : A) → IsIn x xs → P x) → All P xs
all_in P [] h = All-nil P
all_in P (x ∷ xs) h = All-cons P x xs (h x (inl refl)) (all_in P xs (λ y among. h y (inr among)))

filter_map-short : {A B : Type 0} → (f : A → Option B) (xs : List A) → length (filter_map f xs) ≤ length xs
filter_map-short f [] = omega arith
filter_map-short {B = B} f (x ∷ xs) = of (f x) refl (filter_map-short f xs) where
  of : (o : Option B) → f x ≡ o → length (filter_map f xs) ≤ length xs → length (filter_map f (x ∷ xs)) ≤ length (x ∷ xs)
  of None e short = rw e (omega arith)
  of (Some y) e short = rw e (omega arith)

-- no more instances were made than there are events
made_within : (H : List Event) → instances_made H ≤ length H
made_within H = filter_map-short (λ (e : Event). created_in e.kind) H

-- an identifier can carry the number of an instance that was created
created_number : (width m : ℕ) (H : List Event) (i : ℕ) → IsLegalWithin width m H → length H < 4611686018427387903
    → is_some (creation H i) ≡ true → IsIdentNumber i
created_number width m H i legal few there =
    let within = found_within (λ x. x.instance) (creations H) i (instances_counted width m H legal) there in
    let made = made_within H in
    (within.0, omega (arith, within.1, made, few))

-- the row of an instance that was created can be shown
row_shown : (width m : ℕ) (H : List Event) (rs : Rows) (r : InstanceRow) → length H < 4611686018427387903 → IsLegalWithin width m H
    → StandsFor rs H → IsIn r rs.instances → IsShowable rs r
row_shown width m H rs r few legal stands among =
    let here : IsIn r (instance_rows H) = subst (λ (ys : List InstanceRow). IsIn r ys) (ap (λ (z : Rows). z.instances) stands) among in
    let from = of_map (instance_row H) r (live_instances H) (of_reverse r (map (instance_row H) (live_instances H)) here) in
    let x : CreatedInstance = from.0 in
    let created = (of_filter (is_kept H) x (creations H) from.1).0 in
    let made : creation H x.instance ≡ Some x = find-own (λ x. x.instance) (creations H) x (instances_counted width m H legal) created in
    let named = named_of width m H x legal created in
    let is : instance_row H x ≡ r = from.2 in
    let found : vnfd_named rs x.vnfd ≡ Some named.0 =
    ap (λ (z : Rows). find (λ (d : Vnfd). same_name d.descriptor_id x.vnfd) z.descriptors) stands
    ∙ (vnfd_found width m H x.vnfd legal ∙ named.1) in
    record {
      number = subst (λ (z : InstanceRow). IsIdentNumber z.number) is (created_number width m H x.instance legal few (ap is_some made));
      onboarded = subst (λ (z : InstanceRow). is_some (vnfd_named rs z.vnfd) ≡ true) is (ap is_some found);
      order = (ordered width m H rs legal stands).items r among;
    }

-- the instance whose row is found
record IsMade (H : List Event) (i : ℕ) (r : InstanceRow) : Type 0 where
  x : CreatedInstance
  created : creation H i ≡ Some x
  row : instance_row H x ≡ r

row_made : (H : List Event) (i : ℕ) (r : InstanceRow) → instance H i ≡ Some r → IsMade H i r
row_made H i r e = by_test (is_live H i)
    (λ live.
    let found = some_value (creation H i) (and_left (is_some (creation H i)) (not (is_deleted H i)) live) in
    let row : Some (instance_row H found.0) ≡ Some r =
    sym (ap (option_map (instance_row H)) found.1)
    ∙ subst (λ (b : Bool). cond b (option_map (instance_row H) (creation H i)) None ≡ Some r) live e in
    record { x = found.0; created = found.1; row = cc })
    (λ gone. let none : None ≡ Some r = subst (λ (b : Bool). cond b (option_map (instance_row H) (creation H i)) None ≡ Some r) gone e in
    cc)

-- the row that is found by its number can be shown
found_shown : (width m : ℕ) (H : List Event) (i : ℕ) (r : InstanceRow) → length H < 4611686018427387903 → IsLegalWithin width m H
    → instance H i ≡ Some r → IsFoundShowable H i r
found_shown width m H i r few legal e =
    let from = row_made H i r e in
    let created = found_in (λ x. x.instance == i) (creations H) from.x from.created in
    let held = rows_held width m H legal i r e in
    let named = named_of width m H from.x legal created in
    record {
      number = created_number width m H i legal few (ap is_some from.created);
      same = ap (λ (z : InstanceRow). z.number) (sym from.row) ∙ found_number (λ x. x.instance) (creations H) i from.x from.created;
      order = subst (λ (h : Holding). AreInOrder h.items) (sym held.2) (items_in_order width m H legal i held.0 held.1).0;
      onboarded = subst (λ (z : InstanceRow). is_some (descriptor_named H z.vnfd) ≡ true) from.row (ap is_some named.1);
    }

-- the rows of a legal history can be shown
pub rows_shown : (width m : ℕ) (H : List Event) (rs : Rows) → length H < 4611686018427387903 → IsLegalWithin width m H → StandsFor rs H
    → CanAllBeShown rs H
rows_shown width m H rs few legal stands = record {
  all = all_in (IsShowable rs) rs.instances (λ r among. row_shown width m H rs r few legal stands among);
  each = λ i r e. found_shown width m H i r few legal e;
}
