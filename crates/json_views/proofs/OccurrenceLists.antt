-- The occurrences of a legal history can be shown, and their views have no float.
use Rattle.std.proofs.Common.{◌≡◌, ◌+◌, ◌-◌, ◌<◌, ◌≤◌, ◌==◌, ◌∙◌, ℕ, List, [], ◌∷◌, true, false, Option, None, Some, is_some, refl, ap, sym}
use Rattle.std.proofs.Common.{subst, arith, length, map, find, option_map, slice_get}
use Rattle.std.proofs.lemmas.List.{length-map, length-reverse}
use Rattle.std.specs.Option.{option_map_or}
use Rattle.std.specs.Prelude.{filter_map, option_and_then, unwrap_or}
use Rattle.lcm_events.specs.Same.{same_name}
use Rattle.lcm_events.specs.declared.descriptor.Vnfd.{Vnfd}
use Rattle.lcm_events.specs.declared.events.Event.{Event}
use Rattle.lcm_events.specs.declared.events.Operation.{Operation}
use Rattle.lcm_model.specs.Allowed.{IsLegalWithin}
use Rattle.lcm_model.specs.Lives.{CreatedInstance, created_in, creation, creations, descriptor, descriptor_named}
use Rattle.lcm_model.specs.Operations.{asked_in, occurrences_made, operation, operations}
use Rattle.lcm_laws.proofs.NumberLaws.{found_exactly, found_within, instances_counted}
use Rattle.lcm_laws.proofs.PlanHistory.{found_in}
use Rattle.instance_table.proofs.LevelLaws.{own_descriptors}
use Rattle.instance_table.proofs.RowLaws.{vnfd_found}
use Rattle.instance_table.specs.Rows.{Rows}
use Rattle.instance_table.specs.Rows as instances
use Rattle.instance_table.specs.Table.{vnfd_named}
use Rattle.occ_table.proofs.RowsSteps.{looked}
use Rattle.occ_table.specs.Descriptors.{vnfd}
use Rattle.occ_table.specs.Rows.{StandsFor, occurrence, row}
use Rattle.occ_table.specs.declared.rows.OccRow.{OccRow}
use Rattle.serde_json.specs.Data.{null}
use Rattle.serde_json.specs.View.{items_of}
use Rattle.serde_json.specs.Written.{has_float, items_have_float}
use Rattle.vnfm_base.specs.Ident.{IsIdentNumber}
use Rattle.json_views.specs.Moments.{moment_text}
use Rattle.json_views.specs.Occurrence.{occurrence_shown}
use Rattle.json_views.specs.Occurrences.{AreOfLegal, CanEachBeShown, IsOccurrenceShowable, occurrence_at, occurrences_value}
use Rattle.json_views.proofs.OccurrenceLemmas.{occurrence_plain}
use Rattle.json_views.proofs.ViewLemmas.{or_false}

filter_map-short : {A B : Type 0} → (f : A → Option B) (xs : List A) → length (filter_map f xs) ≤ length xs
filter_map-short f [] = omega arith
filter_map-short {B = B} f (x ∷ xs) = of (f x) refl (filter_map-short f xs) where
  of : (o : Option B) → f x ≡ o → length (filter_map f xs) ≤ length xs → length (filter_map f (x ∷ xs)) ≤ length (x ∷ xs)
  of None e short = rw e (omega arith)
  of (Some y) e short = rw e (omega arith)

-- no more operations were asked for than there are events, and no more instances made
asked_within : (H : List Event) → occurrences_made H ≤ length H
asked_within H = filter_map-short (λ (e : Event). asked_in e.kind) H

made_within : (H : List Event) → length (creations H) ≤ length H
made_within H = filter_map-short (λ (e : Event). created_in e.kind) H

-- there is a row for each operation
pub rows_counted : (os : List OccRow) (H : List Event) → StandsFor os H → length os ≡ occurrences_made H
rows_counted os H stands = ap length stands ∙ (length-reverse (map (row H) (operations H)) ∙ length-map (operations H) (row H))

-- the row at a place is that of the number behind it
pub row_there : (os : List OccRow) (place : ℕ) (x : Option OccRow) (l : AreOfLegal os) → x ≡ occurrence l.history (place + 1)
    → x ≡ slice_get os place
row_there os place x l is =
    let same : (place + 1) - 1 ≡ place = omega arith in
    is ∙ (sym (looked l.width l.manager l.history os (place + 1) l.legal l.stands (omega arith)) ∙ ap (slice_get os) same)

mapped : {A B : Type 0} → (f : A → B) (x : Option A) (y : B) → option_map f x ≡ Some y → (a : A) × (x ≡ Some a) × (f a ≡ y)
mapped f None y e = cc
mapped f (Some a) y e = (a, refl, cc)

-- an instance with a descriptor was created
record IsCreated (H : List Event) (i : ℕ) (d : Vnfd) : Type 0 where
  made : CreatedInstance
  created : creation H i ≡ Some made
  named : descriptor_named H made.vnfd ≡ Some d

created_of : (H : List Event) (i : ℕ) (d : Vnfd) (o : Option CreatedInstance) → creation H i ≡ o
    → option_and_then (λ x. descriptor_named H x.vnfd) o ≡ Some d → IsCreated H i d
created_of H i d None is e = cc
created_of H i d (Some x) is e = record { made = x; created = is; named = e }

created : (H : List Event) (i : ℕ) (d : Vnfd) → descriptor H i ≡ Some d → IsCreated H i d
created H i d e = created_of H i d (creation H i) refl e

-- an identifier can carry the number of an instance that was created
instance_number : (width m : ℕ) (H : List Event) (i : ℕ) → IsLegalWithin width m H → length H < 4611686018427387903
    → is_some (creation H i) ≡ true → IsIdentNumber i
instance_number width m H i legal few there =
    let within = found_within (λ x. x.instance) (creations H) i (instances_counted width m H legal) there in
    let made = made_within H in
    (within.0, omega (arith, within.1, made, few))

-- and that of an operation that was asked for
operation_number : (width m : ℕ) (H : List Event) (n : ℕ) → IsLegalWithin width m H → length H < 4611686018427387903
    → is_some (operation H n) ≡ true → IsIdentNumber n
operation_number width m H n legal few there =
    let within = (found_exactly width m H legal n).0 there in
    let made = asked_within H in
    (within.0, omega (arith, within.1, made, few))

-- the row of an operation that is found can be shown
found_shown : (width m : ℕ) (H : List Event) (rs : Rows) (n : ℕ) (r : OccRow) → length H < 4611686018427387903 → IsLegalWithin width m H
    → instances.StandsFor rs H
    → occurrence H n ≡ Some r → IsOccurrenceShowable rs n r
found_shown width m H rs n r few legal stands e =
    let from = mapped (row H) (operation H n) r e in
    let a : Operation = from.0 in
    let among = found_in (λ x. x.occ == n) (operations H) a from.1 in
    let own = own_descriptors width m H legal a among in
    let made = created H a.instance own.0 own.1 in
    let vnfd_is : vnfd H a.instance ≡ made.made.vnfd = ap (λ (o : Option CreatedInstance). unwrap_or (option_map (λ x. x.vnfd) o) [])
    made.created in
    let known : vnfd_named rs (vnfd H a.instance) ≡ Some own.0 =
    ap (λ (z : Rows). find (λ (d : Vnfd). same_name d.descriptor_id (vnfd H a.instance)) z.descriptors) stands
    ∙ (vnfd_found width m H (vnfd H a.instance) legal ∙ (ap (descriptor_named H) vnfd_is ∙ made.named)) in
    record {
      number = operation_number width m H n legal few (ap is_some from.1);
      instance = subst (λ (z : OccRow). IsIdentNumber z.instance) from.2
          (instance_number width m H a.instance legal few (ap is_some made.created));
      onboarded = subst (λ (z : OccRow). is_some (vnfd_named rs z.vnfd) ≡ true) from.2 (ap is_some known);
    }

-- the occurrences of a legal history can be shown
pub occurrences_shown : (width m : ℕ) (H : List Event) (rs : Rows) (os : List OccRow) → length H < 4611686018427387903
    → IsLegalWithin width m H → instances.StandsFor rs H
    → StandsFor os H → CanEachBeShown rs os H
occurrences_shown width m H rs os few legal stands_instances stands =
    let l : AreOfLegal os = record { width = width; manager = m; history = H; legal = legal; stands = stands } in
    let made = asked_within H in
    record {
      all = record {
        of_legal = l;
        few = omega (arith, rows_counted os H stands, made, few);
        each = λ place r is. found_shown width m H rs (place + 1) r few legal stands_instances
            (row_there os place (occurrence H (place + 1)) l refl ∙ is);
      };
      each = λ n r e. found_shown width m H rs n r few legal stands_instances e;
    }

-- the view of an occurrence has no float, with its descriptor or without
pub row_plain : (manager n : ℕ) (r : OccRow) (o : Option Vnfd) → has_float (option_map_or (occurrence_shown manager n r) o null) ≡ false
row_plain manager n r None = refl
row_plain manager n r (Some d) = occurrence_plain manager n r d (moment_text r.asked) (moment_text r.entered)
