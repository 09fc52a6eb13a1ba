-- The occurrence that an identifier names.
use Rattle.std.proofs.Common.{◌≡◌, ◌==◌, ◌∙◌, ℕ, Bool, false, List, [], ◌∷◌, Option, Some, None, Result, Ok, Err, ap, refl, sym, inl, inr}
use Rattle.std.proofs.Common.{option_map}
use Rattle.std.specs.Result.{IfOk}
use Rattle.std.specs.Prelude.{find, option_and_then}
use Rattle.std.specs.List.{AllByRecursion}
use Rattle.std.specs.Str.{bytes_eq}
use Rattle.vnfm_base.specs.Ident.{IsIdentNumber}
use Rattle.vnfm_base.specs.declared.identifier.Kind.TheVariants.{Occurrence}
use Rattle.lcm_events.specs.declared.descriptor.Vnfd.{Vnfd}
use Rattle.lcm_events.specs.declared.events.Event.{Event}
use Rattle.lcm_events.specs.declared.events.Operation.{Operation}
use Rattle.lcm_model.specs.Allowed.{IsLegalWithin}
use Rattle.lcm_model.specs.Operations.{operation, operations}
use Rattle.lcm_model.specs.Words.{IsIn}
use Rattle.lcm_laws.proofs.NumberLaws.{operations_counted}
use Rattle.lcm_laws.proofs.SettledLaws.{find-own, found_number}
use Rattle.instance_table.specs.Rows.{Rows}
use Rattle.instance_table.specs.Rows as instances
use Rattle.instance_table.specs.Table.{vnfd_named}
use Rattle.occ_table.specs.Rows.{occurrence, row}
use Rattle.occ_table.specs.declared.rows.OccRow.{OccRow}
use Rattle.json_views.specs.Occurrence.{occurrence_id, occurrence_text}
use Rattle.json_views.specs.Occurrences.{IsOccurrenceShowable}
use Rattle.lcm_api.specs.Occurrences.{named_operation, occurrence_row_text, show_asked, show_row}
use Rattle.lcm_api.specs.declared.record.Planned.{Planned}
use Rattle.lcm_api.specs.Planning.{told}
use Rattle.lcm_replies.specs.Replies.{shown}
use Rattle.lcm_replies.specs.declared.reply.Reply.{Reply}
use Rattle.lcm_api.proofs.IdentLemmas.{IsReading, agrees, differs, find_none, find_same}

-- each operation has a number that an identifier can carry
abbrev AreNumbered : List Operation → Type 0
AreNumbered = AllByRecursion (λ a. IsIdentNumber a.occ)

numbered_in : (H : List Event) (xs : List Operation) → ((a : Operation) → IsIn a xs → IsIdentNumber a.occ) → AreNumbered xs
numbered_in H [] each = tt
numbered_in H (x ∷ xs) each = (each x (inl refl), numbered_in H xs (λ a among. each a (inr among)))

numbered : (width m : ℕ) (H : List Event) (rs : Rows) → IsLegalWithin width m H
    → ((n : ℕ) (r : OccRow) → occurrence H n ≡ Some r → IsOccurrenceShowable rs n r) → AreNumbered (operations H)
numbered width m H rs legal each = numbered_in H (operations H)
    (λ a among. (each a.occ (row H a) (ap (option_map (row H)) (find-own (λ x. x.occ) (operations H) a
    (operations_counted width m H legal) among))).number)

-- the operation that has the identifier is that of the number that was read
named_by : (m : ℕ) (id : List ℕ) (xs : List Operation) (found : Option ℕ) → IsReading Occurrence m id found → AreNumbered xs
    → find (λ a. bytes_eq (occurrence_id m a.occ) id) xs ≡ option_and_then (λ n. find (λ a. a.occ == n) xs) found
unfolding occurrence_id
named_by m id xs None reading numbered = find_none _ xs (all xs numbered) where
  all : (xs : List Operation) → AreNumbered xs → AllByRecursion (λ a. bytes_eq (occurrence_id m a.occ) id ≡ false) xs
  all [] h = tt
  all (x ∷ xs) h = (differs Occurrence m x.occ id reading h.0, all xs h.1)
named_by m id xs (Some n) reading numbered = find_same _ _ xs (all xs numbered) where
  all : (xs : List Operation) → AreNumbered xs → AllByRecursion (λ a. bytes_eq (occurrence_id m a.occ) id ≡ (a.occ == n)) xs
  all [] h = tt
  all (x ∷ xs) h = (agrees Occurrence m n x.occ id reading h.0, all xs h.1)

pub named_found : (width m : ℕ) (H : List Event) (k : ℕ) (id : List ℕ) (rs : Rows) (found : Option ℕ) → IsLegalWithin width m H
    → ((n : ℕ) (r : OccRow) → occurrence H n ≡ Some r → IsOccurrenceShowable rs n r) → IsReading Occurrence k id found
    → named_operation k H id ≡ option_and_then (operation H) found
named_found width m H k id rs found legal each reading = named_by k id (operations H) found reading (numbered width m H rs legal each)

mapped : {A B : Type 0} → (f : A → B) (x : Option A) (y : B) → option_map f x ≡ Some y → (a : A) × (x ≡ Some a) × (f a ≡ y)
mapped f None y e = cc
mapped f (Some a) y e = (a, refl, cc)

none_of : {A B : Type 0} → (f : A → B) (x : Option A) → option_map f x ≡ None → x ≡ None
none_of f None e = refl
none_of f (Some a) e = cc

found_is : (m : ℕ) (H : List Event) (last : Bool) (n : ℕ) (r : OccRow) (o : Planned) → occurrence H n ≡ Some r → show_row m H last n r ≡ o
    → show_asked m H last (operation H n) ≡ o
found_is m H last n r o e shows =
    let from = mapped (row H) (operation H n) r e in
    let number : from.0.occ ≡ n = found_number (λ x. x.occ) (operations H) n from.0 from.1 in
    ap (show_asked m H last) from.1
    ∙ (ap (λ (k : ℕ). show_row m H last k (row H from.0)) number ∙ (ap (λ (z : OccRow). show_row m H last n z) from.2 ∙ shows))

-- the occurrence whose row is found is shown
pub shows_found : {E : Type 0} (m : ℕ) (H : List Event) (last : Bool) (n : ℕ) (r : OccRow) (x : Result Reply E) → occurrence H n ≡ Some r
    → IfOk x (λ reply. show_row m H last n r ≡ told reply) → IfOk x (λ reply. show_asked m H last (operation H n) ≡ told reply)
shows_found m H last n r (Ok reply) e shows = found_is m H last n r (told reply) e shows
shows_found m H last n r (Err why) e shows = tt

-- the text of the view of a row, by its descriptor
text_is : (m : ℕ) (rs : Rows) (n : ℕ) (r : OccRow) (d : Vnfd) → vnfd_named rs r.vnfd ≡ Some d
    → occurrence_row_text m rs n r ≡ occurrence_text m n r d
unfolding occurrence_row_text occurrence_text
text_is m rs n r d named = rw named refl

-- the occurrence of a row is shown, by its descriptor
pub shows_row : (m : ℕ) (H : List Event) (last : Bool) (n : ℕ) (r : OccRow) (d : Vnfd) (body : List ℕ) (reply : Reply)
    → vnfd_named (instances.rows H) r.vnfd ≡ Some d
    → body ≡ occurrence_text m n r d → reply ≡ shown body last → show_row m H last n r ≡ told reply
shows_row m H last n r d body reply named body_is reply_is =
    ap told (ap (λ b. shown b last) (text_is m (instances.rows H) n r d named ∙ sym body_is) ∙ sym reply_is)
