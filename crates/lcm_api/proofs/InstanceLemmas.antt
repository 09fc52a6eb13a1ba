-- The live instance that an identifier names.
use Rattle.std.proofs.Common.{◌≡◌, ◌≤◌, ◌==◌, ◌∙◌, arith, length, ℕ, Bool, true, false, List, [], ◌∷◌, Option, Some, None, ap, refl, sym}
use Rattle.std.proofs.Common.{subst}
use Rattle.std.specs.Prelude.{find, option_and_then, option_copied, option_map, unwrap_or, if◌then◌else◌}
use Rattle.std.specs.List.{AllByRecursion}
use Rattle.std.specs.Str.{bytes_eq}
use Rattle.std.proofs.Common.{IfSome, Bor}
use Rattle.std.proofs.lemmas.List.Elements.{recursion_from_All}
use Rattle.std.proofs.lemmas.Option.{none-some}
use Rattle.vnfm_base.specs.Ident.{IsIdentNumber}
use Rattle.vnfm_base.specs.declared.identifier.Kind.TheVariants.{Instance}
use Rattle.json_views.specs.Instance.{instance_id}
use Rattle.instance_table.specs.Rows.{Rows, instance, instance_row, instance_rows, rows}
use Rattle.instance_table.specs.Table.{vnfd_named}
use Rattle.instance_table.specs.declared.rows.InstanceRow.{InstanceRow}
use Rattle.json_views.specs.Instance.{instance_text}
use Rattle.json_views.specs.Instances.{CanBeShown, IsShowable}
use Rattle.executor.specs.Managed.{Keeps, Managed}
use Rattle.executor.specs.Operating.{IsRowOf}
use Rattle.event_codec.specs.Spell.{spelling, u64}
use Rattle.http_wire.specs.declared.request.Request.{Request}
use Rattle.journal_records.specs.declared.limits.TheConstants.{MAX_RECORD}
use Rattle.lcm_api.specs.Instances.{asked_id, delete_found, delete_instance, delete_judged, deleted, deletion, named_instance, row_text}
use Rattle.lcm_api.specs.Instances.{show_found}
use Rattle.lcm_api.proofs.IdentLemmas.{IsReading, agrees, differs, find_none, find_same}
use Rattle.lcm_api.specs.Recording.{IsPlanned}
use Rattle.lcm_api.specs.Planning.{told}
use Rattle.lcm_replies.specs.Replies.{shown}
use Rattle.lcm_api.specs.declared.record.Planned.TheVariants.{Records}
use Rattle.lcm_replies.specs.declared.reply.Reply.{Reply}
use Rattle.lcm_model.specs.Refusals.{delete_refusal}
use Rattle.lcm_events.specs.declared.descriptor.Vnfd.{Vnfd}
use Rattle.lcm_events.specs.declared.events.Event.{Event}
use Rattle.lcm_model.specs.Lives.{CreatedInstance, creation, descriptor, descriptor_named, is_live}

-- what stands behind a test is the entry, or what was found behind it
found_at : {A : Type 0} (P : A → Type 0) (b : Bool) (y : A) (o : Option A) (x : A) → (if b then Some y else o) ≡ Some x → P y
    → (o ≡ Some x → P x) → P x
found_at P true y o x e here behind = subst P (ap (λ found. unwrap_or found y) e) here
found_at P false y o x e here behind = behind e

-- what is found is an entry: it is as all entries are
pub find_is : {A : Type 0} (P : A → Type 0) (p : A → Bool) (xs : List A) (x : A) → AllByRecursion P xs → find p xs ≡ Some x → P x
find_is P p [] x h e = absurd (none-some x e)
find_is P p (y ∷ ys) x h e = found_at P (p y) y (find p ys) x e h.0 (find_is P p ys x h.1)

-- each row has a number that an identifier can carry
abbrev pub AreNumbered : List InstanceRow → Type 0
AreNumbered = AllByRecursion (λ row. IsIdentNumber row.number)

-- the row that has the identifier is that of its number
pub named_is : (m n : ℕ) (id : List ℕ) (rs : List InstanceRow) → IsReading Instance m id (Some n) → AreNumbered rs
    → find (λ row. bytes_eq (instance_id m row.number) id) rs ≡ find (λ row. row.number == n) rs
unfolding instance_id
named_is m n id rs reading numbered = find_same _ _ rs (all rs numbered) where
  all : (rs : List InstanceRow) → AreNumbered rs → AllByRecursion (λ row. bytes_eq (instance_id m row.number) id ≡ (row.number == n)) rs
  all [] h = tt
  all (r ∷ rs) h = (agrees Instance m n r.number id reading h.0, all rs h.1)

-- no row has an identifier that names none
pub named_none : (m : ℕ) (id : List ℕ) (rs : List InstanceRow) → IsReading Instance m id None → AreNumbered rs
    → find (λ row. bytes_eq (instance_id m row.number) id) rs ≡ None
unfolding instance_id
named_none m id rs reading numbered = find_none _ rs (all rs numbered) where
  all : (rs : List InstanceRow) → AreNumbered rs → AllByRecursion (λ row. bytes_eq (instance_id m row.number) id ≡ false) rs
  all [] h = tt
  all (r ∷ rs) h = (differs Instance m r.number id reading h.0, all rs h.1)

numbers : (rs : Rows) (xs : List InstanceRow) → AllByRecursion (IsShowable rs) xs → AreNumbered xs
numbers rs [] h = tt
numbers rs (x ∷ xs) h = (h.0.number, numbers rs xs h.1)

numbered : (rs : Rows) → CanBeShown rs → AreNumbered rs.instances
numbered rs shown = numbers rs rs.instances (recursion_from_All (IsShowable rs) rs.instances shown)

-- the row of the number that was read is that of the identifier
pub named_found : (m n : ℕ) (id : List ℕ) (H : List Event) (x : Option InstanceRow) → IsReading Instance m id (Some n) → CanBeShown (rows H)
    → x ≡ find (λ row. row.number == n) (instance_rows H) → x ≡ named_instance m H id
named_found m n id H x reading shown is = is ∙ sym (named_is m n id (instance_rows H) reading (numbered (rows H) shown))

-- where no number was read, no live instance has the identifier
pub named_lost : (m : ℕ) (id : List ℕ) (H : List Event) → IsReading Instance m id None → CanBeShown (rows H) → None ≡ named_instance m H id
named_lost m id H reading shown = sym (named_none m id (instance_rows H) reading (numbered (rows H) shown))

-- what was found among the rows can be shown
pub shown_of : (p : InstanceRow → Bool) (rs : Rows) (o : Option (Bor InstanceRow)) → option_copied o ≡ find p rs.instances → CanBeShown rs
    → IfSome o (λ row. IsShowable rs row.now)
shown_of p rs None is shown = tt
shown_of p rs (Some row) is shown = find_is (IsShowable rs) p rs.instances row.now (recursion_from_All (IsShowable rs) rs.instances shown)
    (sym is)

-- what was found by its number is the row of a live instance
pub own_of : (m : Managed) (n : ℕ) (o : Option (Bor InstanceRow))
    → ((H : List Event) → Keeps m H → (option_copied o ≡ instance H n) × ((row : InstanceRow) → instance H n ≡ Some row → row.number ≡ n))
    → IfSome o (λ row. IsRowOf m row.now)
own_of m n None told = tt
own_of m n (Some row) told = λ H keeps.
    let it = told H keeps in
    subst (λ (k : ℕ). instance H k ≡ Some row.now) (sym (it.1 row.now (sym it.0))) (sym it.0)

-- the instance of such a row is live
pub live_of : (H : List Event) (row : InstanceRow) → instance H row.number ≡ Some row → is_live H row.number ≡ true
live_of H row found = there _ (is_live H row.number) found where
  there : (y : Option InstanceRow) (b : Bool) → (if b then y else None) ≡ Some row → b ≡ true
  there y true e = refl
  there y false e = absurd (none-some row e)

-- the text of a row's view, by its descriptor
pub row_text_is : (m : ℕ) (rs : Rows) (row : InstanceRow) (d : Vnfd) → vnfd_named rs row.vnfd ≡ Some d
    → row_text m rs row ≡ instance_text m row.number row d
unfolding row_text instance_text
row_text_is m rs row d named = rw named refl

-- the instance of a row is shown, by its descriptor
pub shows_row : (m : ℕ) (H : List Event) (last : Bool) (row : InstanceRow) (d : Vnfd) (body : List ℕ) (reply : Reply)
    → vnfd_named (rows H) row.vnfd ≡ Some d
    → body ≡ instance_text m row.number row d → reply ≡ shown body last → show_found m H last (Some row) ≡ told reply
shows_row m H last row d body reply named body_is reply_is =
    ap told (ap (λ b. shown b last) (row_text_is m (rows H) row d named ∙ sym body_is) ∙ sym reply_is)

deletion_fits : (now n : ℕ) → length (spelling (deletion now n)) ≤ MAX_RECORD
unfolding spelling u64
deletion_fits now n = omega arith

-- a live instance is deleted, where nothing refuses it
pub deletes : (m : Managed) (H : List Event) (now : ℕ) (r : Request) (row : InstanceRow) (reply : Reply) (event : Event)
    → Some row ≡ named_instance m.ledger.manager H (asked_id r)
    → instance H row.number ≡ Some row → None ≡ delete_refusal H row.number → event ≡ deletion now row.number → reply ≡ deleted r.last
    → IsPlanned (delete_instance m.ledger.manager H now r) m H (Records event reply)
deletes m H now r row reply event named found accepted event_is reply_is =
    rw (event_is, reply_is) (
      ap (delete_found H now r.last) (sym named) ∙ ap (delete_judged H now row.number r.last) (sym accepted),
      record {
        may = record { rules = λ typed. typed; allowed = record { live = live_of H row found; accepted = sym accepted }; unsettled = refl };
        fits = λ is. deletion_fits now row.number;
      },
    )

-- what a test lets through
let_through : {A : Type 0} (b : Bool) (x : Option A) (r : A) → (if b then x else None) ≡ Some r → x ≡ Some r
let_through true x r e = e
let_through false x r e = cc

-- an instance has the descriptor that its row names
pub named_by_row : (H : List Event) (i : ℕ) (r : InstanceRow) → instance H i ≡ Some r → descriptor H i ≡ descriptor_named H r.vnfd
named_by_row H i r e = by (creation H i) refl (let_through (is_live H i) (option_map (instance_row H) (creation H i)) r e) where
  by : (o : Option CreatedInstance) → creation H i ≡ o → option_map (instance_row H) o ≡ Some r → descriptor H i ≡ descriptor_named H r.vnfd
  by None is none = cc
  by (Some x) is some =
      let same : instance_row H x ≡ r = cc in
      ap (option_and_then (λ (y : CreatedInstance). descriptor_named H y.vnfd)) is
      ∙ ap (λ (y : InstanceRow). descriptor_named H y.vnfd) same
