-- What is read back is the history's event.
use Rattle.std.proofs.Common.{◌≡◌, ◌≤◌, ◌<◌, ◌-◌, ◌++◌, ◌∙◌, ℕ, zero, suc, List, [], ◌∷◌, Option, Some, Ok, Err, Result, length, map}
use Rattle.std.proofs.Common.{reverse, slice_get, get_or, refl, ap, sym, subst, arith, false}
use Rattle.std.specs.List.{AllByRecursion}
use Rattle.std.specs.Result.{IfOk}
use Rattle.std.proofs.lemmas.List.{length-reverse}
use mathlib.Core.List.{reverse-cons}
use Rattle.event_codec.specs.Spell.{spelling}
use Rattle.event_codec.specs.Valid.{IsEvent}
use Rattle.journal_core.specs.Back.{KeepsRecords}
use Rattle.journal_records.specs.File.{records}
use Rattle.journal_core.specs.Journal.{Stands}
use Rattle.lcm_events.specs.declared.events.Event.{Event}
use Rattle.lcm_model.specs.Allowed.{IsLegal}
use Rattle.site_traits.specs.Site.{Reads, SiteState}
use Rattle.executor.specs.Managed.{IsReady, KeepsOn, Managed, StandsFor}
use Rattle.executor.specs.Reading.{event_in}
use Rattle.executor.specs.declared.manager.ReadFault.{ReadFault}

-- an entry of a list of events that keep the format's rules
record IsThere (xs : List Event) (i : ℕ) : Type 0 where
  pub event : Event
  pub is : slice_get xs i ≡ Some event
  pub rules : IsEvent event
  pub spelled : get_or (map spelling xs) i [] ≡ spelling event

there : (xs : List Event) (i : ℕ) → i < length xs → AllByRecursion IsEvent xs → IsThere xs i
there [] i within all = absurd (omega (arith, within))
there (x ∷ xs) zero within all = record { event = x; is = refl; rules = all.0; spelled = refl }
there (x ∷ xs) (suc i) within all =
    let rest = there xs i (omega (arith, within)) all.1 in
    record { event = rest.event; is = rest.is; rules = rest.rules; spelled = rest.spelled }

all_last : (xs : List Event) (x : Event) → AllByRecursion IsEvent xs → IsEvent x → AllByRecursion IsEvent (xs ++ x ∷ [])
all_last [] x all is = (is, tt)
all_last (y ∷ xs) x all is = (all.0, all_last xs x all.1 is)

all_reversed : (xs : List Event) → AllByRecursion IsEvent xs → AllByRecursion IsEvent (reverse xs)
all_reversed [] all = tt
all_reversed (x ∷ xs) all = subst (AllByRecursion IsEvent) (sym (reverse-cons x xs)) (all_last (reverse xs) x (all_reversed xs all.1) all.0)

-- event n of a history, and what the file has of it
pub record HasEvent (H : List Event) (n : ℕ) (bytes : List ℕ) : Type 0 where
  pub event : Event
  pub is : event_in H n ≡ Some event
  pub rules : IsEvent event
  pub spelled : bytes ≡ spelling event

pub has_event : (m : Managed) (H : List Event) (s : SiteState) (n : ℕ) (bytes : List ℕ) → 1 ≤ n → n ≤ m.ledger.count
    → m.ledger.count ≡ length H → StandsFor m H s
    → bytes ≡ get_or (records s.image) (n - 1) [] → HasEvent H n bytes
has_event m H s n bytes some within count stands is =
    let found = there (reverse H) (n - 1) (omega (arith, some, within, count, length-reverse H)) (all_reversed H stands.events) in
    record {
      event = found.event;
      is = found.is;
      rules = found.rules;
      spelled = is ∙ ap (λ rs. get_or rs (n - 1) []) stands.records ∙ found.spelled;
    }

-- a manager whose ledger has the same records keeps what it kept
pub keeps_read : (m n : Managed) → m.ledger.closed ≡ false → KeepsRecords m.ledger n.ledger → n.tables ≡ m.tables → KeepsOn m n
keeps_read m n usable same tables H keeps =
    let P : ℕ → Type 0 = λ k. IsLegal k H in
    record {
      kept = record {
        legal = subst P (sym same.manager) keeps.kept.legal;
        events = keeps.kept.events;
        count = λ _. same.count ∙ keeps.kept.count usable;
        end = λ _. rw (same.end, same.saved) (keeps.kept.end usable);
      };
      tables = rw (same.manager, tables) keeps.tables;
    }

-- and is ready as it was, where it stands for the file
pub ready_read : (tells : Type 0) (m n : Managed) (H : List Event) (a b : SiteState) → IsReady tells m H a → KeepsRecords m.ledger n.ledger
    → n.tables ≡ m.tables
    → n.ledger.closed ≡ false → (tells → Reads a b) → (tells → Stands b n.ledger) → IsReady tells n H b
ready_read tells m n H a b ready same tables usable reads stands = record {
  usable = usable;
  keeps = keeps_read m n ready.usable same tables H ready.keeps;
  stands = λ told. record {
    journal = stands told;
    records = ap records (reads told).same ∙ (ready.stands told).records;
    events = (ready.stands told).events;
  };
}

-- what was read is the event that is there
pub read_is : (r : Result Event ReadFault) (x : Option Event) (e : Event) → x ≡ Some e → IfOk r (λ f. f ≡ e) → IfOk r (λ f. x ≡ Some f)
read_is (Ok f) x e is same = is ∙ ap Some (sym same)
read_is (Err why) x e is same = tt
