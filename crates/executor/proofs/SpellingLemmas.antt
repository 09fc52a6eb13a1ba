-- The spellings with one event more, and that one spelling is one event's.
use Rattle.std.proofs.Common.{◌≡◌, ◌∷◌, ◌++◌, ℕ, List, [], map, reverse, ap, ◌∙◌, sym, subst}
use Rattle.std.proofs.lemmas.Grind.{reverse_onto}
use Rattle.std.proofs.lemmas.List.{append-nil, map_push}
use Rattle.event_codec.specs.Spell.{spelling}
use Rattle.event_codec.specs.Valid.{IsEvent}
use Rattle.event_codec.specs.Prefix.{NoSpellingBeginsAnother}
use Rattle.lcm_events.specs.declared.events.Event.{Event}
use Rattle.lcm_model.specs.Allowed.{IsAllowed}
use Rattle.executor.specs.History.{spellings}
use Rattle.executor.specs.Loading.{HasNoNext}

-- the spellings with one event more
pub spellings-cons : (e : Event) (H : List Event) → spellings (e ∷ H) ≡ spellings H ++ spelling e ∷ []
spellings-cons e H = ap (map spelling) (reverse_onto H e []) ∙ map_push spelling (reverse H) e

pub same_event : NoSpellingBeginsAnother → (e f : Event) (bytes : List ℕ) → IsEvent e → IsEvent f → bytes ≡ spelling e → bytes ≡ spelling f
    → e ≡ f
same_event law e f bytes is_e is_f of_e of_f =
    law e f [] [] is_e is_f (append-nil (spelling e) ∙ sym of_e ∙ of_f ∙ sym (append-nil (spelling f)))

-- where the one event that is spelled so isn't allowed, none is
pub no_next : NoSpellingBeginsAnother → (m : ℕ) (H : List Event) (bytes : List ℕ) (e : Event) → IsEvent e → bytes ≡ spelling e
    → (IsAllowed m H e.kind → ⊥) → HasNoNext m H bytes
no_next law m H bytes e is spelled refused f next =
    let same = same_event law f e bytes next.event is next.spelled spelled in
    let P : Event → Type 0 = λ g. IsAllowed m H g.kind in
    refused (subst P same next.allowed)
