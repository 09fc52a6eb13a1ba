-- What each event makes of what the changes of an occurrence used.
use Rattle.std.proofs.Common.{◌≡◌, ◌==◌, ◌∙◌, ℕ, List, ◌∷◌, true, false, Option, None, Some, refl, ap, length, map, arith}
use Rattle.std.specs.List.{cons_option}
use Rattle.lcm_events.specs.declared.attempts.Outcome.{Outcome}
use Rattle.lcm_events.specs.declared.attempts.Tag.{Tag}
use Rattle.lcm_events.specs.declared.events.Event.{Event}
use Rattle.lcm_events.specs.declared.events.EventKind.{EventKind}
use Rattle.lcm_events.specs.declared.events.EventKind.TheVariants.{Settled}
use Rattle.lcm_events.specs.declared.events.Operation.{Operation}
use Rattle.lcm_model.specs.Attempts.{is_of}
use Rattle.lcm_model.specs.Words.{first, otherwise, told}
use Rattle.lcm_laws.proofs.Histories.{event}
use Rattle.lcm_laws.proofs.Lists.{by_test}
use Rattle.occ_table.proofs.ChangeSteps.{differs, maps_same, other_change, own_change}
use Rattle.occ_table.specs.Rows.{numbers}
use Rattle.occ_table.specs.Steps.{put_used}
use Rattle.occ_table.specs.Used.{used, used_at, used_in}
use Rattle.occ_table.specs.declared.used.Used.{Used}

-- what is told last is what the event tells, where it tells something
pub first_cons : {A : Type 0} → (x : Option A) (xs : List A) → first (cons_option x xs) ≡ otherwise x (first xs)
first_cons None xs = refl
first_cons (Some x) xs = refl

-- what a change used by an event, after its past
abbrev pub used_told : List Event → EventKind → Option Used
used_told H (Settled t outcome) = used_at H t outcome
used_told H _ = None

used-own : (H : List Event) (time : ℕ) (t : Tag) (outcome : Outcome) (o c : ℕ) → is_of o c t ≡ true
    → used (event time (Settled t outcome) ∷ H) o c ≡ otherwise (used_at H t outcome) (used H o c)
used-own H time t outcome o c own =
    let told_by : used_in o c H (Settled t outcome) ≡ used_at H t outcome = rw own refl in
    first_cons (used_in o c H (Settled t outcome)) (told (used_in o c) H) ∙ ap (λ (x : Option Used). otherwise x (used H o c)) told_by

used-other : (H : List Event) (time : ℕ) (t : Tag) (outcome : Outcome) (o c : ℕ) → is_of o c t ≡ false
    → used (event time (Settled t outcome) ∷ H) o c ≡ used H o c
used-other H time t outcome o c other =
    let none : used_in o c H (Settled t outcome) ≡ None = rw other refl in
    first_cons (used_in o c H (Settled t outcome)) (told (used_in o c) H) ∙ ap (λ (x : Option Used). otherwise x (used H o c)) none

-- what the changes used after an attempt has used this, or nothing
by_use : (H : List Event) (time : ℕ) (t : Tag) (outcome : Outcome) (a : Operation) (x : Option Used) → (t.occ == a.occ) ≡ true
    → used_at H t outcome ≡ x
    → map (used (event time (Settled t outcome) ∷ H) a.occ) (numbers a) ≡ put_used t.change x (map (used H a.occ) (numbers a))
by_use H time t outcome a None same is =
    maps_same (used (event time (Settled t outcome) ∷ H) a.occ) (used H a.occ) (numbers a)
    (λ c. by_test (is_of a.occ c t)
    (λ own. used-own H time t outcome a.occ c own ∙ ap (λ (x : Option Used). otherwise x (used H a.occ c)) is)
    (λ other. used-other H time t outcome a.occ c other))
by_use H time t outcome a (Some u) same is =
    differs (used H a.occ) (used (event time (Settled t outcome) ∷ H) a.occ) 0 (length a.changes) t.change t.change (Some u) (omega arith)
    (used-own H time t outcome a.occ t.change (own_change t a.occ same) ∙ ap (λ (x : Option Used). otherwise x (used H a.occ t.change)) is)
    (λ c other. used-other H time t outcome a.occ c (other_change t a.occ c other))

pub uses-ended : (H : List Event) (time : ℕ) (t : Tag) (outcome : Outcome) (a : Operation) → (t.occ == a.occ) ≡ true
    → map (used (event time (Settled t outcome) ∷ H) a.occ) (numbers a)
    ≡ put_used t.change (used_at H t outcome) (map (used H a.occ) (numbers a))
uses-ended H time t outcome a same = by_use H time t outcome a (used_at H t outcome) same refl

pub uses-ended_other : (H : List Event) (time : ℕ) (t : Tag) (outcome : Outcome) (a : Operation) → (t.occ == a.occ) ≡ false
    → map (used (event time (Settled t outcome) ∷ H) a.occ) (numbers a) ≡ map (used H a.occ) (numbers a)
uses-ended_other H time t outcome a other =
    maps_same (used (event time (Settled t outcome) ∷ H) a.occ) (used H a.occ) (numbers a)
    (λ c. let no : is_of a.occ c t ≡ false = rw other refl in used-other H time t outcome a.occ c no)
