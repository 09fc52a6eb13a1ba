-- Counting the operations that came out so, row by row.
use Rattle.std.proofs.Common.{◌≡◌, ◌∙◌, ◌<◌, ◌+◌, ◌-◌, ℕ, Bool, true, false, cond, List, Option, Some, ap, arith, filter, length, map}
use Rattle.std.proofs.Common.{slice_get, sym, take, ⊎_elim}
use Rattle.std.specs.Option.{option_map_or}
use Rattle.std.proofs.lemmas.List.{length-map, length-reverse}
use Rattle.std.proofs.lemmas.List.Filters.{length-filter_more}
use Rattle.std.proofs.lemmas.Option.{slice_get_cases}
use Rattle.lcm_events.specs.declared.events.Event.{Event}
use Rattle.lcm_events.specs.declared.events.Operation.{Operation}
use Rattle.lcm_model.specs.Operations.{occurrences_made, operations}
use Rattle.lcm_model.specs.Work.{window}
use Rattle.occ_table.proofs.PendingSteps.{filter_map_swap, filter_reverse}
use Rattle.occ_table.proofs.RowsSteps.{looked}
use Rattle.occ_table.specs.Rows.{StandsFor, occurrence, row}
use Rattle.occ_table.specs.declared.rows.OccRow.{OccRow}
use Rattle.lcm_trial.specs.Playing.{AreOfLegal}
use Rattle.lcm_trial.specs.Trial.{count_of, row_came_out}
use Rattle.lcm_trial.specs.declared.fates.Fate.{Fate}

-- what stands at a place is the row of the number behind it
pub row_there : (rs : List OccRow) (place : ℕ) (x : Option OccRow) (l : AreOfLegal rs) → x ≡ occurrence l.history (place + 1)
    → slice_get rs place ≡ x
row_there rs place x l is =
    let same : (place + 1) - 1 ≡ place = omega arith in
    sym (ap (slice_get rs) same) ∙ looked window l.manager l.history rs (place + 1) l.legal l.stands (omega arith) ∙ sym is

-- there is a row for each operation
pub rows_counted : (rs : List OccRow) (H : List Event) → StandsFor rs H → length rs ≡ occurrences_made H
rows_counted rs H stands = ap length stands ∙ length-reverse (map (row H) (operations H)) ∙ length-map (operations H) (row H)

-- one place more
counted : {A : Type 0} → (p : A → Bool) (xs : List A) (i : ℕ) → i < length xs
    → length (filter p (take (i + 1) xs)) ≡ length (filter p (take i xs)) + cond (option_map_or p (slice_get xs i) false) 1 0
counted {A} p xs i less = ⊎_elim
    (λ (there : (x : A) × (i < length xs) × (slice_get xs i ≡ Some x) × _).
    length-filter_more p xs i there.0 less
    ∙ ap (λ (b : Bool). length (filter p (take i xs)) + cond b 1 0)
    (ap p there.3 ∙ sym (ap (λ (o : Option A). option_map_or p o false) there.2)))
    (λ past. let beyond = past.0 in absurd (omega (arith, beyond, less)))
    (slice_get_cases xs i).1

pub counted_in : {A : Type 0} → (p : A → Bool) (xs : List A) (i n : ℕ) → i < length xs → option_map_or p (slice_get xs i) false ≡ true
    → n ≡ length (filter p (take i xs)) → n + 1 ≡ length (filter p (take (i + 1) xs))
counted_in p xs i n less is so = ap (λ (k : ℕ). k + 1) so
    ∙ sym (counted p xs i less ∙ ap (λ (b : Bool). length (filter p (take i xs)) + cond b 1 0) is)

pub counted_out : {A : Type 0} → (p : A → Bool) (xs : List A) (i n : ℕ) → i < length xs → option_map_or p (slice_get xs i) false ≡ false
    → n ≡ length (filter p (take i xs)) → n ≡ length (filter p (take (i + 1) xs))
counted_out p xs i n less is so =
    let more = counted p xs i less ∙ ap (λ (b : Bool). length (filter p (take i xs)) + cond b 1 0) is in
    omega (arith, more, so)

-- the rows of the operations that came out so are as many as those
pub came_out : (fate : Fate) (rs : List OccRow) (H : List Event) → StandsFor rs H → length (filter (row_came_out fate) rs) ≡ count_of fate H
unfolding count_of
came_out fate rs H stands =
    let all : List Operation = operations H in
    let kept : List Operation = filter (λ (a : Operation). row_came_out fate (row H a)) all in
    ap (λ (xs : List OccRow). length (filter (row_came_out fate) xs)) stands
    ∙ ap length (filter_reverse (row_came_out fate) (map (row H) all))
    ∙ length-reverse (filter (row_came_out fate) (map (row H) all))
    ∙ ap length (filter_map_swap (row_came_out fate) (row H) all)
    ∙ length-map kept (row H)
