-- When an attempt may begin, by the row of its occurrence.
use Rattle.std.proofs.Common.{◌≡◌, ◌<◌, ◌+◌, ◌&&◌, ◌||◌, ◌==◌, ◌∙◌, ◌↔◌, ℕ, List, [], ◌∷◌, Bool, true, false, not, Option, None, Some, refl}
use Rattle.std.proofs.Common.{ap, sym, subst, length, map, filter, slice_get, arith, eqb-true, eq-eqb, nat_lt}
use Rattle.std.specs.Prelude.{zip}
use Rattle.std.specs.Option.{option_map_or}
use Rattle.std.specs.List.{enumerate_from, list_all, list_any, range_with_len}
use Rattle.std.proofs.lemmas.List.{length-map, length-reverse}
use Rattle.lcm_events.specs.declared.attempts.Tag.{Tag}
use Rattle.occ_table.specs.Ended.{is_over}
use Rattle.occ_table.proofs.EndedLaws.{kept_all, works_not_over}
use Rattle.lcm_events.specs.declared.attempts.Way.{Way}
use Rattle.lcm_events.specs.declared.attempts.Way.TheVariants.{Forward, Undo}
use Rattle.lcm_events.specs.declared.changes.Change.{Change}
use Rattle.lcm_events.specs.declared.events.Event.{Event}
use Rattle.lcm_events.specs.declared.events.Operation.{Operation}
use Rattle.lcm_model.specs.Allowed.{IsLegalWithin}
use Rattle.lcm_model.specs.Attempts.{attempts, is_of, is_of_occurrence, net, open_attempts, open_of, open_tags}
use Rattle.lcm_model.specs.Moves.{state}
use Rattle.lcm_model.specs.Operations.{change_of, changes, operation, operations}
use Rattle.lcm_model.specs.Since.{has_trouble, is_cancelled}
use Rattle.lcm_model.specs.Work.{IsTurnOf, MayBeginWithin, all_through, is_through, net_after, net_before, works_in}
use Rattle.lcm_model.specs.Words.{IsIn}
use Rattle.lcm_laws.proofs.HoldLaws.{changes_of}
use Rattle.lcm_laws.proofs.Lists.{and_left, and_right, and_true, by_test}
use Rattle.occ_table.specs.Phases.{goes_first, is_clear, tallies}
use Rattle.occ_table.specs.Rows.{nets, numbers, occurrence, pending_of, pendings, row}
use Rattle.occ_table.specs.Steps.{MayBeginRow, counts_for, has_open_at, is_next, is_turn}
use Rattle.occ_table.specs.declared.pending.Pending.{Pending}
use Rattle.occ_table.specs.declared.rows.OccRow.{OccRow}
use Rattle.occ_table.proofs.JudgeLaws.{found_in, found_row, none_of}
use Rattle.occ_table.proofs.MoveLaws.{cancelled_row}
use Rattle.occ_table.proofs.PendingSteps.{any_reverse}
use Rattle.occ_table.proofs.PhaseLaws.{Sound, clear-counts, get-range, some_within, through}
use Rattle.occ_table.proofs.PlanPhases.{sound_made, sound_undone}

-- a change of o is through where it goes before those of this phase
through_zip : (H : List Event) (o : ℕ) (way : Way) (q k : ℕ) (xs : List Change)
    → list_all (through (goes_first way q) (net_after way)) (zip xs (map (net H o) (range_with_len k (length xs))))
    ≡ list_all (is_through H o way q) (enumerate_from k xs)
unfolding is_through
through_zip H o way q k [] = refl
through_zip H o Forward q k (x ∷ xs) = ap (λ (b : Bool). (not (nat_lt x.phase q) || (net H o k == 1)) && b)
    (through_zip H o Forward q (k + 1) xs)
through_zip H o Undo q k (x ∷ xs) = ap (λ (b : Bool). (not (nat_lt q x.phase) || (net H o k == 0)) && b) (through_zip H o Undo q (k + 1) xs)

sound_way : (width m : ℕ) (H : List Event) (a : Operation) (way : Way) → IsLegalWithin width m H → IsIn a (operations H)
    → Sound (net_after way) (net_before way) (zip a.changes (nets H a))
sound_way width m H a Forward legal among = sound_made width m H a legal among
sound_way width m H a Undo legal among = sound_undone width m H a legal among

counts_row : (H : List Event) (a : Operation) (way : Way) → counts_for way (row H a) ≡ tallies (net_before way) a.changes (nets H a)
counts_row H a Forward = refl
counts_row H a Undo = refl

-- the counts of a row are clear exactly where every change that goes before is through
clear_row : (width m : ℕ) (H : List Event) (a : Operation) (way : Way) (q : ℕ) → IsLegalWithin width m H → operation H a.occ ≡ Some a
    → is_clear way q (counts_for way (row H a)) ≡ all_through H a.occ way q
clear_row width m H a way q legal e =
    let among : IsIn a (operations H) = found_in (λ x. x.occ) (operations H) a.occ a e in
    ap (λ (ns : List ℕ). is_clear way q ns) (counts_row H a way)
    ∙ (clear-counts way q a.changes (nets H a) (sound_way width m H a way legal among)
    ∙ (through_zip H a.occ way q 0 a.changes ∙ ap (λ (xs : List Change). list_all (is_through H a.occ way q) (enumerate_from 0 xs))
    (sym (changes_of H a.occ a e))))

any_map : {A B : Type 0} → (p : B → Bool) (f : A → B) (xs : List A) → list_any p (map f xs) ≡ list_any (λ x. p (f x)) xs
any_map p f [] = refl
any_map p f (x ∷ xs) = ap (λ (b : Bool). p (f x) || b) (any_map p f xs)

none_at : (o c : ℕ) (ts : List Tag) → (list_any (λ t. t.change == c) (filter (is_of_occurrence o) ts) ≡ false)
    ↔ (filter (is_of o c) ts ≡ [])
none_at o c [] = (λ h. refl, λ h. refl)
none_at o c (t ∷ ts) = by_test (t.occ == o)
    (λ own. by_test (t.change == c)
    (λ same. rw (own, same) (λ h. cc, λ h. cc))
    (λ other. rw (own, other) (none_at o c ts)))
    (λ away. rw away (none_at o c ts))

-- no attempt at a change is open, by the row
open_at_row : (H : List Event) (o c : ℕ) → (has_open_at c (pendings H o) ≡ false) ↔ (open_attempts H o c ≡ [])
open_at_row H o c =
    let same : has_open_at c (pendings H o) ≡ list_any (λ t. t.change == c) (open_of H o) =
    any_reverse (λ (p : Pending). p.tag.change == c) (map (pending_of H) (open_of H o))
    ∙ any_map (λ (p : Pending). p.tag.change == c) (pending_of H) (open_of H o) in
    let none = none_at o c (open_tags H) in
    (λ h. none.0 (sym same ∙ h), λ h. same ∙ none.1 h)

-- the turn of a change of occurrence o
abbrev Turn : List Event → Tag → ℕ → Option Change → Type 0
Turn H t o None = ⊥
Turn H t o (Some x) = (net H o t.change ≡ net_before t.way) × (all_through H o t.way x.phase ≡ true)

-- the attempt may begin at occurrence o
record Begins (width : ℕ) (H : List Event) (t : Tag) (o : ℕ) : Type 0 where
  works : state H o ≡ works_in t.way
  no_trouble : has_trouble H o ≡ false
  no_cancel : is_cancelled H o ≡ false
  room : length (open_of H o) < width
  none_open : open_attempts H o t.change ≡ []
  number : t.attempt ≡ length (attempts H o t.change) + 1
  turn : Turn H t o (slice_get (changes H o) t.change)

turn-to : (H : List Event) (t : Tag) (x : Option Change) → Turn H t t.occ x → IsTurnOf H t x
turn-to H t None h = h
turn-to H t (Some x) h = h

turn-from : (H : List Event) (t : Tag) (x : Option Change) → IsTurnOf H t x → Turn H t t.occ x
turn-from H t None h = h
turn-from H t (Some x) h = h

may_begin-from : (width : ℕ) (H : List Event) (t : Tag) → MayBeginWithin width H t ↔ Begins width H t t.occ
may_begin-from width H t = (
  λ h. record {
    works = h.works;
    no_trouble = h.no_trouble;
    no_cancel = h.no_cancel;
    room = h.room;
    none_open = h.none_open;
    number = h.number;
    turn = turn-from H t (change_of H t) h.turn;
  },
  λ h. record {
    works = h.works;
    no_trouble = h.no_trouble;
    no_cancel = h.no_cancel;
    room = h.room;
    none_open = h.none_open;
    number = h.number;
    turn = turn-to H t (change_of H t) h.turn;
  },
)

-- the net and the number of a change, by the row
net_row : (f : ℕ → ℕ) (c v n : ℕ) → c < n → (option_map_or (λ k. k == v) (slice_get (map f (range_with_len 0 n)) c) false ≡ true)
    ↔ (f c ≡ v)
net_row f c v n less =
    let zeroth : 0 + c ≡ c = omega arith in
    let at : slice_get (map f (range_with_len 0 n)) c ≡ Some (f c) = get-range f 0 n c less ∙ ap (λ (m : ℕ). Some (f m)) zeroth in
    let same : option_map_or (λ k. k == v) (slice_get (map f (range_with_len 0 n)) c) false ≡ (f c == v) =
    ap (λ (x : Option ℕ). option_map_or (λ k. k == v) x false) at in
    (λ h. eqb-true (f c) v (sym same ∙ h), λ h. same ∙ eq-eqb (f c) v h)

next_row : (f : ℕ → ℕ) (c v n : ℕ) → c < n → (is_next v (slice_get (map f (range_with_len 0 n)) c) ≡ true) ↔ (v ≡ f c + 1)
next_row f c v n less =
    let zeroth : 0 + c ≡ c = omega arith in
    let at : slice_get (map f (range_with_len 0 n)) c ≡ Some (f c) = get-range f 0 n c less ∙ ap (λ (m : ℕ). Some (f m)) zeroth in
    let same : is_next v (slice_get (map f (range_with_len 0 n)) c) ≡ (f c + 1 == v) = ap (λ (x : Option ℕ). is_next v x) at in
    (λ h. sym (eqb-true (f c + 1) v (sym same ∙ h)), λ h. same ∙ eq-eqb (f c + 1) v (sym h))

-- the part of a row that asks its change, where there is one
abbrev Asks : List Event → Operation → Tag → Option Change → Type 0
Asks H a t x = (is_next t.attempt (slice_get (map (λ c. length (attempts H a.occ c)) (numbers a)) t.change) ≡ true)
    × (is_turn t (row H a) x ≡ true)

asks-to : (width m : ℕ) (H : List Event) (a : Operation) (t : Tag) (x : Option Change) → IsLegalWithin width m H
    → operation H a.occ ≡ Some a → slice_get a.changes t.change ≡ x
    → Asks H a t x → (t.attempt ≡ length (attempts H a.occ t.change) + 1) × Turn H t a.occ x
asks-to width m H a t None legal e at h = let no : false ≡ true = h.1 in cc
asks-to width m H a t (Some x) legal e at h =
    let within : t.change < length a.changes = some_within a.changes t.change x at in
    let has : Bool = option_map_or (λ n. n == net_before t.way) (slice_get (nets H a) t.change) false in
    let clear : Bool = is_clear t.way x.phase (counts_for t.way (row H a)) in (
      (next_row (λ c. length (attempts H a.occ c)) t.change t.attempt (length a.changes) within).0 h.0,
      (
        (net_row (net H a.occ) t.change (net_before t.way) (length a.changes) within).0 (and_left has clear h.1),
        sym (clear_row width m H a t.way x.phase legal e) ∙ and_right has clear h.1,
      ),
    )

asks-from : (width m : ℕ) (H : List Event) (a : Operation) (t : Tag) (x : Option Change) → IsLegalWithin width m H
    → operation H a.occ ≡ Some a → slice_get a.changes t.change ≡ x
    → t.attempt ≡ length (attempts H a.occ t.change) + 1 → Turn H t a.occ x → Asks H a t x
asks-from width m H a t None legal e at number turn = absurd turn
asks-from width m H a t (Some x) legal e at number turn =
    let within : t.change < length a.changes = some_within a.changes t.change x at in (
      (next_row (λ c. length (attempts H a.occ c)) t.change t.attempt (length a.changes) within).1 number,
      and_true _ _ ((net_row (net H a.occ) t.change (net_before t.way) (length a.changes) within).1 turn.0)
          (clear_row width m H a t.way x.phase legal e ∙ turn.1),
    )

long_row : (H : List Event) (o : ℕ) → length (pendings H o) ≡ length (open_of H o)
long_row H o = length-reverse (map (pending_of H) (open_of H o)) ∙ length-map (open_of H o) (pending_of H)

-- an occurrence that is worked on has its attempts in its row
number_row : (H : List Event) (a : Operation) (t : Tag) → state H a.occ ≡ works_in t.way
    → is_next t.attempt (slice_get (row H a).attempts t.change) ≡ is_next t.attempt
    (slice_get (map (λ c. length (attempts H a.occ c)) (numbers a)) t.change)
number_row H a t works =
    ap (λ (ns : List ℕ). is_next t.attempt (slice_get ns t.change))
    (kept_all (is_over H a.occ) (map (λ c. length (attempts H a.occ c)) (numbers a)) (works_not_over H a.occ t works))

begins_row : (width m : ℕ) (H : List Event) (a : Operation) (t : Tag) → IsLegalWithin width m H → operation H a.occ ≡ Some a
    → MayBeginRow width t (row H a) ↔ Begins width H t a.occ
begins_row width m H a t legal e =
    let same : slice_get (changes H a.occ) t.change ≡ slice_get a.changes t.change =
    ap (λ (xs : List Change). slice_get xs t.change) (changes_of H a.occ a e) in
    let long = long_row H a.occ in (
      λ h.
          let number = sym (number_row H a t h.works) ∙ h.number in
          let asks = asks-to width m H a t (slice_get a.changes t.change) legal e refl (number, h.turn) in
          let room = h.room in
          record {
            works = h.works;
            no_trouble = h.no_trouble;
            no_cancel = sym (cancelled_row H a.occ) ∙ h.no_cancel;
            room = omega (arith, room, long);
            none_open = (open_at_row H a.occ t.change).0 h.none_open;
            number = asks.0;
            turn = subst (λ (x : Option Change). Turn H t a.occ x) (sym same) asks.1;
          },
      λ h.
          let asks = asks-from width m H a t (slice_get a.changes t.change) legal e refl h.number
          (subst (λ (x : Option Change). Turn H t a.occ x) same h.turn) in
          let room = h.room in
          record {
            works = h.works;
            no_trouble = h.no_trouble;
            no_cancel = cancelled_row H a.occ ∙ h.no_cancel;
            room = omega (arith, room, long);
            none_open = (open_at_row H a.occ t.change).1 h.none_open;
            number = number_row H a t h.works ∙ asks.0;
            turn = asks.1;
          },
    )

pub begin_there : (width m : ℕ) (H : List Event) (t : Tag) (r : OccRow) (answer : Bool) → IsLegalWithin width m H
    → occurrence H t.occ ≡ Some r
    → (answer ≡ true) ↔ MayBeginRow width t r → (answer ≡ true) ↔ MayBeginWithin width H t
begin_there width m H t r answer legal e is =
    let mine = found_row H t.occ r e in
    let a : Operation = mine.0 in
    let here : operation H a.occ ≡ Some a = ap (λ (o : ℕ). operation H o) mine.2 ∙ mine.1 in
    let by = begins_row width m H a t legal here in
    let all = may_begin-from width H t in (
      λ h. all.1 (subst (λ (o : ℕ). Begins width H t o) mine.2 (by.0
          (subst (λ (x : OccRow). MayBeginRow width t x) (sym mine.3) (is.0 h)))),
      λ h. is.1 (subst (λ (x : OccRow). MayBeginRow width t x) mine.3
          (by.1 (subst (λ (o : ℕ). Begins width H t o) (sym mine.2) (all.0 h)))),
    )

begun_nowhere : (width : ℕ) (H : List Event) (t : Tag) → operation H t.occ ≡ None → MayBeginWithin width H t → ⊥
begun_nowhere width H t none h = turned (change_of H t) (rw none refl) h.turn where
  turned : (x : Option Change) → x ≡ None → IsTurnOf H t x → ⊥
  turned None e g = g
  turned (Some x) e g = cc

pub begin_none : (width : ℕ) (H : List Event) (t : Tag) → occurrence H t.occ ≡ None → (false ≡ true) ↔ MayBeginWithin width H t
begin_none width H t e = (λ h. cc, λ h. absurd (begun_nowhere width H t (none_of (row H) (operation H t.occ) e) h))
