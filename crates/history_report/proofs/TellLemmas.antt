-- What was told so far, one event more, and what a front of it all is.
use Rattle.std.proofs.Common.{◌≡◌, ◌≢◌, ◌≤◌, ◌<◌, ◌+◌, ◌-◌, ◌++◌, ◌∙◌, ◌∷◌, ℕ, List, [], Err, Option, Some, ap, append_assoc, arith}
use Rattle.std.proofs.Common.{flat_map, length, refl, suc, sym, zero}
use Rattle.std.specs.List.{range_with_len}
use Rattle.std.specs.Option.{option_map_or}
use Rattle.executor.specs.Managed.{IsReady, Managed}
use Rattle.executor.specs.Reading.{event_in}
use Rattle.lcm_events.specs.declared.events.Event.{Event}
use Rattle.site_traits.specs.Moments.{reads-refl, reads-then}
use Rattle.site_traits.specs.Site.{Reads, SiteState}
use Rattle.history_report.specs.Telling.{IsFrontOf, line_at, line_of, lines}
use Rattle.history_report.specs.declared.chosen.Chosen.{Chosen}

-- the lines of the events behind the k-th
abbrev pub rest : ℕ → List Event → Chosen → ℕ → List ℕ
rest m H c k = flat_map (line_at m H c) (range_with_len (k + 1) (length H - k))

-- What stands so far: the manager is ready for the history that it was ready for, the file was only read, and what was
-- put and what is to be put next, and then the lines behind event k, are all that is to be put.
pub record TellsSoFar (tells told : Type 0) (c : Chosen) (old new : Managed) (s t : SiteState) (before now : List ℕ)
    (k : ℕ) : Type 0 where
  pub number : new.ledger.manager ≡ old.ledger.manager
  pub ready : (H : List Event) → IsReady tells old H s → IsReady tells new H t
  pub reads : tells → Reads s t
  pub told_so_far : (H : List Event) → IsReady tells old H s → tells → told → k ≤ length H
      → now ++ rest old.ledger.manager H c k ≡ before ++ lines old.ledger.manager H c

-- the lines behind event k are that of the next one and those behind it
next_line : (m : ℕ) (H : List Event) (c : Chosen) (k : ℕ) → k < length H
    → rest m H c k ≡ line_at m H c (k + 1) ++ rest m H c (k + 1)
next_line m H c k h =
    let e : length H - k ≡ suc (length H - (k + 1)) = omega arith in
    ap (λ n. flat_map (line_at m H c) (range_with_len (k + 1) n)) e

-- at first all lines are behind
all_behind : (m : ℕ) (H : List Event) (c : Chosen) → rest m H c 0 ≡ lines m H c
unfolding lines
all_behind m H c =
    let e : length H - 0 ≡ length H = omega arith in
    ap (λ n. flat_map (line_at m H c) (range_with_len 1 n)) e

pub nothing_yet : (tells told : Type 0) (c : Chosen) (old : Managed) (s : SiteState) (before : List ℕ)
    → TellsSoFar tells told c old old s s before (before ++ []) 0
nothing_yet tells told c old s before = record {
  number = refl;
  ready = λ H ready. ready;
  reads = λ _. reads-refl s;
  told_so_far = λ H ready _ _ _. append_assoc before [] (rest old.ledger.manager H c 0)
      ∙ ap (λ x. before ++ x) (all_behind old.ledger.manager H c);
}

-- the line of an event that is read back is that of its place
pub line_read : (m : ℕ) (H : List Event) (c : Chosen) (n : ℕ) (e : Event) → event_in H n ≡ Some e
    → line_at m H c n ≡ line_of m H c n e
unfolding line_at
line_read m H c n e is = ap (λ (found : Option Event). option_map_or (λ x. line_of m H c n x) found []) is

-- one event more
pub one_more : (tells told : Type 0) (c : Chosen) (old mid new : Managed) (s t u : SiteState) (before now then : List ℕ)
    (k : ℕ)
    → TellsSoFar tells told c old mid s t before now k
    → new.ledger.manager ≡ mid.ledger.manager
    → ((H : List Event) → IsReady tells mid H t → IsReady tells new H u)
    → (tells → Reads t u)
    → ((H : List Event) → IsReady tells mid H t → tells → told → then ≡ now ++ line_at mid.ledger.manager H c (k + 1))
    → ((H : List Event) → IsReady tells old H s → k < length H)
    → TellsSoFar tells told c old new s u before then (k + 1)
one_more tells told c old mid new s t u before now then k far number ready reads adds within = record {
  number = number ∙ far.number;
  ready = λ H is. ready H (far.ready H is);
  reads = λ tell. reads-then s t u (far.reads tell) (reads tell);
  told_so_far = λ H is tell hear _.
      let m = old.ledger.manager in
      let there = within H is in
      let same : then ≡ now ++ line_at m H c (k + 1) =
      adds H (far.ready H is) tell hear ∙ ap (λ x. now ++ line_at x H c (k + 1)) far.number in
      ap (λ x. x ++ rest m H c (k + 1)) same
      ∙ (append_assoc now (line_at m H c (k + 1)) (rest m H c (k + 1))
      ∙ (ap (λ x. now ++ x) (sym (next_line m H c k there)) ∙ far.told_so_far H is tell hear (omega (arith, there))));
}

-- behind the last event nothing is left
none_left : (m : ℕ) (H : List Event) (c : Chosen) (k : ℕ) → k ≡ length H → rest m H c k ≡ []
none_left m H c k is =
    let e : length H - k ≡ zero = omega (arith, is) in
    ap (λ n. flat_map (line_at m H c) (range_with_len (k + 1) n)) e

pub append_none : (xs : List ℕ) → xs ++ [] ≡ xs
append_none [] = refl
append_none (x ∷ xs) = ap (λ ys. x ∷ ys) (append_none xs)

-- once all events were read, all lines were put or are to be put
pub all_told : (tells told : Type 0) (c : Chosen) (old new : Managed) (s t : SiteState) (before now : List ℕ) (k : ℕ)
    → TellsSoFar tells told c old new s t before now k
    → (H : List Event) → IsReady tells old H s → tells → told → k ≡ length H
    → now ≡ before ++ lines old.ledger.manager H c
all_told tells told c old new s t before now k far H is tell hear all =
    sym (append_none now) ∙ (ap (λ x. now ++ x) (sym (none_left old.ledger.manager H c k all))
    ∙ far.told_so_far H is tell hear (omega (arith, all)))

-- what was put is a front of all that is to be put
pub front_so_far : (tells told : Type 0) (c : Chosen) (old new : Managed) (s t : SiteState) (before put text : List ℕ)
    (k : ℕ)
    → TellsSoFar tells told c old new s t before (put ++ text) k
    → (H : List Event) → IsReady tells old H s → tells → told → k ≤ length H
    → IsFrontOf (before ++ lines old.ledger.manager H c) put
front_so_far tells told c old new s t before put text k far H is tell hear within = (
  text ++ rest old.ledger.manager H c k,
  sym (append_assoc put text (rest old.ledger.manager H c k)) ∙ far.told_so_far H is tell hear within,
)

-- What stands so far where nothing is put: the manager is ready for the history that it was ready for, and the file was
-- only read.
pub record ReadsSoFar (tells : Type 0) (old new : Managed) (s t : SiteState) : Type 0 where
  pub ready : (H : List Event) → IsReady tells old H s → IsReady tells new H t
  pub reads : tells → Reads s t

pub unread : (tells : Type 0) (old : Managed) (s : SiteState) → ReadsSoFar tells old old s s
unread tells old s = record { ready = λ H ready. ready; reads = λ _. reads-refl s }

-- one event more
pub read_on : (tells : Type 0) (old mid new : Managed) (s t u : SiteState) → ReadsSoFar tells old mid s t
    → ((H : List Event) → IsReady tells mid H t → IsReady tells new H u) → (tells → Reads t u)
    → ReadsSoFar tells old new s u
read_on tells old mid new s t u far ready reads = record {
  ready = λ H is. ready H (far.ready H is);
  reads = λ tell. reads-then s t u (far.reads tell) (reads tell);
}
