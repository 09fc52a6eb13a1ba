-- The next action of an active occurrence, by its row.
use Rattle.std.proofs.Common.{◌≡◌, ◌<◌, ◌≤◌, ◌+◌, ◌||◌, ◌&&◌, ◌==◌, ◌++◌, ◌∙◌, ℕ, zero, suc, List, [], ◌∷◌, Bool, true, false, not, Option}
use Rattle.std.proofs.Common.{None, Some, is_some, refl, ap, sym, subst, arith, length, map, filter, reverse, slice_get, option_map}
use Rattle.std.proofs.Common.{get_or, length-take-le, nat_lt, take}
use Rattle.std.proofs.lemmas.List.{ext_get_or, get_or-take, length-map}
use Rattle.std.proofs.lemmas.Option.{get_or_from_slice_get}
use Rattle.std.proofs.lemmas.List.FromFn.{length-range_with_len}
use Rattle.std.proofs.Math.ListN.{length-reverse}
use Rattle.std.specs.List.{list_any, range_with_len}
use Rattle.std.specs.Option.{option_map_or}
use Rattle.std.specs.Prelude.{if◌then◌else◌, option_and_then, unwrap_or}
use mathlib.Core.List.{reverse-cons}
use Rattle.lcm_events.specs.declared.attempts.Tag.{Tag}
use Rattle.lcm_events.specs.declared.attempts.Way.{Way}
use Rattle.lcm_events.specs.declared.attempts.Way.TheVariants.{Forward, Undo}
use Rattle.lcm_events.specs.declared.changes.Change.{Change}
use Rattle.lcm_events.specs.declared.states.OpState.{OpState}
use Rattle.lcm_events.specs.declared.events.Event.{Event}
use Rattle.lcm_events.specs.declared.events.EventKind.{EventKind}
use Rattle.lcm_events.specs.declared.events.EventKind.TheVariants.{Intent}
use Rattle.lcm_events.specs.declared.events.Operation.{Operation}
use Rattle.lcm_events.specs.declared.states.OpState.TheVariants.{Completed, Failed, FailedTemp, Processing, RolledBack, RollingBack}
use Rattle.lcm_events.specs.declared.states.OpState.TheVariants.{Starting}
use Rattle.lcm_laws.specs.Planning.{PlansAreSmall}
use Rattle.lcm_laws.proofs.GrantLaws.{granted_grant}
use Rattle.lcm_laws.proofs.HoldLaws.{changes_of}
use Rattle.lcm_laws.proofs.Lists.{by_test}
use Rattle.lcm_model.specs.Allowed.{IsLegalWithin}
use Rattle.lcm_model.specs.Attempts.{attempts, is_of, is_of_occurrence, net, open_attempts, open_of, open_tags}
use Rattle.lcm_model.specs.Grants.{grant, has_ended, is_granted, location}
use Rattle.lcm_model.specs.Moves.{is_active, is_final, state}
use Rattle.lcm_model.specs.Next.{begin_of, chosen, end_of, first_open, free, goes_on, is_none_open, next_action, next_at_work, next_in}
use Rattle.lcm_model.specs.Next.{next_while_asking, only_when}
use Rattle.lcm_model.specs.Operations.{changes, operation, operations}
use Rattle.lcm_model.specs.Since.{has_trouble, is_cancelled, is_forced}
use Rattle.lcm_model.specs.Words.{first, first_some, last, when}
use Rattle.lcm_model.specs.Work.{gives_up, window}
use Rattle.lcm_model.specs.declared.actions.Action.{Action}
use Rattle.lcm_model.specs.declared.actions.Action.TheVariants.{AbortAndLook, AskForGrant, Begin, Look, MoveTo, Poll}
use Rattle.change_planner.specs.Free.{AreOfOccurrence, free_by}
use Rattle.change_planner.proofs.FreeLaws.{chosen_in_history, chosen_known}
use Rattle.occ_table.specs.Ended.{is_over, kept, kept_grant, kept_where}
use Rattle.occ_table.specs.Rows.{cancel, numbers, occurrence, pending_of, pendings, row}
use Rattle.occ_table.specs.Steps.{gives_up_row, has_open_at, is_forced_mode}
use Rattle.occ_table.specs.declared.pending.Pending.{Pending}
use Rattle.occ_table.specs.declared.rows.OccRow.{OccRow}
use Rattle.occ_table.proofs.JudgeLaws.{found_in, found_row}
use Rattle.occ_table.proofs.MoveLaws.{cancelled_row, forced_row}
use Rattle.occ_table.proofs.PendingSteps.{any_reverse}
use Rattle.occ_steps.specs.Active.{IsActive}
use Rattle.occ_steps.specs.Steps.{IsWorkable, asking_by_row, begin_tag, busy_in, first_tag, goes_on_row, is_stopped_row, leaving_by_row}
use Rattle.occ_steps.specs.Steps.{next_at, next_by_row, next_in_state, next_tag, working_by_row}
use Rattle.occ_steps.proofs.ActiveLemmas.{active_on, active_state, has_row}
use Rattle.occ_steps.proofs.RiseLemmas.{phases_rise}

some_map : {A B : Type 0} → (f : A → B) (x : Option A) → is_some (option_map f x) ≡ is_some x
some_map f None = refl
some_map f (Some a) = refl

granted_row : (H : List Event) (a : Operation) → is_some (row H a).grant ≡ is_granted H a.occ
granted_row H a = some_map (kept_grant (is_over H a.occ)) (grant H a.occ) ∙ sym (granted_grant H a.occ)

gives_up_same : (H : List Event) (a : Operation) → gives_up_row (row H a) ≡ gives_up H a.occ
gives_up_same H a =
    ap (λ (f : Bool). f || (has_ended H a.occ && not (is_some (row H a).grant)) || (is_some (row H a).grant && is_some (cancel H a.occ)))
    (forced_row H a.occ)
    ∙ (ap (λ (g : Bool). is_forced H a.occ || (has_ended H a.occ && not g) || (g && is_some (cancel H a.occ))) (granted_row H a)
    ∙ ap (λ (c : Bool). is_forced H a.occ || (has_ended H a.occ && not (is_granted H a.occ)) || (is_granted H a.occ && c))
    (cancelled_row H a.occ))

-- the action by three tests: it is given up, it was granted, a location is known
abbrev by_tests : Bool → Bool → Bool → Action
by_tests up granted told = if up then MoveTo RolledBack else (if granted then MoveTo Processing else (if told then Poll else AskForGrant))

tabled : (up granted told : Bool) → first_some (when up (MoveTo RolledBack) ∷ when granted (MoveTo Processing) ∷ when told Poll
    ∷ Some AskForGrant ∷ []) ≡ Some (by_tests up granted told)
tabled true granted told = refl
tabled false true told = refl
tabled false false true = refl
tabled false false false = refl

-- the location is kept until the occurrence is over
kept_location : (H : List Event) (a : Operation) → is_over H a.occ ≡ false → (row H a).location ≡ location H a.occ
kept_location H a on = ap (λ (over : Bool). kept_where over (location H a.occ)) on

asking_row : (H : List Event) (a : Operation) → state H a.occ ≡ Starting → next_while_asking H a.occ ≡ Some (asking_by_row (row H a))
asking_row H a starting =
    let told : Bool = is_some (location H a.occ) in
    tabled (gives_up H a.occ) (is_granted H a.occ) told
    ∙ (ap (λ (up : Bool). Some (by_tests up (is_granted H a.occ) told)) (sym (gives_up_same H a))
    ∙ (ap (λ (granted : Bool). Some (by_tests (gives_up_row (row H a)) granted told)) (sym (granted_row H a))
    ∙ ap (λ (at : Option (List ℕ)). Some (by_tests (gives_up_row (row H a)) (is_some (row H a).grant) (is_some at)))
    (sym (kept_location H a (ap is_final starting)))))

first_end : {A : Type 0} → (xs : List A) (y : A) → first (xs ++ y ∷ []) ≡ Some (unwrap_or (first xs) y)
first_end [] y = refl
first_end (x ∷ xs) y = refl

mapped_or : {A B : Type 0} → (f : A → B) (x : Option A) (y : A)
    → Some (unwrap_or (option_map f x) (f y)) ≡ option_map f (Some (unwrap_or x y))
mapped_or f None y = refl
mapped_or f (Some x) y = refl

first_mapped : {A B : Type 0} → (f : A → B) (xs : List A) → first (reverse (map f xs)) ≡ option_map f (last xs)
first_mapped f [] = refl
first_mapped f (x ∷ xs) =
    ap first (reverse-cons (f x) (map f xs))
    ∙ (first_end (reverse (map f xs)) (f x)
    ∙ (ap (λ y. Some (unwrap_or y (f x))) (first_mapped f xs) ∙ mapped_or f (last xs) x))

-- the open attempt that began first is the first of the row
first_pending : (H : List Event) (o : ℕ) → first (pendings H o) ≡ option_map (pending_of H) (first_open H o)
first_pending H o = first_mapped (pending_of H) (open_of H o)

-- the tag of the open attempt that began first
first_row : (H : List Event) (a : Operation) → first_tag (row H a) ≡ first_open H a.occ
first_row H a =
    ap (λ (x : Option Pending). option_map (λ (p : Pending). p.tag) x) (first_pending H a.occ) ∙ again (first_open H a.occ) where
      again : (x : Option Tag) → option_map (λ (p : Pending). p.tag) (option_map (pending_of H) x) ≡ x
      again None = refl
      again (Some t) = refl

long_row : (H : List Event) (o : ℕ) → length (pendings H o) ≡ length (open_of H o)
long_row H o = length-reverse (map (pending_of H) (open_of H o)) ∙ length-map (open_of H o) (pending_of H)

stopped_row : (H : List Event) (a : Operation) → is_stopped_row (row H a) ≡ (has_trouble H a.occ || is_cancelled H a.occ)
stopped_row H a = ap (λ (c : Bool). has_trouble H a.occ || c) (cancelled_row H a.occ)

goes_row : (H : List Event) (a : Operation) → goes_on_row (row H a) ≡ goes_on H a.occ
goes_row H a =
    ap (λ (b : Bool). not b && nat_lt (length (pendings H a.occ)) window) (stopped_row H a)
    ∙ ap (λ (n : ℕ). not (has_trouble H a.occ || is_cancelled H a.occ) && nat_lt n window) (long_row H a.occ)

any_map : {A B : Type 0} → (p : B → Bool) (f : A → B) (xs : List A) → list_any p (map f xs) ≡ list_any (λ x. p (f x)) xs
any_map p f [] = refl
any_map p f (x ∷ xs) = ap (λ (b : Bool). p (f x) || b) (any_map p f xs)

some_at : (o c : ℕ) (ts : List Tag) → list_any (λ t. t.change == c) (filter (is_of_occurrence o) ts)
    ≡ not (is_none_open (filter (is_of o c) ts))
some_at o c [] = refl
some_at o c (t ∷ ts) = by_test (t.occ == o)
    (λ own. by_test (t.change == c)
    (λ same. rw (own, same) refl)
    (λ other. rw (own, other) (some_at o c ts)))
    (λ away. rw away (some_at o c ts))

-- an attempt at a change is open where the row has one
busy_row : (H : List Event) (o c : ℕ) → has_open_at c (pendings H o) ≡ not (is_none_open (open_attempts H o c))
busy_row H o c =
    any_reverse (λ (p : Pending). p.tag.change == c) (map (pending_of H) (open_of H o))
    ∙ (any_map (λ (p : Pending). p.tag.change == c) (pending_of H) (open_of H o)
    ∙ some_at o c (open_tags H))

get_made : {A : Type 0} → (f : ℕ → A) (k n j : ℕ) → j < n → slice_get (map f (range_with_len k n)) j ≡ Some (f (k + j))
get_made f k zero j h = absurd (omega (arith, h))
get_made f k (suc n) zero h = let same : k ≡ k + 0 = omega arith in ap (λ (m : ℕ). Some (f m)) same
get_made f k (suc n) (suc j) h =
    let same : (k + 1) + j ≡ k + suc j = omega arith in
    get_made f (k + 1) n j (omega (arith, h)) ∙ ap (λ (m : ℕ). Some (f m)) same

-- the row has the changes of its occurrence, their nets, and which of them have an open attempt
row_of_occurrence : (H : List Event) (a : Operation) → operation H a.occ ≡ Some a
    → AreOfOccurrence H a.occ (row H a).changes (row H a).nets (busy_in (row H a))
row_of_occurrence H a found = record {
  changes = sym (changes_of H a.occ a found);
  nets = λ c less. get_made (net H a.occ) 0 (length a.changes) c less ∙ ap (λ (n : ℕ). Some (net H a.occ n)) (zeroth c);
  flags = λ c less.
      get_made (λ n. has_open_at n (pendings H a.occ)) 0 (length a.changes) c less
      ∙ (ap (λ (n : ℕ). Some (has_open_at n (pendings H a.occ))) (zeroth c) ∙ ap Some (busy_row H a.occ c));
} where
  zeroth : (n : ℕ) → 0 + n ≡ n
  zeroth n = omega arith

-- the change that is attempted next is that of the row
next_row : (H : List Event) (a : Operation) (way : Way) → operation H a.occ ≡ Some a → next_at way (row H a) ≡ chosen way (free H a.occ way)
next_row H a way found =
    chosen_in_history way H a.occ (row H a).changes (row H a).nets (busy_in (row H a)) (next_at way (row H a)) (row_of_occurrence H a found)
    refl

-- how many attempts there were at a change
abbrev tried : List Event → ℕ → ℕ → ℕ
tried H o c = length (attempts H o c)

-- as many attempts were made as the row says, until the occurrence is over
tries_row : (H : List Event) (a : Operation) (c : ℕ) → is_over H a.occ ≡ false → c < length a.changes
    → unwrap_or (slice_get (row H a).attempts c) 0 ≡ tried H a.occ c
tries_row H a c on within =
    let zeroth : 0 + c ≡ c = omega arith in
    ap (λ (over : Bool). unwrap_or (slice_get (kept over (map (tried H a.occ) (numbers a))) c) 0) on
    ∙ ap (λ (x : Option ℕ). unwrap_or x 0) (get_made (tried H a.occ) 0 (length a.changes) c within
    ∙ ap (λ (m : ℕ). Some (tried H a.occ m)) zeroth)

begin_row : (H : List Event) (a : Operation) (way : Way) (c : ℕ) → is_over H a.occ ≡ false → c < length a.changes
    → begin_of H a.occ way c ≡ Begin (next_tag a.occ way (row H a) c)
begin_row H a way c on within = ap (λ (n : ℕ). Begin (record { occ = a.occ; change = c; attempt = n + 1; way = way }))
    (sym (tries_row H a c on within))

-- the begin of the attempt that may begin next is that of the row
begins_row : (H : List Event) (a : Operation) (way : Way) (goes : Bool) (x : Option ℕ) → is_over H a.occ ≡ false
    → ((c : ℕ) → x ≡ Some c → c < length a.changes)
    → only_when goes (option_map (begin_of H a.occ way) x) ≡ option_map Begin (only_when goes (option_map (next_tag a.occ way (row H a)) x))
begins_row H a way false x on known = refl
begins_row H a way true None on known = refl
begins_row H a way true (Some c) on known = ap Some (begin_row H a way c on (known c refl))

-- the action by a FORCEFUL cancel, the open attempt that began first, the one that begins, and what is left for
tabled_work : (forced stops : Bool) (t b : Option Tag) (last : Action)
    → first_some (only_when forced (option_map AbortAndLook t) ∷ option_map Begin b ∷ option_map Look t ∷ when stops (MoveTo FailedTemp)
    ∷ Some last ∷ [])
    ≡ Some (unwrap_or (first_some (only_when forced (option_map AbortAndLook t) ∷ option_map Begin b ∷ option_map Look t ∷ []))
    (if stops then MoveTo FailedTemp else last))
tabled_work true stops (Some t) b last = refl
tabled_work true stops None (Some b) last = refl
tabled_work true true None None last = refl
tabled_work true false None None last = refl
tabled_work false stops t (Some b) last = refl
tabled_work false stops (Some t) None last = refl
tabled_work false true None None last = refl
tabled_work false false None None last = refl

-- the table of a history's occurrence, by what its lines ask
abbrev work_table : Bool → Option Tag → Option Action → Bool → Action → Option Action
work_table forced t begin stops last =
    first_some (only_when forced (option_map AbortAndLook t) ∷ begin ∷ option_map Look t ∷ when stops (MoveTo FailedTemp) ∷ Some last ∷ [])

working_row : (H : List Event) (a : Operation) (way : Way) → operation H a.occ ≡ Some a → is_over H a.occ ≡ false
    → next_at_work H a.occ way ≡ Some (working_by_row a.occ way (row H a))
working_row H a way found on =
    let o : ℕ = a.occ in
    let r : OccRow = row H a in
    let stops : Bool = has_trouble H o || is_cancelled H o in
    let begin : Option Action = only_when (goes_on H o) (option_map (begin_of H o way) (chosen way (free H o way))) in
    let begins : begin ≡ option_map Begin (begin_tag o way r) =
    ap (λ (x : Option ℕ). only_when (goes_on H o) (option_map (begin_of H o way) x)) (sym (next_row H a way found))
    ∙ (ap (λ (g : Bool). only_when g (option_map (begin_of H o way) (next_at way r))) (sym (goes_row H a))
    ∙ begins_row H a way (goes_on_row r) (next_at way r) on (chosen_known way r.changes r.nets (busy_in r))) in
    ap (λ (f : Bool). work_table f (first_open H o) begin stops (MoveTo (end_of way))) (sym (forced_row H o))
    ∙ (ap (λ (t : Option Tag). work_table (is_forced_mode r.cancel) t begin stops (MoveTo (end_of way))) (sym (first_row H a))
    ∙ (ap (λ (b : Option Action). work_table (is_forced_mode r.cancel) (first_tag r) b stops (MoveTo (end_of way))) begins
    ∙ (ap (λ (s : Bool). work_table (is_forced_mode r.cancel) (first_tag r) (option_map Begin (begin_tag o way r)) s (MoveTo (end_of way)))
    (sym (stopped_row H a))
    ∙ tabled_work (is_forced_mode r.cancel) (is_stopped_row r) (first_tag r) (begin_tag o way r) (MoveTo (end_of way)))))

by_state : (H : List Event) (a : Operation) (s : OpState) → operation H a.occ ≡ Some a → state H a.occ ≡ s → is_active s ≡ true
    → next_in s H a.occ ≡ Some (next_in_state s a.occ (row H a))
by_state H a Starting found at on = asking_row H a at
by_state H a Processing found at on = working_row H a Forward found (ap is_final at)
by_state H a RollingBack found at on = working_row H a Undo found (ap is_final at)
by_state H a FailedTemp found at on = cc
by_state H a Completed found at on = cc
by_state H a Failed found at on = cc
by_state H a RolledBack found at on = cc

-- the next action of an active occurrence is that of its row
pub next_of_row : (H : List Event) (o : ℕ) (r : OccRow) → IsActive H o → occurrence H o ≡ Some r → next_action H o ≡ Some (next_by_row o r)
next_of_row H o r is found =
    let mine = found_row H o r found in
    let a : Operation = mine.0 in
    let here : operation H a.occ ≡ Some a = ap (operation H) mine.2 ∙ mine.1 in
    let on : is_active (state H a.occ) ≡ true = subst (λ (n : ℕ). is_active (state H n) ≡ true) (sym mine.2) (active_state H o is) in
    let own : next_action H a.occ ≡ next_in (state H a.occ) H a.occ =
    ap (option_and_then (λ (b : Operation). next_in (state H a.occ) H a.occ)) here in
    ap (next_action H) (sym mine.2)
    ∙ (own
    ∙ (by_state H a (state H a.occ) here refl on
    ∙ (ap (λ (n : ℕ). Some (next_by_row n (row H a))) mine.2 ∙ ap (λ (x : OccRow). Some (next_by_row o x)) mine.3)))

tried_step : (time : ℕ) (k : EventKind) (H : List Event) (o c : ℕ) → tried H o c ≤ length H
    → tried (record { moment = time; kind = k } ∷ H) o c ≤ length H + 1
tried_step time (Intent t) H o c h = by_test (is_of o c t) (λ own. rw own (omega (arith, h))) (λ other. rw other (omega (arith, h)))
tried_step time _ H o c h = omega (arith, h)

-- no more attempts were made at a change than there are events
few_tried : (H : List Event) (o c : ℕ) → tried H o c ≤ length H
few_tried [] o c = omega arith
few_tried (e ∷ H) o c = let step : tried (e ∷ H) o c ≤ length H + 1 = tried_step e.moment e.kind H o c (few_tried H o c) in
    omega (arith, step)

of_kept : (over : Bool) (xs : List ℕ) (c n : ℕ) → slice_get (kept over xs) c ≡ Some n → slice_get xs c ≡ Some n
of_kept true xs c n e = cc
of_kept false xs c n e = e

of_mapped : (f : ℕ → ℕ) (ns : List ℕ) (c n : ℕ) → slice_get (map f ns) c ≡ Some n → (m : ℕ) × (f m ≡ n)
of_mapped f [] c n e = cc
of_mapped f (m ∷ ns) zero n e = (m, cc)
of_mapped f (m ∷ ns) (suc c) n e = of_mapped f ns c n e

-- the row of a history of few events can be worked on
pub row_fits : PlansAreSmall → (m : ℕ) (H : List Event) (o : ℕ) (r : OccRow) → IsLegalWithin window m H → length H < 268435456
    → occurrence H o ≡ Some r → IsWorkable r
row_fits small m H o r legal few found =
    let mine = found_row H o r found in
    let a : Operation = mine.0 in
    let among = found_in (λ x. x.occ) (operations H) o a mine.1 in
    subst IsWorkable mine.3 (record {
      few = small window m H legal a among;
      phases = phases_rise window m H legal a among;
      nets = length-map (numbers a) (net H a.occ) ∙ length-range_with_len 0 (length a.changes);
      attempts = λ c n at.
          let from = of_mapped (tried H a.occ) (numbers a) c n (of_kept (is_over H a.occ) (map (tried H a.occ) (numbers a)) c n at) in
          let most = few_tried H a.occ from.0 in
          let is = from.1 in
          omega (arith, most, is, few);
    })

-- the next change is one of the row
pub next_known : (way : Way) (r : OccRow) (x : Option ℕ) (c : ℕ) → x ≡ next_at way r → x ≡ Some c → c < length r.changes
next_known way r x c is found = chosen_known way r.changes r.nets (busy_in r) c (sym is ∙ found)

-- the flags of the changes are those of the row
busy_is : (n : ℕ) (bs : List Bool) (ps : List Pending) → n ≤ length bs → ((c : ℕ) → c < length bs → get_or bs c false ≡ has_open_at c ps)
    → take n bs ≡ map (λ c. has_open_at c ps) (range_with_len 0 n)
busy_is n bs ps enough marked =
    let long : length (map (λ c. has_open_at c ps) (range_with_len 0 n)) ≡ n =
    length-map (range_with_len 0 n) (λ c. has_open_at c ps) ∙ length-range_with_len 0 n in
    let taken : length (take n bs) ≡ n = length-take-le n bs enough in
    ext_get_or false (take n bs) (map (λ c. has_open_at c ps) (range_with_len 0 n)) (taken ∙ sym long)
    (λ c less.
    let within : c < n = omega (arith, less, taken) in
    let zeroth : 0 + c ≡ c = omega arith in
    get_or-take n bs c false within
    ∙ (marked c (omega (arith, within, enough))
    ∙ sym (get_or_from_slice_get (map (λ m. has_open_at m ps) (range_with_len 0 n)) c (has_open_at c ps) false
    (get_made (λ m. has_open_at m ps) 0 n c within ∙ ap (λ (m : ℕ). Some (has_open_at m ps)) zeroth))))

-- so that what is found by them is the change of the row that is attempted next
pub found_next : (way : Way) (r : OccRow) (xs : List Change) (ns : List ℕ) (bs : List Bool) (ps : List Pending) (x : Option ℕ)
    → xs ≡ r.changes → ns ≡ r.nets → ps ≡ r.pending → length r.changes ≤ length bs
    → ((c : ℕ) → c < length bs → get_or bs c false ≡ has_open_at c ps)
    → x ≡ chosen way (free_by way xs ns (take (length xs) bs)) → x ≡ next_at way r
found_next way r xs ns bs ps x plan made begun enough marked is =
    is
    ∙ (ap (λ (ys : List Change). chosen way (free_by way ys ns (take (length ys) bs))) plan
    ∙ (ap (λ (ms : List ℕ). chosen way (free_by way r.changes ms (take (length r.changes) bs))) made
    ∙ (ap (λ (fs : List Bool). chosen way (free_by way r.changes r.nets fs)) (busy_is (length r.changes) bs ps enough marked)
    ∙ ap (λ (qs : List Pending). chosen way (free_by way r.changes r.nets
    (map (λ c. has_open_at c qs) (range_with_len 0 (length r.changes)))))
    begun)))

-- the location is that of the row
pub location_of_row : (H : List Event) (o : ℕ) (r : OccRow) → IsActive H o → occurrence H o ≡ Some r → location H o ≡ r.location
location_of_row H o r is found =
    let mine = found_row H o r found in
    ap (location H) (sym mine.2)
    ∙ (sym (kept_location H mine.0 (ap (λ (n : ℕ). is_final (state H n)) mine.2 ∙ active_on H o is))
    ∙ ap (λ (x : OccRow). x.location) mine.3)

not_leaving_polls : (way : Way) (stops : Bool) → (if stops then MoveTo FailedTemp else MoveTo (end_of way)) ≡ Poll → ⊥
not_leaving_polls way true e = cc
not_leaving_polls way false e = cc

-- a location is known where the next action is to poll it
polls_known : (o : ℕ) (r : OccRow) → next_by_row o r ≡ Poll → r.location ≡ None → ⊥
polls_known o r polls none = in_state r.state polls where
  asking : (up granted : Bool) → (if up then MoveTo RolledBack else (if granted then MoveTo Processing else AskForGrant)) ≡ Poll → ⊥
  asking true granted e = cc
  asking false true e = cc
  asking false false e = cc

  working : (way : Way) (forced : Bool) (t b : Option Tag) → unwrap_or (first_some (only_when forced (option_map AbortAndLook t)
      ∷ option_map Begin b ∷ option_map Look t ∷ [])) (leaving_by_row way r) ≡ Poll → ⊥
  working way true (Some t) b e = cc
  working way true None (Some b) e = cc
  working way true None None e = not_leaving_polls way (is_stopped_row r) e
  working way false t (Some b) e = cc
  working way false (Some t) None e = cc
  working way false None None e = not_leaving_polls way (is_stopped_row r) e

  in_state : (s : OpState) → next_in_state s o r ≡ Poll → ⊥
  in_state Starting e = asking (gives_up_row r) (is_some r.grant) (rw none at e)
  in_state RollingBack e = working Undo (is_forced_mode r.cancel) (first_tag r) (begin_tag o Undo r) e
  in_state _ e = working Forward (is_forced_mode r.cancel) (first_tag r) (begin_tag o Forward r) e

not_leaving_begins : (way : Way) (stops : Bool) (t : Tag) → (if stops then MoveTo FailedTemp else MoveTo (end_of way)) ≡ Begin t → ⊥
not_leaving_begins way true t e = cc
not_leaving_begins way false t e = cc

begun_own : (o : ℕ) (way : Way) (r : OccRow) (goes : Bool) (x : Option ℕ) (t : Tag)
    → only_when goes (option_map (next_tag o way r) x) ≡ Some t → t.occ ≡ o
begun_own o way r true (Some c) t e = let same : next_tag o way r c ≡ t = cc in sym (ap (λ (u : Tag). u.occ) same)
begun_own o way r true None t e = cc
begun_own o way r false x t e = cc

-- an attempt that begins is of the occurrence
begins_of : (o : ℕ) (r : OccRow) (t : Tag) → next_by_row o r ≡ Begin t → t.occ ≡ o
begins_of o r t begins = in_state r.state begins where
  asking : (up granted told : Bool) → (if up then MoveTo RolledBack
      else (if granted then MoveTo Processing else (if told then Poll else AskForGrant))) ≡ Begin t → t.occ ≡ o
  asking true granted told e = cc
  asking false true told e = cc
  asking false false true e = cc
  asking false false false e = cc

  working : (way : Way) (forced : Bool) (u b : Option Tag) → begin_tag o way r ≡ b
      → unwrap_or (first_some (only_when forced (option_map AbortAndLook u) ∷ option_map Begin b ∷ option_map Look u ∷ []))
      (leaving_by_row way r) ≡ Begin t
      → t.occ ≡ o
  working way true (Some u) b is e = cc
  working way true None (Some b) is e = let same : b ≡ t = cc in
      begun_own o way r (goes_on_row r) (next_at way r) t (is ∙ ap Some same)
  working way true None None is e = absurd (not_leaving_begins way (is_stopped_row r) t e)
  working way false u (Some b) is e = let same : b ≡ t = cc in
      begun_own o way r (goes_on_row r) (next_at way r) t (is ∙ ap Some same)
  working way false (Some u) None is e = cc
  working way false None None is e = absurd (not_leaving_begins way (is_stopped_row r) t e)

  in_state : (s : OpState) → next_in_state s o r ≡ Begin t → t.occ ≡ o
  in_state Starting e = asking (gives_up_row r) (is_some r.grant) (is_some r.location) e
  in_state RollingBack e = working Undo (is_forced_mode r.cancel) (first_tag r) (begin_tag o Undo r) refl e
  in_state _ e = working Forward (is_forced_mode r.cancel) (first_tag r) (begin_tag o Forward r) refl e

pub begins_own : (H : List Event) (o : ℕ) (t : Tag) → IsActive H o → next_action H o ≡ Some (Begin t) → t.occ ≡ o
begins_own H o t is next = of (occurrence H o) refl where
  of : (x : Option OccRow) → occurrence H o ≡ x → t.occ ≡ o
  of None found = absurd (has_row H o is found)
  of (Some r) found =
      let both : Some (next_by_row o r) ≡ Some (Begin t) = sym (next_of_row H o r is found) ∙ next in
      let same : next_by_row o r ≡ Begin t = cc in
      begins_of o r t same

-- so that it is the next action of its own occurrence, which is active
pub begins_there : (H : List Event) (o : ℕ) (t : Tag) → IsActive H o → next_action H o ≡ Some (Begin t)
    → IsActive H t.occ × (next_action H t.occ ≡ Some (Begin t))
begins_there H o t is next =
    let own = sym (begins_own H o t is next) in
    (subst (λ (n : ℕ). IsActive H n) own is, subst (λ (n : ℕ). next_action H n ≡ Some (Begin t)) own next)

-- and so where it is the next action of an active occurrence
pub polled_row : (H : List Event) (o : ℕ) (r : OccRow) → IsActive H o → occurrence H o ≡ Some r → next_action H o ≡ Some Poll
    → r.location ≡ None → ⊥
polled_row H o r is found polls none =
    let both : Some (next_by_row o r) ≡ Some Poll = sym (next_of_row H o r is found) ∙ polls in
    let same : next_by_row o r ≡ Poll = cc in
    polls_known o r same none

-- the changes are those of the row
pub changes_of_row : (H : List Event) (o : ℕ) (r : OccRow) → occurrence H o ≡ Some r → changes H o ≡ r.changes
changes_of_row H o r found =
    let mine = found_row H o r found in
    ap (λ (x : Option Operation). option_map_or (λ a. a.changes) x []) mine.1 ∙ ap (λ (x : OccRow). x.changes) mine.3
