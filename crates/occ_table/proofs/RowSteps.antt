-- What each event makes of a row.
use Rattle.occ_table.proofs.ChangeSteps.{attempts-begun, attempts-begun_other, nets-ended, nets-ended_other}
use Rattle.std.proofs.Common.{◌≡◌, ◌<◌, ◌+◌, ◌||◌, ◌==◌, ◌∙◌, ℕ, List, ◌∷◌, suc, Bool, true, false, cond, Option, None, Some, refl, ap, map}
use Rattle.std.proofs.Common.{subst, min, arith, nat_le, eqb-true, leb-false, length, ◌≤◌}
use Rattle.std.specs.List.{list_any}
use Rattle.std.specs.Option.{option_map_or}
use Rattle.lcm_events.specs.declared.events.Event.{Event}
use Rattle.lcm_events.specs.declared.events.EventKind.{EventKind}
use Rattle.lcm_events.specs.declared.events.EventKind.TheVariants.{CancelAsked, Denied, GrantTried, Granted, Intent, CallFailed, Settled}
use Rattle.lcm_events.specs.declared.events.EventKind.TheVariants.{Moved}
use Rattle.lcm_events.specs.declared.events.GrantTry.{GrantTry}
use Rattle.lcm_events.specs.declared.events.GrantTry.TheVariants.{Later, NotCovering, Trouble}
use Rattle.lcm_events.specs.declared.events.Operation.{Operation}
use Rattle.lcm_events.specs.declared.states.CancelMode.{CancelMode}
use Rattle.lcm_events.specs.declared.states.CancelMode.TheVariants.{Forceful, Graceful}
use Rattle.lcm_model.specs.Allowed.{IsAllowedWithin, IsLegalWithin}
use Rattle.lcm_model.specs.Grants.{answers, has_ended, is_last, troubled_tries}
use Rattle.lcm_model.specs.Since.{is_cancelled, is_forced}
use Rattle.lcm_model.specs.Words.{otherwise, told, when}
use Rattle.lcm_events.specs.declared.attempts.Outcome.{Outcome}
use Rattle.lcm_events.specs.declared.attempts.Outcome.TheVariants.{Aborted, Broken, Done, NotBegun}
use Rattle.lcm_events.specs.declared.attempts.Tag.{Tag}
use Rattle.lcm_model.specs.Attempts.{is_open, net}
use Rattle.lcm_model.specs.Operations.{operations}
use Rattle.lcm_model.specs.Words.{IsIn}
use Rattle.lcm_model.specs.Work.{net_before}
use Rattle.lcm_laws.proofs.BoundLaws.{plans_small}
use Rattle.lcm_laws.proofs.NetLaws.{open_fits}
use Rattle.occ_table.specs.Phases.{tallies, tally_after}
use Rattle.occ_table.proofs.PhaseLaws.{tally-ended}
use Rattle.occ_table.specs.declared.causes.Cause.{Cause}
use Rattle.occ_table.specs.declared.causes.Cause.TheVariants as causes
use Rattle.lcm_model.specs.Operations.{occurrence_of}
use Rattle.lcm_laws.proofs.Histories.{event}
use Rattle.lcm_laws.proofs.Lists.{by_test}
use Rattle.occ_table.specs.Rows.{cancel, cause, cause_in, cause_of_end, nets, pendings, row}
use Rattle.occ_table.specs.Steps.{after_answer, after_cancel, cause_among, row_after}
use Rattle.lcm_model.specs.Attempts.{is_unsettled}
use Rattle.occ_table.specs.declared.pending.Pending.{Pending}
use Rattle.lcm_events.specs.declared.states.OpState.TheVariants.{Starting}
use Rattle.lcm_model.specs.Attempts.{attempts}
use Rattle.lcm_model.specs.Grants.{grant, location}
use Rattle.lcm_model.specs.Moves.{state}
use Rattle.lcm_model.specs.Work.{works_in}
use Rattle.lcm_laws.proofs.HoldLaws.{moved_from}
use Rattle.occ_table.specs.Ended.{is_over, kept}
use Rattle.occ_table.specs.Rows.{numbers}
use Rattle.occ_table.proofs.EndedLaws.{begun_row, kept_set, moved_row, starting_not_over, works_not_over}
use Rattle.occ_table.proofs.PendingSteps.{known_failed, pendings-begun, pendings-begun_other, pendings-ended, pendings-ended_other}
use Rattle.occ_table.proofs.PendingSteps.{pendings-failed, pendings-failed_other, trouble-settled, trouble-settled_other}
use Rattle.occ_table.proofs.UsedSteps.{first_cons, used_told, uses-ended, uses-ended_other}
use Rattle.occ_table.specs.declared.rows.OccRow.{OccRow}
use Rattle.occ_table.specs.declared.used.Used.{Used}

-- what an event of this moment makes of the row of this occurrence, by which a change has used something, or nothing
abbrev pub row_by : ℕ → Option Used → EventKind → ℕ → OccRow → OccRow
row_by time x k o r = cond (option_map_or (λ n. n == o) (occurrence_of k) false) (row_after time x k r) r

by_own : (b : Bool) (r s : OccRow) → b ≡ true → r ≡ cond b r s
by_own true r s e = refl
by_own false r s e = cc

by_other : (b : Bool) (r s : OccRow) → b ≡ false → s ≡ cond b r s
by_other true r s e = cc
by_other false r s e = refl

with_pending : (r : OccRow) (p q : List Pending) → p ≡ q → record r { pending = p } ≡ record r { pending = q }
with_pending r p q e = ap (λ (x : List Pending). record r { pending = x }) e

with_begun : (r : OccRow) (p q : List Pending) (m n : List ℕ) → p ≡ q → m ≡ n
    → record r { pending = p; attempts = m } ≡ record r { pending = q; attempts = n }
with_begun r p q m n e f =
    ap (λ (x : List Pending). record r { pending = x; attempts = m }) e ∙ ap (λ (x : List ℕ). record r { pending = q; attempts = x }) f

with_settled : (r : OccRow) (a b : Bool) (x y : Option Cause) (p q : List Pending) (m n : List ℕ) (v w i j : List ℕ)
    (s t : List (Option Used)) → a ≡ b → x ≡ y → p ≡ q → m ≡ n → v ≡ w → i ≡ j → s ≡ t
    → record r { trouble = a; cause = x; pending = p; nets = m; waiting = v; made = i; used = s }
    ≡ record r { trouble = b; cause = y; pending = q; nets = n; waiting = w; made = j; used = t }
with_settled r a b x y p q m n v w i j s t e f g h k l u =
    ap (λ (z : Bool). record r { trouble = z; cause = x; pending = p; nets = m; waiting = v; made = i; used = s }) e
    ∙ (ap (λ (z : Option Cause). record r { trouble = b; cause = z; pending = p; nets = m; waiting = v; made = i; used = s }) f
    ∙ (ap (λ (z : List Pending). record r { trouble = b; cause = y; pending = z; nets = m; waiting = v; made = i; used = s }) g
    ∙ (ap (λ (z : List ℕ). record r { trouble = b; cause = y; pending = q; nets = z; waiting = v; made = i; used = s }) h
    ∙ (ap (λ (z : List ℕ). record r { trouble = b; cause = y; pending = q; nets = n; waiting = z; made = i; used = s }) k
    ∙ (ap (λ (z : List ℕ). record r { trouble = b; cause = y; pending = q; nets = n; waiting = w; made = z; used = s }) l
    ∙ ap (λ (z : List (Option Used)). record r { trouble = b; cause = y; pending = q; nets = n; waiting = w; made = j; used = z }) u)))))

-- the counts of an occurrence after an attempt at it has ended
tallied : (width m : ℕ) (H : List Event) (time : ℕ) (t : Tag) (outcome : Outcome) (a : Operation) (n : ℕ) → n ≤ 1 → (t.occ == a.occ) ≡ true
    → length a.changes ≤ 5000
    → IsLegalWithin width m H → is_open H t ≡ true
    → tallies n a.changes (nets (event time (Settled t outcome) ∷ H) a) ≡ tally_after n t outcome a.changes (tallies n a.changes (nets H a))
tallied width m H time t outcome a n low same few legal opened =
    let is : t.occ ≡ a.occ = eqb-true t.occ a.occ same in
    let was : net H a.occ t.change ≡ net_before t.way = subst (λ (o : ℕ). net H o t.change ≡ net_before t.way) is
    (open_fits width m H legal t opened) in
    ap (λ (ns : List ℕ). tallies n a.changes ns) (nets-ended width m H time t outcome a same legal opened)
    ∙ tally-ended n t outcome a.changes (net H a.occ) low few was

tallied_other : (H : List Event) (time : ℕ) (t : Tag) (outcome : Outcome) (a : Operation) (n : ℕ) → (t.occ == a.occ) ≡ false
    → tallies n a.changes (nets (event time (Settled t outcome) ∷ H) a) ≡ tallies n a.changes (nets H a)
tallied_other H time t outcome a n other = ap (λ (ns : List ℕ). tallies n a.changes ns) (nets-ended_other H time t outcome a other)

cause-known : (H : List Event) (t : Tag) (outcome : Outcome) (o : ℕ) → is_open H t ≡ true → (t.occ == o) ≡ true
    → cause_of_end H t outcome ≡ cause_among t outcome (pendings H o)
cause-known H t (Done name) o opened own = refl
cause-known H t (Broken code) o opened own = refl
cause-known H t Aborted o opened own = refl
cause-known H t NotBegun o opened own = ap (λ (b : Bool). when b (causes.CallFailed t.change)) (known_failed H t o opened own)

cause-settled : (H : List Event) (time : ℕ) (t : Tag) (outcome : Outcome) (o : ℕ) → is_open H t ≡ true → (t.occ == o) ≡ true
    → cause (event time (Settled t outcome) ∷ H) o ≡ otherwise (cause_among t outcome (pendings H o)) (cause H o)
cause-settled H time t outcome o opened own =
    first_cons (cause_in o H (Settled t outcome)) (told (cause_in o) H)
    ∙ ap (λ (x : Option Cause). otherwise x (cause H o)) (rw own (cause-known H t outcome o opened own))

cause-settled_other : (H : List Event) (time : ℕ) (t : Tag) (outcome : Outcome) (o : ℕ) → (t.occ == o) ≡ false
    → cause (event time (Settled t outcome) ∷ H) o ≡ cause H o
cause-settled_other H time t outcome o other = rw other refl

graceful : (f c : Bool) → cond f (Some Forceful) (Some Graceful)
    ≡ after_cancel Graceful (cond f (Some Forceful) (cond c (Some Graceful) None))
graceful true c = refl
graceful false true = refl
graceful false false = refl

-- one more cancel
cancel-next : (mode : CancelMode) (H : List Event) (time n o : ℕ) → (n == o) ≡ true
    → cancel (event time (CancelAsked n mode) ∷ H) o ≡ after_cancel mode (cancel H o)
cancel-next Forceful H time n o same = rw same refl
cancel-next Graceful H time n o same = rw same (graceful (is_forced H o) (is_cancelled H o))

with_cancel : (r : OccRow) (c d : Option CancelMode) (x y : Option Cause) → c ≡ d → x ≡ y
    → record r { cancel = c; cause = x } ≡ record r { cancel = d; cause = y }
with_cancel r c d x y e f =
    ap (λ (z : Option CancelMode). record r { cancel = z; cause = x }) e ∙ ap (λ (z : Option Cause). record r { cancel = d; cause = z }) f

caused : (H : List Event) (time n : ℕ) (mode : CancelMode) (o : ℕ) → (n == o) ≡ true
    → cause (event time (CancelAsked n mode) ∷ H) o ≡ Some causes.Cancelled
caused H time n mode o same = rw same refl

cancelled : (H : List Event) (time n : ℕ) (mode : CancelMode) (a : Operation) → (n == a.occ) ≡ true
    → row (event time (CancelAsked n mode) ∷ H) a ≡ row_after time None (CancelAsked n mode) (row H a)
unfolding is_unsettled
cancelled H time n mode a same = with_cancel (row H a) _ _ _ _ (cancel-next mode H time n a.occ same) (caused H time n mode a.occ same)

-- one more try in trouble, where there were fewer than five
tries-next : (a : Bool) (n : ℕ) → (a || nat_le 5 n) ≡ false → suc n ≡ min (n + 1) 255
tries-next true n h = cc
tries-next false n h = let few : n < 5 = leb-false 5 n h in omega (arith, few)

ended-next : (a : Bool) (n : ℕ) → (a || nat_le 5 n) ≡ false → (a || nat_le 5 (suc n)) ≡ ((a || nat_le 5 n) || nat_le 5 (min (n + 1) 255))
ended-next true n h = cc
ended-next false n h = rw h (ap (λ (k : ℕ). nat_le 5 k) (tries-next false n h))

with_tries : (r : OccRow) (m n : ℕ) (a b : Bool) (x y : Option Cause) → m ≡ n → a ≡ b → x ≡ y
    → record r { tries = m; ended = a; cause = x } ≡ record r { tries = n; ended = b; cause = y }
with_tries r m n a b x y e f g =
    ap (λ (z : ℕ). record r { tries = z; ended = a; cause = x }) e
    ∙ (ap (λ (z : Bool). record r { tries = n; ended = z; cause = x }) f
    ∙ ap (λ (z : Option Cause). record r { tries = n; ended = b; cause = z }) g)

answered : (H : List Event) (time n : ℕ) (answer : GrantTry) (a : Operation) → (n == a.occ) ≡ true → has_ended H a.occ ≡ false
    → is_over H a.occ ≡ false
    → row (event time (GrantTried n answer) ∷ H) a ≡ after_answer answer (row H a)
unfolding is_unsettled
answered H time n (Later at) a same going still = rw (same, still) refl
answered H time n NotCovering a same going still = rw same refl
answered H time n Trouble a same going still =
    rw same (with_tries (row H a) _ _ _ _ _ _
    (tries-next (list_any is_last (answers H a.occ)) (troubled_tries H a.occ) going)
    (ended-next (list_any is_last (answers H a.occ)) (troubled_tries H a.occ) going)
    (first_cons (when (troubled_tries H a.occ == 4) causes.NoGrant) (told (cause_in a.occ) H)))

-- what an event about an occurrence makes of a row
pub row-step : (width m : ℕ) (H : List Event) (time : ℕ) (k : EventKind) (n : ℕ) (a : Operation) → occurrence_of k ≡ Some n
    → IsIn a (operations H) → width ≤ 4 → IsLegalWithin width m H
    → IsAllowedWithin width m H k → row (event time k ∷ H) a ≡ row_by time (used_told H k) k a.occ (row H a)
unfolding is_unsettled
row-step width m H time (GrantTried o answer) n a e among wide legal allowed = by_test (o == a.occ)
    (λ same.
    let is : o ≡ a.occ = eqb-true o a.occ same in
    let going : has_ended H a.occ ≡ false = subst (λ (i : ℕ). has_ended H i ≡ false) is allowed.0.goes_on in
    let still : is_over H a.occ ≡ false = starting_not_over H a.occ (subst (λ (i : ℕ). state H i ≡ Starting) is allowed.0.starting) in
    answered H time o answer a same going still ∙ by_own (o == a.occ) _ _ same)
    (λ other. rw other refl)
row-step width m H time (Granted o grant places spots) n a e among wide legal allowed = by_test (o == a.occ)
    (λ same.
    let is : o ≡ a.occ = eqb-true o a.occ same in
    let going : is_over H a.occ ≡ false = starting_not_over H a.occ (subst (λ (i : ℕ). state H i ≡ Starting) is allowed.asking.starting) in
    rw (same, going) refl)
    (λ other. rw other refl)
row-step width m H time (Denied o) n a e among wide legal allowed = by_test (o == a.occ) (λ same. rw same refl) (λ other. rw other refl)
row-step width m H time (Moved o to) n a e among wide legal allowed = by_test (o == a.occ)
    (λ same.
    let is : o ≡ a.occ = eqb-true o a.occ same in
    let going : is_over H a.occ ≡ false = subst (λ (i : ℕ). is_over H i ≡ false) is (moved_from H o to allowed.1) in
    rw same (moved_row (row H a) time to (is_over H a.occ) (map (λ c. length (attempts H a.occ c)) (numbers a)) (location H a.occ)
    (grant H a.occ) going going))
    (λ other. rw other refl)
row-step width m H time (CancelAsked o mode) n a e among wide legal allowed = by_test (o == a.occ)
    (λ same. cancelled H time o mode a same ∙ by_own (o == a.occ) _ _ same)
    (λ other. rw other refl)
row-step width m H time (Intent t) n a e among wide legal allowed = by_test (t.occ == a.occ)
    (λ same.
    let is : t.occ ≡ a.occ = eqb-true t.occ a.occ same in
    let going : is_over H a.occ ≡ false = works_not_over H a.occ t (subst (λ (i : ℕ). state H i ≡ works_in t.way) is allowed.works) in
    with_begun (row H a) _ _ _ _ (pendings-begun width m H time t a.occ same wide legal allowed)
    (kept_set (is_over H a.occ) (map (λ c. length (attempts (event time (Intent t) ∷ H) a.occ c)) (numbers a))
    (map (λ c. length (attempts H a.occ c)) (numbers a)) t.change t.attempt going
    (attempts-begun width m H time t a same allowed)) ∙ (begun_row (row H a) t going ∙ by_own (t.occ == a.occ) _ _ same))
    (λ other. with_begun (row H a) _ _ _ _ (pendings-begun_other width m H time t a.occ other legal allowed)
    (ap (λ (ns : List ℕ). kept (is_over H a.occ) ns) (attempts-begun_other H time t a other)) ∙ by_other (t.occ == a.occ) _ _ other)
row-step width m H time (CallFailed t) n a e among wide legal allowed = by_test (t.occ == a.occ)
    (λ same. with_pending (row H a) _ _ (pendings-failed H time t a.occ) ∙ by_own (t.occ == a.occ) _ _ same)
    (λ other. with_pending (row H a) _ _ (pendings-failed_other H time t a.occ other) ∙ by_other (t.occ == a.occ) _ _ other)
row-step width m H time (Settled t outcome) n a e among wide legal allowed = by_test (t.occ == a.occ)
    (λ same.
    let few : length a.changes ≤ 5000 = plans_small width m H legal a among in
    with_settled (row H a) _ _ _ _ _ _ _ _ _ _ _ _ _ _ (trouble-settled H t outcome a.occ allowed same)
    (cause-settled H time t outcome a.occ allowed same) (pendings-ended H time t outcome a.occ)
    (nets-ended width m H time t outcome a same legal allowed)
    (tallied width m H time t outcome a 0 (omega arith) same few legal allowed)
    (tallied width m H time t outcome a 1 (omega arith) same few legal allowed)
    (uses-ended H time t outcome a same) ∙ by_own (t.occ == a.occ) _ _ same)
    (λ other. with_settled (row H a) _ _ _ _ _ _ _ _ _ _ _ _ _ _ (trouble-settled_other H t outcome a.occ other)
    (cause-settled_other H time t outcome a.occ other) (pendings-ended_other H time t outcome a.occ other)
    (nets-ended_other H time t outcome a other)
    (tallied_other H time t outcome a 0 other) (tallied_other H time t outcome a 1 other)
    (uses-ended_other H time t outcome a other) ∙ by_other (t.occ == a.occ) _ _ other)
row-step width m H time _ n a e among wide legal allowed = cc
