-- What each event makes of what is kept of a definition, and what a change used by it.
use Rattle.std.proofs.Common.{◌≡◌, ◌&&◌, ◌||◌, ◌==◌, ◌∙◌, ℕ, List, ◌∷◌, Bool, true, false, cond, not, Option, None, Some, refl, ap, sym}
use Rattle.std.proofs.Common.{subst, eqb-true, eq-eqb}
use Rattle.std.specs.List.{list_any}
use Rattle.std.specs.Prelude.{option_and_then, option_map}
use Rattle.lcm_events.specs.Same.{same_def, same_verb, same_way}
use Rattle.lcm_events.proofs.SameLaws.{same_def-refl, same_def-true}
use Rattle.lcm_events.specs.declared.attempts.Outcome.{Outcome}
use Rattle.lcm_events.specs.declared.attempts.Tag.{Tag}
use Rattle.lcm_events.specs.declared.attempts.Way.{Way}
use Rattle.lcm_events.specs.declared.attempts.Way.TheVariants.{Forward}
use Rattle.lcm_events.specs.declared.changes.Change.{Change}
use Rattle.lcm_events.specs.declared.changes.Def.{Def}
use Rattle.lcm_events.specs.declared.changes.Verb.{Verb}
use Rattle.lcm_events.specs.declared.changes.Verb.TheVariants.{Create, Remove, Start, Stop}
use Rattle.lcm_events.specs.declared.events.Event.{Event}
use Rattle.lcm_events.specs.declared.events.EventKind.{EventKind}
use Rattle.lcm_events.specs.declared.events.EventKind.TheVariants.{Moved, Settled}
use Rattle.lcm_events.specs.declared.events.Operation.{Operation}
use Rattle.lcm_events.specs.declared.states.OpState.{OpState}
use Rattle.lcm_model.specs.declared.holding.Effect.{Effect}
use Rattle.lcm_model.specs.Allowed.{IsAllowedWithin, IsLegalWithin}
use Rattle.lcm_model.specs.Attempts.{is_open}
use Rattle.lcm_model.specs.Holding.{effect_done, effect_in, effects, is_creation, is_effect_on, leaves_it, stands}
use Rattle.lcm_model.specs.Moves.{is_final, state}
use Rattle.lcm_model.specs.Operations.{operation, verb_done}
use Rattle.lcm_model.specs.Words.{first}
use Rattle.lcm_laws.proofs.Histories.{event}
use Rattle.lcm_laws.proofs.HoldLaws.{moved_from, one_value, some_value}
use Rattle.lcm_laws.proofs.Lists.{and_left, and_right, and_true, by_test, not-false, not-true}
use Rattle.lcm_laws.proofs.Members.{any_in, get_in}
use Rattle.lcm_laws.proofs.SettledLaws.{open_operation, stands-done, stands-nothing}
use Rattle.occ_table.proofs.KnownSteps.{deed_done, deeds, known-step, known_after, of_attempt, on_own, own_use, row_numbered}
use Rattle.occ_table.proofs.NeededLaws.{Source, by_last, by_none, going-away, going-moved, last_source, needed-done, needed-nothing}
use Rattle.occ_table.proofs.NeededLaws.{needed_before, of_outcome, open_on_needed, sole_going}
use Rattle.occ_table.proofs.RowsSteps.{low}
use Rattle.occ_table.proofs.UsedSteps.{used_told}
use Rattle.occ_table.specs.Needed.{entry, is_going_on, is_needed}
use Rattle.occ_table.specs.Resources.{deed_of, is_of_row, kept_after, kept_moved, learned, left, outlasting, remade, touched, used_after}
use Rattle.occ_table.specs.Resources.{used_of, where_it_stands}
use Rattle.occ_table.specs.Rows.{row, rows}
use Rattle.occ_table.specs.Descriptors.{numbered}
use Rattle.occ_table.specs.Used.{known, placed, used_by}
use Rattle.occ_table.specs.declared.resources.DoneAttempt.{DoneAttempt}
use Rattle.occ_table.specs.declared.resources.Entry.{Entry}
use Rattle.occ_table.specs.declared.rows.OccRow.{OccRow}
use Rattle.occ_table.specs.declared.used.Used.{Used}

-- what is kept of a definition that stands or doesn't, is needed or isn't, and of which this is known
abbrev kept_so : Bool → Bool → Option Used → Option Entry
kept_so s n k = option_map (λ u. record { used = u; stands = s }) (cond n k None)

used_kept : (s : Bool) (k : Option Used) → used_of (kept_so s true k) ≡ k
used_kept s None = refl
used_kept s (Some u) = refl

left_kept : (l s : Bool) (k : Option Used) → kept_so l true k ≡ option_map (left l) (kept_so s true k)
left_kept l s None = refl
left_kept l s (Some u) = refl

creation_leaves : (v : Verb) → same_verb v Create ≡ true → leaves_it v ≡ true
creation_leaves Create e = refl
creation_leaves Remove e = cc
creation_leaves Start e = cc
creation_leaves Stop e = cc

-- what is kept of a definition after an effect on it, or on another, by what was known
touched_kept : (d : DoneAttempt) (on s n : Bool) (k : Option Used)
    → (on ≡ true → (is_creation d.effect && same_way d.effect.tag.way Forward) ≡ false → n ≡ true)
    → kept_so (cond on (leaves_it d.effect.verb) s) (cond on true n) (cond (is_creation d.effect && on) (remade d k) k)
    ≡ cond on (touched d (kept_so s n k)) (kept_so s n k)
touched_kept d false s n k needs = by_test (is_creation d.effect) (λ makes. rw makes refl) (λ other. rw other refl)
touched_kept d true s n k needs = by_test (is_creation d.effect)
    (λ makes.
    let leaves : leaves_it d.effect.verb ≡ true = creation_leaves d.effect.verb makes in
    by_test (same_way d.effect.tag.way Forward)
    (λ forward. rw (makes, leaves, forward) refl)
    (λ undo.
    let need : n ≡ true = needs refl (rw (makes, undo) refl) in
    rw (makes, leaves, undo, need)
    (ap (λ (old : Option Used). kept_so true true (placed (Some d.effect.resource) (option_map (λ u. u.place) old)))
    (sym (used_kept s k)))))
    (λ other. let need : n ≡ true = needs refl (rw other refl) in rw (other, need) (left_kept (leaves_it d.effect.verb) s k))

-- what an attempt did to its definition goes on
attempt_goes_on : (width m : ℕ) (H : List Event) (t : Tag) (out : Outcome) (y : Effect) → IsLegalWithin width m H → is_open H t ≡ true
    → effect_done H t out ≡ Some y
    → is_going_on H y ≡ true
attempt_goes_on width m H t out y legal opened is =
    not-false (is_final (state H y.tag.occ))
    (subst (λ (u : Tag). is_final (state H u.occ) ≡ false) (sym (of_attempt H t out y is)) (open_operation width m H t legal opened).2)

-- what an attempt that ends is on is needed, unless it made it
ended_needed : (width m : ℕ) (H : List Event) (t : Tag) (out : Outcome) (i : ℕ) (x : Def) (y : Effect) → IsLegalWithin width m H
    → is_open H t ≡ true
    → effect_done H t out ≡ Some y → is_effect_on i x y ≡ true → (is_creation y && same_way y.tag.way Forward) ≡ false
    → is_needed H i x ≡ true
ended_needed width m H t out i x y legal opened is on other =
    let from : Source H y = of_outcome H t out y is in
    let own : is_open H y.tag ≡ true = subst (λ (u : Tag). is_open H u ≡ true) (sym (of_attempt H t out y is)) opened in
    let need : is_needed H from.a.instance from.c.def ≡ true =
    open_on_needed width m H y.tag legal own from.a from.c from.found from.at (λ forward makes.
    let verb : y.verb ≡ Create = from.verb ∙ (ap (λ (w : Way). verb_done w from.c.verb) forward ∙ makes) in
    let made : (is_creation y && same_way y.tag.way Forward) ≡ true = rw (verb, forward) refl in
    let clash : true ≡ false = sym made ∙ other in cc) in
    let at : y.instance ≡ i = eqb-true y.instance i (and_left (y.instance == i) (same_def y.def x) on) in
    let def : y.def ≡ x = same_def-true y.def x (and_right (y.instance == i) (same_def y.def x) on) in
    subst (λ (z : Def). is_needed H i z ≡ true) (from.def ∙ def) (subst (λ (n : ℕ). is_needed H n from.c.def ≡ true)
    (from.instance ∙ at) need)

done_kept : (width m : ℕ) (H : List Event) (time : ℕ) (t : Tag) (out : Outcome) (i : ℕ) (x : Def) (y : Option Effect)
    → IsLegalWithin width m H → is_open H t ≡ true
    → effect_done H t out ≡ y → entry (event time (Settled t out) ∷ H) i x ≡ learned (option_map (deed_done H) y) (entry H) i x
unfolding effect_in
done_kept width m H time t out i x None legal opened is =
    ap (λ (s : Bool). kept_so s (is_needed (event time (Settled t out) ∷ H) i x) (known (event time (Settled t out) ∷ H) i x))
    (stands-nothing H time t out i x is)
    ∙ (ap (λ (n : Bool). kept_so (stands H i x) n (known (event time (Settled t out) ∷ H) i x)) (needed-nothing H time t out i x is)
    ∙ ap (λ (u : Option Used). kept_so (stands H i x) (is_needed H i x) u)
    (known-step width m H time (Settled t out) i x legal opened ∙ ap
    (λ (y : Option Effect). known_after (option_map (deed_done H) y) (known H) i x) is))
done_kept width m H time t out i x (Some y) legal opened is =
    ap (λ (s : Bool). kept_so s (is_needed (event time (Settled t out) ∷ H) i x) (known (event time (Settled t out) ∷ H) i x))
    (stands-done H time t out i x y is)
    ∙ (ap (λ (n : Bool). kept_so (cond (is_effect_on i x y) (leaves_it y.verb) (stands H i x)) n
    (known (event time (Settled t out) ∷ H) i x))
    (needed-done H time t out i x y is (attempt_goes_on width m H t out y legal opened is))
    ∙ (ap (λ (u : Option Used). kept_so (cond (is_effect_on i x y) (leaves_it y.verb) (stands H i x))
    (cond (is_effect_on i x y) true (is_needed H i x)) u)
    (known-step width m H time (Settled t out) i x legal opened ∙ ap
    (λ (y : Option Effect). known_after (option_map (deed_done H) y) (known H) i x) is)
    ∙ touched_kept (deed_done H y) (is_effect_on i x y) (stands H i x) (is_needed H i x) (known H i x)
    (λ on other. ended_needed width m H t out i x y legal opened is on other)))

-- what stands alone is kept where what isn't in work is
stands_kept : (s : Bool) (k : Option Used) → kept_so s s k ≡ option_and_then where_it_stands (kept_so s s k)
stands_kept s None = by_test s (λ yes. rw yes refl) (λ no. rw no refl)
stands_kept true (Some u) = refl
stands_kept false (Some u) = refl

stays_kept : (s : Bool) (k : Option Used) → kept_so s s k ≡ option_and_then where_it_stands (kept_so s true k)
stays_kept s None = by_test s (λ yes. rw yes refl) (λ no. rw no refl)
stays_kept true (Some u) = refl
stays_kept false (Some u) = refl

or_false : (a b : Bool) → b ≡ false → (a || b) ≡ a
or_false true b e = refl
or_false false b e = e

or_true : (a b : Bool) → b ≡ true → (a || b) ≡ true
or_true true b e = refl
or_true false b e = e

-- the definition of an effect is of the row of its operation
of_own_row : (H : List Event) (i : ℕ) (x : Def) (y : Effect) (a : Operation) → (s : Source H y) → y.instance ≡ i → y.def ≡ x → s.a ≡ a
    → is_of_row i x (row H a) ≡ true
of_own_row H i x y a s at on is =
    let has : list_any (λ (c : Change). same_def c.def x) s.a.changes ≡ true =
    any_in (λ (c : Change). same_def c.def x) s.c s.a.changes (get_in s.c s.a.changes y.tag.change s.at)
    (subst (λ (z : Def). same_def s.c.def z ≡ true) (s.def ∙ on) (same_def-refl s.c.def)) in
    subst (λ (z : Operation). is_of_row i x (row H z) ≡ true) is
    (and_true (s.a.instance == i) (list_any (λ (c : Change). same_def c.def x) s.a.changes) (eq-eqb s.a.instance i (s.instance ∙ at)) has)

-- what was kept is kept after a move where it is needed as before
moved_same : (width m : ℕ) (H : List Event) (time o : ℕ) (to : OpState) (i : ℕ) (x : Def) → IsLegalWithin width m H
    → IsAllowedWithin width m H (Moved o to)
    → is_needed (event time (Moved o to) ∷ H) i x ≡ is_needed H i x → entry (event time (Moved o to) ∷ H) i x ≡ entry H i x
unfolding effect_in
moved_same width m H time o to i x legal allowed same =
    ap (λ (n : Bool). kept_so (stands H i x) n (known (event time (Moved o to) ∷ H) i x)) same
    ∙ ap (λ (u : Option Used). kept_so (stands H i x) (is_needed H i x) u) (known-step width m H time (Moved o to) i x legal allowed)

-- whether a definition is needed after the move of another occurrence than that of its last effect
needed-away : (H : List Event) (time o : ℕ) (to : OpState) (i : ℕ) (x : Def) (y : Effect) → first (effects H i x) ≡ Some y
    → (o == y.tag.occ) ≡ false
    → is_needed (event time (Moved o to) ∷ H) i x ≡ is_needed H i x
unfolding effect_in
needed-away H time o to i x y is other =
    by_last (event time (Moved o to) ∷ H) i x y is ∙ (ap (λ (b : Bool). leaves_it y.verb || b) (going-away H time o to y other)
    ∙ sym (by_last H i x y is))

-- and after the move of the occurrence of that effect
needed-own : (H : List Event) (time o : ℕ) (to : OpState) (i : ℕ) (x : Def) (y : Effect) → first (effects H i x) ≡ Some y
    → (o == y.tag.occ) ≡ true
    → is_needed (event time (Moved o to) ∷ H) i x ≡ (leaves_it y.verb || not (is_final to))
unfolding effect_in
needed-own H time o to i x y is same =
    by_last (event time (Moved o to) ∷ H) i x y is ∙ ap (λ (b : Bool). leaves_it y.verb || b) (going-moved H time o to y same)

stands_by_last : (H : List Event) (i : ℕ) (x : Def) (y : Effect) → first (effects H i x) ≡ Some y → stands H i x ≡ leaves_it y.verb
stands_by_last H i x y is = rw is refl

none_out : (b : Bool) (e : Option Entry) → e ≡ None → e ≡ cond b (option_and_then where_it_stands e) e
none_out true e is = rw is refl
none_out false e is = refl

-- what is kept of a definition that the row of an occurrence that ends is of, or isn't, where its last effect is another occurrence's
away_kept : (width m : ℕ) (H : List Event) (o : ℕ) (i : ℕ) (x : Def) (a : Operation) (y : Effect) → IsLegalWithin width m H
    → is_final (state H o) ≡ false
    → operation H o ≡ Some a → first (effects H i x) ≡ Some y → (o == y.tag.occ) ≡ false
    → entry H i x ≡ outlasting (Some (row H a)) (entry H) i x
away_kept width m H o i x a y legal goes found is other = by_test (is_of_row i x (row H a))
    (λ on.
    let at : a.instance ≡ i = eqb-true a.instance i (and_left (a.instance == i) (list_any (λ (c : Change). same_def c.def x) a.changes) on)
    in
    let over : is_going_on H y ≡ false = by_test (is_going_on H y)
    (λ still.
    let one : (o == y.tag.occ) ≡ true = sole_going width m H i o a x y legal found at goes is
    (not-true (is_final (state H y.tag.occ)) still) in
    let clash : true ≡ false = sym one ∙ other in cc)
    (λ no. no) in
    let same : is_needed H i x ≡ stands H i x =
    by_last H i x y is ∙ (or_false (leaves_it y.verb) (is_going_on H y) over ∙ sym (stands_by_last H i x y is)) in
    let kept : entry H i x ≡ kept_so (stands H i x) (stands H i x) (known H i x) =
    ap (λ (n : Bool). kept_so (stands H i x) n (known H i x)) same in
    kept ∙ (stands_kept (stands H i x) (known H i x)
    ∙ (ap (λ (e : Option Entry). option_and_then where_it_stands e) (sym kept)
    ∙ ap (λ (b : Bool). cond b (option_and_then where_it_stands (entry H i x)) (entry H i x)) (sym on))))
    (λ off. ap (λ (b : Bool). cond b (option_and_then where_it_stands (entry H i x)) (entry H i x)) (sym off))

-- what is kept after a move to a final state
ended_kept : (width m : ℕ) (H : List Event) (time o : ℕ) (to : OpState) (i : ℕ) (x : Def) (a : Operation) (last : Option Effect)
    → IsLegalWithin width m H
    → IsAllowedWithin width m H (Moved o to) → operation H o ≡ Some a → is_final to ≡ true → first (effects H i x) ≡ last
    → entry (event time (Moved o to) ∷ H) i x ≡ outlasting (Some (row H a)) (entry H) i x
unfolding effect_in
ended_kept width m H time o to i x a None legal allowed found ends is =
    moved_same width m H time o to i x legal allowed (by_none (event time (Moved o to) ∷ H) i x is ∙ sym (by_none H i x is))
    ∙ none_out (is_of_row i x (row H a)) (entry H i x) (ap (λ (n : Bool). kept_so (stands H i x) n (known H i x)) (by_none H i x is))
ended_kept width m H time o to i x a (Some y) legal allowed found ends is = by_test (o == y.tag.occ)
    (λ same.
    let from = last_source width m H i x y legal is in
    let number : o ≡ y.tag.occ = eqb-true o y.tag.occ same in
    let one : from.0.a ≡ a = one_value (operation H y.tag.occ) from.0.a a from.0.found
    (subst (λ (n : ℕ). operation H n ≡ Some a) number found) in
    let on : is_of_row i x (row H a) ≡ true = of_own_row H i x y a from.0 from.1 from.2 one in
    let before : is_needed H i x ≡ true = needed_before H o i x y is same (moved_from H o to allowed.1) in
    let after : is_needed (event time (Moved o to) ∷ H) i x ≡ stands H i x =
    needed-own H time o to i x y is same ∙ (or_false (leaves_it y.verb) (not (is_final to)) (ap not ends) ∙ sym (stands_by_last H i x y is))
    in
    ap (λ (n : Bool). kept_so (stands H i x) n (known (event time (Moved o to) ∷ H) i x)) after
    ∙ (ap (λ (u : Option Used). kept_so (stands H i x) (stands H i x) u) (known-step width m H time (Moved o to) i x legal allowed)
    ∙ (stays_kept (stands H i x) (known H i x)
    ∙ (ap (λ (n : Bool). option_and_then where_it_stands (kept_so (stands H i x) n (known H i x))) (sym before)
    ∙ ap (λ (b : Bool). cond b (option_and_then where_it_stands (entry H i x)) (entry H i x)) (sym on)))))
    (λ other.
    moved_same width m H time o to i x legal allowed (needed-away H time o to i x y is other)
    ∙ away_kept width m H o i x a y legal (moved_from H o to allowed.1) found is other)

-- what is kept after a move to a state that isn't final
rested_kept : (width m : ℕ) (H : List Event) (time o : ℕ) (to : OpState) (i : ℕ) (x : Def) (last : Option Effect) → IsLegalWithin width m H
    → IsAllowedWithin width m H (Moved o to) → is_final to ≡ false → first (effects H i x) ≡ last
    → entry (event time (Moved o to) ∷ H) i x ≡ entry H i x
unfolding effect_in
rested_kept width m H time o to i x None legal allowed rests is =
    moved_same width m H time o to i x legal allowed (by_none (event time (Moved o to) ∷ H) i x is ∙ sym (by_none H i x is))
rested_kept width m H time o to i x (Some y) legal allowed rests is =
    moved_same width m H time o to i x legal allowed (by_test (o == y.tag.occ)
    (λ same.
    needed-own H time o to i x y is same
    ∙ (or_true (leaves_it y.verb) (not (is_final to)) (ap not rests) ∙ sym (needed_before H o i x y is same (moved_from H o to allowed.1))))
    (λ other. needed-away H time o to i x y is other))

moved_kept : (width m : ℕ) (H : List Event) (time o : ℕ) (to : OpState) (i : ℕ) (x : Def) → IsLegalWithin width m H
    → IsAllowedWithin width m H (Moved o to)
    → entry (event time (Moved o to) ∷ H) i x ≡ kept_moved to (numbered o (rows H)) (entry H) i x
moved_kept width m H time o to i x legal allowed =
    let found = some_value (operation H o) allowed.0 in
    let there : numbered o (rows H) ≡ Some (row H found.0) = row_numbered width m H (rows H) o found.0 legal refl
    (low width m H (Moved o to) o refl legal allowed) found.1 in
    by_test (is_final to)
    (λ ends.
    ended_kept width m H time o to i x found.0 (first (effects H i x)) legal allowed found.1 ends refl
    ∙ (ap (λ (r : Option OccRow). outlasting r (entry H) i x) (sym there)
    ∙ ap (λ (b : Bool). cond b (outlasting (numbered o (rows H)) (entry H) i x) (entry H i x)) (sym ends)))
    (λ rests.
    rested_kept width m H time o to i x (first (effects H i x)) legal allowed rests refl
    ∙ ap (λ (b : Bool). cond b (outlasting (numbered o (rows H)) (entry H) i x) (entry H i x)) (sym rests))

-- what an event makes of what is kept of a definition
pub entry-step : (width m : ℕ) (H : List Event) (time : ℕ) (k : EventKind) (i : ℕ) (x : Def) → IsLegalWithin width m H
    → IsAllowedWithin width m H k
    → entry (event time k ∷ H) i x ≡ kept_after (rows H) k (entry H) i x
unfolding effect_in
entry-step width m H time (Settled t out) i x legal allowed =
    done_kept width m H time t out i x (effect_done H t out) legal allowed refl
    ∙ ap (λ (d : Option DoneAttempt). learned d (entry H) i x) (sym (deeds width m H (rows H) (Settled t out) legal allowed refl))
entry-step width m H time (Moved o to) i x legal allowed = moved_kept width m H time o to i x legal allowed
entry-step width m H time k i x legal allowed = ap (λ (u : Option Used). kept_so (stands H i x) (is_needed H i x) u)
    (known-step width m H time k i x legal allowed)

-- what is kept after an event goes by what was kept before
learned-same : (d : Option DoneAttempt) (f g : ℕ → Def → Option Entry) → ((i : ℕ) (x : Def) → f i x ≡ g i x) → (i : ℕ) (x : Def)
    → learned d f i x ≡ learned d g i x
learned-same None f g same i x = same i x
learned-same (Some d) f g same i x = ap (λ (e : Option Entry). cond (is_effect_on i x d.effect) (touched d e) e) (same i x)

outlasting-same : (r : Option OccRow) (f g : ℕ → Def → Option Entry) → ((i : ℕ) (x : Def) → f i x ≡ g i x) → (i : ℕ) (x : Def)
    → outlasting r f i x ≡ outlasting r g i x
outlasting-same None f g same i x = same i x
outlasting-same (Some r) f g same i x = ap (λ (e : Option Entry). cond (is_of_row i x r) (option_and_then where_it_stands e) e) (same i x)

pub kept-same : (rs : List OccRow) (k : EventKind) (f g : ℕ → Def → Option Entry) → ((i : ℕ) (x : Def) → f i x ≡ g i x) → (i : ℕ) (x : Def)
    → kept_after rs k f i x ≡ kept_after rs k g i x
kept-same rs (Settled t out) f g same i x = learned-same (deed_of t out rs) f g same i x
kept-same rs (Moved o to) f g same i x = by_test (is_final to)
    (λ ends. rw ends (outlasting-same (numbered o rs) f g same i x))
    (λ rests. rw rests (same i x))
kept-same rs _ f g same i x = same i x

-- what the change of an attempt used that did this
own_used : (width m : ℕ) (H : List Event) (f : ℕ → Def → Option Entry) (t : Tag) (out : Outcome) (y : Effect) → IsLegalWithin width m H
    → is_open H t ≡ true
    → effect_done H t out ≡ Some y → ((i : ℕ) (x : Def) → f i x ≡ entry H i x) → same_way y.tag.way Forward ≡ true
    → used_of (learned (Some (deed_done H y)) f y.instance y.def) ≡ used_by H y
unfolding effect_in
own_used width m H f t out y legal opened is same forward =
    let i : ℕ = y.instance in
    let x : Def = y.def in
    let after : List Event = event 0 (Settled t out) ∷ H in
    let needed : is_needed after i x ≡ true =
    needed-done H 0 t out i x y is (attempt_goes_on width m H t out y legal opened is)
    ∙ ap (λ (b : Bool). cond b true (is_needed H i x)) (on_own y) in
    ap used_of (learned-same (Some (deed_done H y)) f (entry H) same i x ∙ sym (done_kept width m H 0 t out i x (Some y) legal opened is))
    ∙ (ap (λ (n : Bool). used_of (kept_so (stands after i x) n (known after i x))) needed
    ∙ (used_kept (stands after i x) (known after i x)
    ∙ (known-step width m H 0 (Settled t out) i x legal opened
    ∙ (ap (λ (z : Option Effect). known_after (option_map (deed_done H) z) (known H) i x) is ∙ own_use H y forward))))

by_way : (width m : ℕ) (H : List Event) (f : ℕ → Def → Option Entry) (t : Tag) (out : Outcome) (o : Option Effect) → IsLegalWithin width m H
    → is_open H t ≡ true
    → effect_done H t out ≡ o → ((i : ℕ) (x : Def) → f i x ≡ entry H i x)
    → used_after (option_map (deed_done H) o) f ≡ cond (same_way t.way Forward) (option_and_then (used_by H) o) None
by_way width m H f t out None legal opened is same = by_test (same_way t.way Forward) (λ yes. rw yes refl) (λ no. rw no refl)
by_way width m H f t out (Some y) legal opened is same =
    let tag : y.tag ≡ t = of_attempt H t out y is in
    subst (λ (u : Tag). used_after (Some (deed_done H y)) f ≡ cond (same_way u.way Forward) (used_by H y) None) tag
    (by_test (same_way y.tag.way Forward)
    (λ forward.
    ap (λ (b : Bool). cond b (used_of (learned (Some (deed_done H y)) f y.instance y.def)) None) forward
    ∙ (own_used width m H f t out y legal opened is same forward ∙ sym (ap (λ (b : Bool). cond b (used_by H y) None) forward)))
    (λ undo.
    ap (λ (b : Bool). cond b (used_of (learned (Some (deed_done H y)) f y.instance y.def)) None) undo
    ∙ sym (ap (λ (b : Bool). cond b (used_by H y) None) undo)))

-- what a change used by an event, by what was kept of definitions before it
pub used-step : (width m : ℕ) (H : List Event) (f : ℕ → Def → Option Entry) (k : EventKind) → IsLegalWithin width m H
    → IsAllowedWithin width m H k
    → ((i : ℕ) (x : Def) → f i x ≡ entry H i x) → used_after (option_map (deed_done H) (effect_in H k)) f ≡ used_told H k
unfolding effect_in
used-step width m H f (Settled t out) legal allowed same = by_way width m H f t out (effect_done H t out) legal allowed refl same
used-step width m H f _ legal allowed same = refl

-- an event that neither ends an attempt nor moves leaves what is kept
pub kept_as_before : (k : EventKind) (rs : List OccRow) (f : ℕ → Def → Option Entry) (i : ℕ) (x : Def)
    → ((t : Tag) (out : Outcome) → k ≡ Settled t out → ⊥)
    → ((o : ℕ) (to : OpState) → k ≡ Moved o to → ⊥) → f i x ≡ kept_after rs k f i x
kept_as_before (Settled t out) rs f i x not_ended not_moved = absurd (not_ended t out refl)
kept_as_before (Moved o to) rs f i x not_ended not_moved = absurd (not_moved o to refl)
kept_as_before _ rs f i x not_ended not_moved = refl
