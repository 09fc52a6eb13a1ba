-- The jobs of a change alternate, and what stands of it follows.
use Rattle.std.proofs.Common.{◌≡◌, ◌+◌, ◌-◌, ◌∙◌, ℕ, List, [], ◌∷◌, Bool, true, false, cond, Option, None, Some, refl, ap, sym, subst}
use Rattle.std.proofs.Common.{arith, inl, if◌then◌else◌}
use Rattle.std.specs.List.{list_any}
use Rattle.lcm_events.specs.Same.{same_tag, same_way}
use Rattle.lcm_events.specs.declared.attempts.Tag.{Tag}
use Rattle.lcm_events.specs.declared.attempts.Way.{Way}
use Rattle.lcm_events.specs.declared.attempts.Way.TheVariants.{Forward, Undo}
use Rattle.lcm_events.specs.declared.changes.Change.{Change}
use Rattle.lcm_events.specs.declared.events.Event.{Event}
use Rattle.lcm_events.specs.declared.events.EventKind.TheVariants.{Intent}
use Rattle.lcm_events.specs.declared.states.OpState.{OpState}
use Rattle.lcm_events.specs.declared.states.OpState.TheVariants.{Completed, RolledBack}
use Rattle.lcm_model.specs.Allowed.{IsAllowedWithin, IsLegalWithin}
use Rattle.lcm_model.specs.Attempts.{done_count, is_of, is_open, net, open_attempts, open_tags}
use Rattle.lcm_model.specs.Moves.{state}
use Rattle.lcm_model.specs.Operations.{change_of}
use Rattle.lcm_model.specs.Words.{IsIn}
use Rattle.lcm_model.specs.Work.{IsTurnOf, net_after, net_before, works_in}
use Rattle.lcm_laws.proofs.EndLaws.{completed_made, open_state, rolled_back_undone}
use Rattle.lcm_laws.proofs.Lists.{by_test}
use Rattle.lcm_laws.proofs.Members.{of_filter}
use Rattle.lcm_laws.proofs.NetLaws.{Fits, at_own, fits, is_of-occ, open_own}
use Rattle.site_traits.specs.Jobs.{Job}
use Rattle.lcm_jobs.specs.Alternating.{Alternate, AreInTurn, HaveEnded, did_it, is_job_of, jobs_of, next_way, rest, ways_done}
use Rattle.lcm_jobs.specs.Sound.{IsSoundWithin}
use Rattle.lcm_jobs.specs.Standing.{EachStands, StandsAtMostOnce, is_job_done, made, net_at, stands}
use Rattle.lcm_jobs.proofs.Parts.{in_any}
use Rattle.lcm_jobs.proofs.SoundLemmas.{running_open, sound_induction}
use Rattle.lcm_jobs.proofs.WayLemmas.{Balanced, balanced, counts, next_is, none_before, times, up, up_done, up_none, ways_front, ways_other}

turn_net : (H : List Event) (t : Tag) (x : Option Change) → IsTurnOf H t x → net H t.occ t.change ≡ net_before t.way
turn_net H t None h = absurd h
turn_net H t (Some x) h = h.0

settled_only : (a d u : ℕ) → a ≡ d + u → u ≡ 0 → a ≡ d
settled_only a d u h e = omega (arith, h, e)

-- where no attempt is open, the jobs were done as often as the history says
pub as_settled : (width m : ℕ) (o c : ℕ) (way : Way) (H : List Event) (js : List Job) → IsSoundWithin width m H js
    → open_attempts H o c ≡ [] → made way js o c ≡ done_count way H o c
as_settled width m o c way H js sound none =
    settled_only (made way js o c) (done_count way H o c) (up way js (open_attempts H o c)) (counts width m o c way H js sound)
    (ap (λ (ts : List Tag). up way js ts) none)

turn_job : (width m : ℕ) (o c : ℕ) (H : List Event) (j : Job) (js : List Job) → IsSoundWithin width m H js
    → IsAllowedWithin width m H (Intent j.tag)
    → AreInTurn (ways_done o c js) → AreInTurn (ways_done o c (j ∷ js))
turn_job width m o c H j js sound allowed h = by_test (is_of o c j.tag)
    (λ own.
    let none : open_attempts H o c ≡ [] = none_before width m H j.tag o c allowed own in
    let before : net H o c ≡ net_before j.tag.way = at_own (λ o c. net H o c ≡ net_before j.tag.way) o c j.tag own
    (turn_net H j.tag (change_of H j.tag) allowed.turn) in
    let forward = as_settled width m o c Forward H js sound none in
    let undone = as_settled width m o c Undo H js sound none in
    let so : times Forward (ways_done o c js) - times Undo (ways_done o c js) ≡ net_before j.tag.way = rw (forward, undone) before in
    subst (λ (ws : List Way). AreInTurn ws) (sym (ways_front o c j js own))
    (put j.tag.way (ways_done o c js) (did_it j.phase) (next_is (ways_done o c js) j.tag.way h so) h))
    (λ other. subst (λ (ws : List Way). AreInTurn ws) (sym (ways_other o c j js other)) h) where
      put : (w : Way) (ws : List Way) (b : Bool) → w ≡ next_way ws → AreInTurn ws → AreInTurn (cond b (w ∷ ws) ws)
      put w ws true next h = (next, h)
      put w ws false next h = h

in_turn : (width m : ℕ) (o c : ℕ) (H : List Event) (js : List Job) → IsSoundWithin width m H js → AreInTurn (ways_done o c js)
in_turn width m o c H js sound =
    sound_induction width m (λ H js. AreInTurn (ways_done o c js)) tt
    (λ H time k js sound allowed fits h. h)
    (λ H time j js sound allowed work none h. turn_job width m o c H j js sound allowed h) H js sound

-- where no attempt of a change is open, none of its jobs runs
none_run : (width m : ℕ) (o c : ℕ) (H : List Event) (js : List Job) → IsSoundWithin width m H js → open_attempts H o c ≡ []
    → HaveEnded (jobs_of o c js)
none_run width m o c H js sound none k among runs =
    let from = of_filter (is_job_of o c) k js among in
    let opened : is_open H k.tag ≡ true = running_open width m H js sound k from.0 runs in
    let there : list_any (same_tag k.tag) (open_attempts H o c) ≡ true =
    at_own (λ o c. list_any (same_tag k.tag) (open_attempts H o c) ≡ true) o c k.tag from.1 (open_own H k.tag opened) in
    let nowhere : list_any (same_tag k.tag) [] ≡ true = subst (λ (ts : List Tag). list_any (same_tag k.tag) ts ≡ true) none there in
    cc

ended_job : (width m : ℕ) (o c : ℕ) (H : List Event) (j : Job) (js : List Job) → IsSoundWithin width m H js
    → IsAllowedWithin width m H (Intent j.tag)
    → HaveEnded (rest (jobs_of o c js)) → HaveEnded (rest (jobs_of o c (j ∷ js)))
ended_job width m o c H j js sound allowed h = by_test (is_of o c j.tag)
    (λ own. rw own (none_run width m o c H js sound (none_before width m H j.tag o c allowed own)))
    (λ other. rw other h)

earlier_ended : (width m : ℕ) (o c : ℕ) (H : List Event) (js : List Job) → IsSoundWithin width m H js → HaveEnded (rest (jobs_of o c js))
earlier_ended width m o c H js sound =
    sound_induction width m (λ H js. HaveEnded (rest (jobs_of o c js))) (λ j among runs. absurd among)
    (λ H time k js sound allowed fits h. h)
    (λ H time j js sound allowed work none h. ended_job width m o c H j js sound allowed h) H js sound

-- the jobs of a change alternate
pub alternate : (width m : ℕ) (H : List Event) (js : List Job) → IsSoundWithin width m H js → (o c : ℕ) → Alternate js o c
alternate width m H js sound o c = record { ended = earlier_ended width m o c H js sound; turns = in_turn width m o c H js sound }

-- a change stands at most once
pub at_most_once : (width m : ℕ) (H : List Event) (js : List Job) → IsSoundWithin width m H js → (o c : ℕ) → StandsAtMostOnce js o c
at_most_once width m H js sound o c = by_next (next_way (ways_done o c js))
    (balanced (ways_done o c js) (in_turn width m o c H js sound)) where
      by_next : (w : Way) → Balanced w (made Forward js o c) (made Undo js o c) → StandsAtMostOnce js o c
      by_next Forward b = record { stands = omega (arith, b); undone = omega (arith, b) }
      by_next Undo b = record { stands = omega (arith, b); undone = omega (arith, b) }

open_done : (w : Way) (f u d e : ℕ) → d ≡ e + net_before w → f ≡ d + cond (same_way Forward w) 1 0 → u ≡ e + cond (same_way Undo w) 1 0
    → f - u ≡ net_after w
open_done Forward f u d e h g k = omega (arith, h, g, k)
open_done Undo f u d e h g k = omega (arith, h, g, k)

open_undone : (f u d e : ℕ) → f ≡ d + 0 → u ≡ e + 0 → f - u ≡ d - e
open_undone f u d e g k = omega (arith, g, k)

-- what stands where one attempt is open
net_open : (width m : ℕ) (o c : ℕ) (H : List Event) (js : List Job) (t : Tag) → IsSoundWithin width m H js → open_attempts H o c ≡ t ∷ []
    → done_count Forward H o c ≡ done_count Undo H o c + net_before t.way
    → stands js o c ≡ (if is_job_done js t then net_after t.way else net H o c)
net_open width m o c H js t sound alone before =
    let forward : made Forward js o c ≡ done_count Forward H o c + up Forward js (t ∷ []) =
    subst (λ (ts : List Tag). made Forward js o c ≡ done_count Forward H o c + up Forward js ts) alone
    (counts width m o c Forward H js sound) in
    let undone : made Undo js o c ≡ done_count Undo H o c + up Undo js (t ∷ []) =
    subst (λ (ts : List Tag). made Undo js o c ≡ done_count Undo H o c + up Undo js ts) alone (counts width m o c Undo H js sound) in
    by_test (is_job_done js t)
    (λ done.
    let f : made Forward js o c ≡ done_count Forward H o c + cond (same_way Forward t.way) 1 0 =
    subst (λ (n : ℕ). made Forward js o c ≡ done_count Forward H o c + n) (up_done Forward js t done) forward in
    let u : made Undo js o c ≡ done_count Undo H o c + cond (same_way Undo t.way) 1 0 =
    subst (λ (n : ℕ). made Undo js o c ≡ done_count Undo H o c + n) (up_done Undo js t done) undone in
    rw done (open_done t.way (made Forward js o c) (made Undo js o c) (done_count Forward H o c) (done_count Undo H o c) before f u))
    (λ none.
    let f : made Forward js o c ≡ done_count Forward H o c + 0 = subst (λ (n : ℕ). made Forward js o c ≡ done_count Forward H o c + n)
    (up_none Forward js t none) forward in
    let u : made Undo js o c ≡ done_count Undo H o c + 0 = subst (λ (n : ℕ). made Undo js o c ≡ done_count Undo H o c + n)
    (up_none Undo js t none) undone in
    rw none (open_undone (made Forward js o c) (made Undo js o c) (done_count Forward H o c) (done_count Undo H o c) f u))

less : (f u d e : ℕ) → f ≡ d → u ≡ e → f - u ≡ d - e
less f u d e g k = omega (arith, g, k)

-- what stands of a change is its net, or its net after the open attempt whose job was done
pub stands_net : (width m : ℕ) (H : List Event) (js : List Job) → IsSoundWithin width m H js → (o c : ℕ)
    → stands js o c ≡ net_at js (net H o c) (open_attempts H o c)
stands_net width m H js sound o c = by_open (open_attempts H o c) refl (fits width m H sound.legal o c) where
  by_open : (ts : List Tag) → open_attempts H o c ≡ ts → Fits ts (done_count Forward H o c) (done_count Undo H o c)
      → stands js o c ≡ net_at js (net H o c) ts
  by_open [] is h =
      less (made Forward js o c) (made Undo js o c) (done_count Forward H o c) (done_count Undo H o c)
      (as_settled width m o c Forward H js sound is) (as_settled width m o c Undo H js sound is)
  by_open (t ∷ []) is h = net_open width m o c H js t sound is h
  by_open (t ∷ u ∷ ts) is h = absurd h

-- where an occurrence isn't at work, no attempt of its changes is open
none_open : (width m : ℕ) (H : List Event) → IsLegalWithin width m H → (o c : ℕ) (s : OpState) → state H o ≡ s
    → ((w : Way) → s ≡ works_in w → ⊥) → open_attempts H o c ≡ []
none_open width m H legal o c s at idle = by_open (open_attempts H o c) refl where
  by_open : (ts : List Tag) → open_attempts H o c ≡ ts → ts ≡ []
  by_open [] is = refl
  by_open (t ∷ ts) is =
      let among : IsIn t (open_attempts H o c) = subst (λ (v : List Tag). IsIn t v) (sym is) (inl refl) in
      let from = of_filter (is_of o c) t (open_tags H) among in
      let opened : is_open H t ≡ true = in_any t (open_tags H) from.0 in
      let works : state H t.occ ≡ works_in t.way = open_state width m H legal t opened in
      absurd (idle t.way (sym at ∙ subst (λ (n : ℕ). state H n ≡ works_in t.way) (is_of-occ o c t from.1) works))

each_stands : (width m : ℕ) (H : List Event) (js : List Job) → IsSoundWithin width m H js → (o c n : ℕ) → open_attempts H o c ≡ []
    → net H o c ≡ n → stands js o c ≡ n
each_stands width m H js sound o c n none is =
    subst (λ (ts : List Tag). stands js o c ≡ net_at js (net H o c) ts) none (stands_net width m H js sound o c) ∙ is

not_completed : (w : Way) → Completed ≡ works_in w → ⊥
not_completed Forward e = cc
not_completed Undo e = cc

not_rolled_back : (w : Way) → RolledBack ≡ works_in w → ⊥
not_rolled_back Forward e = cc
not_rolled_back Undo e = cc

-- every change of a COMPLETED occurrence stands once
pub completed_stands : (width m : ℕ) (H : List Event) (js : List Job) → IsSoundWithin width m H js → (o : ℕ) → state H o ≡ Completed
    → EachStands H js o 1
completed_stands width m H js sound o at c within =
    each_stands width m H js sound o c 1 (none_open width m H sound.legal o c Completed at not_completed)
    (completed_made width m H sound.legal o at c within)

-- no change of a ROLLED_BACK occurrence stands
pub rolled_back_stands : (width m : ℕ) (H : List Event) (js : List Job) → IsSoundWithin width m H js → (o : ℕ) → state H o ≡ RolledBack
    → EachStands H js o 0
rolled_back_stands width m H js sound o at c within =
    each_stands width m H js sound o c 0 (none_open width m H sound.legal o c RolledBack at not_rolled_back)
    (rolled_back_undone width m H sound.legal o at c within)
