-- How often ways that are in turn come, and how often a change was made and undone by its jobs.
use Rattle.std.proofs.Common.{◌≡◌, ◌+◌, ◌-◌, ◌&&◌, ◌∙◌, ℕ, List, [], ◌∷◌, Bool, true, false, cond, Option, None, Some, refl, ap, sym, subst}
use Rattle.std.proofs.Common.{map, filter, length, arith, suc}
use Rattle.std.specs.List.{list_any}
use Rattle.std.specs.Option.{option_map_or}
use Rattle.lcm_events.specs.Same.{same_tag, same_way}
use Rattle.lcm_events.proofs.SameLaws.{same_tag-true, same_tag-refl}
use Rattle.lcm_events.specs.declared.attempts.Outcome.{Outcome}
use Rattle.lcm_events.specs.declared.attempts.Outcome.TheVariants as outcome
use Rattle.lcm_events.specs.declared.attempts.Tag.{Tag}
use Rattle.lcm_events.specs.declared.attempts.Way.{Way}
use Rattle.lcm_events.specs.declared.attempts.Way.TheVariants.{Forward, Undo}
use Rattle.lcm_events.specs.declared.events.Event.{Event}
use Rattle.lcm_events.specs.declared.events.EventKind.{EventKind}
use Rattle.lcm_events.specs.declared.events.EventKind.TheVariants.{Intent, Settled}
use Rattle.lcm_model.specs.Allowed.{IsAllowedWithin}
use Rattle.lcm_model.specs.Attempts.{done_count, is_of, is_unsettled, open_attempts, open_tags}
use Rattle.lcm_model.specs.Work.{net_before}
use Rattle.lcm_laws.proofs.FreshLaws.{fresh_unsettled}
use Rattle.lcm_laws.proofs.Histories.{event}
use Rattle.lcm_laws.proofs.Lists.{by_test}
use Rattle.lcm_laws.proofs.NetLaws.{Fits, another, at_own, done_count-done, done_count-other, fits, filter_cond_other, open_attempts-other}
use Rattle.lcm_laws.proofs.NetLaws.{open_attempts-settled, open_own}
use Rattle.site_traits.specs.declared.jobs.Phase.{Phase}
use Rattle.site_traits.specs.declared.jobs.Phase.TheVariants.{Aborted, Broken, Done, Running}
use Rattle.site_traits.specs.Jobs.{Job, phase_of}
use Rattle.lcm_jobs.specs.Alternating.{AreInTurn, did_it, jobs_of, next_way, ways_done}
use Rattle.lcm_jobs.specs.Sound.{Agrees, FitsJobs, IsNoneOrBroken, IsSoundWithin}
use Rattle.lcm_jobs.specs.Standing.{is_job_done, made}
use Rattle.lcm_jobs.proofs.KeepLemmas.{fresh_job}
use Rattle.lcm_jobs.proofs.Parts.{phase_front}
use Rattle.lcm_jobs.proofs.SoundLemmas.{sound_induction}

-- how often a way comes
abbrev pub times : Way → List Way → ℕ
times way ways = length (filter (same_way way) ways)

-- ways in turn: as often made as undone where the next is a making, and once more where it is an undo
abbrev pub Balanced : Way → ℕ → ℕ → Type 0
Balanced Forward made undone = made ≡ undone
Balanced Undo made undone = made ≡ undone + 1

pub balanced : (ways : List Way) → AreInTurn ways → Balanced (next_way ways) (times Forward ways) (times Undo ways)
balanced [] h = refl
balanced (Forward ∷ ways) h =
    let before : Balanced Forward (times Forward ways) (times Undo ways) =
    subst (λ (w : Way). Balanced w (times Forward ways) (times Undo ways)) (sym h.0) (balanced ways h.1) in
    omega (arith, before)
balanced (Undo ∷ ways) h =
    let before : Balanced Undo (times Forward ways) (times Undo ways) =
    subst (λ (w : Way). Balanced w (times Forward ways) (times Undo ways)) (sym h.0) (balanced ways h.1) in
    omega (arith, before)

-- the job that may be done next is in the way whose net is before it
pub next_is : (ways : List Way) (w : Way) → AreInTurn ways → times Forward ways - times Undo ways ≡ net_before w → w ≡ next_way ways
next_is ways w turn net = by_next (next_way ways) w (balanced ways turn) net where
  by_next : (v w : Way) → Balanced v (times Forward ways) (times Undo ways) → times Forward ways - times Undo ways ≡ net_before w → w ≡ v
  by_next Forward Forward b n = refl
  by_next Undo Undo b n = refl
  by_next Forward Undo b n = absurd (omega (arith, b, n))
  by_next Undo Forward b n = absurd (omega (arith, b, n))

-- how many of these attempts are in this way and have a job that was done
abbrev pub up : Way → List Job → List Tag → ℕ
up way js ts = length (filter (λ t. same_way way t.way && is_job_done js t) ts)

-- the ways done, with one job more in front
pub ways_front : (o c : ℕ) (j : Job) (js : List Job) → is_of o c j.tag ≡ true
    → ways_done o c (j ∷ js) ≡ cond (did_it j.phase) (j.tag.way ∷ ways_done o c js) (ways_done o c js)
ways_front o c j js own = rw own (by_phase (did_it j.phase)) where
  by_phase : (b : Bool) → map (λ (x : Job). x.tag.way) (cond b (j ∷ filter (λ x. did_it x.phase) (jobs_of o c js))
      (filter (λ x. did_it x.phase) (jobs_of o c js)))
      ≡ cond b (j.tag.way ∷ ways_done o c js) (ways_done o c js)
  by_phase true = refl
  by_phase false = refl

pub ways_other : (o c : ℕ) (j : Job) (js : List Job) → is_of o c j.tag ≡ false → ways_done o c (j ∷ js) ≡ ways_done o c js
ways_other o c j js other = rw other refl

one_more : (w v : Way) (ways : List Way) → times w (v ∷ ways) ≡ cond (same_way w v) (suc (times w ways)) (times w ways)
one_more w v ways = by_way (same_way w v) where
  by_way : (b : Bool) → length (cond b (v ∷ filter (same_way w) ways) (filter (same_way w) ways))
      ≡ cond b (suc (times w ways)) (times w ways)
  by_way true = refl
  by_way false = refl

-- an attempt without a job, or whose job wasn't done, counts for nothing
pub up_none : (w : Way) (js : List Job) (t : Tag) → is_job_done js t ≡ false → up w js (t ∷ []) ≡ 0
up_none w js t none = by_way (same_way w t.way) where
  by_way : (b : Bool) → length (cond (b && is_job_done js t) (t ∷ []) []) ≡ 0
  by_way true = rw none refl
  by_way false = refl

-- and one whose job was done counts in its way
pub up_done : (w : Way) (js : List Job) (t : Tag) → is_job_done js t ≡ true → up w js (t ∷ []) ≡ cond (same_way w t.way) 1 0
up_done w js t done = by_way (same_way w t.way) where
  by_way : (b : Bool) → length (cond (b && is_job_done js t) (t ∷ []) []) ≡ cond b 1 0
  by_way true = rw done refl
  by_way false = refl

not_done : (js : List Job) (t : Tag) → phase_of t js ≡ None → is_job_done js t ≡ false
not_done js t none = ap (λ (p : Option Phase). option_map_or did_it p false) none

-- a job of another change leaves the attempts of this one
up_other : (w : Way) (o c : ℕ) (j : Job) (js : List Job) (ts : List Tag) → is_of o c j.tag ≡ false
    → up w (j ∷ js) (filter (is_of o c) ts) ≡ up w js (filter (is_of o c) ts)
up_other w o c j js [] other = refl
up_other w o c j js (t ∷ ts) other = by_test (is_of o c t)
    (λ own.
    let apart : same_tag t j.tag ≡ false = by_test (same_tag t j.tag)
    (λ same. let is : t ≡ j.tag = same_tag-true t j.tag same in let both : is_of o c j.tag ≡ true =
    subst (λ (x : Tag). is_of o c x ≡ true) is own in cc)
    (λ no. no) in
    let rest = up_other w o c j js ts other in
    rw own (rw apart (ahead t _ _ (same_way w t.way && is_job_done js t) rest)))
    (λ fails. let rest = up_other w o c j js ts other in rw fails rest) where
      ahead : (x : Tag) (xs ys : List Tag) (b : Bool) → length xs ≡ length ys → length (cond b (x ∷ xs) xs) ≡ length (cond b (x ∷ ys) ys)
      ahead x xs ys true e = ap suc e
      ahead x xs ys false e = e

-- the open attempt of a change is the only one
sole_is : (ts : List Tag) (t : Tag) (made undone : ℕ) → Fits ts made undone → list_any (same_tag t) ts ≡ true → ts ≡ t ∷ []
sole_is [] t made undone h e = cc
sole_is (x ∷ []) t made undone h e = by_test (same_tag t x)
    (λ same. ap (λ (y : Tag). y ∷ []) (sym (same_tag-true t x same)))
    (λ other. let fails : false ≡ true = rw other at e in cc)
sole_is (x ∷ y ∷ ts) t made undone h e = absurd h

-- how often a change was made by its jobs: as often as the history says, and by the job of the open attempt
abbrev pub Counts : ℕ → ℕ → Way → List Event → List Job → Type 0
Counts o c way H js = made way js o c ≡ done_count way H o c + up way js (open_attempts H o c)

settle : (b : Bool) (made d u d' u' : ℕ) → made ≡ d + u → u ≡ cond b 1 0 → d' ≡ cond b (suc d) d → u' ≡ 0 → made ≡ d' + u'
settle true made d u d' u' h e f g = omega (arith, h, e, f, g)
settle false made d u d' u' h e f g = omega (arith, h, e, f, g)

leave : (made d u d' u' : ℕ) → made ≡ d + u → u ≡ 0 → d' ≡ d → u' ≡ 0 → made ≡ d' + u'
leave made d u d' u' h e f g = omega (arith, h, e, f, g)

-- the open attempt of a change ends as its job has ended
count_ended : (o c : ℕ) (way : Way) (H : List Event) (time : ℕ) (t : Tag) (out : Outcome) (js : List Job) → is_of o c t ≡ true
    → Agrees out (phase_of t js)
    → open_attempts H o c ≡ t ∷ [] → up way js (open_attempts (event time (Settled t out) ∷ H) o c) ≡ 0 → Counts o c way H js
    → Counts o c way (event time (Settled t out) ∷ H) js
count_ended o c way H time t (outcome.Done name) js own fits alone none h =
    let done : is_job_done js t ≡ true = ap (λ (p : Option Phase). option_map_or did_it p false) fits in
    settle (same_way way t.way) (made way js o c) (done_count way H o c) (up way js (open_attempts H o c)) _ _ h
    (ap (λ (ts : List Tag). up way js ts) alone ∙ up_done way js t done) (done_count-done way H time t name o c own) none
count_ended o c way H time t (outcome.Broken code) js own fits alone none h =
    leave (made way js o c) (done_count way H o c) (up way js (open_attempts H o c)) _ _ h
    (ap (λ (ts : List Tag). up way js ts) alone ∙ up_none way js t (broken_not (phase_of t js) fits)) refl none where
      broken_not : (p : Option Phase) → IsNoneOrBroken p → option_map_or did_it p false ≡ false
      broken_not None h = refl
      broken_not (Some (Broken code)) h = refl
      broken_not (Some Running) h = absurd h
      broken_not (Some (Done name)) h = absurd h
      broken_not (Some Aborted) h = absurd h
count_ended o c way H time t outcome.Aborted js own fits alone none h =
    leave (made way js o c) (done_count way H o c) (up way js (open_attempts H o c)) _ _ h
    (ap (λ (ts : List Tag). up way js ts) alone ∙ up_none way js t (ap (λ (p : Option Phase). option_map_or did_it p false) fits)) refl none
count_ended o c way H time t outcome.NotBegun js own fits alone none h =
    leave (made way js o c) (done_count way H o c) (up way js (open_attempts H o c)) _ _ h
    (ap (λ (ts : List Tag). up way js ts) alone ∙ up_none way js t (not_done js t fits)) refl none

-- an attempt that begins is the only open one of its change
begun_alone : (o c : ℕ) (u : Tag) (b : Bool) (ts : List Tag) → b ≡ true → is_of o c u ≡ true → filter (is_of o c) ts ≡ []
    → filter (is_of o c) (cond b (u ∷ ts) ts) ≡ u ∷ []
begun_alone o c u true ts e own none = rw own (ap (λ (v : List Tag). u ∷ v) none)
begun_alone o c u false ts e own none = cc

pub open_begun : (H : List Event) (time : ℕ) (u : Tag) (o c : ℕ) → is_unsettled H u ≡ true → is_of o c u ≡ true
    → open_attempts H o c ≡ [] → open_attempts (event time (Intent u) ∷ H) o c ≡ u ∷ []
unfolding is_unsettled
open_begun H time u o c fresh own none = begun_alone o c u (is_unsettled H u) (open_tags H) fresh own none

pub open_elsewhere : (H : List Event) (time : ℕ) (u : Tag) (o c : ℕ) → is_of o c u ≡ false
    → open_attempts (event time (Intent u) ∷ H) o c ≡ open_attempts H o c
unfolding is_unsettled
open_elsewhere H time u o c other = filter_cond_other (is_of o c) u (is_unsettled H u) (open_tags H) other

-- no attempt of the change was open where one begins
pub none_before : (width m : ℕ) (H : List Event) (u : Tag) (o c : ℕ) → IsAllowedWithin width m H (Intent u) → is_of o c u ≡ true
    → open_attempts H o c ≡ []
none_before width m H u o c allowed own = at_own (λ o c. open_attempts H o c ≡ []) o c u own allowed.none_open

same_counts : (a d u d' u' : ℕ) → a ≡ d + u → d' ≡ d → u' ≡ u → a ≡ d' + u'
same_counts a d u d' u' h e f = omega (arith, h, e, f)

count_settled : (width m : ℕ) (o c : ℕ) (way : Way) (H : List Event) (time : ℕ) (t : Tag) (out : Outcome) (js : List Job)
    → IsSoundWithin width m H js
    → IsAllowedWithin width m H (Settled t out) → Agrees out (phase_of t js) → Counts o c way H js
    → Counts o c way (event time (Settled t out) ∷ H) js
count_settled width m o c way H time t out js sound allowed agreed h = by_test (is_of o c t)
    (λ own.
    let among : list_any (same_tag t) (open_attempts H o c) ≡ true =
    at_own (λ o c. list_any (same_tag t) (open_attempts H o c) ≡ true) o c t own (open_own H t allowed) in
    let alone : open_attempts H o c ≡ t ∷ [] = sole_is (open_attempts H o c) t (done_count Forward H o c) (done_count Undo H o c)
    (fits_of width m H sound o c) among in
    let gone : open_attempts (event time (Settled t out) ∷ H) o c ≡ [] =
    open_attempts-settled H time t out o c ∙ (ap (λ (ts : List Tag). filter (another t) ts) alone ∙ itself t) in
    count_ended o c way H time t out js own agreed alone (ap (λ (ts : List Tag). up way js ts) gone) h)
    (λ other.
    same_counts (made way js o c) (done_count way H o c) (up way js (open_attempts H o c)) _ _ h
    (done_count-other way H time t out o c other)
    (ap (λ (ts : List Tag). up way js ts) (open_attempts-other H time t out o c other))) where
      fits_of : (width m : ℕ) (H : List Event) → IsSoundWithin width m H js → (o c : ℕ)
          → Fits (open_attempts H o c) (done_count Forward H o c) (done_count Undo H o c)
      fits_of width m H sound o c = fits width m H sound.legal o c

      itself : (t : Tag) → filter (another t) (t ∷ []) ≡ []
      itself t = let own : same_tag t t ≡ true = same_tag-refl t in rw own refl

count_intent : (width m : ℕ) (o c : ℕ) (way : Way) (H : List Event) (time : ℕ) (u : Tag) (js : List Job) → IsSoundWithin width m H js
    → IsAllowedWithin width m H (Intent u) → Counts o c way H js → Counts o c way (event time (Intent u) ∷ H) js
count_intent width m o c way H time u js sound allowed h = by_test (is_of o c u)
    (λ own.
    let none : open_attempts H o c ≡ [] = none_before width m H u o c allowed own in
    let alone = open_begun H time u o c (fresh_unsettled width m H sound.legal u allowed.number) own none in
    leave (made way js o c) (done_count way H o c) (up way js (open_attempts H o c)) _ _ h
    (ap (λ (ts : List Tag). up way js ts) none) refl
    (ap (λ (ts : List Tag). up way js ts) alone ∙ up_none way js u (not_done js u (fresh_job width m H u js sound allowed))))
    (λ other.
    same_counts (made way js o c) (done_count way H o c) (up way js (open_attempts H o c)) _ _ h refl
    (ap (λ (ts : List Tag). up way js ts) (open_elsewhere H time u o c other)))

count_event : (width m : ℕ) (o c : ℕ) (way : Way) (H : List Event) (time : ℕ) (k : EventKind) (js : List Job) → IsSoundWithin width m H js
    → IsAllowedWithin width m H k
    → FitsJobs k js → Counts o c way H js → Counts o c way (event time k ∷ H) js
unfolding is_unsettled
count_event width m o c way H time (Settled t out) js sound allowed agreed h =
    count_settled width m o c way H time t out js sound allowed agreed h
count_event width m o c way H time (Intent u) js sound allowed agreed h = count_intent width m o c way H time u js sound allowed h
count_event width m o c way H time _ js sound allowed agreed h = h

-- one job more
arrive : (b : Bool) (made' made d u' : ℕ) → made ≡ d + 0 → made' ≡ cond b (suc made) made → u' ≡ cond b 1 0 → made' ≡ d + u'
arrive true made' made d u' h e f = omega (arith, h, e, f)
arrive false made' made d u' h e f = omega (arith, h, e, f)

none_arrives : (made' made d u' : ℕ) → made ≡ d + 0 → made' ≡ made → u' ≡ 0 → made' ≡ d + u'
none_arrives made' made d u' h e f = omega (arith, h, e, f)

count_job : (width m : ℕ) (o c : ℕ) (way : Way) (H : List Event) (time : ℕ) (j : Job) (js : List Job) → IsSoundWithin width m H js
    → IsAllowedWithin width m H (Intent j.tag) → Counts o c way H js → Counts o c way (event time (Intent j.tag) ∷ H) (j ∷ js)
count_job width m o c way H time j js sound allowed h = by_test (is_of o c j.tag)
    (λ own.
    let none : open_attempts H o c ≡ [] = none_before width m H j.tag o c allowed own in
    let alone = open_begun H time j.tag o c (fresh_unsettled width m H sound.legal j.tag allowed.number) own none in
    let before : made way js o c ≡ done_count way H o c + 0 = subst
    (λ (ts : List Tag). made way js o c ≡ done_count way H o c + up way js ts) none h in
    let its : is_job_done (j ∷ js) j.tag ≡ did_it j.phase = ap (λ (p : Option Phase). option_map_or did_it p false)
    (phase_front j.tag j js (same_tag-refl j.tag)) in
    let front = ap (λ (ws : List Way). times way ws) (ways_front o c j js own) in
    by_test (did_it j.phase)
    (λ done.
    let ways : times way (ways_done o c (j ∷ js)) ≡ times way (j.tag.way ∷ ways_done o c js) =
    front ∙ ap (λ (b : Bool). times way (cond b (j.tag.way ∷ ways_done o c js) (ways_done o c js))) done in
    arrive (same_way way j.tag.way) _ (made way js o c) (done_count way H o c) _ before (ways ∙ one_more way j.tag.way (ways_done o c js))
    (ap (λ (ts : List Tag). up way (j ∷ js) ts) alone ∙ up_done way (j ∷ js) j.tag (its ∙ done)))
    (λ undone.
    let ways : times way (ways_done o c (j ∷ js)) ≡ times way (ways_done o c js) =
    front ∙ ap (λ (b : Bool). times way (cond b (j.tag.way ∷ ways_done o c js) (ways_done o c js))) undone in
    none_arrives _ (made way js o c) (done_count way H o c) _ before ways
    (ap (λ (ts : List Tag). up way (j ∷ js) ts) alone ∙ up_none way (j ∷ js) j.tag (its ∙ undone))))
    (λ other.
    ap (λ (ws : List Way). times way ws) (ways_other o c j js other)
    ∙ same_counts (made way js o c) (done_count way H o c) (up way js (open_attempts H o c)) _ _ h refl
    (ap (λ (ts : List Tag). up way (j ∷ js) ts) (open_elsewhere H time j.tag o c other) ∙ up_other way o c j js (open_tags H) other))

pub counts : (width m : ℕ) (o c : ℕ) (way : Way) (H : List Event) (js : List Job) → IsSoundWithin width m H js → Counts o c way H js
counts width m o c way H js sound =
    sound_induction width m (Counts o c way) refl
    (λ H time k js sound allowed fits h. count_event width m o c way H time k js sound allowed fits h)
    (λ H time j js sound allowed work none h. count_job width m o c way H time j js sound allowed h) H js sound
