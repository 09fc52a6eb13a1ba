-- What an exchange of a trial was, told from what its outside has answered in the end: what is so of all answers was so
-- before the last.
use Rattle.std.proofs.Common.{◌≡◌, ◌∙◌, ◌+◌, ◌++◌, ◌⊎◌, ℕ, List, [], ◌∷◌, Some, Bool, true, false, ap, arith, inl}
use Rattle.std.proofs.Common.{inr, length, length-append, map, min, refl, reverse, subst, sym}
use Rattle.std.proofs.lemmas.List.{length-map, length-reverse}
use Rattle.std.specs.Prelude.{find, if◌then◌else◌, option_map}
use Rattle.grant_desk.specs.GrantAll.{answer_to}
use Rattle.lcm_events.specs.Same.{same_tag}
use Rattle.lcm_events.specs.declared.attempts.Tag.{Tag}
use Rattle.occ_work.specs.Around.{Counts, Exchanges, Handles, Infrastructure, Peer, aborts_answered, aborts_counted}
use Rattle.occ_work.specs.Deeds.{Exchange, aborted, asked, began, looked, nothing, polled}
use Rattle.site_traits.specs.Answer.{Answer}
use Rattle.site_traits.specs.Counts.{CallCounts, SiteCounts, abort_counts, look_counts, one_more}
use Rattle.site_traits.specs.Jobs.{Advances, Answered, Arrives, GoesOn, Job, abort_answered, look_answered, phase_of}
use Rattle.site_traits.specs.KeptJobs.{resource_name}
use Rattle.site_traits.specs.Peers.{OrchestratorState}
use Rattle.site_traits.specs.declared.jobs.AbortAnswer.TheVariants as abort
use Rattle.site_traits.specs.declared.jobs.BeginAnswer.{BeginAnswer}
use Rattle.site_traits.specs.declared.jobs.BeginAnswer.TheVariants as begin
use Rattle.site_traits.specs.declared.jobs.LookAnswer.{LookAnswer}
use Rattle.site_traits.specs.declared.jobs.LookAnswer.TheVariants as look
use Rattle.site_traits.specs.declared.jobs.Phase.{Phase}
use Rattle.site_traits.specs.declared.jobs.Phase.TheVariants as phase
use Rattle.site_traits.specs.declared.orchestrator.Call.TheVariants as call
use Rattle.trial_outside.specs.Granted.{AreGiven, AreGranted, granted_last}
use Rattle.trial_outside.specs.Planned.{AreDone, ArePlaced, ArePlanned, IsPlaced, planned}
use Rattle.lcm_trial.specs.Stages.{begins_after, grants_after, jobs_after, place_of}

-- all that the orchestrator answered is as planned, and no call failed
pub record IsPlannedPeer (p : Peer) : Type 0 where
  pub granted : AreGranted p.state.asked p.state.answers
  pub polled : p.state.polled ≡ []
  pub faults : p.counts.faults ≡ 0

-- all that the infrastructure answered is as planned, and no call failed
pub record IsPlannedSite (i : Infrastructure) : Type 0 where
  pub begins : ArePlanned i.answers.begins
  pub looks : AreDone i.answers.looks
  pub aborted : i.answers.aborted ≡ []
  pub jobs : ArePlaced i.jobs
  pub vim : i.counts.vim ≡ 0

-- the tags of jobs
abbrev pub tags : List Job → List Tag
tags js = map (λ j. j.tag) js

-- a count that rose isn't 0
never_zero : (n : ℕ) → one_more n ≡ 0 → ⊥
never_zero n is = let e : min (n + 1) 18446744073709551615 ≡ 0 = is in omega (arith, e)

-- jobs that went on are as many, with the same tags
pub advanced_tags : (xs ys : List Job) → Advances xs ys → tags ys ≡ tags xs
advanced_tags [] [] on = refl
advanced_tags [] (y ∷ ys) on = absurd on
advanced_tags (x ∷ xs) [] on = absurd on
advanced_tags (x ∷ xs) (y ∷ ys) on =
    ap (λ (t : Tag). t ∷ tags ys) on.0.tag ∙ ap (λ (ts : List Tag). x.tag ∷ ts) (advanced_tags xs ys on.1)

advanced_length : (xs ys : List Job) → Advances xs ys → length ys ≡ length xs
advanced_length xs ys on =
    sym (length-map ys (λ (j : Job). j.tag)) ∙ ap length (advanced_tags xs ys on) ∙ length-map xs (λ (j : Job). j.tag)

-- a job that went on to how it is planned was as it is planned
stood : (place : ℕ) (p q : Phase) → GoesOn p q → IsPlaced place q → IsPlaced place p
stood place phase.Running q on is = tt
stood place (phase.Done name) q on is = let P : Phase → Type 0 = λ r. IsPlaced place r in subst P on is
stood place (phase.Broken code) q on is = let P : Phase → Type 0 = λ r. IsPlaced place r in subst P on is
stood place phase.Aborted q on is = let P : Phase → Type 0 = λ r. IsPlaced place r in subst P on is

placed_before : (xs ys : List Job) → Advances xs ys → ArePlaced ys → ArePlaced xs
placed_before [] [] on are = tt
placed_before [] (y ∷ ys) on are = absurd on
placed_before (x ∷ xs) [] on are = absurd on
placed_before (x ∷ xs) (y ∷ ys) on are =
    let P : ℕ → Type 0 = λ n. IsPlaced (n + 1) y.phase in (
      stood (length xs + 1) x.phase y.phase on.0.phase (subst P (advanced_length xs ys on.1) are.0),
      placed_before xs ys on.1 are.1,
    )

-- the job that a look finds done is at its place, after which its resource is named
found_place : (t : Tag) (js : List Job) (name : List ℕ) → ArePlaced js → phase_of t js ≡ Some (phase.Done name)
    → (k : ℕ) × (place_of t (tags js) ≡ Some k) × (name ≡ resource_name k)
found_place t [] name are is = cc
found_place t (j ∷ js) name are is = at (found_place t js name are.1) (same_tag t j.tag) is where
  here : (p : Phase) → IsPlaced (length js + 1) p → Some p ≡ Some (phase.Done name) → name ≡ resource_name (length js + 1)
  here phase.Running stands same = cc
  here (phase.Done other) stands same = let names : other ≡ name = cc in sym names ∙ stands
  here (phase.Broken code) stands same = cc
  here phase.Aborted stands same = cc

  at : (phase_of t js ≡ Some (phase.Done name) → (k : ℕ) × (place_of t (tags js) ≡ Some k) × (name ≡ resource_name k))
      → (b : Bool) → option_map (λ (j : Job). j.phase) (if b then Some j else find (λ (j : Job). same_tag t j.tag) js) ≡ Some (phase.Done name)
      → (k : ℕ) × ((if b then Some (length (tags js) + 1) else place_of t (tags js)) ≡ Some k) × (name ≡ resource_name k)
  at rest true found = (
    length js + 1,
    ap (λ (n : ℕ). Some (n + 1)) (length-map js (λ (j : Job). j.tag)),
    here j.phase are.0 found,
  )
  at rest false found = rest found

-- a list with one more isn't empty
no_more : {A : Type 0} → (xs : List A) (x : A) → xs ++ x ∷ [] ≡ [] → ⊥
no_more xs x is =
    let one : length (xs ++ x ∷ []) ≡ 0 = ap length is in
    let two : length (xs ++ x ∷ []) ≡ length xs + 1 = length-append xs (x ∷ []) in
    omega (arith, one, two)

-- what an orchestrator was asked and what it answered are as many
given_length : (bodies : List (List ℕ)) (answers : List Answer) → AreGiven bodies answers → length bodies ≡ length answers
given_length [] [] are = refl
given_length [] (a ∷ answers) are = absurd are
given_length (b ∷ bodies) [] are = absurd are
given_length (b ∷ bodies) (a ∷ answers) are = let rest = given_length bodies answers are.1 in omega (arith, rest)

granted_length : (bodies : List (List ℕ)) (answers : List Answer) → AreGranted bodies answers → length bodies ≡ length answers
granted_length bodies answers are =
    sym (length-reverse bodies) ∙ given_length (reverse bodies) (reverse answers) are ∙ length-reverse answers

-- what an exchange was with the orchestrator: a grant request was answered by what is granted for it; none was polled
abbrev pub WasAnswered : Exchange → Peer → Type 0
WasAnswered (asked body ended heard) b = (ended ≡ call.Came) × (answer_to (length b.state.answers) body ≡ Some heard)
WasAnswered (polled at ended heard) b = ⊥
WasAnswered _ b = Unit {0}

-- an exchange led to an orchestrator all of whose answers are as planned
pub record IsAnswered (x : Exchange) (b c : Peer) : Type 0 where
  pub before : IsPlannedPeer b
  pub was : WasAnswered x b
  pub grants : length c.state.answers ≡ grants_after x (length b.state.answers)

same_peer : (b c : Peer) → c.state ≡ b.state → c.counts ≡ b.counts → IsPlannedPeer c → IsPlannedPeer b
same_peer b c told counts p =
    let P : OrchestratorState → Type 0 = λ s. AreGranted s.asked s.answers in
    record {
      granted = subst P told p.granted;
      polled = sym (ap (λ (s : OrchestratorState). s.polled) told) ∙ p.polled;
      faults = sym (ap (λ (n : CallCounts). n.faults) counts) ∙ p.faults;
    }

pub peer_before : (x : Exchange) (b c : Peer) → Exchanges x b.state c.state → Counts x b.counts c.counts → IsPlannedPeer c
    → IsAnswered x b c
peer_before (asked body call.Came heard) b c told counts p =
    let P : List (List ℕ) → List Answer → Type 0 = λ bodies answers. AreGranted bodies answers in
    let are : AreGranted (b.state.asked ++ body ∷ []) (b.state.answers ++ heard ∷ []) =
    subst (λ (answers : List Answer). AreGranted (b.state.asked ++ body ∷ []) answers) told.answers
    (subst (λ (bodies : List (List ℕ)). AreGranted bodies c.state.answers) told.asked p.granted) in
    let both = granted_last b.state.asked body b.state.answers heard are in
    record {
      before = record {
        granted = both.1;
        polled = sym told.polled ∙ p.polled;
        faults = sym (ap (λ (n : CallCounts). n.faults) counts) ∙ p.faults;
      };
      was = (
        refl,
        ap (λ (n : ℕ). answer_to n body) (sym (granted_length b.state.asked b.state.answers both.1)) ∙ both.0,
      );
      grants = ap length told.answers ∙ length-append b.state.answers (heard ∷ []);
    }
peer_before (asked body call.Failed heard) b c told counts p =
    absurd (never_zero b.counts.faults (sym (ap (λ (n : CallCounts). n.faults) counts) ∙ p.faults))
peer_before (polled at call.Came heard) b c told counts p = absurd (no_more b.state.polled at (sym told.polled ∙ p.polled))
peer_before (polled at call.Failed heard) b c told counts p =
    absurd (never_zero b.counts.faults (sym (ap (λ (n : CallCounts). n.faults) counts) ∙ p.faults))
peer_before nothing b c told counts p =
    record { before = same_peer b c told counts p; was = tt; grants = ap (λ (s : OrchestratorState). length s.answers) told }
peer_before (began t work answer) b c told counts p =
    record { before = same_peer b c told counts p; was = tt; grants = ap (λ (s : OrchestratorState). length s.answers) told }
peer_before (looked t answer) b c told counts p =
    record { before = same_peer b c told counts p; was = tt; grants = ap (λ (s : OrchestratorState). length s.answers) told }
peer_before (aborted aborts t answer) b c told counts p =
    record { before = same_peer b c told counts p; was = tt; grants = ap (λ (s : OrchestratorState). length s.answers) told }

-- an exchange that aborts aborts something
abbrev pub AbortsSome : Exchange → Type 0
AbortsSome (aborted [] t answer) = ⊥
AbortsSome _ = Unit {0}

-- what an exchange was with the infrastructure: a begin was answered by its place, a look found its job done, whose
-- resource is named after its place; nothing was aborted
abbrev pub WasHandled : Exchange → Infrastructure → Type 0
WasHandled (began t work answer) b = answer ≡ planned (length b.answers.begins + 1)
WasHandled (looked t answer) b = (k : ℕ) × (place_of t (tags b.jobs) ≡ Some k) × (answer ≡ look.Done (resource_name k))
WasHandled (aborted aborts t answer) b = ⊥
WasHandled _ b = Unit {0}

-- an exchange led to an infrastructure all of whose answers are as planned
pub record IsHandled (x : Exchange) (b c : Infrastructure) : Type 0 where
  pub before : IsPlannedSite b
  pub was : WasHandled x b
  pub jobs : tags c.jobs ≡ jobs_after x (tags b.jobs)
  pub begins : length c.answers.begins ≡ begins_after x (length b.answers.begins)

-- where nothing was answered, running jobs went on
unasked : (b c : Infrastructure) → Advances b.jobs c.jobs → c.answers ≡ b.answers → c.counts.vim ≡ b.counts.vim → IsPlannedSite c
    → IsPlannedSite b
unasked b c on same vim p =
    let B : Answered → Type 0 = λ l. ArePlanned l.begins in
    let L : Answered → Type 0 = λ l. AreDone l.looks in
    record {
      begins = subst B same p.begins;
      looks = subst L same p.looks;
      aborted = sym (ap (λ (l : Answered). l.aborted) same) ∙ p.aborted;
      jobs = placed_before b.jobs c.jobs on p.jobs;
      vim = sym vim ∙ p.vim;
    }

-- a begin that was answered
begun : (b c : Infrastructure) (answer : BeginAnswer) → c.answers ≡ record b.answers { begins = answer ∷ b.answers.begins }
    → ArePlaced b.jobs → c.counts.vim ≡ b.counts.vim → IsPlannedSite c
    → IsPlannedSite b × (answer ≡ planned (length b.answers.begins + 1))
begun b c answer is jobs vim p =
    let B : Answered → Type 0 = λ l. ArePlanned l.begins in
    let L : Answered → Type 0 = λ l. AreDone l.looks in
    let all : ArePlanned (answer ∷ b.answers.begins) = subst B is p.begins in (
      record {
        begins = all.1;
        looks = subst L is p.looks;
        aborted = sym (ap (λ (l : Answered). l.aborted) is) ∙ p.aborted;
        jobs = jobs;
        vim = sym vim ∙ p.vim;
      },
      all.0,
    )

one_begun : (b c : Infrastructure) (answer : BeginAnswer) → c.answers ≡ record b.answers { begins = answer ∷ b.answers.begins }
    → length c.answers.begins ≡ length b.answers.begins + 1
one_begun b c answer is = let all = ap (λ (l : Answered). length l.begins) is in omega (arith, all)

-- a look that found its job done
seen : (t : Tag) (name : List ℕ) (b c : Infrastructure) → Advances b.jobs c.jobs → phase_of t c.jobs ≡ Some (phase.Done name)
    → c.answers ≡ record b.answers { looks = (t, look.Done name) ∷ b.answers.looks } → c.counts.vim ≡ b.counts.vim → IsPlannedSite c
    → IsHandled (looked t (look.Done name)) b c
seen t name b c on found is vim p =
    let B : Answered → Type 0 = λ l. ArePlanned l.begins in
    let L : Answered → Type 0 = λ l. AreDone l.looks in
    let all : AreDone ((t, look.Done name) ∷ b.answers.looks) = subst L is p.looks in
    let same = advanced_tags b.jobs c.jobs on in
    let at = found_place t c.jobs name p.jobs found in
    record {
      before = record {
        begins = subst B is p.begins;
        looks = all.1;
        aborted = sym (ap (λ (l : Answered). l.aborted) is) ∙ p.aborted;
        jobs = placed_before b.jobs c.jobs on p.jobs;
        vim = sym vim ∙ p.vim;
      };
      was = (at.0, ap (λ (ts : List Tag). place_of t ts) (sym same) ∙ at.1, ap (λ (n : List ℕ). look.Done n) at.2);
      jobs = same;
      begins = ap (λ (l : Answered). length l.begins) is;
    }

-- a look leaves what was aborted, and its count doesn't fall
look_aborted : (t : Tag) (answer : LookAnswer) (l : Answered) → (look_answered t answer l).aborted ≡ l.aborted
look_aborted t look.Absent l = refl
look_aborted t look.Running l = refl
look_aborted t (look.Done name) l = refl
look_aborted t (look.Broken code) l = refl
look_aborted t look.Aborted l = refl
look_aborted t look.Failed l = refl

look_vim : (answer : LookAnswer) (n : SiteCounts) → (look_counts answer n).vim ≡ 0 → n.vim ≡ 0
look_vim look.Absent n is = is
look_vim look.Running n is = is
look_vim (look.Done name) n is = is
look_vim (look.Broken code) n is = is
look_vim look.Aborted n is = is
look_vim look.Failed n is = absurd (never_zero n.vim is)

pub site_before : (x : Exchange) (b c : Infrastructure) → Handles (Unit {0}) x b c → AbortsSome x → IsPlannedSite c → IsHandled x b c
site_before nothing b c h some p =
    record {
      before = unasked b c (h.jobs tt) (h.answers tt) h.counts.vim p;
      was = tt;
      jobs = advanced_tags b.jobs c.jobs (h.jobs tt);
      begins = ap (λ (l : Answered). length l.begins) (h.answers tt);
    }
site_before (asked body ended heard) b c h some p =
    record {
      before = unasked b c (h.jobs tt) (h.answers tt) h.counts.vim p;
      was = tt;
      jobs = advanced_tags b.jobs c.jobs (h.jobs tt);
      begins = ap (λ (l : Answered). length l.begins) (h.answers tt);
    }
site_before (polled at ended heard) b c h some p =
    record {
      before = unasked b c (h.jobs tt) (h.answers tt) h.counts.vim p;
      was = tt;
      jobs = advanced_tags b.jobs c.jobs (h.jobs tt);
      begins = ap (λ (l : Answered). length l.begins) (h.answers tt);
    }
site_before (began t work begin.Begun) b c h some p =
    let put = (h.jobs tt).1 in
    let P : List Job → Type 0 = λ js. ArePlaced js in
    let all = subst P put.is p.jobs in
    let both = begun b c begin.Begun (h.answers tt) (placed_before b.jobs put.earlier put.advances all.1) h.counts.vim p in
    record {
      before = both.0;
      was = both.1;
      jobs = ap tags put.is ∙ ap (λ (ts : List Tag). t ∷ ts) (advanced_tags b.jobs put.earlier put.advances);
      begins = one_begun b c begin.Begun (h.answers tt);
    }
site_before (began t work (begin.Refused code)) b c h some p = put (h.jobs tt) where
  put : Advances b.jobs c.jobs ⊎ ((other : ℕ) × Arrives t work (phase.Broken other) b.jobs c.jobs)
      → IsHandled (began t work (begin.Refused code)) b c
  put (inl on) =
      let both = begun b c (begin.Refused code) (h.answers tt) (placed_before b.jobs c.jobs on p.jobs) h.counts.vim p in
      record {
        before = both.0;
        was = both.1;
        jobs = advanced_tags b.jobs c.jobs on;
        begins = one_begun b c (begin.Refused code) (h.answers tt);
      }
  put (inr broken) =
      let P : List Job → Type 0 = λ js. ArePlaced js in
      let all = subst P broken.1.is p.jobs in
      absurd all.0
site_before (began t work begin.Failed) b c h some p = absurd (never_zero b.counts.vim (sym h.counts.vim ∙ p.vim))
site_before (looked t (look.Done name)) b c h some p =
    let both = h.jobs tt in
    seen t name b c both.0 both.1 (h.answers tt) h.counts.vim p
site_before (looked t look.Absent) b c h some p =
    let L : Answered → Type 0 = λ l. AreDone l.looks in
    let all = subst L (h.answers tt) p.looks in absurd all.0
site_before (looked t look.Running) b c h some p =
    let L : Answered → Type 0 = λ l. AreDone l.looks in
    let all = subst L (h.answers tt) p.looks in absurd all.0
site_before (looked t (look.Broken code)) b c h some p =
    let L : Answered → Type 0 = λ l. AreDone l.looks in
    let all = subst L (h.answers tt) p.looks in absurd all.0
site_before (looked t look.Aborted) b c h some p =
    let L : Answered → Type 0 = λ l. AreDone l.looks in
    let all = subst L (h.answers tt) p.looks in absurd all.0
site_before (looked t look.Failed) b c h some p = absurd (never_zero b.counts.vim (sym h.counts.vim ∙ p.vim))
site_before (aborted [] t answer) b c h some p = absurd some
site_before (aborted ((u, abort.Asked) ∷ earlier) t answer) b c h some p =
    let l : Answered = abort_answered u abort.Asked (aborts_answered earlier b.answers) in
    let is : l.aborted ≡ [] =
    sym (look_aborted t answer l) ∙ sym (ap (λ (k : Answered). k.aborted) (h.answers tt)) ∙ p.aborted in
    cc
site_before (aborted ((u, abort.Failed) ∷ earlier) t answer) b c h some p =
    let n : SiteCounts = aborts_counted earlier b.counts in
    absurd (never_zero n.vim (look_vim answer (abort_counts abort.Failed n) (sym h.counts.vim ∙ p.vim)))
