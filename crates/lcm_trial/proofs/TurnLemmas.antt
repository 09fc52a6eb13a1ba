-- A turn, a request and the beginning of a trial lead to the stages of it.
use Rattle.std.proofs.Common.{◌≡◌, ◌∙◌, ◌+◌, ◌++◌, ◌∷◌, ℕ, Err, List, [], Ok, Option, None, Result, Some, ap, refl, length}
use Rattle.std.proofs.Common.{reverse, subst, sym}
use Rattle.std.proofs.lemmas.List.{reverse-reverse}
use Rattle.std.specs.Option.{option_map_or}
use Rattle.std.specs.Prelude.{OnOk}
use Rattle.executor.specs.Managed.{IsReady, Keeps}
use Rattle.executor.specs.Work.{LeadsOn, Works, WorksWithJobsLeadOn, went}
use Rattle.http_wire.specs.declared.request.Request.{Request}
use Rattle.lcm_api.specs.Answering.{answered}
use Rattle.lcm_api.specs.Outcome.{outcome}
use Rattle.lcm_api.specs.Planning.{Outcome}
use Rattle.lcm_events.specs.declared.events.Event.{Event}
use Rattle.lcm_events.specs.declared.states.Role.TheVariants.{Orchestrator}
use Rattle.lcm_replies.specs.declared.reply.Reply.{Reply}
use Rattle.occ_table.specs.Going.{active}
use Rattle.occ_work.specs.Around.{Around, Reach, reach}
use Rattle.occ_work.specs.Deeds.{Deed, point}
use Rattle.occ_work.specs.Turns.{DeedsDo, EndsTurn, TurnEnd, Turns, endings, once_all_done, stopped, through}
use Rattle.occ_work.specs.declared.ends.Turn.{Turn}
use Rattle.site_traits.specs.Jobs.{Answered}
use Rattle.site_traits.specs.Site.{KeepsJobs, SiteState, pair_of}
use Rattle.trial_outside.specs.TrialOrchestrator as peer
use Rattle.trial_outside.specs.TrialSite as site
use Rattle.trial_outside.specs.declared.orchestrator.TrialOrchestrator.{TrialOrchestrator}
use Rattle.trial_outside.specs.declared.site.TrialSite.{TrialSite}
use Rattle.lcm_trial.specs.Beginning.{Begins}
use Rattle.lcm_trial.specs.Playing.{IsAround, IsAt, outside_of}
use Rattle.lcm_trial.specs.Stages.{Stage, accepted_with, acted, all_acted, deed_at, done_at, first_stage}
use Rattle.lcm_trial.specs.Stages.{requested, turned}
use Rattle.lcm_trial.specs.declared.counts.TrialFault.{TrialFault}
use Rattle.lcm_trial.specs.declared.trial.Trial.{Trial}
use Rattle.lcm_trial.proofs.DeedLemmas.{Follows, all_followed, both_tell, occurrences}
use Rattle.lcm_trial.proofs.OutsideLemmas.{IsPlannedPeer, IsPlannedSite, advanced_tags, tags}

-- what the outside of a trial tells is as planned, where no call failed
planned_site : (s : TrialSite) (o : TrialOrchestrator) → (site.counts_of s).vim ≡ 0 → IsPlannedSite (outside_of s o).infrastructure
planned_site s o none = record {
  begins = s.goes.planned;
  looks = s.goes.done;
  aborted = s.goes.aborted;
  jobs = s.goes.placed;
  vim = none;
}

planned_peer : (s : TrialSite) (o : TrialOrchestrator) → (peer.counts_of o).faults ≡ 0 → IsPlannedPeer (outside_of s o).orchestrator
planned_peer s o none = record { granted = o.granted; polled = refl; faults = none }

-- what acts leave of a stage
record KeepsCounts (s u : Stage) : Type 0 where
  drawn : u.drawn ≡ s.drawn
  requests : u.requests ≡ s.requests
  accepted : u.accepted ≡ s.accepted

counts_then : (s u v : Stage) → KeepsCounts s u → KeepsCounts u v → KeepsCounts s v
counts_then s u v one two = record {
  drawn = two.drawn ∙ one.drawn;
  requests = two.requests ∙ one.requests;
  accepted = two.accepted ∙ one.accepted;
}

deed_keeps : (s : Stage) (d : Option Deed) → KeepsCounts s (option_map_or (done_at s) d s)
unfolding done_at
deed_keeps s None = record { drawn = refl; requests = refl; accepted = refl }
deed_keeps s (Some d) = record { drawn = refl; requests = refl; accepted = refl }

act_keeps : (o : ℕ) (s : Stage) → KeepsCounts s (acted o s)
unfolding acted
act_keeps o s = deed_keeps s (deed_at s o)

acts_keep : (os : List ℕ) (s : Stage) → KeepsCounts s (all_acted os s)
unfolding all_acted
acts_keep [] s = record { drawn = refl; requests = refl; accepted = refl }
acts_keep (o ∷ before) s = counts_then s (all_acted before s) (acted o (all_acted before s)) (acts_keep before s)
    (act_keeps o (all_acted before s))

-- what a trial lends to a turn
abbrev pub lent : Trial → Reach
lent t = reach (site.state_of t.site) (site.counts_of t.site) (peer.state_of t.orchestrator) (peer.counts_of t.orchestrator)

-- the trials have counted the same, and drew the same number last
pub record CountSame (t u : Trial) : Type 0 where
  pub drawn : u.drawn ≡ t.drawn
  pub requests : u.requests ≡ t.requests
  pub accepted : u.accepted ≡ t.accepted

reverse_twice : (ns : List ℕ) → reverse (reverse ns) ≡ ns
reverse_twice ns = reverse-reverse ns

-- a turn that went through, in which no call failed, leads to the stage behind it
pub turn_leads : (s : Stage) (t u : Trial) (deeds : List Deed) → IsAt s t
    → Turns both_tell (point 1 0 0 s.history) deeds through u.manager (lent t) (lent u)
    → WorksWithJobsLeadOn (Unit {0}) (site.state_of t.site) (site.state_of u.site)
    → (site.counts_of u.site).vim ≡ 0 → (peer.counts_of u.orchestrator).faults ≡ 0 → CountSame t u → IsAt (turned s) u
unfolding turned
turn_leads s t u deeds at turns leads vim faults same =
    let c : Around = outside_of u.site u.orchestrator in
    let D : Around → Type 0 = λ x. DeedsDo both_tell 1 0 s.history deeds (outside_of t.site t.orchestrator) x in
    let follows : Follows deeds s c =
    all_followed deeds s (outside_of t.site t.orchestrator) c (subst D (sym turns.end_does) turns.deeds_do) at.around
    (planned_peer u.site u.orchestrator faults) (planned_site u.site u.orchestrator vim) in
    let order : occurrences deeds ≡ reverse (active s.history) =
    sym (reverse_twice (occurrences deeds)) ∙ ap (λ (ns : List ℕ). reverse ns) turns.order in
    let kept : KeepsCounts s (all_acted (occurrences deeds) s) = acts_keep (occurrences deeds) s in
    let R : List Event → Type 0 = λ H. IsReady (Unit {0}) u.manager H (site.state_of u.site) in
    let P : List ℕ → Type 0 = λ os. IsAt (all_acted os s) u in
    subst P order (record {
      number = turns.works.at_file.number;
      saved = turns.saved;
      ready = subst R (sym follows.history)
          (leads 1 s.history (went (once_all_done 0 s.history deeds)) u.manager turns.works refl);
      around = follows.around;
      drawn = same.drawn ∙ at.drawn ∙ sym kept.drawn;
      requests = same.requests ∙ at.requests ∙ sym kept.requests;
      accepted = same.accepted ∙ at.accepted ∙ sym kept.accepted;
    })

-- calls that leave the jobs alone leave their tags, and what was answered
pub jobs_left : (a b : SiteState) → KeepsJobs a b → tags b.jobs ≡ tags a.jobs
jobs_left a b alone =
    let here = pair_of b.image b.jobs in
    let left = b.earlier a.moment b.moment here alone.any_moment.later b.now in
    let has = alone.any_moment.each here left in
    advanced_tags a.jobs b.jobs has.jobs

around_left : (s : Stage) (t u : Trial) → KeepsJobs (site.state_of t.site) (site.state_of u.site) → u.orchestrator ≡ t.orchestrator
    → IsAround s (outside_of t.site t.orchestrator) → IsAround s (outside_of u.site u.orchestrator)
around_left s t u alone same at = record {
  jobs = jobs_left (site.state_of t.site) (site.state_of u.site) alone ∙ at.jobs;
  begins = ap (λ (l : Answered). length l.begins) alone.answers ∙ at.begins;
  grants = ap (λ (o : TrialOrchestrator). length (peer.state_of o).answers) same ∙ at.grants;
}

-- what a request comes to at a stage
abbrev pub outcome_at : Stage → Request → Outcome
outcome_at s r = outcome 1 0 s.history 0 Orchestrator r

-- a trial counted one request more, which was answered with this status
pub record CountsOne (status : ℕ) (t u : Trial) : Type 0 where
  pub drawn : u.drawn ≡ t.drawn
  pub requests : u.requests ≡ t.requests + 1
  pub accepted : u.accepted ≡ accepted_with status t.accepted

-- a request that was answered leads to the stage behind it
pub request_leads : (s : Stage) (t u : Trial) (r : Request) (reply : Reply) → IsAt s t → reply ≡ (outcome_at s r).reply
    → Works (Unit {0}) 1 s.history (went ((outcome_at s r).after ++ s.history)) u.manager (site.state_of t.site) (site.state_of u.site)
    → LeadsOn (Unit {0}) (site.state_of t.site) (site.state_of u.site) → u.manager.ledger.saved ≡ t.manager.ledger.saved
    → u.orchestrator ≡ t.orchestrator → CountsOne reply.status t u → IsAt (requested s r) u
unfolding requested
request_leads s t u r reply at is works leads saved same counts =
    let after : IsAround s (outside_of u.site u.orchestrator) = around_left s t u (works.jobs tt) same at.around in
    record {
      number = works.number;
      saved = saved ∙ at.saved;
      ready = leads 1 s.history (went ((outcome_at s r).after ++ s.history)) u.manager works refl;
      around = record { jobs = after.jobs; begins = after.begins; grants = after.grants };
      drawn = counts.drawn ∙ at.drawn;
      requests = counts.requests ∙ ap (λ (n : ℕ). n + 1) at.requests;
      accepted =
          counts.accepted ∙ ap (λ (n : ℕ). accepted_with reply.status n) at.accepted
          ∙ ap (λ (a : Reply). accepted_with a.status s.accepted) is;
    }

-- a trial begins at its first stage
pub first_leads : (start : ℕ) (t : Trial) → Begins t.manager (site.state_of t.site) → (peer.state_of t.orchestrator).answers ≡ []
    → t.drawn ≡ start → t.requests ≡ 0 → t.accepted ≡ 0 → IsAt (first_stage start) t
unfolding first_stage
first_leads start t begins answers drawn requests accepted = record {
  number = begins.number;
  saved = begins.saved;
  ready = begins.ready;
  around = record {
    jobs = ap tags begins.jobs;
    begins = ap (λ (l : Answered). length l.begins) begins.answers;
    grants = ap length answers;
  };
  drawn = drawn;
  requests = requests;
  accepted = accepted;
}

-- a turn that went through, as it is told, leads to the stage behind it
pub turned_so : (s : Stage) (t u : Trial) (now : ℕ) (done : Turn) → IsAt s t → now ≡ 0
    → ((H : List Event) → IsReady (Unit {0}) t.manager H (site.state_of t.site) → (deeds : List Deed) × (end : TurnEnd)
    × Turns both_tell (point t.manager.ledger.manager t.manager.ledger.saved now H) deeds end u.manager (lent t) (lent u)
    × EndsTurn (Ok done) (endings now H deeds) end)
    → WorksWithJobsLeadOn (Unit {0}) (site.state_of t.site) (site.state_of u.site)
    → (site.counts_of u.site).vim ≡ 0 → (peer.counts_of u.orchestrator).faults ≡ 0 → CountSame t u → IsAt (turned s) u
turned_so s t u now done at is turns leads vim faults same = ends it.1 there it.3 where
  it : (deeds : List Deed) × (end : TurnEnd)
      × Turns both_tell (point t.manager.ledger.manager t.manager.ledger.saved now s.history) deeds end u.manager (lent t) (lent u)
      × EndsTurn (Ok done) (endings now s.history deeds) end
  it = turns s.history at.ready

  there : Turns both_tell (point 1 0 0 s.history) it.0 it.1 u.manager (lent t) (lent u)
  there =
      subst (λ (n : ℕ). Turns both_tell (point 1 0 n s.history) it.0 it.1 u.manager (lent t) (lent u)) is
      (subst (λ (z : ℕ). Turns both_tell (point 1 z now s.history) it.0 it.1 u.manager (lent t) (lent u)) at.saved
      (subst (λ (m : ℕ). Turns both_tell (point m t.manager.ledger.saved now s.history) it.0 it.1 u.manager (lent t) (lent u)) at.number it.2))

  ends : (end : TurnEnd) → Turns both_tell (point 1 0 0 s.history) it.0 end u.manager (lent t) (lent u)
      → EndsTurn (Ok done) (endings now s.history it.0) end → IsAt (turned s) u
  ends through went_so counts = turn_leads s t u it.0 at went_so leads vim faults same
  ends (stopped d why) went_so never = absurd never

-- a request that was answered, as it is told, leads to the stage behind it
pub answered_so : (s : Stage) (t u : Trial) (now : ℕ) (r : Request) (reply : Reply) → IsAt s t → now ≡ 0
    → ((H : List Event) → Keeps t.manager H
    → reply ≡ (outcome t.manager.ledger.manager t.manager.ledger.saved H now Orchestrator r).reply)
    → ((H : List Event) → IsReady (Unit {0}) t.manager H (site.state_of t.site) → Works (Unit {0}) t.manager.ledger.manager H
    (answered (outcome t.manager.ledger.manager t.manager.ledger.saved H now Orchestrator r) H (Ok reply)) u.manager
    (site.state_of t.site) (site.state_of u.site))
    → LeadsOn (Unit {0}) (site.state_of t.site) (site.state_of u.site) → u.manager.ledger.saved ≡ t.manager.ledger.saved
    → u.orchestrator ≡ t.orchestrator → CountsOne reply.status t u → IsAt (requested s r) u
answered_so s t u now r reply at is replies works leads saved same counts =
    let H : List Event = s.history in
    let A : ℕ → ℕ → ℕ → Type 0 = λ m z n. reply ≡ (outcome m z H n Orchestrator r).reply in
    let W : ℕ → ℕ → ℕ → Type 0 = λ m z n. Works (Unit {0}) m H (went ((outcome m z H n Orchestrator r).after ++ H)) u.manager
    (site.state_of t.site) (site.state_of u.site) in
    request_leads s t u r reply at
    (subst (λ (n : ℕ). A 1 0 n) is (subst (λ (z : ℕ). A 1 z now) at.saved
    (subst (λ (m : ℕ). A m t.manager.ledger.saved now) at.number (replies H at.ready.keeps))))
    (subst (λ (n : ℕ). W 1 0 n) is (subst (λ (z : ℕ). W 1 z now) at.saved
    (subst (λ (m : ℕ). W m t.manager.ledger.saved now) at.number (works H at.ready))))
    leads saved same counts

-- what follows from what is known where it went well
pub on_ok : {A B : Type 0} → (r : Result (Unit {0}) TrialFault) → (A → B) → OnOk r A → OnOk r B
on_ok (Ok done) f a = f a
on_ok (Err why) f a = tt
