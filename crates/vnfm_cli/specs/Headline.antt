-- What a stop leaves, whenever it comes in a run: a journal that has all that it had and all that was acknowledged
-- before the stop, and resources that are just those of its history.
use Rattle.std.specs.Prelude.{List, [], ◌∷◌, Some, false, true, ℕ, ◌<◌, ◌≤◌, ◌≡◌}
use Rattle.executor.specs.History.{HasHistory}
use Rattle.executor.specs.Work.{Extends}
use Rattle.journal_core.specs.Create.{IsMaking, MayBeMade}
use Rattle.lcm_events.specs.declared.changes.Def.{Def}
use Rattle.lcm_events.specs.declared.changes.DefKind.TheVariants.{Compute}
use Rattle.lcm_events.specs.declared.descriptor.Vnfd.{Vnfd}
use Rattle.lcm_events.specs.declared.events.Event.{Event}
use Rattle.lcm_events.specs.declared.states.OpState.{OpState}
use Rattle.lcm_events.specs.declared.states.OpState.TheVariants.{Completed, RolledBack}
use Rattle.lcm_jobs.specs.Backing.{IsGrantedWork}
use Rattle.lcm_jobs.specs.Beside.{IsBeside}
use Rattle.lcm_jobs.specs.Idle.{stands_among}
use Rattle.lcm_jobs.specs.Sound.{IsSound}
use Rattle.lcm_jobs.specs.Standing.{EachStands, StandsAtMostOnce}
use Rattle.lcm_model.specs.Instances.{is_instantiated}
use Rattle.lcm_model.specs.Lives.{descriptor}
use Rattle.lcm_model.specs.Moves.{state}
use Rattle.lcm_model.specs.Operations.{ongoing}
use Rattle.lcm_model.specs.Words.{IsIn}
use Rattle.site_traits.specs.Jobs.{Advances, Job}
use Rattle.site_traits.specs.Site.{IsJobless, IsSettled, Pair, SiteState}
use Rattle.vnfm_commands.specs.Runs.{IsSoundStart}

-- What is read, and whatever a stop now may leave, is a journal of manager m with this legal history, and the jobs are
-- sound with it (own rule).
pub record IsSoundBeginning (m : ℕ) (H : List Event) (s : SiteState) : Type 0 where
  pub start : IsSoundStart m H s
  pub sound : IsSound m H s.jobs

-- every change of an occurrence in this state stands so often among the jobs (own rule)
abbrev pub ChangesStand : OpState → ℕ → List Event → List Job → Type 0
ChangesStand s n H jobs = (o : ℕ) → state H o ≡ s → EachStands H jobs o n

-- each job is the work of an attempt behind a grant (SOL 003 9.4.2)
abbrev pub AreGrantedWork : List Event → List Job → Type 0
AreGrantedWork H jobs = (j : Job) → IsIn j jobs → IsGrantedWork H j

-- of an instance that is NOT_INSTANTIATED without an operation that goes on nothing stands among the jobs (SOL 003
-- 5.5.2.2, instantiationState)
abbrev pub IdleHaveNothing : List Event → List Job → Type 0
IdleHaveNothing H jobs = (i : ℕ) → is_instantiated H i ≡ false → ongoing H i ≡ [] → (x : Def)
    → stands_among H i x jobs ≡ false

-- where a compute of an instance stands among the jobs, so do its storages and all links of the instance (SOL 001,
-- Vdu.Compute, VduCp)
abbrev pub ComputesStandBeside : List Event → List Job → Type 0
ComputesStandBeside H jobs = (i : ℕ) (d : Vnfd) → descriptor H i ≡ Some d → (x : Def) → x.kind ≡ Compute
    → stands_among H i x jobs ≡ true → (y : Def) → IsBeside d x y → stands_among H i y jobs ≡ true

-- What a stop leaves is sound, from history H of manager m on. The file has a history of that manager that begins with
-- H, so that nothing of H is lost, and the jobs are sound with it. Each change stands at most once; each of an
-- occurrence that is COMPLETED exactly once, and each of one that is ROLLED_BACK not at all; each job is granted work;
-- nothing stands of an instance that is NOT_INSTANTIATED without an operation that goes on; and each compute stands
-- beside its storages and all links of its instance (SOL 003 5.6.2, 9.4.2, 5.5.2.2; SOL 001, Vdu.Compute, VduCp; own
-- rule).
pub record IsSoundPair (m : ℕ) (H : List Event) (p : Pair) : Type 0 where
  pub number : m < 4294967296
  pub history : List Event
  pub kept : Extends H history
  pub file : HasHistory m history p.image
  pub sound : IsSound m history p.jobs
  pub once : (o c : ℕ) → StandsAtMostOnce p.jobs o c
  pub completed : ChangesStand Completed 1 history p.jobs
  pub rolled_back : ChangesStand RolledBack 0 history p.jobs
  pub granted : AreGrantedWork history p.jobs
  pub idle : IdleHaveNothing history p.jobs
  pub beside : ComputesStandBeside history p.jobs

-- a file with a history from H on, and jobs that are sound with it, are such a pair (own rule)
abbrev pub SoundJobsMakeSoundPairs : Type 0
SoundJobsMakeSoundPairs =
    (m : ℕ) (H K : List Event) (p : Pair) → m < 4294967296 → Extends H K → HasHistory m K p.image → IsSound m K p.jobs
    → IsSoundPair m H p

-- At this moment, between these two states of the site, history G had been reached, and whatever a stop since leaves is
-- sound from it on: nothing of it is lost (own rule).
pub record StandsSince (m : ℕ) (G : List Event) (moment : ℕ) (a b : SiteState) : Type 0 where
  pub behind : a.moment ≤ moment
  pub before : moment ≤ b.moment
  pub left : (p : Pair) → b.since moment p → IsSoundPair m G p

-- Between these two states of the site these histories were told of, the latest first, each at one of the moments that
-- were noted since those before, and each stands since its moment. Nothing else was told of (own rule).
abbrev pub AreStanding : ℕ → List (List Event) → List ℕ → List ℕ → SiteState → SiteState → Type 0
AreStanding m [] before now a b = now ≡ before
AreStanding m (G ∷ earlier) before now a b =
    (moment : ℕ) × (noted : List ℕ) × (now ≡ moment ∷ noted) × StandsSince m G moment a b
    × AreStanding m earlier before noted a b

-- a site before its journal is made: a stop now leaves only files that are unfinished for this manager, and there is no
-- job (own rule)
pub record IsFresh (manager : ℕ) (s : SiteState) : Type 0 where
  pub file : MayBeMade manager s
  pub jobless : s.jobs ≡ []

-- the pair's file is unfinished for this manager, or made for it with no record, and there is no job (own rule)
pub record IsFreshPair (manager : ℕ) (p : Pair) : Type 0 where
  pub file : IsMaking manager p
  pub jobless : IsJobless p

-- What a stop left is there when the next run begins: nothing is pending, the file is the one that was left, and of the
-- jobs that were left some running ones may have ended (own rule).
pub record IsLeftWith (p : Pair) (s : SiteState) : Type 0 where
  pub settled : IsSettled s
  pub file : s.image ≡ p.image
  pub jobs : Advances p.jobs s.jobs
