-- How the manager of a trial begins.
use Rattle.std.proofs.Common.{◌≡◌, ◌∙◌, ◌+◌, ◌≤◌, ℕ, List, [], ◌∷◌, Ok, ap, arith, refl, subst, sym}
use Rattle.executor.specs.History.{HasHistory}
use Rattle.executor.specs.Laws.{HasOneHistory}
use Rattle.executor.specs.Managed.{IsReady, Managed}
use Rattle.executor.specs.Work.{LeadsOn, Works, went}
use Rattle.journal_core.specs.Create.{IsMade}
use Rattle.journal_records.specs.File.{HasRecords, batches, gate_place}
use Rattle.lcm_events.specs.declared.descriptor.Vnfd.{Vnfd}
use Rattle.lcm_events.specs.declared.events.Event.{Event}
use Rattle.lcm_events.specs.declared.events.EventKind.TheVariants.{Onboarded}
use Rattle.lcm_model.specs.Allowed.{MayOnboard}
use Rattle.lcm_model.specs.Descriptors.{IsValid}
use Rattle.site_traits.specs.Jobs.{Advances, Job, unanswered}
use Rattle.site_traits.specs.Site.{KeepsJobs, SiteState, pair_of}
use Rattle.vnfd_reader.specs.Answer.{answer}
use Rattle.lcm_trial.specs.Beginning.{Begins, IsMadeBy}
use Rattle.lcm_trial.specs.Stages.{first_history, history_with}
use Rattle.lcm_trial.specs.declared.descriptor.TheConstants.{DESCRIPTOR}

-- a file that was made has no event, and is manager 1's
empty_at_first : (n : ℕ) (H : List Event) (image made : List ℕ) → HasOneHistory → n ≤ 4294967295 → image ≡ made
    → HasRecords 1 [] made → HasHistory n H image → (1 ≡ n) × ([] ≡ H)
empty_at_first n H image made one small same file has =
    let P : List ℕ → Type 0 = λ i. HasHistory n H i in
    one 1 n [] H made (omega arith) (omega (arith, small)) (record { file = file; events = tt }) (subst P same has)

-- the journal of a file that was made is ready, with no event, and saves nothing
pub made_so : (m : Managed) (H : List Event) (a b : SiteState) → HasOneHistory → IsMade 1 a → b.image ≡ a.image
    → m.ledger.manager ≤ 4294967295 → IsReady (Unit {0}) m H b → IsMadeBy m b
made_so m H a b one made same small ready =
    let stands = ready.stands tt in
    let R : List (List ℕ) → Type 0 = λ rs. HasRecords m.ledger.manager rs b.image in
    let has : HasHistory m.ledger.manager H b.image =
    record { file = subst R stands.records stands.journal.file; events = stands.events } in
    let is = empty_at_first m.ledger.manager H b.image a.image one small same made.file has in
    let P : List Event → Type 0 = λ G. IsReady (Unit {0}) m G b in
    let first : IsReady (Unit {0}) m [] b = subst P (sym is.1) ready in
    let end = first.keeps.kept.end first.usable in
    let place = stands.journal.end in
    record {
      number = sym is.0;
      saved = none_saved m b end place;
      ready = first;
    } where
      none_saved : (m : Managed) (b : SiteState) → m.ledger.end + m.ledger.saved ≡ 32 → m.ledger.end ≡ gate_place (batches b.image)
          → m.ledger.saved ≡ 0
      none_saved m b end place = omega (arith, end, place)

-- the first descriptor may be onboarded
pub may_onboard : (d : Vnfd) → IsValid d → MayOnboard [] d
may_onboard d valid = record { valid = valid; unknown = refl; room = omega arith }

-- the first history is that of the descriptor's event
pub first_is : (d : Vnfd) (e : Event) → answer DESCRIPTOR.now ≡ Ok d → e ≡ record { moment = 0; kind = Onboarded d } → e ∷ [] ≡ first_history
unfolding first_history
first_is d e read is = ap (λ (x : Event). x ∷ []) is ∙ sym (ap history_with read)

-- no job goes on as none
no_job : (js : List Job) → Advances [] js → js ≡ []
no_job [] on = refl
no_job (j ∷ js) on = absurd on

still_none : (a b : SiteState) → a.jobs ≡ [] → KeepsJobs a b → b.jobs ≡ []
still_none a b none alone =
    let here = pair_of b.image b.jobs in
    let has = alone.any_moment.each here (b.earlier a.moment b.moment here alone.any_moment.later b.now) in
    let P : List Job → Type 0 = λ js. Advances js b.jobs in
    no_job b.jobs (subst P none has.jobs)

-- behind the onboarding the manager of a trial begins
pub begins_so : (m n : Managed) (a b c : SiteState) → IsMadeBy m b → a.jobs ≡ [] → a.answers ≡ unanswered → KeepsJobs a b
    → Works (Unit {0}) m.ledger.manager [] (went first_history) n b c → n.ledger.saved ≡ m.ledger.saved → LeadsOn (Unit {0}) b c
    → Begins n c
begins_so m n a b c made jobs answers alone works saved leads = record {
  number = works.number ∙ made.number;
  saved = saved ∙ made.saved;
  ready = leads m.ledger.manager [] (went first_history) n works refl;
  jobs = still_none b c (still_none a b jobs alone) (works.jobs tt);
  answers = (works.jobs tt).answers ∙ (alone.answers ∙ answers);
}
