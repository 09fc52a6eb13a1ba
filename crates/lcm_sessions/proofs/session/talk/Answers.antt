-- The talk grows by a request, or ends.
use Rattle.std.proofs.Common.{◌≡◌, arith, false, true, Some, refl}
use Rattle.lcm_sessions.specs.Session.{Closing, breaks, told_last}
use Rattle.lcm_sessions.specs.declared.session.Step.TheVariants as step
use Rattle.lcm_sessions.proofs.TalkLemmas.{ended_so_far, none_so_far, one_more_told, ready_so_far, told_few}
use Rattle.site_traits.specs.Counts.{fails_as, fails_last, untouched}
use Rattle.lcm_sessions.proofs.session.talk.Goals as goal

pub steps-init : goal.steps-init
steps-init g c = (
  none_so_far _ c.args.role c.args.manager.now _ (c.works_add_up.ensures.idles c.args.site.now) c.requires.up,
  untouched ⊥ _ (λ never. never),
  refl,
)

pub answer_next-requires-clause-up : goal.answer_next-requires-clause-up
answer_next-requires-clause-up g c = c.steps.invariant.0.up

pub answer_next-requires-clause-ready : goal.answer_next-requires-clause-ready
answer_next-requires-clause-ready g c = ready_so_far _ _ _ _ _ _ _ c.steps.invariant.0
    (c.works_add_up.ensures.leads c.args.site.now c.steps.site) c.requires.ready

pub overflow_add-told : goal.overflow_add-told
overflow_add-told g c = let few = told_few _ _ _ _ _ _ _ c.steps.invariant.0 in omega (arith, few)

pub steps-preserved : goal.steps-preserved
steps-preserved g c = (
  one_more_told _ _ _ _ _ _ _ _ _ c.steps.invariant.0 (c.works_add_up.ensures.leads c.args.site.now c.steps.site)
      (c.works_add_up.ensures.joins c.args.site.now c.steps.site c.answer_next.new.site)
      (c.what_was_told_of_stays.ensures.joins c.args.site.now c.steps.site c.answer_next.new.site)
      (λ H ready. c.in-Told.ensures.talks H ready) c.answer_next.ensures.up (c.in-Told.ensures.on.more refl) c.answer_next.ensures.on.few,
  fails_last ⊥ _ _ _ c.steps.invariant.1 (fails_as (step.Told ≡ step.Broken) ⊥ _ _ c.in-Told.ensures.counts (λ wrong. cc)
      (λ wrong. absurd wrong)),
  refl,
)

pub overflow_add-result : goal.overflow_add-result
overflow_add-result g c = let few = told_few _ _ _ _ _ _ _ c.steps.invariant.0 in omega (arith, few)

pub returns-in-ToldLast-clause-talks : goal.returns-in-ToldLast-clause-talks
returns-in-ToldLast-clause-talks g c = λ H ready.
    let P : Closing → Type 0 = λ end. (told_last (Some end) ≡ 1) × (breaks (Some end) ≡ false) in
    let it = ended_so_far _ c.args.role _ _ _ _ P _ _ _ c.steps.invariant.0 (c.works_add_up.ensures.leads c.args.site.now c.steps.site)
    (c.works_add_up.ensures.joins c.args.site.now c.steps.site c.answer_next.new.site)
    (c.what_was_told_of_stays.ensures.joins c.args.site.now c.steps.site c.answer_next.new.site)
    (λ G now. let did = c.in-ToldLast.ensures.talks G now in (did.0, did.1, (did.2.0, did.2.1, (did.2.2, did.2.3)))) H ready in
    let count = it.3 in
    let one = it.4.0 in
    (record { role = c.args.role; asks = it.0; end = Some it.1 }, it.1, refl, it.2, refl, (omega (arith, count, one), it.4.1))

pub returns-in-ToldLast-clause-counts : goal.returns-in-ToldLast-clause-counts
returns-in-ToldLast-clause-counts g c =
    fails_last (false ≡ true) _ _ _ c.steps.invariant.1 (fails_as (step.ToldLast ≡ step.Broken)
    (false ≡ true) _ _ c.in-ToldLast.ensures.counts (λ wrong. cc) (λ wrong. cc))

pub returns-in-Over-clause-talks : goal.returns-in-Over-clause-talks
returns-in-Over-clause-talks g c = λ H ready.
    let P : Closing → Type 0 = λ end. (told_last (Some end) ≡ 0) × (breaks (Some end) ≡ false) in
    let it = ended_so_far _ c.args.role _ _ _ _ P _ _ _ c.steps.invariant.0 (c.works_add_up.ensures.leads c.args.site.now c.steps.site)
    (c.works_add_up.ensures.joins c.args.site.now c.steps.site c.answer_next.new.site)
    (c.what_was_told_of_stays.ensures.joins c.args.site.now c.steps.site c.answer_next.new.site)
    (λ G now. let did = c.in-Over.ensures.talks G now in (did.0, did.1, (did.2.0, did.2.1, (did.2.2, did.2.3)))) H ready in
    let count = it.3 in
    let none = it.4.0 in
    (record { role = c.args.role; asks = it.0; end = Some it.1 }, it.1, refl, it.2, refl, (omega (arith, count, none), it.4.1))

pub returns-in-Over-clause-counts : goal.returns-in-Over-clause-counts
returns-in-Over-clause-counts g c =
    fails_last (false ≡ true) _ _ _ c.steps.invariant.1 (fails_as (step.Over ≡ step.Broken) (false ≡ true) _ _ c.in-Over.ensures.counts
    (λ wrong. cc) (λ wrong. cc))

pub returns-in-Broken-clause-talks : goal.returns-in-Broken-clause-talks
returns-in-Broken-clause-talks g c = λ H ready.
    let P : Closing → Type 0 = λ end. breaks (Some end) ≡ true in
    let it = ended_so_far _ c.args.role _ _ _ _ P _ _ _ c.steps.invariant.0 (c.works_add_up.ensures.leads c.args.site.now c.steps.site)
    (c.works_add_up.ensures.joins c.args.site.now c.steps.site c.answer_next.new.site)
    (c.what_was_told_of_stays.ensures.joins c.args.site.now c.steps.site c.answer_next.new.site)
    (λ G now. c.in-Broken.ensures.talks G now) H ready in
    (record { role = c.args.role; asks = it.0; end = Some it.1 }, it.1, refl, it.2, refl, it.4)

pub returns-in-Broken-clause-counts : goal.returns-in-Broken-clause-counts
returns-in-Broken-clause-counts g c =
    fails_last (true ≡ true) _ _ _ c.steps.invariant.1 (fails_as (step.Broken ≡ step.Broken) (true ≡ true) _ _ c.in-Broken.ensures.counts
    (λ same. refl) (λ same. refl))
