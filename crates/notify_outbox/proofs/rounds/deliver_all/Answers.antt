-- The deliveries grow by one, or end.
use Rattle.std.proofs.Common.{◌<◌, List, arith, length, subst, sym, ℕ}
use Rattle.notify_outbox.specs.Rounds.{once_all_dispatched}
use Rattle.notify_outbox.proofs.RoundLemmas.{live_through, none_yet, one_delivery_more, ready_so_far, was_stopped, went_through}
use Rattle.notify_outbox.proofs.rounds.deliver_all.Goals as goal
use Rattle.site_traits.specs.Counts.{fails_as, fails_last, untouched}

pub deliveries-init : goal.deliveries-init
deliveries-init g c = (none_yet _ _ _ _ (c.works_add_up.ensures.idles c.args.site.now), untouched ⊥ _ (λ never. never))

pub number_at-subscription-requires-clause-usable : goal.number_at-subscription-requires-clause-usable
number_at-subscription-requires-clause-usable g c =
    let it = c.requires.ready in
    let up = ready_so_far _ _ _ _ _ _ _ _ c.deliveries.invariant.0
    (c.works_add_up.ensures.leads c.args.site.now c.deliveries.site) it.0 it.1 in
    up.1.usable

pub number_at-subscription-requires-clause-within : goal.number_at-subscription-requires-clause-within
number_at-subscription-requires-clause-within g c =
    let it = c.requires.ready in
    let up = ready_so_far _ _ _ _ _ _ _ _ c.deliveries.invariant.0
    (c.works_add_up.ensures.leads c.args.site.now c.deliveries.site) it.0 it.1 in
    let count = c.live-count.ensures it.0 it.1.keeps in (
      once_all_dispatched c.args.now it.0 up.0,
      up.1.keeps,
      subst (λ (ns : List ℕ). c.deliveries.k < length ns) (sym (live_through c.args.now it.0 up.0)) (omega (arith, count)),
    )

pub deliver-requires : goal.deliver-requires
deliver-requires g c =
    let it = c.requires.ready in
    let up = ready_so_far _ _ _ _ _ _ _ _ c.deliveries.invariant.0
    (c.works_add_up.ensures.leads c.args.site.now c.deliveries.site) it.0 it.1 in
    record { ready = (once_all_dispatched c.args.now it.0 up.0, up.1) }

pub deliveries-preserved : goal.deliveries-preserved
deliveries-preserved g c = (
  one_delivery_more _ _ _ _ _ _ _ _ _ _ _ _ _ c.count.ensures c.deliveries.invariant.0
      (c.works_add_up.ensures.leads c.args.site.now c.deliveries.site)
      (c.works_add_up.ensures.joins c.args.site.now c.deliveries.site c.deliver.new.site)
      (λ G ready. c.number_at-subscription.ensures G ready.keeps) (λ G ready. c.in-Ok.ensures.delivers G ready) (omega arith),
  fails_last ⊥ _ _ _ c.deliveries.invariant.1 (fails_as _ ⊥ _ _ c.in-Ok.ensures.disk (λ wrong. cc) (λ wrong. absurd wrong)),
)

pub returns-in-Err-clause-delivers : goal.returns-in-Err-clause-delivers
returns-in-Err-clause-delivers g c = λ H ready.
    was_stopped _ _ _ _ _ _ _ _ _ _ _ _ c.deliveries.invariant.0
    (c.works_add_up.ensures.leads c.args.site.now c.deliveries.site)
    (c.works_add_up.ensures.joins c.args.site.now c.deliveries.site c.deliver.new.site)
    (λ G upon. c.number_at-subscription.ensures G upon.keeps) (λ G upon. c.in-Err.ensures.delivers G upon) H ready

pub returns-in-Err-clause-disk : goal.returns-in-Err-clause-disk
returns-in-Err-clause-disk g c =
    fails_as _ _ _ _ (fails_last _ _ _ _ c.deliveries.invariant.1 c.in-Err.ensures.disk) (λ is. cc) (λ is. cc)

pub returns-clause-delivers : goal.returns-clause-delivers
returns-clause-delivers g c = λ H ready.
    went_through _ _ _ _ _ _ _ _ c.deliveries.invariant.0
    (λ G upon. let count = c.live-count.ensures G upon.keeps in omega (arith, count)) H ready

pub returns-clause-disk : goal.returns-clause-disk
returns-clause-disk g c = fails_as ⊥ _ _ _ c.deliveries.invariant.1 (λ never. absurd never) (λ wrong. cc)
