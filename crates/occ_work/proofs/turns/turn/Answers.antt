-- The acts grow by one, or end.
use Rattle.std.proofs.Common.{◌<◌, ◌^◌, arith, rules, sym, ◌∙◌}
use Rattle.occ_work.proofs.ActLemmas.{disk_as, disk_last, disk_untouched}
use Rattle.occ_work.proofs.OrderLemmas.{found_active}
use Rattle.occ_work.proofs.TurnLemmas.{none_yet, one_act_more, ready_so_far, was_stopped, went_through}
use Rattle.occ_work.proofs.turns.turn.Goals as goal

pub acts-init : goal.acts-init
acts-init g c = (none_yet _ _ _ _ (c.works_add_up.ensures.idles c.args.site.now), disk_untouched _)

pub next_active-requires : goal.next_active-requires
next_active-requires g c =
    let up = ready_so_far _ _ _ _ _ _ _ _ c.acts.invariant.0 (c.works_with_jobs_add_up.ensures.leads c.args.site.now c.acts.site)
    c.requires.ready in
    record { usable = up.1.usable; kept = (up.0, up.1.keeps) }

pub act-requires : goal.act-requires
act-requires g c =
    let up = ready_so_far _ _ _ _ _ _ _ _ c.acts.invariant.0 (c.works_with_jobs_add_up.ensures.leads c.args.site.now c.acts.site)
    c.requires.ready in
    record { ready = (up.0, up.1, found_active up.0 _ _ (sym (c.next_active.ensures.next up.0 up.1.keeps) ∙ c.in-Some.is)) }

pub acts-preserved : goal.acts-preserved
acts-preserved g c = (
  one_act_more _ _ _ _ _ _ _ _ _ _ _ _ _ c.acts.invariant.0 (c.works_with_jobs_add_up.ensures.leads c.args.site.now c.acts.site)
      (c.works_with_jobs_add_up.ensures.joins c.args.site.now c.acts.site c.act.new.site)
      (λ G ready. (sym (c.next_active.ensures.next G ready.keeps) ∙ c.in-Some.is, c.next_active.ensures.few G ready.keeps))
      (λ G ready. c.in-Ok.ensures.acts G ready (found_active G _ _ (sym (c.next_active.ensures.next G ready.keeps) ∙ c.in-Some.is)))
      c.count.ensures,
  disk_last ⊥ _ _ _ c.acts.invariant.1 (disk_as _ ⊥ _ _ c.in-Ok.ensures.disk (λ wrong. cc) (λ wrong. absurd wrong)),
)

pub acts-smaller : goal.acts-smaller
acts-smaller g c =
    let up = rw c.in-Some.is at c.next_active.ensures.above in
    let fits : c.in-Some.occ < 2 ^ 64 = search rules in
    omega (arith, up, fits)

pub returns-in-Err-clause-turns : goal.returns-in-Err-clause-turns
returns-in-Err-clause-turns g c = λ H ready.
    was_stopped _ _ _ _ _ _ _ _ _ _ _ _ c.acts.invariant.0 (c.works_with_jobs_add_up.ensures.leads c.args.site.now c.acts.site)
    (c.works_with_jobs_add_up.ensures.joins c.args.site.now c.acts.site c.act.new.site)
    (λ G ready. sym (c.next_active.ensures.next G ready.keeps) ∙ c.in-Some.is)
    (λ G ready. c.in-Err.ensures.acts G ready (found_active G _ _ (sym (c.next_active.ensures.next G ready.keeps) ∙ c.in-Some.is))) H ready

pub returns-in-Err-clause-disk : goal.returns-in-Err-clause-disk
returns-in-Err-clause-disk g c = disk_as _ _ _ _ (disk_last _ _ _ _ c.acts.invariant.1 c.in-Err.ensures.disk) (λ is. cc) (λ is. cc)

pub returns-clause-turns : goal.returns-clause-turns
returns-clause-turns g c = λ H ready.
    went_through _ _ _ _ _ _ _ _ c.acts.invariant.0 (c.works_with_jobs_add_up.ensures.leads c.args.site.now c.acts.site)
    (λ G ready. sym (c.next_active.ensures.next G ready.keeps) ∙ c.in_default.is) H ready

pub returns-clause-disk : goal.returns-clause-disk
returns-clause-disk g c = disk_as ⊥ _ _ _ c.acts.invariant.1 (λ never. absurd never) (λ wrong. cc)
