-- The rounds grow by one, or end.
use Rattle.std.proofs.Common.{Ok, ap, arith}
use Rattle.vnfm_commands.specs.declared.ending.Report.TheVariants.{Done}
use Rattle.vnfm_commands.proofs.DiskLemmas.{disk_as, disk_last, disk_untouched, round_fails}
use Rattle.vnfm_commands.proofs.RoundLemmas.{all_made, none_made, one_round_more, ready_so_far, rounds_ended}
use Rattle.vnfm_commands.proofs.rounds.make_rounds.Goals as goal

pub rounds-init : goal.rounds-init
rounds-init g c = (
  none_made _ c.args.role c.args.manager.now _ (c.works_add_up.ensures.idles c.args.site.now)
      (c.works_with_jobs_add_up.ensures.works c.args.site.now c.args.site.now),
  disk_untouched ⊥ _ (λ never. never),
  omega arith,
)

pub make_round-requires : goal.make_round-requires
make_round-requires g c = record {
  ready = ready_so_far _ _ _ _ _ _ _ c.rounds.invariant.0
      (c.works_with_jobs_add_up.ensures.leads c.args.site.now c.rounds.site) c.requires.ready;
}

pub rounds-preserved : goal.rounds-preserved
rounds-preserved g c =
    let less = c.rounds-test.true in (
      one_round_more _ _ _ _ _ _ _ _ _ c.rounds.invariant.0 (c.works_with_jobs_add_up.ensures.leads c.args.site.now c.rounds.site)
          (c.works_with_jobs_add_up.ensures.joins c.args.site.now c.rounds.site c.make_round.new.site)
          (c.what_was_told_of_stays.ensures.joins c.args.site.now c.rounds.site c.make_round.new.site)
          (λ H ready. c.in-Ok.ensures.makes H ready),
      disk_last ⊥ _ _ _ c.rounds.invariant.1 (disk_as _ ⊥ _ _ c.in-Ok.ensures.disk (λ wrong. cc wrong) (λ wrong. absurd wrong)),
      omega (arith, less),
    )

pub returns-in-Err-clause-makes : goal.returns-in-Err-clause-makes
returns-in-Err-clause-makes g c = λ H ready.
    rounds_ended _ c.args.role _ _ _ _ c.args.wanted _ _ _ _ c.rounds.invariant.0
    (c.works_with_jobs_add_up.ensures.leads c.args.site.now c.rounds.site)
    (c.works_with_jobs_add_up.ensures.joins c.args.site.now c.rounds.site c.make_round.new.site)
    (c.what_was_told_of_stays.ensures.joins c.args.site.now c.rounds.site c.make_round.new.site) c.rounds-test.true
    (λ G now. c.in-Err.ensures.makes G now) H ready

pub returns-clause-makes : goal.returns-clause-makes
returns-clause-makes g c = λ H ready.
    let most = c.rounds.invariant.2 in
    let over = c.rounds-test.false in
    let it = all_made _ c.args.role _ _ _ c.args.wanted _ _ c.rounds.invariant.0
    (omega (arith, most, over)) H ready in
    (it.0, it.1, it.2, it.3, rw it.5 (ap (λ n. Ok (Done n)) it.4))

pub returns-in-Err-clause-disk : goal.returns-in-Err-clause-disk
returns-in-Err-clause-disk g c = disk_last _ _ _ _ c.rounds.invariant.1 (round_fails _ _ _ c.in-Err.ensures.disk)
