-- A journal was to be made; or it was opened, and a descriptor onboarded, rounds made or what it has counted; or it wasn't
-- opened.
use Rattle.std.proofs.Common.{Err, Ok, ap, refl, ◌∙◌}
use Rattle.std.proofs.lemmas.Result.{err_from_is_err_and}
use Rattle.vnfm_commands.specs.Course.{counting, making, migrating, onboarding, onboarding_ending, opened, serving, trying, unopened}
use Rattle.vnfm_commands.specs.Outside.{outside}
use Rattle.vnfm_commands.proofs.DiskLemmas.{alike_of, disk_last, disk_of, moved_fails, synced, unonboarded_fails, unopened_fails}
use Rattle.vnfm_commands.proofs.RoundLemmas.{asks_nobody}
use Rattle.vnfm_commands.proofs.RunLemmas.{does_activity, does_not_open, opening_of, opens_to_serve, rests_opened, serves_rounds, untouched}
use Rattle.vnfm_commands.specs.Words.{loads}
use Rattle.vnfm_commands.specs.declared.ending.Report.TheVariants.{Counted}
use Rattle.vnfm_commands.specs.declared.totals.Totals.{Totals}
use Rattle.site_traits.specs.Moments.{keeps_refl}
use Rattle.vnfm_commands.proofs.commands.perform.Goals as goal

pub returns-in-Init-clause-does : goal.returns-in-Init-clause-does
returns-in-Init-clause-does g c =
    let made = c.init.ensures.makes in
    let behind = outside (g.S.Site.state c.init.new.site) (g.S.Site.counts c.init.new.site) c.args.mouth.now
    (g.O.Orchestrator.state c.args.orchestrator.now) (g.O.Orchestrator.counts c.args.orchestrator.now)
    (g.C.Courier.state c.args.courier.now) (g.C.Courier.counts c.args.courier.now) (g.K.Clock.state c.args.clock.now) in (
      making c.args.settings.now.manager made.0,
      (c.in-Init.is, refl),
      record {
        legal = tt;
        site = made.1;
        saved = λ told. tt;
        jobs = c.init.ensures.jobs;
        counted = λ told. tt;
        beside = record { peers = refl; asks = asks_nobody _ _ _ behind refl refl c.init.ensures.jobs c.init.ensures.disk };
        told = refl;
      },
      made.2,
    )

pub returns-in-Init-clause-disk : goal.returns-in-Init-clause-disk
returns-in-Init-clause-disk g c = λ other another. disk_of _ _ _ c.init.ensures.disk

pub returns-in-Init-clause-untouched_jobs : goal.returns-in-Init-clause-untouched_jobs
returns-in-Init-clause-untouched_jobs g c = λ other. alike_of _ _ _ c.init.ensures.disk

pub returns-in_err-manager-in-Onboard-clause-does : goal.returns-in_err-manager-in-Onboard-clause-does
returns-in_err-manager-in-Onboard-clause-does g c =
    let why = c.in_err-manager-in-Onboard.field-0.0 in
    let err = err_from_is_err_and c.from_residual.result c.from_residual.ensures.1 in
    let leaves = c.works_add_up.ensures.jobs c.args.site.now c.load.new.site c.load.new.site in
    let behind = outside (g.S.Site.state c.load.new.site) (g.S.Site.counts c.load.new.site) c.args.mouth.now
    (g.O.Orchestrator.state c.args.orchestrator.now) (g.O.Orchestrator.counts c.args.orchestrator.now)
    (g.C.Courier.state c.args.courier.now) (g.C.Courier.counts c.args.courier.now) (g.K.Clock.state c.args.clock.now) in (
      unopened why,
      ap loads c.in-Onboard.is,
      does_not_open _ why _ behind leaves c.in_err-manager-in-Onboard.ensures.told c.in_err-manager-in-Onboard.ensures.opens
          (rests_opened _ _ _ _ _ _ _ _ _ _ _ _ (λ told. (leaves told (c.in_err-manager-in-Onboard.ensures.told told)).0)
          (unopened_fails why c.from_residual.result _ _ c.in_err-manager-in-Onboard.ensures.counts (err.1 ∙ ap Err err.2))),
      err.1 ∙ ap Err err.2,
    )

pub returns-in_err-manager-in-Once-clause-does : goal.returns-in_err-manager-in-Once-clause-does
returns-in_err-manager-in-Once-clause-does g c =
    let why = c.in_err-manager-in-Once.field-0.0 in
    let err = err_from_is_err_and c.from_residual-in_err-manager-in-Once.result c.from_residual-in_err-manager-in-Once.ensures.1 in
    let leaves = c.works_add_up.ensures.jobs c.args.site.now c.load-in-Once.new.site c.load-in-Once.new.site in
    let behind = outside (g.S.Site.state c.load-in-Once.new.site) (g.S.Site.counts c.load-in-Once.new.site) c.args.mouth.now
    (g.O.Orchestrator.state c.args.orchestrator.now) (g.O.Orchestrator.counts c.args.orchestrator.now)
    (g.C.Courier.state c.args.courier.now) (g.C.Courier.counts c.args.courier.now) (g.K.Clock.state c.args.clock.now) in (
      unopened why,
      opens_to_serve _ c.in-Once.is,
      does_not_open _ why _ behind leaves c.in_err-manager-in-Once.ensures.told c.in_err-manager-in-Once.ensures.opens
          (rests_opened _ _ _ _ _ _ _ _ _ _ _ _ (λ told. (leaves told (c.in_err-manager-in-Once.ensures.told told)).0)
          (unopened_fails why c.from_residual-in_err-manager-in-Once.result _ _ c.in_err-manager-in-Once.ensures.counts
          (err.1 ∙ ap Err err.2))),
      err.1 ∙ ap Err err.2,
    )

pub returns-in_ok-onboard-in-Onboard-clause-does : goal.returns-in_ok-onboard-in-Onboard-clause-does
returns-in_ok-onboard-in-Onboard-clause-does g c =
    let start = c.in_ok-manager-in-Onboard.ensures.opens in
    let it = c.in_ok-onboard-in-Onboard.ensures.onboards start.0 start.1 in
    let clean = synced ⊥ _ _ (c.in_ok-manager-in-Onboard.ensures.counts.stays (λ wrong. cc wrong)) (λ never. never) in
    let leaves = c.works_add_up.ensures.jobs c.args.site.now c.load.new.site c.onboard.new.site in
    let middle = outside (g.S.Site.state c.load.new.site) (g.S.Site.counts c.load.new.site) c.args.mouth.now
    (g.O.Orchestrator.state c.args.orchestrator.now) (g.O.Orchestrator.counts c.args.orchestrator.now)
    (g.C.Courier.state c.args.courier.now) (g.C.Courier.counts c.args.courier.now) (g.K.Clock.state c.args.clock.now) in
    let behind = outside (g.S.Site.state c.onboard.new.site) (g.S.Site.counts c.onboard.new.site) c.onboard.new.mouth
    (g.O.Orchestrator.state c.args.orchestrator.now) (g.O.Orchestrator.counts c.args.orchestrator.now)
    (g.C.Courier.state c.args.courier.now) (g.C.Courier.counts c.args.courier.now) (g.K.Clock.state c.onboard.new.clock) in (
      opened (opening_of c.in_ok-manager-in-Onboard.manager start.0) (onboarding it.0),
      c.in-Onboard.is,
      does_activity _ c.in_ok-manager-in-Onboard.manager _ start.0 (onboarding it.0) _ middle _
          (c.works_add_up.ensures.stays c.load.new.site)
          (c.works_add_up.ensures.stays c.onboard.new.site)
          (c.works_with_jobs_add_up.ensures.follows c.args.site.now c.load.new.site c.onboard.new.site) leaves
          (c.works_with_jobs_add_up.ensures.works c.load.new.site c.onboard.new.site) c.in_ok-manager-in-Onboard.ensures.number
          c.in_ok-manager-in-Onboard.ensures.told start.1
          (record {
            works = it.1.works;
            does = (
              it.1.brings,
              asks_nobody _ _ middle behind refl refl it.1.works.jobs
                  c.in_ok-onboard-in-Onboard.ensures.disk,
            );
            told = it.1.brings.unnoted;
          })
          (rests_opened _ _ _ _ _ _ _ _ _ _ _ _ (λ told. (leaves told (c.in_ok-manager-in-Onboard.ensures.told told)).0) clean)
          (λ told. tt),
      ap onboarding_ending it.2,
    )

pub returns-in_err-onboard-in-Onboard-clause-does : goal.returns-in_err-onboard-in-Onboard-clause-does
returns-in_err-onboard-in-Onboard-clause-does g c =
    let start = c.in_ok-manager-in-Onboard.ensures.opens in
    let it = c.in_err-onboard-in-Onboard.ensures.onboards start.0 start.1 in
    let err = err_from_is_err_and c.from_residual-in_err-onboard-in-Onboard.result
    c.from_residual-in_err-onboard-in-Onboard.ensures.1 in
    let clean = synced ⊥ _ _ (c.in_ok-manager-in-Onboard.ensures.counts.stays (λ wrong. cc wrong)) (λ never. never) in
    let leaves = c.works_add_up.ensures.jobs c.args.site.now c.load.new.site c.onboard.new.site in
    let middle = outside (g.S.Site.state c.load.new.site) (g.S.Site.counts c.load.new.site) c.args.mouth.now
    (g.O.Orchestrator.state c.args.orchestrator.now) (g.O.Orchestrator.counts c.args.orchestrator.now)
    (g.C.Courier.state c.args.courier.now) (g.C.Courier.counts c.args.courier.now) (g.K.Clock.state c.args.clock.now) in
    let behind = outside (g.S.Site.state c.onboard.new.site) (g.S.Site.counts c.onboard.new.site) c.onboard.new.mouth
    (g.O.Orchestrator.state c.args.orchestrator.now) (g.O.Orchestrator.counts c.args.orchestrator.now)
    (g.C.Courier.state c.args.courier.now) (g.C.Courier.counts c.args.courier.now) (g.K.Clock.state c.onboard.new.clock) in (
      opened (opening_of c.in_ok-manager-in-Onboard.manager start.0) (onboarding it.0),
      c.in-Onboard.is,
      does_activity _ c.in_ok-manager-in-Onboard.manager _ start.0 (onboarding it.0) _ middle _
          (c.works_add_up.ensures.stays c.load.new.site)
          (c.works_add_up.ensures.stays c.onboard.new.site)
          (c.works_with_jobs_add_up.ensures.follows c.args.site.now c.load.new.site c.onboard.new.site) leaves
          (c.works_with_jobs_add_up.ensures.works c.load.new.site c.onboard.new.site) c.in_ok-manager-in-Onboard.ensures.number
          c.in_ok-manager-in-Onboard.ensures.told start.1
          (record {
            works = it.1.works;
            does = (
              it.1.brings,
              asks_nobody _ _ middle behind refl refl it.1.works.jobs
                  c.in_err-onboard-in-Onboard.ensures.disk,
            );
            told = it.1.brings.unnoted;
          })
          (rests_opened _ _ _ _ _ _ _ _ _ _ _ _ (λ told. (leaves told (c.in_ok-manager-in-Onboard.ensures.told told)).0) clean)
          (λ told. tt),
      err.1 ∙ ap Err err.2 ∙ ap onboarding_ending it.2,
    )

pub returns-in_err-onboard-in-Onboard-clause-disk : goal.returns-in_err-onboard-in-Onboard-clause-disk
returns-in_err-onboard-in-Onboard-clause-disk g c = λ other another.
    let err = err_from_is_err_and c.from_residual-in_err-onboard-in-Onboard.result
    c.from_residual-in_err-onboard-in-Onboard.ensures.1 in
    disk_last _ _ _ _
    (disk_of _ _ _ (synced _ _ _ (c.in_ok-manager-in-Onboard.ensures.counts.stays (λ wrong. cc wrong)) (λ never. never)))
    (disk_of _ _ _ (unonboarded_fails c.in_err-onboard-in-Onboard.field-0.0 _ _ _ c.in_err-onboard-in-Onboard.ensures.disk
    (err.1 ∙ ap Err err.2)))

pub returns-in_ok-manager-in-Once-clause-does : goal.returns-in_ok-manager-in-Once-clause-does
returns-in_ok-manager-in-Once-clause-does g c =
    let start = c.in_ok-manager-in-Once.ensures.opens in
    let it = c.make_rounds.ensures.makes start.0 start.1 in
    let clean = synced ⊥ _ _ (c.in_ok-manager-in-Once.ensures.counts.stays (λ wrong. cc wrong)) (λ never. never) in
    let leaves = c.works_add_up.ensures.jobs c.args.site.now c.load-in-Once.new.site c.make_rounds.new.site in
    let middle = outside (g.S.Site.state c.load-in-Once.new.site) (g.S.Site.counts c.load-in-Once.new.site) c.args.mouth.now
    (g.O.Orchestrator.state c.args.orchestrator.now) (g.O.Orchestrator.counts c.args.orchestrator.now)
    (g.C.Courier.state c.args.courier.now) (g.C.Courier.counts c.args.courier.now) (g.K.Clock.state c.args.clock.now) in (
      opened (opening_of c.in_ok-manager-in-Once.manager start.0) (serving it.0),
      record { command = serves_rounds _ c.in-Once.is; role = it.2 ∙ c.served_role.ensures; count = it.3 },
      does_activity _ c.in_ok-manager-in-Once.manager _ start.0 (serving it.0) _ middle _
          (c.works_add_up.ensures.stays c.load-in-Once.new.site)
          (c.works_add_up.ensures.stays c.make_rounds.new.site)
          (c.works_with_jobs_add_up.ensures.follows c.args.site.now c.load-in-Once.new.site c.make_rounds.new.site) leaves
          (c.works_with_jobs_add_up.ensures.works c.load-in-Once.new.site c.make_rounds.new.site) c.in_ok-manager-in-Once.ensures.number
          c.in_ok-manager-in-Once.ensures.told start.1
          (record { works = it.1.works; does = it.1.serves; told = it.1.told })
          (rests_opened _ _ _ _ _ _ _ _ _ _ _ _ (λ told. (leaves told (c.in_ok-manager-in-Once.ensures.told told)).0) clean)
          (λ told. tt),
      it.4,
    )

pub returns-in_ok-manager-in-Once-clause-disk : goal.returns-in_ok-manager-in-Once-clause-disk
returns-in_ok-manager-in-Once-clause-disk g c = λ other another.
    disk_last _ _ _ _
    (disk_of _ _ _ (synced ⊥ _ _ (c.in_ok-manager-in-Once.ensures.counts.stays (λ wrong. cc wrong)) (λ never. never)))
    c.make_rounds.ensures.disk

pub returns-in_err-manager-in-Check-clause-does : goal.returns-in_err-manager-in-Check-clause-does
returns-in_err-manager-in-Check-clause-does g c =
    let why = c.in_err-manager-in-Check.field-0.0 in
    let err = err_from_is_err_and c.from_residual-in_err-manager-in-Check.result c.from_residual-in_err-manager-in-Check.ensures.1 in
    let leaves = c.works_add_up.ensures.jobs c.args.site.now c.load-in-Check.new.site c.load-in-Check.new.site in
    let behind = outside (g.S.Site.state c.load-in-Check.new.site) (g.S.Site.counts c.load-in-Check.new.site) c.args.mouth.now
    (g.O.Orchestrator.state c.args.orchestrator.now) (g.O.Orchestrator.counts c.args.orchestrator.now)
    (g.C.Courier.state c.args.courier.now) (g.C.Courier.counts c.args.courier.now) (g.K.Clock.state c.args.clock.now) in (
      unopened why,
      ap loads c.in-Check.is,
      does_not_open _ why _ behind leaves c.in_err-manager-in-Check.ensures.told c.in_err-manager-in-Check.ensures.opens
          (rests_opened _ _ _ _ _ _ _ _ _ _ _ _ (λ told. (leaves told (c.in_err-manager-in-Check.ensures.told told)).0)
          (unopened_fails why c.from_residual-in_err-manager-in-Check.result _ _ c.in_err-manager-in-Check.ensures.counts
          (err.1 ∙ ap Err err.2))),
      err.1 ∙ ap Err err.2,
    )

pub returns-in_ok-manager-in-Check-clause-does : goal.returns-in_ok-manager-in-Check-clause-does
returns-in_ok-manager-in-Check-clause-does g c =
    let start = c.in_ok-manager-in-Check.ensures.opens in
    let m = c.in_ok-manager-in-Check.manager in
    let site = c.load-in-Check.new.site in
    let clean = synced ⊥ _ _ (c.in_ok-manager-in-Check.ensures.counts.stays (λ wrong. cc wrong)) (λ never. never) in
    let leaves = c.works_add_up.ensures.jobs c.args.site.now site site in
    let behind = outside (g.S.Site.state site) (g.S.Site.counts site) c.args.mouth.now
    (g.O.Orchestrator.state c.args.orchestrator.now) (g.O.Orchestrator.counts c.args.orchestrator.now)
    (g.C.Courier.state c.args.courier.now) (g.C.Courier.counts c.args.courier.now) (g.K.Clock.state c.args.clock.now) in (
      opened (opening_of m start.0) counting,
      c.in-Check.is,
      does_activity _ m m start.0 counting _ behind behind
          (c.works_add_up.ensures.stays site)
          (c.works_add_up.ensures.stays site)
          (c.works_with_jobs_add_up.ensures.follows c.args.site.now site site) leaves
          (c.works_with_jobs_add_up.ensures.works site site) c.in_ok-manager-in-Check.ensures.number
          c.in_ok-manager-in-Check.ensures.told start.1
          (record { works = c.works_add_up.ensures.idles site m start.0 start.1; does = refl; told = refl })
          (rests_opened _ _ _ _ _ _ _ _ _ _ _ _ (λ told. (leaves told (c.in_ok-manager-in-Check.ensures.told told)).0) clean)
          c.in_ok-manager-in-Check.ensures.told,
      ap (λ (t : Totals). Ok (Counted t)) (c.count_all.ensures start.0 start.1.keeps),
    )

pub returns-in-Migrate-clause-does : goal.returns-in-Migrate-clause-does
returns-in-Migrate-clause-does g c =
    let moved = c.move_journal.ensures in
    let leaves = c.works_add_up.ensures.jobs c.args.site.now c.move_journal.new.site c.move_journal.new.site in
    let behind = outside (g.S.Site.state c.move_journal.new.site) (g.S.Site.counts c.move_journal.new.site) c.args.mouth.now
    (g.O.Orchestrator.state c.args.orchestrator.now) (g.O.Orchestrator.counts c.args.orchestrator.now)
    (g.C.Courier.state c.args.courier.now) (g.C.Courier.counts c.args.courier.now) (g.K.Clock.state c.args.clock.now) in (
      migrating moved.0,
      c.in-Migrate.is,
      record {
        legal = tt;
        site = moved.2.reads;
        saved = λ told. tt;
        jobs = λ told. (leaves told (moved.2.reads told)).0;
        counted = λ told. tt;
        beside = record {
          peers = refl;
          asks = asks_nobody _ _ _ behind refl refl (λ told. (leaves told (moved.2.reads told)).0)
              (moved_fails moved.0 _ _ moved.2.first);
        };
        told = refl;
      },
      moved.1,
    )

pub returns-in-Migrate-clause-untouched_jobs : goal.returns-in-Migrate-clause-untouched_jobs
returns-in-Migrate-clause-untouched_jobs g c = λ other. alike_of _ _ _ (moved_fails c.move_journal.ensures.0 _ _ c.move_journal.ensures.2.first)

pub returns-in-Trial-clause-does : goal.returns-in-Trial-clause-does
returns-in-Trial-clause-does g c =
    let tried = c.play_trial.ensures in (
      trying tried.0,
      (c.in-Trial.is, tried.2),
      record {
        legal = tt;
        site = λ told. untouched _;
        saved = λ told. tt;
        jobs = λ told. keeps_refl _;
        counted = λ told. tt;
        beside = refl;
        told = refl;
      },
      tried.1,
    )

pub returns-in_ok-manager-in-Once-clause-untouched_jobs : goal.returns-in_ok-manager-in-Once-clause-untouched_jobs
returns-in_ok-manager-in-Once-clause-untouched_jobs g c = λ other. absurd (other (serves_rounds _ c.in-Once.is))
