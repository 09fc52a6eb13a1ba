-- The journal's file was opened, and behind it that of the spare, or there was no memory for one of them.
use Rattle.std.proofs.Common.{ap, inl, refl}
use Rattle.vnfm_program.proofs.Openings.{asked_as, both_opened, journal_opened, on_err, opens_journal, spare_starved}
use Rattle.vnfm_program.proofs.opening.open_files.Goals as goal

pub returns-in_err-open-clause-starved : goal.returns-in_err-open-clause-starved
returns-in_err-open-clause-starved g c = on_err c.from_residual.result _ (inl (record {
  asks = asked_as _ _ _ _ _ _ _ _ c.as_str.ensures.value c.folder_of.ensures
      (record { seeks = c.in_err-open.ensures.seeks; stands = c.open.ensures.stands });
  kept = ap (λ site. record { files = c.open.new.host; site = site; spare = c.args.spare.now })
      c.in_err-open.ensures.refused;
}))

pub returns-in-Migrate-clause-opened : goal.returns-in-Migrate-clause-opened
returns-in-Migrate-clause-opened g c =
    both_opened _ _ _ _ c.open.new.host _ c.open-in-Migrate.result c.in-Migrate.is c.as_str-in-Migrate.ensures.value
    (opens_journal _ c.args.settings.now _ _ _ _ _ _ c.as_str.ensures.value c.folder_of.ensures
    c.in_ok-open.ensures.seeks c.open.ensures.stands c.in_ok-open.ensures.had c.in_ok-open.ensures.why
    c.open.ensures.counts c.open.ensures.jobs)
    c.open-in-Migrate.ensures.seeks c.open-in-Migrate.ensures.stands c.open-in-Migrate.ensures.had
    c.open-in-Migrate.ensures.why c.open-in-Migrate.ensures.counts c.open-in-Migrate.ensures.jobs

pub returns-in-Migrate-clause-starved : goal.returns-in-Migrate-clause-starved
returns-in-Migrate-clause-starved g c =
    spare_starved _ _ _ _ c.open.new.host _ c.open-in-Migrate.result c.in-Migrate.is c.as_str-in-Migrate.ensures.value
    (opens_journal _ c.args.settings.now _ _ _ _ _ _ c.as_str.ensures.value c.folder_of.ensures
    c.in_ok-open.ensures.seeks c.open.ensures.stands c.in_ok-open.ensures.had c.in_ok-open.ensures.why
    c.open.ensures.counts c.open.ensures.jobs)
    c.open-in-Migrate.ensures.seeks c.open-in-Migrate.ensures.stands c.open-in-Migrate.ensures.refused

pub returns-in-Init : goal.returns-in-Init
returns-in-Init g c = record {
  opened = journal_opened _ _ _ _ c.in-Init.is
      (opens_journal _ c.args.settings.now _ _ _ _ _ _ c.as_str.ensures.value c.folder_of.ensures
      c.in_ok-open.ensures.seeks c.open.ensures.stands c.in_ok-open.ensures.had c.in_ok-open.ensures.why
      c.open.ensures.counts c.open.ensures.jobs)
      refl;
  starved = tt;
}
