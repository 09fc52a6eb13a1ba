-- The journal wasn't migrated.
use Rattle.std.proofs.Common.{Err, ap, ◌∙◌}
use Rattle.std.proofs.lemmas.Result.{err_from_is_err_and}
use Rattle.vnfm_commands.proofs.RunLemmas.{spared_same}
use Rattle.vnfm_commands.proofs.commands.move_journal.Goals as goal

pub returns-in_err-records : goal.returns-in_err-records
returns-in_err-records g c =
    let did = c.in_err-records.ensures in
    let err = err_from_is_err_and c.from_residual.result c.from_residual.ensures.1 in (
      Err c.in_err-records.field-0.0,
      err.1 ∙ ap Err err.2,
      record {
        refused = λ why is. let it = did.refused why is in (spared_same g.T.Site.state g.T.Site.counts _ _ it.0, it.1);
        migrates = did.migrates;
        reads = did.old;
        jobs = did.jobs;
        first = did.old_counts;
        second = did.counts;
      },
    )
