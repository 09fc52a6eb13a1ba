-- Only a disk fault is told as one.
use Rattle.std.proofs.Common.{Ok, Err, ap, ◌∙◌}
use Rattle.std.proofs.lemmas.Result.{err_from_is_err_and}
use Rattle.vnfm_commands.proofs.DiskLemmas.{making_fails}
use Rattle.vnfm_commands.proofs.commands.init.Goals as goal

pub returns-clause-disk : goal.returns-clause-disk
returns-clause-disk g c = making_fails c.faults_are_counted.ensures.create
    c.in_ok-create.ensures.asks.longer (Ok c.in_ok-create.field-0) c.args.manager _ _ c.in_ok-create.ensures.asks.asks

pub returns-in_err-create-clause-disk : goal.returns-in_err-create-clause-disk
returns-in_err-create-clause-disk g c =
    let err = err_from_is_err_and c.from_residual.result c.from_residual.ensures.1 in
    rw (err.1 ∙ ap Err err.2)
    (making_fails c.faults_are_counted.ensures.create c.in_err-create.ensures.asks.longer (Err c.in_err-create.field-0.0) c.args.manager _ _
    c.in_err-create.ensures.asks.asks)
