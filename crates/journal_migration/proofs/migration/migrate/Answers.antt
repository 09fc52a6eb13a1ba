-- What was written is what a migration does.
use Rattle.executor.proofs.FaultLemmas.{err_is}
use Rattle.site_traits.specs.Moments.{keeps_refl}
use Rattle.journal_migration.proofs.WriteLemmas.{answered_err, answered_ok, is_packing_of, migrates_from}
use Rattle.journal_migration.proofs.migration.migrate.Goals as goal

pub returns-in_err-packed-clause-jobs : goal.returns-in_err-packed-clause-jobs
returns-in_err-packed-clause-jobs g c = λ tells. keeps_refl _

pub write_packed-requires : goal.write_packed-requires
write_packed-requires g c =
    let read = c.in_ok-packed.ensures.read in
    is_packing_of _ read.records c.in_ok-packed.packed.packing read.packed

pub returns-in_err-write_packed-clause-migrates : goal.returns-in_err-write_packed-clause-migrates
returns-in_err-write_packed-clause-migrates g c = λ tells spare_tells.
    migrates_from _ c.in_ok-packed.packed _ _ c.write_packed.result _ _ _ tells c.in_ok-packed.ensures.read (c.in_ok-packed.ensures.told tells).same
    (answered_err _ _ _ _ c.in_err-write_packed.was (err_is _ _ c.from_residual-in_err-write_packed.ensures.1))
    (c.write_packed.ensures.told spare_tells)

pub returns-clause-migrates : goal.returns-clause-migrates
returns-clause-migrates g c = λ tells spare_tells.
    migrates_from _ c.in_ok-packed.packed _ _ c.write_packed.result _ _ _ tells c.in_ok-packed.ensures.read (c.in_ok-packed.ensures.told tells).same
    (answered_ok _ _ _ c.in_ok-write_packed.was) (c.write_packed.ensures.told spare_tells)
