-- A turn went through, or ended in a fault.
use Rattle.std.proofs.Common.{Ok, Err, ap}
use Rattle.occ_work.specs.Turns.{endings}
use Rattle.vnfm_commands.proofs.DiskLemmas.{turn_fails}
use Rattle.vnfm_commands.proofs.RoundLemmas.{turned}
use Rattle.vnfm_commands.proofs.rounds.take_turn.Goals as goal

pub failure_of-requires : goal.failure_of-requires
failure_of-requires g c = record { short = λ n is. c.in-Err.ensures.short n (ap Err is) }

pub returns-in-Ok-clause-turns : goal.returns-in-Ok-clause-turns
returns-in-Ok-clause-turns g c = λ H ready.
    let it = c.in-Ok.ensures.turns H ready in (
      it.0,
      it.1,
      it.2,
      turned (Ok c.in-Ok.field-0) (Ok (tt {0})) (endings c.args.now H it.0) it.1 it.3 (tt {0}),
    )

pub returns-in-Err-clause-turns : goal.returns-in-Err-clause-turns
returns-in-Err-clause-turns g c = λ H ready.
    let it = c.in-Err.ensures.turns H ready in (
      it.0,
      it.1,
      it.2,
      turned (Err c.in-Err.fault) (Err c.failure_of.result) (endings c.args.now H it.0) it.1 it.3 c.failure_of.ensures,
    )

pub returns-in-Err-clause-disk : goal.returns-in-Err-clause-disk
returns-in-Err-clause-disk g c = turn_fails c.in-Err.fault c.failure_of.result _ _ c.failure_of.ensures c.in-Err.ensures.disk
