-- The event is on the disk, and the tables follow it where it is.
use Rattle.std.proofs.Common.{◌∷◌, Err, ap, arith}
use Rattle.executor.specs.Managed.{Managed, managed}
use Rattle.executor.proofs.CommitLemmas.{broken, committed}
use Rattle.executor.proofs.FaultLemmas.{disk_failed, err_is}
use Rattle.executor.proofs.ManagerLemmas.{keeps_closed, keeps_more}
use Rattle.executor.proofs.SerialLemmas.{small_end}
use Rattle.executor.proofs.recording.append_and_follow.Goals as goal

pub returns-in_err-append-clause-works : goal.returns-in_err-append-clause-works
returns-in_err-append-clause-works g c = λ H ready may.
    let m : Managed = managed c.args.journal.now c.args.tables.now in
    let n : Managed = managed c.append.new.self c.args.tables.now in
    let disk = disk_failed _ _ _ c.requires.spelled.room (λ a b is. (c.in_err-append.ensures.only_full a b (ap Err is)).0) in
    let number = c.in_err-append.ensures.manager in
    let shut = c.in_err-append.ensures.closed (ap Err disk) in
    rw (err_is _ _ c.from_residual.ensures.1, disk)
    (broken _ m n H c.args.e.now _ _ ready (keeps_closed m n number shut (λ k K tables. tables) H ready.keeps) number shut c.requires.event
    may.allowed
    (λ tells. (rw c.requires.spelled.is at (c.in_err-append.ensures.told tells)).any_moment))

pub returns-clause-works : goal.returns-clause-works
returns-clause-works g c = λ H ready may.
    let bytes = c.requires.spelled.is in
    let m : Managed = managed c.args.journal.now c.args.tables.now in
    let n : Managed = managed c.append.new.self c.apply.new.self in
    let room = c.requires.spelled.room in
    let small = small_end c.records_add_up.ensures.longer H (rw (← ready.keeps.kept.end ready.usable)
    (omega (arith, room, c.saved-saved.ensures.small))) in
    let keeps = keeps_more c.records_add_up.ensures.adds m n c.args.tables.now H c.args.e.now ready.keeps ready.usable
    c.in_ok-append.ensures.manager c.in_ok-append.ensures.grown.0
    (rw bytes at c.in_ok-append.ensures.grown.1) c.in_ok-append.ensures.saved c.requires.event may.allowed
    (λ k K tables. tables) c.apply.ensures.applies small in
    committed _ m n H c.args.e.now _ _ ready keeps c.in_ok-append.ensures.manager c.in_ok-append.ensures.grown.2 c.requires.event
    (λ tells. rw bytes at (c.in_ok-append.ensures.told tells))

pub returns-clause-keeps_one : goal.returns-clause-keeps_one
returns-clause-keeps_one g c =
    let m : Managed = managed c.args.journal.now c.args.tables.now in
    let n : Managed = managed c.append.new.self c.apply.new.self in
    let H = c.requires.may.0 in
    let ready = c.requires.may.1 in
    let room = c.requires.spelled.room in
    let small = small_end c.records_add_up.ensures.longer H (rw (← ready.keeps.kept.end ready.usable)
    (omega (arith, room, c.saved-saved.ensures.small))) in (
      c.args.e.now ∷ H,
      keeps_more c.records_add_up.ensures.adds m n c.args.tables.now H c.args.e.now ready.keeps ready.usable c.in_ok-append.ensures.manager
          c.in_ok-append.ensures.grown.0
          (rw c.requires.spelled.is at c.in_ok-append.ensures.grown.1) c.in_ok-append.ensures.saved c.requires.event
          c.requires.may.2.allowed
          (λ k K tables. tables) c.apply.ensures.applies small,
    )
