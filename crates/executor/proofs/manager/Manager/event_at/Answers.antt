-- The file has the event.
use Rattle.std.proofs.Common.{refl, ◌∙◌}
use Rattle.executor.specs.Managed.{Managed}
use Rattle.executor.proofs.ReadingLemmas.{has_event, keeps_read, read_is, ready_read}
use Rattle.executor.proofs.manager.Manager.event_at.Goals as goal

pub returns-clause-reads : goal.returns-clause-reads
returns-clause-reads g c = λ H ready tells.
    let m : Managed = record { ledger = c.self.inside.journal; tables = c.self.inside.tables } in
    let begins = rw (← c.self.view_is) at ready in
    let within = rw (← c.self.view_is) at c.requires.within in
    let told = c.in_ok-read_back.ensures.told tells in
    let has = has_event m H _ c.args.n _ c.requires.some within (begins.keeps.kept.count begins.usable) (begins.stands tells)
    (c.record_back.ensures ∙ told.record_is) in
    record {
      event = read_is _ _ has.event has.is (c.event_of.ensures.found has.event has.rules has.spelled);
      whole = λ k is. (c.event_of.ensures.none k is).1 has.event has.rules has.spelled;
      reads = told.reads;
      jobs = c.in_ok-read_back.ensures.jobs tells;
    }

pub returns-clause-ready : goal.returns-clause-ready
returns-clause-ready g c = λ H ready other.
    let m : Managed = record { ledger = c.self.inside.journal; tables = c.self.inside.tables } in
    let n : Managed = record { ledger = c.read_back.new.self; tables = c.self.inside.tables } in
    let begins = rw (← c.self.view_is) at ready in
    ready_read _ m n H _ _ begins c.in_ok-read_back.ensures.kept refl c.in_ok-read_back.ensures.open
    (λ tells. (c.in_ok-read_back.ensures.told tells).reads) (λ tells. (c.in_ok-read_back.ensures.told tells).stands)

pub returns-clause-keeps : goal.returns-clause-keeps
returns-clause-keeps g c = λ H keeps.
    let m : Managed = record { ledger = c.self.inside.journal; tables = c.self.inside.tables } in
    let n : Managed = record { ledger = c.read_back.new.self; tables = c.self.inside.tables } in
    let begins = rw (← c.self.view_is) at c.requires.ready in
    let kept = rw (← c.self.view_is) at keeps in
    keeps_read m n begins.1.usable c.in_ok-read_back.ensures.kept refl H kept

pub returns-clause-number : goal.returns-clause-number
returns-clause-number g c = rw (← c.self.view_is) (c.in_ok-read_back.ensures.kept.manager)

pub returns-clause-saved : goal.returns-clause-saved
returns-clause-saved g c = rw (← c.self.view_is) (c.in_ok-read_back.ensures.kept.saved)
