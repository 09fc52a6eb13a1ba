-- One count is one more, and the others stay.
use Rattle.occ_work.specs.declared.ends.Acted.TheVariants.{Recorded, Unreached, Waiting}
use Rattle.occ_work.proofs.CountLemmas.{one_counted}
use Rattle.occ_work.proofs.ends.Turn.count.Goals as goal

pub returns-in-Recorded : goal.returns-in-Recorded
returns-in-Recorded c = λ ends few counts.
    rw c.in-Recorded.is (record {
      acted = one_counted Recorded ends _ _ c.saturating_add-self.ensures few counts.acted;
      waiting =
          counts.waiting;
      unreached = counts.unreached;
    })

pub returns-in-Waiting : goal.returns-in-Waiting
returns-in-Waiting c = λ ends few counts.
    rw c.in-Waiting.is (record {
      acted = counts.acted;
      waiting = one_counted Waiting ends _ _ c.saturating_add-self-in-Waiting.ensures few
          counts.waiting;
      unreached = counts.unreached;
    })

pub returns-in-Unreached : goal.returns-in-Unreached
returns-in-Unreached c = λ ends few counts.
    rw c.in-Unreached.is (record {
      acted = counts.acted;
      waiting = counts.waiting;
      unreached =
          one_counted Unreached ends _ _ c.saturating_add-self-in-Unreached.ensures few counts.unreached;
    })
