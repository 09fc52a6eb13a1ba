-- A history whose journal fits its file is small.
use Rattle.executor.proofs.SerialLemmas.{small}
use Rattle.executor.proofs.manager.Manager.plan_asked.Goals as goal

pub plan_of-requires : goal.plan_of-requires
plan_of-requires g c =
    let usable = rw (← c.self.view_is) at c.requires.usable in
    let own = rw (← c.self.view_is) at c.requires.own in
    let H = c.self.invariant.0.0 in
    let keeps = c.self.invariant.0.1 in
    record {
      own = (
        record {
          manager = c.self.inside.journal.manager;
          history = H;
          legal = keeps.kept.legal;
          small = small c.records_add_up.ensures.longer _ H c.serials_are_counted.ensures keeps.kept.legal
              (rw (← keeps.kept.end usable) (c.self.invariant.1 usable));
          tables = keeps.tables;
        },
        own H keeps,
      );
    }

pub returns : goal.returns
returns g c = λ H keeps.
    let usable = rw (← c.self.view_is) at c.requires.usable in
    let own = rw (← c.self.view_is) at c.requires.own in
    let kept = rw (← c.self.view_is) at keeps in
    c.plan_of.ensures _ H (small c.records_add_up.ensures.longer _ H c.serials_are_counted.ensures kept.kept.legal
    (rw (← kept.kept.end usable) (c.self.invariant.1 usable))) kept.kept.legal kept.tables
    (own H kept)
