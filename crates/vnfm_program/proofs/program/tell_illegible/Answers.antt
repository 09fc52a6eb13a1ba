-- What the run of no words promises, and what was said behind it.
use Rattle.std.proofs.Common.{refl, inl}
use Rattle.vnfm_program.proofs.program.tell_illegible.Goals as goal

pub returns : goal.returns
returns g c = rw (← c.machine.view_is) (inl (record {
  before = _;
  after = _;
  has_mouth = c.in-Ok.is;
  mouth = refl;
  runs = record {
    promises = c.run-status.ensures.promises;
    spared = c.run-status.ensures.spared;
    migration = c.run-status.ensures.migration;
    trial = c.run-status.ensures.trial;
    uncalled = c.run-status.ensures.uncalled;
  };
  explains = c.explain.ensures;
  kept = record { device = refl; files = refl };
}))
