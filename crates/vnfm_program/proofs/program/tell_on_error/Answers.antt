-- What the run promises and what explains its status, over what the machine shows.
use Rattle.std.proofs.Common.{refl}
use Rattle.vnfm_commands.specs.Ending.{output_of}
use Rattle.vnfm_program.proofs.program.tell_on_error.Goals as goal

pub returns : goal.returns
returns g c = rw (← c.machine.view_is) (record {
  behind = output_of g.E.Sink.state g.E.Sink.counts c.run-status.new.out;
  runs = record {
    promises = c.run-status.ensures.promises;
    spared = c.run-status.ensures.spared;
    migration = c.run-status.ensures.migration;
    trial = c.run-status.ensures.trial;
    uncalled = c.run-status.ensures.uncalled;
  };
  explains = rw c.reason.ensures at c.explain.ensures;
  silent = refl;
  kept = record { device = refl; files = refl };
})
