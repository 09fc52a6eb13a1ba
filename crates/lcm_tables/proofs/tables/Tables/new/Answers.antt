use Rattle.std.proofs.Common.{refl}
use Rattle.lcm_tables.proofs.tables.Tables.new.Goals as goal

pub returns : goal.returns
returns c = record {
  manager = refl;
  instances = c.new.ensures.rows;
  occurrences = c.new-2.ensures.table;
  notices = c.new-3.ensures.queues c.args.manager;
}
