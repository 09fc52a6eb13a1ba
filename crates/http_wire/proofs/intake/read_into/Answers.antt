-- The end came, or the read failed: no byte was read.
use Rattle.std.proofs.Common.{rules, [], append-nil, sym}
use Rattle.http_wire.proofs.intake.read_into.Goals as goal

pub returns-in-End-clause-takes : goal.returns-in-End-clause-takes
returns-in-End-clause-takes g c = record {
  more = [];
  held = sym (append-nil c.args.bytes.now.items);
  door = search rules;
  counts = search rules;
  writes = c.in-End.ensures.no_write;
}

pub returns-in-Failed-clause-takes : goal.returns-in-Failed-clause-takes
returns-in-Failed-clause-takes g c = record {
  more = [];
  held = sym (append-nil c.args.bytes.now.items);
  door = search rules;
  counts = search rules;
  writes = c.in-Failed.ensures.no_write;
}
