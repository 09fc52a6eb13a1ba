use Rattle.std.proofs.Common.{◌≡◌, ◌+◌}
use Rattle.outside_edges.proofs.real_door.write_some.Given as goal

-- nothing was written, and each turn was interrupted
abbrev pub invariant-loop-turn : goal.invariant-loop-turn
invariant-loop-turn g l = g.O.OutStream.tells → record {
  nothing : g.O.OutStream.state l.output ≡ g.O.OutStream.state l.initial.output;
  answered : (g.O.OutStream.calls l.output).answered ≡ (g.O.OutStream.calls l.initial.output).answered;
  interrupted : (g.O.OutStream.calls l.output).interrupted ≡ (g.O.OutStream.calls l.initial.output).interrupted + l._turn;
}
