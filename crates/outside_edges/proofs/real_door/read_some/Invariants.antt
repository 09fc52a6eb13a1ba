use Rattle.std.proofs.Common.{◌≡◌, ◌+◌}
use Rattle.host_calls.specs.Streams.{GotNothing}
use Rattle.outside_edges.proofs.real_door.read_some.Given as goal

-- nothing was read, and each turn was interrupted
abbrev pub invariant-loop-turn : goal.invariant-loop-turn
invariant-loop-turn g l = g.I.InStream.tells → record {
  nothing : GotNothing l.initial.into l.into (g.I.InStream.state l.initial.input) (g.I.InStream.state l.input);
  answered : (g.I.InStream.calls l.input).answered ≡ (g.I.InStream.calls l.initial.input).answered;
  interrupted : (g.I.InStream.calls l.input).interrupted ≡ (g.I.InStream.calls l.initial.input).interrupted + l._turn;
}
