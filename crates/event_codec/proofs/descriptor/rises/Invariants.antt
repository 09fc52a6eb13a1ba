use Rattle.std.proofs.Common.{◌≡◌, ◌∷◌, drop}
use Rattle.lcm_events.specs.Descriptors.{is_rising}
use Rattle.event_codec.proofs.descriptor.rises.Given as goal

abbrev pub invariant-loop-item : goal.invariant-loop-item
invariant-loop-item g l = is_rising g.T.Ranked.before (l.last ∷ drop l.item-index l.rest) ≡ is_rising g.T.Ranked.before l.items
