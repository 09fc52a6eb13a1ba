-- What notices of an instance tell (SOL 003 5.5.2.17 to 5.5.2.19).
use Rattle.std.specs.Prelude.{List, Option, option_map, ℕ}
use Rattle.lcm_events.specs.declared.asks.OpKind.{OpKind}
use Rattle.lcm_events.specs.declared.events.Event.{Event}
use Rattle.lcm_events.specs.declared.filters.NoticeKind.{NoticeKind}
use Rattle.lcm_events.specs.declared.states.OpState.{OpState}
use Rattle.lcm_model.specs.Lives.{creation}
use Rattle.lcm_model.specs.Notices.{NoticeFacts}

-- what a notice of this kind tells of an instance that was created, with the operation and the state that it tells of
abbrev pub instance_facts : NoticeKind → Option OpKind → Option OpState → List Event → ℕ → Option NoticeFacts
instance_facts which op state H i = option_map (λ x. record {
  which = which;
  vnfd = x.vnfd;
  instance = i;
  name = x.name;
  op = op;
  state = state;
}) (creation H i)
