use Rattle.std.proofs.Common.{ap, ◌∙◌, rules}
use Rattle.site_traits.specs.SetClock.{value_at}
use Rattle.site_traits.proofs.ClockLemmas.{given_more}
use Rattle.site_traits.proofs.set_clock.SetClockClock.now.Goals as goal

pub returns : goal.returns
returns c = record {
  told = λ tells room.
      given_more c.args.self.now.values.items c.args.self.now.calls c.saturating_add-self.result c.value_after-value.result (search rules)
      (c.value_after-value.ensures ∙ ap (λ v. value_at v c.args.self.now.calls) c.deref.ensures.value) room;
}
