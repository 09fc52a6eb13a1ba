use Rattle.lcm_laws.proofs.Lists.{and_right, and_true}
use Rattle.lcm_tables.proofs.AskLaws.{asked_judged, can_ask, plan_over}
use Rattle.lcm_tables.proofs.tables.Tables.may_ask_over.Goals as goal

pub returns-then-next : goal.returns-then-next
returns-then-next c = record {
  judged = λ m H small legal tables.
      let asked = c.requires.own m H legal tables in
      let can = can_ask m H c.args.operation.now.instance c.args.vnfd.now c.args.holding.now legal small asked in
      let over = plan_over c.args.vnfd.now H c.args.operation.now c.args.holding.now c.is_busy-busy.result can asked.held
      (c.is_busy-busy.ensures m H legal tables) in
      let told = c.in_ok-planned.ensures in
      let both = asked_judged H c.args.operation.now c.args.vnfd.now c.made.result c.is_next-next.result c.in_ok-planned.planned
      (c.made.ensures.made H tables.occurrences.rows)
      asked.live asked.described c.is_next-next.ensures (λ h. over.0 (told.0 h), λ o. told.1 (over.1 o)) in (
        λ h. both.0 (and_true c.is_next-next.result c.in_ok-planned.planned c.if-next.true h),
        λ may. and_right c.is_next-next.result c.in_ok-planned.planned (both.1 may),
      );
}
