use Rattle.std.proofs.Common.{◌∙◌, List, ap, subst, sym}
use Rattle.std.specs.Prelude.{option_copied}
use Rattle.instance_table.specs.Steps.{Rises}
use Rattle.notice_table.specs.Queues.{Queue}
use Rattle.notice_table.specs.Steps.{changed}
use Rattle.notice_table.proofs.WaitLaws.{applied, heard_rise, queues_rise}
use Rattle.notice_table.proofs.table.NoticeTable.apply.Goals as goal

pub returns-clause-applies : goal.returns-clause-applies
returns-clause-applies c = λ width m H legal allowed at is stands.
    let old : List Queue = c.args.self.now.queues in
    let rises = heard_rise c.args.place (option_copied c.args.notice) old (queues_rise width m H old legal stands) in
    applied width m H c.args.e.now c.args.place (option_copied c.args.notice) old _ legal allowed at is stands
    (c.follow.ensures.queues (subst (λ (qs : List Queue). Rises (λ q. q.number) qs) (sym c.hear.ensures.queues) rises)
    ∙ ap (λ (qs : List Queue). changed c.args.e.now.kind qs) c.hear.ensures.queues)
