use Rattle.std.proofs.Common.{◌∙◌, ◌||◌, Bool, List, ap, arith, get_or, set, sym, take}
use Rattle.std.specs.List.{list_any}
use Rattle.std.proofs.lemmas.List.Edits.{map_over_more}
use Rattle.std.proofs.lemmas.List.Folds.{list_any_more}
use Rattle.lcm_model.specs.Notices.{matches}
use Rattle.subscription_filter.specs.Facts.{facts_in}
use Rattle.notice_table.specs.Rows.{asked}
use Rattle.notice_table.specs.declared.queues.QueueRow.{QueueRow}
use Rattle.notice_table.proofs.Lists.{untouched}
use Rattle.notice_table.proofs.queues.ask_each.Goals as goal

pub loop-queue-preserved : goal.loop-queue-preserved
loop-queue-preserved c =
    let notice = c.args.notice.now in
    let f : QueueRow → QueueRow = asked notice.manager (facts_in notice) in
    let p : QueueRow → Bool = λ q. matches notice.manager q.filter (facts_in notice) in
    let rows : List QueueRow = c.args.queues.now in
    let now : List QueueRow = c.loop-queue.queues in
    let i = c.loop-queue.queue-index in
    let x : QueueRow = c.queue-item.result in
    record {
      rows = ap (λ (r : QueueRow). set now i r) (c.ask-heard.ensures.row ∙ ap f (sym c.queue-item.is))
          ∙ map_over_more f rows now i x (omega arith) c.loop-queue.invariant.rows c.queue-item.is;
      answer = ap (λ (b : Bool). b || c.ask-heard.result) c.loop-queue.invariant.answer
          ∙ (ap (λ (b : Bool). list_any p (take i rows) || b) (c.ask-heard.ensures.answer
          ∙ ap p (ap (λ (ys : List QueueRow). get_or ys i x) c.loop-queue.invariant.rows ∙ untouched f i rows x))
          ∙ sym (list_any_more p rows i x (omega arith)));
    }
