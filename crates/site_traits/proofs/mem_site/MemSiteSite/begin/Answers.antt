use Rattle.std.proofs.Common.{◌∙◌, sym}
use Rattle.site_traits.specs.Book.{next_plan}
use Rattle.site_traits.proofs.PastLemmas.{begins_told}
use Rattle.site_traits.proofs.mem_site.MemSiteSite.begin.Goals as goal

pub returns-clause-told : goal.returns-clause-told
returns-clause-told c =
    let first = c.args.self.now.first.items in
    begins_told first c.args.tag.now c.args.act.now (next_plan c.args.self.now.book) c.begin.result c.args.self.now.book.past
    c.begin.new.self.past c.begin.ensures.runs.past

pub invariant_of-self-clause-seen : goal.invariant_of-self-clause-seen
invariant_of-self-clause-seen c =
    let first = c.args.self.now.first.items in
    c.args.self.now.seen ∙ sym (begins_told first c.args.tag.now c.args.act.now
    (next_plan c.args.self.now.book) c.begin.result c.args.self.now.book.past c.begin.new.self.past
    c.begin.ensures.runs.past).on_jobs.same
