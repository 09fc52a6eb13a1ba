use Rattle.std.proofs.Common.{◌∙◌, sym}
use Rattle.site_traits.proofs.PastLemmas.{aborts_told}
use Rattle.site_traits.proofs.mem_site.MemSiteSite.abort.Goals as goal

pub returns-clause-told : goal.returns-clause-told
returns-clause-told c =
    let first = c.args.self.now.first.items in
    aborts_told first c.args.tag.now c.abort.result c.args.self.now.book c.abort.new.self c.abort.ensures.runs.past

pub invariant_of-self-clause-seen : goal.invariant_of-self-clause-seen
invariant_of-self-clause-seen c =
    let first = c.args.self.now.first.items in
    c.args.self.now.seen ∙ sym (aborts_told first c.args.tag.now c.abort.result c.args.self.now.book c.abort.new.self
    c.abort.ensures.runs.past).on_jobs.same
