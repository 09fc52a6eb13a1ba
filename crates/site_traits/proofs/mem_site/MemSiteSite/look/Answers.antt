use Rattle.std.proofs.Common.{◌∙◌, sym}
use Rattle.site_traits.proofs.PastLemmas.{looks_told}
use Rattle.site_traits.proofs.mem_site.MemSiteSite.look.Goals as goal

pub returns-clause-told : goal.returns-clause-told
returns-clause-told c =
    let first = c.args.self.now.first.items in
    looks_told first c.args.tag.now c.look.result c.args.self.now.book c.look.new.self c.look.ensures.runs.past

pub invariant_of-self-clause-seen : goal.invariant_of-self-clause-seen
invariant_of-self-clause-seen c =
    let first = c.args.self.now.first.items in
    c.args.self.now.seen ∙ sym (looks_told first c.args.tag.now c.look.result c.args.self.now.book c.look.new.self
    c.look.ensures.runs.past).on_jobs.same
