use Rattle.std.proofs.Common.{refl, ap}
use Rattle.site_traits.specs.Log.{Recorded}
use Rattle.site_traits.specs.declared.past.SiteCall.{SiteCall}
use Rattle.site_traits.proofs.DiskLemmas.{cuts_told, cuts_lost}
use Rattle.site_traits.proofs.mem_site.MemSiteSite.cut.Goals as goal

pub returns-clause-told : goal.returns-clause-told
returns-clause-told c =
    let was = c.args.self.now.book.past in
    let now = c.run.new.self.past in
    let runs = c.if-not-run.ensures.runs in
    cuts_told _ c.args.self.now.first.items was.log.calls now.log.calls was.kept.items now.kept.items _ c.args.to was.early
    (ap (λ (r : Recorded SiteCall). r.calls) runs.log) runs.kept refl (λ l. refl)

pub returns-then-not-run-clause-told : goal.returns-then-not-run-clause-told
returns-then-not-run-clause-told c =
    let was = c.args.self.now.book.past in
    let now = c.run.new.self.past in
    let runs = c.if-not-run.ensures.runs in
    cuts_lost _ c.args.self.now.first.items was.log.calls now.log.calls was.kept.items now.kept.items c.args.to
    (ap (λ (r : Recorded SiteCall). r.calls) runs.log) runs.kept
