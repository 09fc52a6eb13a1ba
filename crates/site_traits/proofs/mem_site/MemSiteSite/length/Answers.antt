use Rattle.std.proofs.Common.{rules, refl, ap}
use Rattle.site_traits.specs.Log.{Recorded}
use Rattle.site_traits.specs.declared.past.SiteCall.{SiteCall}
use Rattle.site_traits.proofs.DiskLemmas.{reads_told, reads_lost, seen_stays}
use Rattle.site_traits.proofs.mem_site.MemSiteSite.length.Goals as goal

pub returns-clause-told : goal.returns-clause-told
returns-clause-told c =
    let was = c.args.self.now.book.past in
    let now = c.run.new.self.past in
    let runs = c.if-not-run.ensures.runs in
    reads_told c.args.self.now.first.items was.log.calls now.log.calls was.kept.items now.kept.items _ was.early
    (ap (λ (r : Recorded SiteCall). r.calls) runs.log) runs.kept refl (λ l. refl)

pub returns-then-not-run-clause-told : goal.returns-then-not-run-clause-told
returns-then-not-run-clause-told c =
    let was = c.args.self.now.book.past in
    let now = c.run.new.self.past in
    let runs = c.if-not-run.ensures.runs in
    reads_lost c.args.self.now.first.items was.log.calls now.log.calls was.kept.items now.kept.items
    (ap (λ (r : Recorded SiteCall). r.calls) runs.log) runs.kept

pub invariant_of-self : goal.invariant_of-self
invariant_of-self c = record {
  seen = seen_stays c.args.self.now.first.items c.args.self.now.file.items _ c.run.result c.args.self.now.book.past.log
      c.run.new.self.past.log (λ d. refl)
      c.run.ensures.runs.log c.args.self.now.seen;
  roomy = search rules;
}
