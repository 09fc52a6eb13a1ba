use Rattle.std.proofs.Common.{arith, length, map}
use Rattle.site_traits.specs.Disk.{change_of}
use Rattle.site_traits.proofs.DiskLemmas.{early_calls}
use Rattle.site_traits.proofs.KeptLemmas.{jobs_counted}
use Rattle.site_traits.proofs.mem_site.MemSite.jobs.Goals as goal

pub returns : goal.returns
returns c =
    let past = c.args.self.now.book.past in
    let counted = jobs_counted (length (map change_of past.log.calls)) past.kept.items
    (early_calls past.log.calls past.kept.items past.early) in
    omega (arith, c.len.ensures, counted, past.kept.ok.0)
