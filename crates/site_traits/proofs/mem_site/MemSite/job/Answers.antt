use Rattle.std.proofs.Common.{◌∙◌, sym, ap, arith, length, map, get_or, ◌<◌}
use Rattle.std.proofs.lemmas.List.{get_or-map}
use Rattle.site_traits.specs.Disk.{change_of}
use Rattle.site_traits.specs.KeptJobs.{job_of}
use Rattle.site_traits.proofs.DiskLemmas.{early_calls}
use Rattle.site_traits.proofs.KeptLemmas.{job_now, jobs_counted, jobs_last}
use Rattle.site_traits.proofs.mem_site.MemSite.job.Goals as goal

pub index-job-requires : goal.index-job-requires
index-job-requires c =
    let past = c.args.self.now.book.past in
    let counted = jobs_counted (length (map change_of past.log.calls)) past.kept.items
    (early_calls past.log.calls past.kept.items past.early) in
    omega (arith, c.requires, counted, past.kept.ok.0)

pub returns : goal.returns
returns c =
    let past = c.args.self.now.book.past in
    let now = length (map change_of past.log.calls) in
    let early = early_calls past.log.calls past.kept.items past.early in
    let w = c.index-job.result.now in
    let d = job_of w.tag w.act c.phase.result in
    let counted = jobs_counted now past.kept.items early in
    let within : c.args.k < length past.kept.items = omega (arith, c.requires, counted) in
    ap (job_of w.tag w.act) c.phase.ensures ∙ ap job_now c.index-job.ensures ∙ sym (get_or-map job_now past.kept.items c.args.k w d within)
    ∙ ap (λ js. get_or js c.args.k d) (sym (jobs_last now past.kept.items early))
