use Rattle.std.proofs.Common.{◌∙◌, ap, subst, length, List}
use Rattle.std.proofs.lemmas.List.{length_push}
use Rattle.site_traits.specs.KeptJobs.{IsPlaced, looked}
use Rattle.site_traits.specs.declared.mem_jobs.KeptJob.{KeptJob}
use Rattle.site_traits.specs.Log.{Recorded}
use Rattle.site_traits.specs.declared.past.SiteCall.{SiteCall}
use Rattle.site_traits.proofs.KeptLemmas.{changed_on, go_looked}
use Rattle.site_traits.proofs.past.Past.look.Goals as goal

pub invariant_of-self-2-clause-early : goal.invariant_of-self-2-clause-early
invariant_of-self-2-clause-early c =
    let was = c.args.self.now in
    let m = length was.log.calls in
    let last = ap (λ (r : Recorded SiteCall). length r.calls) (c.push.ensures.put c.if-not-push.false) ∙ length_push was.log.calls _ in
    let now = c.len-now.ensures ∙ last in
    changed_on m _ _ c.args.tag.now looked was.kept.items c.look_at.new.kept.items (λ w early. go_looked m w early) was.early now last
    (c.look_at.ensures.jobs c.args.tag.now (let P : List KeptJob → Type 0 = λ v. IsPlaced c.args.tag.now v c.latest-place.result in
    subst P c.deref.ensures.value c.latest-place.ensures))
