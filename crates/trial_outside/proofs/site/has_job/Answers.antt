use Rattle.std.proofs.Common.{rules, arith, refl, ◌-◌, ◌≡◌, true}
use Rattle.std.proofs.lemmas.Bool.{false≢true}
use Rattle.lcm_events.specs.Same.{same_tag}
use Rattle.site_traits.specs.KeptJobs.{job_of}
use Rattle.site_traits.specs.MemSite.{state_of}
use Rattle.trial_outside.proofs.FindLemmas.{nowhere, there}
use Rattle.trial_outside.proofs.site.has_job.Goals as goal

pub returns-then-eq : goal.returns-then-eq
returns-then-eq c =
    let js = (state_of c.args.site.now).jobs in
    let place = c.loop-place.place in
    let within = c.loop-place.invariant.0 in
    let some = c.loop-place-test.true in
    let same : same_tag c.args.tag.now c.job.result.0 ≡ true = search rules in (
      λ is. there c.args.tag.now js (place - 1) (job_of c.job.result.0 c.job.result.1.now c.job.result.2) _
          (omega (arith, within, some)) c.job.ensures same,
      λ is. refl,
    )

pub returns : goal.returns
returns c =
    let js = (state_of c.args.site.now).jobs in
    let none = c.loop-place-test.false in (
      λ is. absurd (false≢true is),
      λ some. absurd (nowhere c.args.tag.now js c.loop-place.place (omega (arith, none)) c.loop-place.invariant.1 some),
    )
