use Rattle.std.proofs.Common.{arith}
use Rattle.site_traits.specs.Moments.{lost_begin}
use Rattle.trial_outside.specs.TrialSite.{state_of}
use Rattle.trial_outside.proofs.GoingLemmas.{begins_goes}
use Rattle.trial_outside.proofs.site.TrialSiteSite.begin.Goals as goal

pub returns-then-self-gt0-clause-told : goal.returns-then-self-gt0-clause-told
returns-then-self-gt0-clause-told c = lost_begin c.args.tag.now c.args.act.now (state_of c.args.self.now)

pub invariant_of-self-2 : goal.invariant_of-self-2
invariant_of-self-2 c =
    let s = c.args.self.now in
    let none = c.if-self-gt0.false in
    let more = c.if-self-ge-BEGINS.false in
    let answered = c.begin-answer.ensures in
    record {
      goes = begins_goes s.inner c.begin-answer.new.self s.begins s.vim_faults c.args.tag.now c.args.act.now _ s.goes
          (omega (arith, none)) more answered.told answered.runs c.in_default.not-Failed;
    }
