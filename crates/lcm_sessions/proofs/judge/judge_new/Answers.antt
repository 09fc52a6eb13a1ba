-- The descriptor is new, and there are few.
use Rattle.std.proofs.Common.{◌≡◌, false, arith, rules}
use Rattle.std.specs.Prelude.{is_some}
use Rattle.lcm_model.specs.Lives.{descriptor_named}
use Rattle.lcm_sessions.proofs.VerdictLemmas.{judges_new}
use Rattle.lcm_sessions.proofs.judge.judge_new.Goals as goal

pub returns : goal.returns
returns g c = record {
  judged = λ H keeps.
      let known = c.vnfd.ensures H keeps in
      let none : is_some (descriptor_named H c.args.vnfd.descriptor_id) ≡ false = search rules in
      let count = c.descriptors.ensures H keeps in
      let most = c.if-descriptors-ge-MAX_DESCRIPTORS.false in
      judges_new H c.args.vnfd none (omega (arith, count, most)) c.requires.valid;
}
