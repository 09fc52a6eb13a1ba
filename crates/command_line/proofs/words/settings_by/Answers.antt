-- Each option's value is what `clap` finds for it.
use Rattle.std.proofs.Common.{refl}
use Rattle.command_line.proofs.words.settings_by.Goals as goal

pub returns : goal.returns
returns c = λ pairs has. rw (
  c.in_ok-text.ensures _ has.journal,
  c.number.ensures _ has.manager,
  c.role.ensures _ has.role,
  c.rounds.ensures _ has.rounds,
  c.in_ok-text-2.ensures _ has.listen,
  c.in_ok-text-3.ensures _ has.em_listen,
  c.in_ok-text-4.ensures _ has.orchestrator,
  c.in_ok-text-5.ensures _ has.vim,
  c.in_ok-text-6.ensures _ has.to,
  c.start.ensures _ has.start,
  c.count.ensures _ has.count,
) refl
