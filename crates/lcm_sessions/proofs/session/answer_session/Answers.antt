-- The talk, and then the end of the connection.
use Rattle.std.proofs.Common.{◌∙◌, sym}
use Rattle.lcm_sessions.proofs.session.answer_session.Goals as goal

pub returns-clause-serves : goal.returns-clause-serves
returns-clause-serves g c = λ H ready.
    let it = c.talk-answer.ensures.talks H ready in (
      it.0,
      record {
        works = it.3.works;
        saves = it.3.saves;
        attends = record {
          between = c.talk-answer.new.mouth;
          end = it.1;
          ended = it.2;
          holds = it.3.holds;
          role = c.talk-answer.ensures.role ∙ sym it.4;
          gone = c.hang_up.ensures.told;
          counts = c.hang_up.ensures.cause;
        };
        told = rw c.hang_up.ensures.unnoted it.3.told;
      },
      it.4,
      it.5,
    )
