-- The answer says whether all went out.
use Rattle.std.proofs.Common.{refl}
use Rattle.lcm_sessions.proofs.session.tell_last.Goals as goal

pub returns-in-Ok-clause-told : goal.returns-in-Ok-clause-told
returns-in-Ok-clause-told g c = record {
  result = c.tell.result;
  is = rw c.in-Ok.is refl;
  told = c.tell.ensures.told;
  cause =
      c.tell.ensures.cause;
}

pub returns-in-Err-clause-told : goal.returns-in-Err-clause-told
returns-in-Err-clause-told g c = record {
  result = c.tell.result;
  is = rw c.in-Err.is refl;
  told = c.tell.ensures.told;
  cause =
      c.tell.ensures.cause;
}
