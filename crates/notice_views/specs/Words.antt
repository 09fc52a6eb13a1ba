-- The words of the standard in notices.
use Rattle.std.specs.Prelude.{List, ℕ, codes}
use Rattle.lcm_events.specs.declared.states.OpState.{OpState}
use Rattle.lcm_events.specs.declared.states.OpState.TheVariants.{Processing, RollingBack, Starting}

-- the operation was begun, or has a result: it is begun while the manager works on it (SOL 003 5.5.2.17,
-- notificationStatus)
abbrev pub status_word : OpState → List ℕ
status_word Starting = codes "START"
status_word Processing = codes "START"
status_word RollingBack = codes "START"
status_word _ = codes "RESULT"
