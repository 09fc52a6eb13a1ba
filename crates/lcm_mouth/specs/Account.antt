-- What a mouth heard and answered so far (own rule, docs/FORMATS.md, "The program").
use Rattle.std.specs.Prelude.{Bool, Err, None, Ok, Option, Result, Some, false, min, true, ◌+◌, ◌-◌, ◌^◌}
use Rattle.http_wire.specs.declared.request.Request.{Request}
use Rattle.http_wire.specs.declared.request.WireFault.{WireFault}
use Rattle.http_wire.specs.declared.request.WireFault.TheVariants as fault
use Rattle.served_account.specs.declared.account.Account.{Account}
use Rattle.served_account.specs.declared.account.Hearing.{Hearing}
use Rattle.served_account.specs.declared.account.Hearing.TheVariants as hearing
use Rattle.lcm_replies.specs.declared.door.DoorFailed.{DoorFailed}

-- how a hearing ended
abbrev pub last_heard : Result Bool WireFault → Hearing
last_heard (Ok true) = hearing.Request
last_heard (Ok false) = hearing.End
last_heard (Err fault.Malformed) = hearing.Malformed
last_heard (Err fault.TooLarge) = hearing.TooLarge
last_heard (Err fault.Unfinished) = hearing.Unfinished
last_heard (Err fault.Read) = hearing.Unread
last_heard (Err fault.Memory) = hearing.NoMemory

-- the account once a request was listened for
abbrev pub once_heard : Result Bool WireFault → Account → Account
once_heard heard a = record a { last = last_heard heard }

-- the account once a reply was told, to the request in hand where there is one: one more was answered where it was told
-- whole
abbrev pub once_told : Option Request → Result (Unit {0}) DoorFailed → Account → Account
once_told (Some request) (Ok done) a = record a { answered = min (a.answered + 1) (2 ^ 64 - 1) }
once_told hand told a = a
