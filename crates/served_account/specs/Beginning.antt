-- The account of a run that has heard nothing yet (own rule, docs/FORMATS.md, "The program").
use Rattle.std.specs.Prelude.{None}
use Rattle.served_account.specs.declared.account.Account.{Account}
use Rattle.served_account.specs.declared.account.Hearing.TheVariants.{NotYet}

-- nothing was heard, and nothing was answered
abbrev pub nothing_yet : Account
nothing_yet = record { answered = 0; last = NotYet; broken = None }
