-- What asking an instance for an operation comes to: the changes of its plan, or why it is refused (SOL 003 5.4.4 to
-- 5.4.10).
use Rattle.std.specs.Prelude.{List, None, Option, Some, Result, Ok, Err, true, ℕ, ◌≡◌}
use Rattle.instance_table.specs.Rows.{instance}
use Rattle.instance_table.specs.declared.rows.InstanceRow.{InstanceRow}
use Rattle.lcm_events.specs.declared.asks.Ask.{Ask}
use Rattle.lcm_events.specs.declared.changes.Change.{Change}
use Rattle.lcm_events.specs.declared.descriptor.Vnfd.{Vnfd}
use Rattle.lcm_events.specs.declared.events.Event.{Event}
use Rattle.lcm_model.specs.Lives.{descriptor, is_live}
use Rattle.lcm_model.specs.Plans.{plan}
use Rattle.lcm_model.specs.Refusals.{ask_refusal, case_in, situation}
use Rattle.lcm_model.specs.declared.refusals.Refusal.{Refusal}
use Rattle.executor.specs.Managed.{Managed, Keeps}
use Rattle.executor.specs.declared.asks.AskFault.{AskFault}
use Rattle.executor.specs.declared.asks.AskFault.TheVariants as fault

-- the instance is live, and this is why the ask is refused of it, or that nothing refuses it
pub record IsJudged (H : List Event) (i : ℕ) (ask : Ask) (d : Vnfd) (why : Option Refusal) : Type 0 where
  pub live : is_live H i ≡ true
  pub described : descriptor H i ≡ Some d
  pub judged : ask_refusal d (situation d H i) ask ≡ why

-- nothing refuses the ask of the live instance, and these are the changes of its plan (SOL 003 5.4.4 to 5.4.10)
pub record IsAccepted (H : List Event) (i : ℕ) (ask : Ask) (xs : List Change) : Type 0 where
  pub vnfd : Vnfd
  pub accepted : IsJudged H i ask vnfd None
  pub planned : xs ≡ plan (case_in vnfd (situation vnfd H i) ask)

-- the ask of the live instance is refused for this (SOL 003 5.4.4 to 5.4.10)
abbrev pub IsRefused : List Event → ℕ → Ask → Refusal → Type 0
IsRefused H i ask why = (d : Vnfd) × IsJudged H i ask d (Some why)

-- the row is that of a live instance, in each history that the manager keeps (SOL 003 5.5.2.2)
abbrev pub IsRowOf : Managed → InstanceRow → Type 0
IsRowOf m row = (H : List Event) → Keeps m H → instance H row.number ≡ Some row

-- what an answer tells of an ask of the live instance of this number
abbrev pub TellsAsk : List Event → ℕ → Ask → Result (List Change) AskFault → Type 0
TellsAsk H i ask (Ok xs) = IsAccepted H i ask xs
TellsAsk H i ask (Err (fault.Refused why)) = IsRefused H i ask why
TellsAsk H i ask (Err fault.Memory) = Unit {0}
