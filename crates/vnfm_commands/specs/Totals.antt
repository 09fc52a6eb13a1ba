-- What a journal has, counted (own rule, docs/FORMATS.md).
use Rattle.std.specs.Prelude.{Bool, List, filter, length, not, ℕ, ◌<◌, ◌≡◌}
use Rattle.instance_table.specs.Rows.{continued}
use Rattle.lcm_events.specs.declared.events.Event.{Event}
use Rattle.lcm_events.specs.declared.events.Operation.{Operation}
use Rattle.lcm_model.specs.Allowed.{IsLegal}
use Rattle.lcm_model.specs.Lives.{live_instances}
use Rattle.lcm_model.specs.Moves.{is_final}
use Rattle.lcm_model.specs.Operations.{goes_on, operations}
use Rattle.occ_table.specs.Rows.{StandsFor}
use Rattle.occ_table.specs.declared.rows.OccRow.{OccRow}
use Rattle.vnfm_commands.specs.declared.totals.Totals.{Totals}

-- the operations of all instances that go on, the latest first: those in STARTING, PROCESSING, FAILED_TEMP or
-- ROLLING_BACK (SOL 003 5.6.2)
abbrev pub going : List Event → List Operation
going H = filter (goes_on H) (operations H)

-- what history H has: its events, its instances that aren't deleted, its operations that go on, and its subscriptions
-- of both roles that aren't deleted (own rule, docs/FORMATS.md)
abbrev pub totals_of : List Event → Totals
totals_of H = record {
  records = length H;
  instances = length (live_instances H);
  ongoing = length (going H);
  subscriptions = length (continued H);
}

-- the operation of the row goes on: its state isn't final (SOL 003 5.6.2)
abbrev pub is_going : OccRow → Bool
is_going r = not (is_final r.state)

-- the rows are those of a legal history (own rule)
pub record AreOfLegal (rs : List OccRow) : Type 0 where
  pub manager : ℕ
  pub history : List Event
  pub legal : IsLegal manager history
  pub stands : StandsFor rs history
