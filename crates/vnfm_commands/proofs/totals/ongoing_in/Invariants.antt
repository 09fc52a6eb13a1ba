-- The rows before the place are counted.
use Rattle.std.proofs.Common.{◌≡◌, ◌≤◌, filter, length, take}
use Rattle.vnfm_commands.specs.Totals.{is_going}
use Rattle.vnfm_commands.proofs.totals.ongoing_in.Given as goal

abbrev pub invariant-loop-place : goal.invariant-loop-place
invariant-loop-place l = (l.ongoing ≡ length (filter is_going (take l.place l.fn.occurrences.rows))) × (l.ongoing ≤ l.place)
