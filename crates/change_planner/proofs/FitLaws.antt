-- What a plan is asked with fits a record.
use Rattle.std.proofs.Common.{◌≤◌, List, length, arith}
use Rattle.std.proofs.lemmas.List.{length-append}
use Rattle.lcm_events.specs.declared.asks.Ask.{Ask}
use Rattle.lcm_events.specs.declared.changes.Change.{Change}
use Rattle.lcm_events.specs.declared.descriptor.Vnfd.{Vnfd}
use Rattle.lcm_events.specs.declared.events.Operation.{Operation}
use Rattle.event_codec.specs.Spell as spell
use Rattle.event_codec.specs.Spell.{spelling}
use Rattle.change_planner.proofs.RecordLaws.{length-operation, length-u64, most_ask}
use Rattle.lcm_model.specs.Descriptors.{IsValid}
use Rattle.change_planner.specs.Planning.{FitsRecord}

-- an operation with at most 5,000 changes fits a record
pub record_fits : (d : Vnfd) (ask : Ask) (changes : List Change) → IsValid d → length changes ≤ 5000 → FitsRecord d ask changes
unfolding spelling
record_fits d ask changes valid small = λ content typed few time occ instance role.
    let a : Operation = record { occ = occ; instance = instance; role = role; ask = ask; changes = changes } in
    let asked = most_ask d ask valid content typed few in
    omega (arith, length-append (spell.u64 time) (spell.operation a), length-u64 time, length-operation a, asked, small)
