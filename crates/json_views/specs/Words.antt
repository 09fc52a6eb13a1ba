-- The words of the standard for operations, states and modes (SOL 003 5.5.4, enumerations).
use Rattle.std.specs.Prelude.{List, ℕ, codes}
use Rattle.lcm_events.specs.declared.changes.Verb.{Verb}
use Rattle.lcm_events.specs.declared.changes.Verb.TheVariants.{Create, Remove, Start, Stop}

-- what a change did to its resource (SOL 003 5.5.3, the affected resources, changeType)
abbrev pub change_word : Verb → List ℕ
change_word Create = codes "ADDED"
change_word Remove = codes "REMOVED"
change_word Start = codes "MODIFIED"
change_word Stop = codes "MODIFIED"
