-- What a person is told of calls on peers that failed (own rule, docs/FORMATS.md, "The program").
use Rattle.std.specs.Prelude.{ℕ, ◌-◌, ◌&&◌, ◌++◌, List, Bool, true, Some, None, Option, codes, decimal, nat_le, nat_lt}
use Rattle.served_edges.specs.declared.faults.PeerKind.{PeerKind}
use Rattle.served_edges.specs.declared.faults.PeerKind.TheVariants.{Client, Orchestrator, Infrastructure, Subscriber}
use Rattle.served_edges.specs.declared.faults.Told.{Told}

-- a line that was told then, if any was, is a second old
abbrev pub is_old : Option ℕ → ℕ → Bool
is_old None now = true
is_old (Some at) now = nat_le 1000 (now - at)

-- so many calls that failed are to be told of: more than were, and the last line is a second old
abbrev pub is_due : Told → ℕ → ℕ → Bool
is_due told count now = nat_lt told.count count && is_old told.at now

-- how a kind of peer is named in front of a count
abbrev pub kind_text : PeerKind → List ℕ
kind_text Client = codes "connections: "
kind_text Orchestrator = codes "orchestrator: "
kind_text Infrastructure = codes "infrastructure: "
kind_text Subscriber = codes "subscribers: "

-- the line that tells how many calls failed
abbrev pub fault_line : PeerKind → ℕ → List ℕ
fault_line kind count = codes "vnfm: " ++ kind_text kind ++ decimal count ++ codes " calls failed\n"
