-- The words with which a line tells what an event is about (SOL 003 5.5.4, enumerations; the others are own rules).
use Rattle.std.specs.Option.{option_map_or}
use Rattle.std.specs.Prelude.{Bool, List, None, Option, Some, [], codes, decimal, if◌then◌else◌, nat_le, nat_lt, slice_get}
use Rattle.std.specs.Prelude.{ℕ, ◌&&◌, ◌++◌, ◌^◌}
use Rattle.json_views.specs.Resources.{link_name, machine_id, storage_id}
use Rattle.lcm_events.specs.declared.attempts.Tag.{Tag}
use Rattle.lcm_events.specs.declared.attempts.Way.{Way}
use Rattle.lcm_events.specs.declared.attempts.Way.TheVariants.{Forward, Undo}
use Rattle.lcm_events.specs.declared.changes.Change.{Change}
use Rattle.lcm_events.specs.declared.changes.Def.{Def}
use Rattle.lcm_events.specs.declared.changes.DefKind.{DefKind}
use Rattle.lcm_events.specs.declared.changes.DefKind.TheVariants.{Compute, Link, Port, Storage}
use Rattle.lcm_events.specs.declared.changes.Verb.{Verb}
use Rattle.lcm_events.specs.declared.changes.Verb.TheVariants.{Create, Remove, Start, Stop}
use Rattle.lcm_events.specs.declared.descriptor.Vnfd.{Vnfd}
use Rattle.lcm_events.specs.declared.states.Role.{Role}
use Rattle.lcm_events.specs.declared.states.Role.TheVariants.{Element, Orchestrator}
use Rattle.lcm_model.specs.Operations.{verb_done}
use Rattle.occ_table.specs.declared.rows.OccRow.{OccRow}
use Rattle.vnfm_base.specs.Ident.{ident, ident_text}
use Rattle.vnfm_base.specs.declared.identifier.Kind.{Kind}
use Rattle.vnfm_base.specs.declared.identifier.Kind.TheVariants as named

-- a number that an identifier can carry, which each of a legal history is (own rule)
abbrev pub is_ident_number : ℕ → Bool
is_ident_number n = nat_le 1 n && nat_lt n (2 ^ 62)

-- the identifier of the n-th of a kind; the number itself where no identifier carries it (RFC 9562 4; own rule)
unfoldable pub identifier : ℕ → Kind → ℕ → List ℕ
identifier manager kind n = if is_ident_number n then ident_text (ident manager kind n) else decimal n

-- what an instance, an occurrence or a subscription is told by: the name of the member that has its identifier, and that
-- (SOL 003 5.5.2.2, 5.5.2.13, 5.5.2.16)
unfoldable pub instance_words : ℕ → ℕ → List ℕ
instance_words manager n = codes " vnfInstanceId " ++ identifier manager named.Instance n

unfoldable pub occurrence_words : ℕ → ℕ → List ℕ
occurrence_words manager n = codes " vnfLcmOpOccId " ++ identifier manager named.Occurrence n

unfoldable pub subscription_words : ℕ → ℕ → List ℕ
subscription_words manager n = codes " subscriptionId " ++ identifier manager named.Subscription n

-- who asks: the orchestrator, or the element manager (own rule)
abbrev pub role_word : Role → List ℕ
role_word Orchestrator = codes "orchestrator"
role_word Element = codes "em"

-- the type of a resource (SOL 003 9.5.3.2, ResourceDefinition)
abbrev pub type_word : DefKind → List ℕ
type_word Link = codes "VL"
type_word Storage = codes "STORAGE"
type_word Compute = codes "COMPUTE"
type_word Port = codes "LINKPORT"

-- what is done to a resource (own rule)
abbrev pub verb_word : Verb → List ℕ
verb_word Create = codes "create"
verb_word Remove = codes "remove"
verb_word Start = codes "start"
verb_word Stop = codes "stop"

-- whether a change is made or undone (own rule)
abbrev pub way_word : Way → List ℕ
way_word Forward = codes "forward"
way_word Undo = codes "undo"

-- the name of a connection point, empty where the descriptor has none of this number (SOL 001, VduCp)
abbrev pub port_name : Vnfd → ℕ → List ℕ
port_name d k = option_map_or (λ p. p.name) (slice_get d.ports k) []

-- the identifier of a resource of an instance, as the view of the instance has it: a link's name, a machine's, a
-- storage's behind that of its machine, and so a connection point's (own rule)
abbrev pub resource_id : Vnfd → DefKind → Def → List ℕ
resource_id d Link x = link_name d x.item
resource_id d Storage x = storage_id d x.vdu x.serial x.item
resource_id d Compute x = machine_id d x.vdu x.serial
resource_id d Port x = machine_id d x.vdu x.serial ++ codes "/" ++ port_name d x.item

-- what an attempt in this way at a change does, and to which resource (own rule)
unfoldable pub change_words : Vnfd → Way → Change → List ℕ
change_words d way c = codes " " ++ verb_word (verb_done way c.verb) ++ codes " " ++ type_word c.def.kind ++ codes " "
    ++ resource_id d c.def.kind c.def

-- the same of the change with this number of an operation, where that is known: by its row and its descriptor
abbrev pub done_words : Way → Option Vnfd → Option Change → List ℕ
done_words way (Some d) (Some c) = change_words d way c
done_words way _ _ = []

-- the change with this number of a row, where there is a row that has it
abbrev pub change_in : Option OccRow → ℕ → Option Change
change_in (Some r) k = slice_get r.changes k
change_in None k = None

-- an attempt: its occurrence, the number of its change from 0, its own from 1, which way it goes, and what it does
unfoldable pub attempt_words : ℕ → Tag → Option OccRow → Option Vnfd → List ℕ
attempt_words manager t row d = occurrence_words manager t.occ ++ codes " change " ++ decimal t.change
    ++ codes " attempt " ++ decimal t.attempt ++ codes " " ++ way_word t.way ++ done_words t.way d (change_in row t.change)
