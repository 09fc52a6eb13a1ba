-- The members of an occurrence's view as they are put, one after another.
use Rattle.std.specs.Prelude.{List, codes, false, is_some, ℕ}
use Rattle.serde_json.specs.Data.{Data, Members, boolean, member, no_members, object, put, string}
use Rattle.lcm_events.specs.declared.descriptor.Vnfd.{Vnfd}
use Rattle.occ_table.specs.declared.rows.OccRow.{OccRow}
use Rattle.json_views.specs.Affected.{resource_changes}
use Rattle.json_views.specs.Params.{params}
use Rattle.json_bodies.specs.Words.{kind_word, state_word}
use Rattle.lcm_model.specs.Operations.{kind_of}

-- the members on the operation put to these
unfoldable pub with_operation : Vnfd → OccRow → Members → Members
with_operation d row members =
    put (codes "operationState") (string (state_word row.state))
    (put (codes "operationParams") (object (params d row.ask))
    (put (codes "operation") (string (kind_word (kind_of row.ask))) members))

-- the members on the moments put to these
unfoldable pub with_moments : List ℕ → List ℕ → Members → Members
with_moments start entered members = put (codes "stateEnteredTime") (string entered)
    (put (codes "startTime") (string start) members)

-- the members that every view of an occurrence has, for its identifier, its links, its instance and the texts of its
-- moments
unfoldable pub occurrence_members : List ℕ → Data → List ℕ → OccRow → Vnfd → List ℕ → List ℕ → Members
occurrence_members id links instance row d start entered =
    member (codes "_links") links
    (member (codes "id") (string id)
    (member (codes "isAutomaticInvocation") (boolean false)
    (member (codes "isCancelPending") (boolean (is_some row.cancel))
    (member (codes "operation") (string (kind_word (kind_of row.ask)))
    (member (codes "operationParams") (object (params d row.ask))
    (member (codes "operationState") (string (state_word row.state))
    (member (codes "resourceChanges") (resource_changes d row)
    (member (codes "startTime") (string start)
    (member (codes "stateEnteredTime") (string entered)
    (member (codes "vnfInstanceId") (string instance)
    no_members))))))))))
