-- The members of a notice as they are put, one after another.
use Rattle.std.specs.Prelude.{List, ℕ, codes, false}
use Rattle.serde_json.specs.Data.{Members, boolean, member, no_members, put, string}
use Rattle.json_bodies.specs.Words.{kind_word, state_word}
use Rattle.lcm_events.specs.declared.asks.OpKind.{OpKind}
use Rattle.lcm_events.specs.declared.states.OpState.{OpState}
use Rattle.notice_views.specs.Words.{status_word}

-- the members that every notice has but for its links: its identifier, its type, the identifier of its subscription,
-- its moment and the identifier of the instance, by their texts
abbrev pub needed_members : List ℕ → List ℕ → List ℕ → List ℕ → List ℕ → Members
needed_members id type subscription moment instance =
    member (codes "id") (string id)
    (member (codes "notificationType") (string type)
    (member (codes "subscriptionId") (string subscription)
    (member (codes "timeStamp") (string moment)
    (member (codes "vnfInstanceId") (string instance)
    no_members))))

-- those of an operation put to these: that nobody asked for it automatically, whether it has a result, its kind, its
-- state and the identifier of its occurrence
abbrev pub with_operation : List ℕ → OpKind → OpState → Members → Members
with_operation occ kind state members =
    put (codes "vnfLcmOpOccId") (string occ)
    (put (codes "operationState") (string (state_word state))
    (put (codes "operation") (string (kind_word kind))
    (put (codes "notificationStatus") (string (status_word state))
    (put (codes "isAutomaticInvocation") (boolean false) members))))
