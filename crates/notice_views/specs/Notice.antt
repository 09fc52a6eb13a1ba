-- The body of a notice (SOL 003 5.5.2.17, VnfLcmOperationOccurrenceNotification; 5.5.2.18,
-- VnfIdentifierCreationNotification; 5.5.2.19, VnfIdentifierDeletionNotification). Members stand in byte order of their
-- names.
use Rattle.std.specs.Prelude.{List, ℕ, codes, false}
use Rattle.serde_json.specs.Data.{Data, Members, boolean, member, no_members, object, string}
use Rattle.serde_json.specs.Written.{compact_text}
use Rattle.json_views.specs.Instance.{instance_id, instance_path}
use Rattle.json_views.specs.Links.{link}
use Rattle.json_views.specs.Moments.{moment_text}
use Rattle.json_views.specs.Occurrence.{occurrence_id, occurrence_path}
use Rattle.json_bodies.specs.Words.{kind_word, notice_word, state_word}
use Rattle.lcm_events.specs.declared.filters.NoticeKind.TheVariants as kinds
use Rattle.json_views.specs.Subscription.{subscription_id, subscription_path}
use Rattle.lcm_events.specs.declared.asks.OpKind.{OpKind}
use Rattle.lcm_events.specs.declared.states.OpState.{OpState}
use Rattle.notice_views.specs.Words.{status_word}
use Rattle.notice_views.specs.declared.notices.Notice.{Notice}
use Rattle.notice_views.specs.declared.notices.Subject.{Subject}
use Rattle.notice_views.specs.declared.notices.Subject.TheVariants as about
use Rattle.vnfm_base.specs.Ident.{IsIdentNumber, ident, ident_text}
use Rattle.vnfm_base.specs.declared.identifier.Kind.TheVariants as named

-- the text of the identifier of the notice of the event at this place of the journal (RFC 9562 4; the number is an own
-- rule)
unfoldable pub notice_id : ℕ → ℕ → List ℕ
notice_id manager place = ident_text (ident manager named.Notice place)

-- the links of a notice of this manager: to the subscription and to the instance at these paths, and these behind them
-- (SOL 003 5.5.2.17 to 5.5.2.19, _links)
abbrev pub notice_links : List ℕ → List ℕ → Members → Data
notice_links subscription instance more =
    object
    (member (codes "subscription") (link subscription)
    (member (codes "vnfInstance") (link instance)
    more))

-- the notice that an instance was created, or deleted, by the name of its type (SOL 003 5.5.2.18, 5.5.2.19)
abbrev pub instance_notice : List ℕ → Notice → ℕ → Data
instance_notice type n instance =
    object
    (member (codes "_links")
    (notice_links (subscription_path n.manager n.subscription) (instance_path n.manager instance) no_members)
    (member (codes "id") (string (notice_id n.manager n.place))
    (member (codes "notificationType") (string type)
    (member (codes "subscriptionId") (string (subscription_id n.manager n.subscription))
    (member (codes "timeStamp") (string (moment_text n.moment))
    (member (codes "vnfInstanceId") (string (instance_id n.manager instance))
    no_members))))))

-- the notice that an operation of an instance, of this kind, came into this state (SOL 003 5.5.2.17)
abbrev pub operation_notice : Notice → ℕ → ℕ → OpKind → OpState → Data
operation_notice n occ instance kind state =
    object
    (member (codes "_links")
    (notice_links (subscription_path n.manager n.subscription) (instance_path n.manager instance)
    (member (codes "vnfLcmOpOcc") (link (occurrence_path n.manager occ)) no_members))
    (member (codes "id") (string (notice_id n.manager n.place))
    (member (codes "isAutomaticInvocation") (boolean false)
    (member (codes "notificationStatus") (string (status_word state))
    (member (codes "notificationType") (string (notice_word kinds.Occurrence))
    (member (codes "operation") (string (kind_word kind))
    (member (codes "operationState") (string (state_word state))
    (member (codes "subscriptionId") (string (subscription_id n.manager n.subscription))
    (member (codes "timeStamp") (string (moment_text n.moment))
    (member (codes "vnfInstanceId") (string (instance_id n.manager instance))
    (member (codes "vnfLcmOpOccId") (string (occurrence_id n.manager occ))
    no_members)))))))))))

-- the notice of a manager with this subject (SOL 003 5.5.2.17 to 5.5.2.19)
abbrev pub notice_about : Notice → Subject → Data
notice_about n (about.Creation instance) = instance_notice (notice_word kinds.Creation) n instance
notice_about n (about.Deletion instance) = instance_notice (notice_word kinds.Deletion) n instance
notice_about n (about.Occurrence occ instance kind state) = operation_notice n occ instance kind state

abbrev pub notice_value : Notice → Data
notice_value n = notice_about n n.subject

-- its text
unfoldable pub notice_text : Notice → List ℕ
notice_text n = compact_text (notice_value n)

-- identifiers can carry the numbers of what the notice is about (RFC 9562 4)
abbrev pub IsIdentified : Subject → Type 0
IsIdentified (about.Creation instance) = IsIdentNumber instance
IsIdentified (about.Deletion instance) = IsIdentNumber instance
IsIdentified (about.Occurrence occ instance kind state) = IsIdentNumber occ × IsIdentNumber instance
