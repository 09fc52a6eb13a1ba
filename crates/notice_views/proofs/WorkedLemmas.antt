-- The worked bodies, computed from the definitions.
use Rattle.std.proofs.Common.{◌≡◌, ◌++◌, ◌∙◌, ℕ, List, codes, false, pos, refl, ap, arith, sym}
use Rattle.jiff_core.specs.Calendar.{day_count, days_from_civil, days_of_months, days_of_years}
use Rattle.jiff_core.specs.declared.civil.date.Date.{Date}
use Rattle.jiff_core.proofs.SignedLemmas.{signed_arith}
use Rattle.json_views.specs.Instance.{instance_id, instance_path}
use Rattle.json_views.specs.Links.{link}
use Rattle.json_views.specs.Moments.{AreMomentTexts}
use Rattle.json_views.specs.Occurrence.{occurrence_id, occurrence_path}
use Rattle.json_views.specs.Subscription.{subscription_id, subscription_path}
use Rattle.notice_views.specs.Notice.{notice_id, notice_links, notice_text}
use Rattle.notice_views.specs.Worked.{AreWorkedBodies}
use Rattle.serde_json.proofs.OnLiterals.{serde_json_on_literals}
use Rattle.serde_json.specs.Data.{Data, boolean, member, no_members, object, string}
use Rattle.serde_json.specs.Written.{compact_text}
use Rattle.uuid.specs.Text.{by_index}
use Rattle.vnfm_base.specs.Ident.{ident, ident_text}
use Rattle.vnfm_base.specs.Moment.{IsMomentText}

-- the day of the worked moment
the_day : Date
the_day = record {
  year = pos 2023;
  month = 11;
  day = 14;
  year_in = (omega (arith, signed_arith), omega (arith, signed_arith));
  month_in = (omega arith, omega arith);
  day_in = (omega arith, omega arith);
}

-- its text is that of its moment
the_text : IsMomentText 1700000000000 (codes "2023-11-14T22:13:20.000Z")
unfolding the_day days_from_civil day_count days_of_years days_of_months
the_text = (the_day, refl, refl)

-- the value of the body of a creation, by the text of its moment
abbrev created_at : List ℕ → Data
created_at moment =
    object
    (member (codes "_links") (notice_links (subscription_path 7 1) (instance_path 7 1) no_members)
    (member (codes "id") (string (notice_id 7 3))
    (member (codes "notificationType") (string (codes "VnfIdentifierCreationNotification"))
    (member (codes "subscriptionId") (string (subscription_id 7 1))
    (member (codes "timeStamp") (string moment)
    (member (codes "vnfInstanceId") (string (instance_id 7 1))
    no_members))))))

-- that of an operation
abbrev asked_at : List ℕ → Data
asked_at moment =
    object
    (member (codes "_links") (notice_links (subscription_path 7 1) (instance_path 7 1)
    (member (codes "vnfLcmOpOcc") (link (occurrence_path 7 1)) no_members))
    (member (codes "id") (string (notice_id 7 4))
    (member (codes "isAutomaticInvocation") (boolean false)
    (member (codes "notificationStatus") (string (codes "START"))
    (member (codes "notificationType") (string (codes "VnfLcmOperationOccurrenceNotification"))
    (member (codes "operation") (string (codes "INSTANTIATE"))
    (member (codes "operationState") (string (codes "STARTING"))
    (member (codes "subscriptionId") (string (subscription_id 7 1))
    (member (codes "timeStamp") (string moment)
    (member (codes "vnfInstanceId") (string (instance_id 7 1))
    (member (codes "vnfLcmOpOccId") (string (occurrence_id 7 1))
    no_members)))))))))))

-- the texts of the values are those that were written out
created_text : compact_text (created_at (codes "2023-11-14T22:13:20.000Z"))
    ≡ codes "{\"_links\":{\"subscription\":{\"href\":\"/vnflcm/v1/subscriptions/"
    ++ codes "00000007-766d-8003-8000-000000000001\"},\"vnfInstance\":{\"href\":\"/vnflcm/v1/vnf_instances/"
    ++ codes "00000007-766d-8001-8000-000000000001\"}},\"id\":\"00000007-766d-8004-8000-000000000003\","
    ++ codes "\"notificationType\":\"VnfIdentifierCreationNotification\","
    ++ codes "\"subscriptionId\":\"00000007-766d-8003-8000-000000000001\","
    ++ codes "\"timeStamp\":\"2023-11-14T22:13:20.000Z\","
    ++ codes "\"vnfInstanceId\":\"00000007-766d-8001-8000-000000000001\"}"
unfolding subscription_path subscription_id notice_id instance_path instance_id ident ident_text by_index serde_json_on_literals
created_text = refl

asked_text : compact_text (asked_at (codes "2023-11-14T22:13:20.000Z"))
    ≡ codes "{\"_links\":{\"subscription\":{\"href\":\"/vnflcm/v1/subscriptions/"
    ++ codes "00000007-766d-8003-8000-000000000001\"},\"vnfInstance\":{\"href\":\"/vnflcm/v1/vnf_instances/"
    ++ codes "00000007-766d-8001-8000-000000000001\"},\"vnfLcmOpOcc\":{\"href\":\"/vnflcm/v1/vnf_lcm_op_occs/"
    ++ codes "00000007-766d-8002-8000-000000000001\"}},\"id\":\"00000007-766d-8004-8000-000000000004\","
    ++ codes "\"isAutomaticInvocation\":false,\"notificationStatus\":\"START\","
    ++ codes "\"notificationType\":\"VnfLcmOperationOccurrenceNotification\","
    ++ codes "\"operation\":\"INSTANTIATE\",\"operationState\":\"STARTING\","
    ++ codes "\"subscriptionId\":\"00000007-766d-8003-8000-000000000001\","
    ++ codes "\"timeStamp\":\"2023-11-14T22:13:20.000Z\","
    ++ codes "\"vnfInstanceId\":\"00000007-766d-8001-8000-000000000001\","
    ++ codes "\"vnfLcmOpOccId\":\"00000007-766d-8002-8000-000000000001\"}"
unfolding subscription_path subscription_id notice_id instance_path instance_id occurrence_path occurrence_id ident ident_text by_index
    serde_json_on_literals
asked_text = refl

-- so the worked bodies are those of their notices
pub worked_bodies : AreMomentTexts → AreWorkedBodies
unfolding notice_text
worked_bodies one = let same = sym (one 1700000000000 (codes "2023-11-14T22:13:20.000Z") the_text) in record {
  creation = ap (λ (t : List ℕ). compact_text (created_at t)) same ∙ created_text;
  operation = ap (λ (t : List ℕ). compact_text (asked_at t)) same ∙ asked_text;
}
