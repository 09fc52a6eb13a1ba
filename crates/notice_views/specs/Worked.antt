-- Worked notices: what a subscriber is told, byte by byte.
use Rattle.std.specs.Prelude.{ℕ, codes, ◌++◌, ◌≡◌}
use Rattle.lcm_events.specs.declared.asks.OpKind.TheVariants.{Instantiate}
use Rattle.lcm_events.specs.declared.states.OpState.TheVariants.{Starting}
use Rattle.notice_views.specs.Notice.{notice_text}
use Rattle.notice_views.specs.declared.notices.Notice.{Notice}
use Rattle.notice_views.specs.declared.notices.Subject.{Subject}
use Rattle.notice_views.specs.declared.notices.Subject.TheVariants as about

-- a notice of manager 7 to its subscription 1, of the event at this place, of 2023-11-14T22:13:20.000Z
abbrev pub worked : ℕ → Subject → Notice
worked place x = record { manager = 7; subscription = 1; place = place; moment = 1700000000000; subject = x }

-- the bodies of the notices that instance 1 was created, by the third event (SOL 003 5.5.2.18), and that to instantiate
-- it was asked for as operation 1, by the fourth (SOL 003 5.5.2.17)
pub record AreWorkedBodies : Type 0 where
  pub creation : notice_text (worked 3 (about.Creation 1))
      ≡ codes "{\"_links\":{\"subscription\":{\"href\":\"/vnflcm/v1/subscriptions/"
      ++ codes "00000007-766d-8003-8000-000000000001\"},\"vnfInstance\":{\"href\":\"/vnflcm/v1/vnf_instances/"
      ++ codes "00000007-766d-8001-8000-000000000001\"}},\"id\":\"00000007-766d-8004-8000-000000000003\","
      ++ codes "\"notificationType\":\"VnfIdentifierCreationNotification\","
      ++ codes "\"subscriptionId\":\"00000007-766d-8003-8000-000000000001\","
      ++ codes "\"timeStamp\":\"2023-11-14T22:13:20.000Z\","
      ++ codes "\"vnfInstanceId\":\"00000007-766d-8001-8000-000000000001\"}"
  pub operation : notice_text (worked 4 (about.Occurrence 1 1 Instantiate Starting))
      ≡ codes "{\"_links\":{\"subscription\":{\"href\":\"/vnflcm/v1/subscriptions/"
      ++ codes "00000007-766d-8003-8000-000000000001\"},\"vnfInstance\":{\"href\":\"/vnflcm/v1/vnf_instances/"
      ++ codes "00000007-766d-8001-8000-000000000001\"},\"vnfLcmOpOcc\":{\"href\":\"/vnflcm/v1/vnf_lcm_op_occs/"
      ++ codes "00000007-766d-8002-8000-000000000001\"}},\"id\":\"00000007-766d-8004-8000-000000000004\","
      ++ codes "\"isAutomaticInvocation\":false,\"notificationStatus\":\"START\","
      ++ codes "\"notificationType\":\"VnfLcmOperationOccurrenceNotification\","
      ++ codes "\"operation\":\"INSTANTIATE\",\"operationState\":\"STARTING\","
      ++ codes "\"subscriptionId\":\"00000007-766d-8003-8000-000000000001\","
      ++ codes "\"timeStamp\":\"2023-11-14T22:13:20.000Z\","
      ++ codes "\"vnfInstanceId\":\"00000007-766d-8001-8000-000000000001\","
      ++ codes "\"vnfLcmOpOccId\":\"00000007-766d-8002-8000-000000000001\"}"
