-- Each table, row by row.
use Rattle.std.proofs.Common.{◌≡◌, ◌∙◌, Bool, List, Option, Result, [], false, refl, true, ℕ}
use Rattle.std.specs.Prelude.{codes, is_some, unwrap_or}
use Rattle.serde_json.specs.Data.{Data}
use Rattle.serde_json.specs.Find.{as_object}
use Rattle.json_bodies.proofs.TableLemmas.{aim_fault, fault_stays, first_alone, first_then, inside_fault, is_there, needed_fault}
use Rattle.json_bodies.proofs.TableLemmas.{objects_fault, optional_fault}
use Rattle.json_bodies.specs.Body.{by_form, cancel_mode_in, line_in, member_of, name_in, optional, optional_read, some_name_in}
use Rattle.json_bodies.specs.declared.body.BodyFault.{BodyFault}
use Rattle.json_bodies.specs.Forms.{list_in, notice_in, operation_type_in, power_in, state_in, stop_in, way_in, whole_in}
use Rattle.json_bodies.specs.Subscribing.{about_in, all_instances, filter_in, inside_object, instances_in, values_in}
use Rattle.json_bodies.specs.Operations.{aspect_level_in, levels_in}
use Rattle.json_bodies.specs.Tables.{RefusesFirstFault, Row, aspect_level_table, fault_in, filter_table, instances_table, of_form}
use Rattle.json_bodies.specs.Tables.{of_object, of_objects, optional_row}
use Rattle.json_bodies.proofs.laws.the_first_failing_member_is_told.Goals as goal

pub returns-clause-create : goal.returns-clause-create
returns-clause-create c d =
    first_then _ _ _ _ (needed_fault some_name_in (codes "vnfdId") d) (λ vnfd _.
    first_then _ _ _ _ (optional_fault name_in (codes "vnfInstanceName") d) (λ name _.
    first_then _ _ _ _ (optional_fault line_in (codes "vnfInstanceDescription") d) (λ text _. refl)))

pub returns-clause-instantiate : goal.returns-clause-instantiate
returns-clause-instantiate c d =
    first_then _ _ _ _ (needed_fault some_name_in (codes "flavourId") d) (λ flavour _.
    first_then _ _ _ _ (optional_fault name_in (codes "instantiationLevelId") d) (λ level _. refl))

pub returns-clause-scale : goal.returns-clause-scale
returns-clause-scale c d =
    first_then _ _ _ _ (needed_fault way_in (codes "type") d) (λ way _.
    first_then _ _ _ _ (needed_fault some_name_in (codes "aspectId") d) (λ aspect _.
    first_then _ _ _ _ (optional_fault whole_in (codes "numberOfSteps") d) (λ steps _. refl)))

aspect_level_fault : RefusesFirstFault aspect_level_in aspect_level_table
aspect_level_fault d =
    first_then _ _ _ _ (needed_fault some_name_in (codes "aspectId") d) (λ aspect _.
    first_then _ _ _ _ (needed_fault whole_in (codes "scaleLevel") d) (λ level _. refl))

pub returns-clause-scale_to_level : goal.returns-clause-scale_to_level
returns-clause-scale_to_level c d =
    first_then _ _ _ _ (optional_fault name_in (codes "instantiationLevelId") d) (λ level was_level.
    first_then _ _ _ _ (inside_fault levels_in (of_objects aspect_level_table) (codes "scaleInfo") (member_of (codes "scaleInfo") d)
    (λ value. objects_fault aspect_level_in aspect_level_table aspect_level_fault (codes "scaleInfo") value)) (λ levels was_levels.
    first_alone _ _ (aim_fault level levels _ _
    (is_there (by_form name_in) (codes "instantiationLevelId") (member_of (codes "instantiationLevelId") d) level was_level)
    (is_there levels_in (codes "scaleInfo") (member_of (codes "scaleInfo") d) levels was_levels))))

pub returns-clause-heal : goal.returns-clause-heal
returns-clause-heal c d =
    first_then _ _ _ _ (optional_fault line_in (codes "cause") d) (λ cause _.
    first_then _ _ _ _ (optional_fault (list_in 512 name_in) (codes "vnfcInstanceId") d) (λ named _. refl))

pub returns-clause-operate : goal.returns-clause-operate
returns-clause-operate c d =
    first_then _ _ _ _ (needed_fault power_in (codes "changeStateTo") d) (λ started _.
    first_then _ _ _ _ (optional_fault stop_in (codes "stopType") d) (λ stop _. refl))

pub returns-clause-terminate : goal.returns-clause-terminate
returns-clause-terminate c d =
    first_then _ _ _ _ (needed_fault stop_in (codes "terminationType") d) (λ mode _.
    first_then _ _ _ _ (optional_fault whole_in (codes "gracefulTerminationTimeout") d) (λ timeout _. refl))

pub returns-clause-cancel : goal.returns-clause-cancel
returns-clause-cancel c d = first_alone _ _ (needed_fault cancel_mode_in (codes "cancelMode") d)

values_fault : {A : Type 0} (form : Data → Option A) (name : List ℕ) (d : Data)
    → fault_in (values_in form name d) ≡ optional_row (of_form (list_in 64 form)) name d
values_fault form name d =
    fault_stays (optional (list_in 64 form) name d) (λ values. unwrap_or values []) ∙ optional_fault (list_in 64 form) name d

object_fault : {A : Type 0} (members : Data → Result A BodyFault) (table : List Row) → RefusesFirstFault members table
    → (name : List ℕ) (d : Data) → fault_in (inside_object members name d) ≡ of_object table name d
object_fault members table same name d = by (is_some (as_object d)) refl where
  by : (b : Bool) → is_some (as_object d) ≡ b → fault_in (inside_object members name d) ≡ of_object table name d
  by true is = rw is (same d)
  by false is = rw is refl

instances_fault : RefusesFirstFault instances_in instances_table
instances_fault d =
    first_then _ _ _ _ (values_fault name_in (codes "vnfdIds") d) (λ vnfds _.
    first_then _ _ _ _ (values_fault name_in (codes "vnfInstanceIds") d) (λ instances _.
    first_then _ _ _ _ (values_fault name_in (codes "vnfInstanceNames") d) (λ names _. refl)))

about_fault : (d : Data) → fault_in (about_in d) ≡ optional_row (of_object instances_table) (codes "vnfInstanceSubscriptionFilter") d
about_fault d =
    fault_stays (optional_read (inside_object instances_in) (codes "vnfInstanceSubscriptionFilter")
    (member_of (codes "vnfInstanceSubscriptionFilter") d)) (λ about. unwrap_or about all_instances)
    ∙ inside_fault (inside_object instances_in) (of_object instances_table) (codes "vnfInstanceSubscriptionFilter")
    (member_of (codes "vnfInstanceSubscriptionFilter") d)
    (λ value. object_fault instances_in instances_table instances_fault (codes "vnfInstanceSubscriptionFilter") value)

filter_fault : RefusesFirstFault filter_in filter_table
filter_fault d =
    first_then _ _ _ _ (about_fault d) (λ about _.
    first_then _ _ _ _ (values_fault notice_in (codes "notificationTypes") d) (λ notices _.
    first_then _ _ _ _ (values_fault operation_type_in (codes "operationTypes") d) (λ operations _.
    first_then _ _ _ _ (values_fault state_in (codes "operationStates") d) (λ states _. refl))))

pub returns-clause-subscription : goal.returns-clause-subscription
returns-clause-subscription c d =
    first_then _ _ _ _ (needed_fault line_in (codes "callbackUri") d) (λ callback _.
    first_then _ _ _ _ (inside_fault (inside_object filter_in) (of_object filter_table) (codes "filter") (member_of (codes "filter") d)
    (λ value. object_fault filter_in filter_table filter_fault (codes "filter") value)) (λ asked _. refl))
