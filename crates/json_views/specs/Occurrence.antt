-- The view of an operation occurrence (SOL 003 5.5.2.13, VnfLcmOpOcc). Members stand in byte order of their names.
use Rattle.std.specs.Prelude.{Bool, List, None, Option, Some, codes, decimal, false, if◌then◌else◌, is_some, option_map}
use Rattle.std.specs.Prelude.{true, ℕ, ◌++◌}
use Rattle.serde_json.specs.Data.{Data, Members, boolean, member, no_members, object, string}
use Rattle.serde_json.specs.Written.{compact_text}
use Rattle.lcm_events.specs.declared.asks.Ask.{Ask}
use Rattle.lcm_events.specs.declared.descriptor.Vnfd.{Vnfd}
use Rattle.lcm_events.specs.declared.states.OpState.{OpState}
use Rattle.lcm_events.specs.declared.states.OpState.TheVariants.{Completed, Failed, FailedTemp, Processing, RolledBack}
use Rattle.lcm_events.specs.declared.states.OpState.TheVariants.{RollingBack, Starting}
use Rattle.lcm_model.specs.Refusals.{is_terminate}
use Rattle.occ_table.specs.declared.causes.Cause.{Cause}
use Rattle.occ_table.specs.declared.causes.Cause.TheVariants.{Aborted, Broken, CallFailed, Cancelled, Denied, NoGrant}
use Rattle.occ_table.specs.declared.causes.Cause.TheVariants.{NotCovering}
use Rattle.occ_table.specs.declared.rows.OccRow.{OccRow}
use Rattle.vnfm_base.specs.Ident.{ident, ident_text}
use Rattle.vnfm_base.specs.declared.identifier.Kind.TheVariants.{Occurrence}
use Rattle.json_views.specs.Affected.{resource_changes}
use Rattle.json_views.specs.Instance.{instance_id, instance_path}
use Rattle.json_views.specs.Links.{link, task_link}
use Rattle.json_views.specs.Moments.{moment_text}
use Rattle.json_views.specs.Params.{params}
use Rattle.json_members.specs.Problem.{problem}
use Rattle.json_views.specs.Views.{member_where}
use Rattle.json_bodies.specs.Words.{cancel_word}
use Rattle.json_bodies.specs.Words.{kind_word, state_word}
use Rattle.lcm_model.specs.Operations.{kind_of}

-- the text of the identifier of occurrence n (RFC 9562 4)
unfoldable pub occurrence_id : ℕ → ℕ → List ℕ
occurrence_id manager n = ident_text (ident manager Occurrence n)

-- where occurrence n is found (SOL 003 5.4.13)
unfoldable pub occurrence_path : ℕ → ℕ → List ℕ
occurrence_path manager n = codes "/vnflcm/v1/vnf_lcm_op_occs/" ++ occurrence_id manager n

-- the links that every occurrence has: to itself and to its instance (SOL 003 5.5.2.13, _links)
abbrev pub ended_links : List ℕ → List ℕ → Members
ended_links path instance = member (codes "self") (link path) (member (codes "vnfInstance") (link instance) no_members)

-- those while the manager works on it: it may be cancelled (SOL 003 5.4.17)
abbrev pub active_links : List ℕ → List ℕ → Members
active_links path instance = member (codes "cancel") (task_link path (codes "cancel")) (ended_links path instance)

-- the link to its rollback, which a TERMINATE doesn't have (SOL 003 5.4.15; that TERMINATE has none is an own rule)
abbrev pub rollback_where : Ask → List ℕ → Option Data
rollback_where ask path = if is_terminate ask then None else Some (task_link path (codes "rollback"))

-- those once its work has stopped: it may be failed, tried again or rolled back (SOL 003 5.4.14 to 5.4.16)
abbrev pub stopped_links : Ask → List ℕ → List ℕ → Members
stopped_links ask path instance =
    member (codes "fail") (task_link path (codes "fail"))
    (member (codes "retry") (task_link path (codes "retry"))
    (member_where (codes "rollback") (rollback_where ask path)
    (ended_links path instance)))

-- the links of an occurrence, by its state (SOL 003 5.5.2.13, _links)
abbrev pub occurrence_links : OpState → Ask → List ℕ → List ℕ → Members
occurrence_links Starting ask path instance = active_links path instance
occurrence_links Processing ask path instance = active_links path instance
occurrence_links RollingBack ask path instance = active_links path instance
occurrence_links FailedTemp ask path instance = stopped_links ask path instance
occurrence_links Completed ask path instance = ended_links path instance
occurrence_links Failed ask path instance = ended_links path instance
occurrence_links RolledBack ask path instance = ended_links path instance

-- what happened to the change of this number
abbrev pub change_detail : ℕ → List ℕ → List ℕ
change_detail change what = codes "change " ++ decimal change ++ what

-- why work stopped (RFC 9457 3, detail; the texts are own ones)
abbrev pub cause_detail : Cause → List ℕ
cause_detail Denied = codes "grant denied"
cause_detail NotCovering = codes "grant does not cover the request"
cause_detail NoGrant = codes "no grant after five tries"
cause_detail (Broken change code) = change_detail change (codes ": broken " ++ decimal code)
cause_detail (Aborted change) = change_detail change (codes ": aborted")
cause_detail (CallFailed change) = change_detail change (codes ": call failed")
cause_detail Cancelled = codes "cancelled"

-- the status that goes with it (RFC 9457 3, status)
abbrev pub cause_status : Cause → ℕ
cause_status Denied = 403
cause_status _ = 500

-- the state shows why work stopped, where it did: each but STARTING and COMPLETED (own rule over SOL 003 5.5.2.13,
-- error)
abbrev pub shows_error : OpState → Bool
shows_error Starting = false
shows_error Completed = false
shows_error _ = true

-- why work stopped, where it did and the state shows it (SOL 003 5.5.2.13, error)
abbrev pub error_where : OccRow → Option Data
error_where row = if shows_error row.state then option_map (λ c. problem (cause_status c) (cause_detail c)) row.cause
    else None

-- occurrence n, of this row, as the descriptor of its instance has it, asked for and brought into its state at the
-- moments of these texts (SOL 003 5.5.2.13)
abbrev pub occurrence_value : ℕ → ℕ → OccRow → Vnfd → List ℕ → List ℕ → Data
occurrence_value manager n row d start entered =
    object
    (member (codes "_links") (object (occurrence_links row.state row.ask (occurrence_path manager n)
    (instance_path manager row.instance)))
    (member_where (codes "cancelMode") (option_map (λ mode. string (cancel_word mode)) row.cancel)
    (member_where (codes "error") (error_where row)
    (member_where (codes "grantId") (option_map (λ g. string g.name) row.grant)
    (member (codes "id") (string (occurrence_id manager n))
    (member (codes "isAutomaticInvocation") (boolean false)
    (member (codes "isCancelPending") (boolean (is_some row.cancel))
    (member (codes "operation") (string (kind_word (kind_of row.ask)))
    (member (codes "operationParams") (object (params d row.ask))
    (member (codes "operationState") (string (state_word row.state))
    (member (codes "resourceChanges") (resource_changes d row)
    (member (codes "startTime") (string start)
    (member (codes "stateEnteredTime") (string entered)
    (member (codes "vnfInstanceId") (string (instance_id manager row.instance))
    no_members))))))))))))))

-- occurrence n, of this row, as the descriptor of its instance has it (SOL 003 5.5.2.13; RFC 3339)
abbrev pub occurrence_shown : ℕ → ℕ → OccRow → Vnfd → Data
occurrence_shown manager n row d = occurrence_value manager n row d (moment_text row.asked) (moment_text row.entered)

-- its text
unfoldable pub occurrence_text : ℕ → ℕ → OccRow → Vnfd → List ℕ
occurrence_text manager n row d = compact_text (occurrence_shown manager n row d)
