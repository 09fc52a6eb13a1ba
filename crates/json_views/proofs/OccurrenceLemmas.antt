-- The members of an occurrence's view, and that it has no float.
use Rattle.std.proofs.Common.{◌≡◌, ℕ, List, Bool, true, false, Option, Some, None, codes, refl, sym}
use Rattle.std.specs.Prelude.{if◌then◌else◌, length, option_map, ◌==◌}
use Rattle.serde_json.specs.Data.{Data, number, object, string, unsigned}
use Rattle.serde_json.specs.Written.{has_float, members_have_float}
use Rattle.lcm_events.specs.declared.asks.Aim.TheVariants.{Aspects, Level}
use Rattle.lcm_events.specs.declared.asks.Ask.{Ask}
use Rattle.lcm_events.specs.declared.asks.Ask.TheVariants.{Heal, Instantiate, Operate, Scale, ScaleToLevel, Terminate}
use Rattle.lcm_events.specs.declared.asks.StopType.{StopType}
use Rattle.lcm_events.specs.declared.asks.Vnfc.{Vnfc}
use Rattle.lcm_events.specs.declared.changes.DefKind.TheVariants.{Compute, Link, Storage}
use Rattle.lcm_events.specs.declared.descriptor.Vnfd.{Vnfd}
use Rattle.lcm_events.specs.declared.states.CancelMode.{CancelMode}
use Rattle.lcm_events.specs.declared.states.OpState.{OpState}
use Rattle.lcm_events.specs.declared.states.OpState.TheVariants.{Completed, Failed, FailedTemp, Processing, RolledBack, RollingBack}
use Rattle.lcm_events.specs.declared.states.OpState.TheVariants.{Starting}
use Rattle.lcm_model.specs.Refusals.{is_terminate}
use Rattle.occ_table.specs.declared.causes.Cause.{Cause}
use Rattle.occ_table.specs.declared.rows.Grant.{Grant}
use Rattle.occ_table.specs.declared.rows.OccRow.{OccRow}
use Rattle.json_views.specs.Affected.{affected, affected_link, affected_machine, affected_storage, changes_value, of_kind}
use Rattle.json_views.specs.Instance.{instance_id, instance_path}
use Rattle.json_views.specs.MadeOccurrence.{occurrence_members}
use Rattle.json_views.specs.Occurrence.{cause_detail, cause_status, error_where, occurrence_id, occurrence_links, occurrence_path}
use Rattle.json_views.specs.Occurrence.{occurrence_value, rollback_where, shows_error}
use Rattle.json_views.specs.Params.{machine_value, named_where, params, stop_where}
use Rattle.json_members.specs.Problem.{problem}
use Rattle.json_views.specs.Resources.{scale_info}
use Rattle.json_views.specs.Views.{array_of}
use Rattle.json_members.specs.Members.{put_where}
use Rattle.json_bodies.specs.Words.{cancel_word}
use Rattle.json_views.specs.declared.affected.Affected.{Affected}
use Rattle.json_views.proofs.ViewLemmas.{IsPlain, array_plain, or_false, text_plain, where_plain}

-- the members that may be absent, put to those that every occurrence has, are the members of the view
pub occurrence_made : (manager n : ℕ) (row : OccRow) (d : Vnfd) (start entered : List ℕ) (cancel error grant : Option Data)
    → cancel ≡ option_map (λ mode. string (cancel_word mode)) row.cancel → error ≡ error_where row
    → grant ≡ option_map (λ g. string g.name) row.grant
    → object (put_where (codes "cancelMode") cancel (put_where (codes "error") error (put_where (codes "grantId") grant
    (occurrence_members (occurrence_id manager n) (object (occurrence_links row.state row.ask (occurrence_path manager n)
    (instance_path manager row.instance))) (instance_id manager row.instance) row d start entered))))
    ≡ occurrence_value manager n row d start entered
unfolding occurrence_members
occurrence_made manager n row d start entered None None None c e g = rw (sym c, sym e, sym g) refl
occurrence_made manager n row d start entered None None (Some z) c e g = rw (sym c, sym e, sym g) refl
occurrence_made manager n row d start entered None (Some y) None c e g = rw (sym c, sym e, sym g) refl
occurrence_made manager n row d start entered None (Some y) (Some z) c e g = rw (sym c, sym e, sym g) refl
occurrence_made manager n row d start entered (Some x) None None c e g = rw (sym c, sym e, sym g) refl
occurrence_made manager n row d start entered (Some x) None (Some z) c e g = rw (sym c, sym e, sym g) refl
occurrence_made manager n row d start entered (Some x) (Some y) None c e g = rw (sym c, sym e, sym g) refl
occurrence_made manager n row d start entered (Some x) (Some y) (Some z) c e g = rw (sym c, sym e, sym g) refl

rollback_plain : (b : Bool) (d : Data) → has_float d ≡ false → IsPlain (if b then None else Some d)
rollback_plain true d plain = tt
rollback_plain false d plain = plain

links_plain : (state : OpState) (ask : Ask) (path instance : List ℕ) → members_have_float (occurrence_links state ask path instance) ≡ false
links_plain Starting ask path instance = refl
links_plain Processing ask path instance = refl
links_plain RollingBack ask path instance = refl
links_plain FailedTemp ask path instance = where_plain (codes "rollback") (rollback_where ask path) _
    (rollback_plain (is_terminate ask) _ refl) refl
links_plain Completed ask path instance = refl
links_plain Failed ask path instance = refl
links_plain RolledBack ask path instance = refl

cancel_plain : (o : Option CancelMode) → IsPlain (option_map (λ mode. string (cancel_word mode)) o)
cancel_plain None = tt
cancel_plain (Some mode) = refl

grant_plain : (o : Option Grant) → IsPlain (option_map (λ g. string g.name) o)
grant_plain None = tt
grant_plain (Some g) = refl

error_plain : (b : Bool) (o : Option Cause) → IsPlain (if b then option_map (λ c. problem (cause_status c) (cause_detail c)) o else None)
error_plain true None = tt
error_plain true (Some c) = refl
error_plain false o = tt

stop_plain : (o : Option StopType) → IsPlain (stop_where o)
stop_plain None = tt
stop_plain (Some s) = refl

timeout_plain : (o : Option ℕ) → IsPlain (option_map (λ n. number (unsigned n)) o)
timeout_plain None = tt
timeout_plain (Some n) = refl

named_plain : (b : Bool) (d : Vnfd) (xs : List Vnfc) → IsPlain (if b then None else Some (array_of (machine_value d) xs))
named_plain true d xs = tt
named_plain false d xs = array_plain (machine_value d) (λ x. refl) xs

params_plain : (d : Vnfd) (ask : Ask) → members_have_float (params d ask) ≡ false
params_plain d (Instantiate flavour level) = where_plain (codes "instantiationLevelId") (option_map string level) _ (text_plain level) refl
params_plain d (Scale way aspect steps) = refl
params_plain d (ScaleToLevel (Level name)) = refl
params_plain d (ScaleToLevel (Aspects xs)) = or_false _ _ (array_plain scale_info (λ x. refl) xs) refl
params_plain d (Heal cause named) =
    where_plain (codes "cause") (option_map string cause) _ (text_plain cause)
    (where_plain (codes "vnfcInstanceId") (named_where d named) _ (named_plain (length named == 0) d named) refl)
params_plain d (Operate started stop) = where_plain (codes "stopType") (stop_where stop) _ (stop_plain stop) refl
params_plain d (Terminate mode timeout) = where_plain (codes "gracefulTerminationTimeout") (option_map (λ n. number (unsigned n)) timeout) _
    (timeout_plain timeout) refl

changes_plain : (d : Vnfd) (xs : List Affected) → has_float (changes_value d xs) ≡ false
changes_plain d xs =
    or_false _ _ (array_plain (affected_link d) (λ x. refl) (of_kind Link xs))
    (or_false _ _ (array_plain (affected_storage d) (λ x. refl) (of_kind Storage xs))
    (or_false _ _ (array_plain (affected_machine d) (λ x. refl) (of_kind Compute xs))
    refl))

-- the view of an occurrence has no float
pub occurrence_plain : (manager n : ℕ) (row : OccRow) (d : Vnfd) (start entered : List ℕ)
    → has_float (occurrence_value manager n row d start entered) ≡ false
occurrence_plain manager n row d start entered =
    or_false _ _ (links_plain row.state row.ask (occurrence_path manager n) (instance_path manager row.instance))
    (where_plain (codes "cancelMode") (option_map (λ mode. string (cancel_word mode)) row.cancel) _ (cancel_plain row.cancel)
    (where_plain (codes "error") (error_where row) _ (error_plain (shows_error row.state) row.cause)
    (where_plain (codes "grantId") (option_map (λ g. string g.name) row.grant) _ (grant_plain row.grant)
    (or_false _ _ (params_plain d row.ask)
    (or_false _ _ (changes_plain d (affected row))
    refl)))))
