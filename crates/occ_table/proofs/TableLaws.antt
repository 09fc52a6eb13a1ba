-- What an event makes of the table.
use Rattle.std.proofs.Common.{◌≡◌, ◌≤◌, ◌∙◌, ℕ, List, ◌∷◌, ap, sym, arith}
use Rattle.lcm_events.specs.declared.events.Event.{Event}
use Rattle.lcm_events.specs.declared.events.EventKind.{EventKind}
use Rattle.lcm_model.specs.Allowed.{IsAllowedWithin, IsLegalWithin}
use Rattle.occ_table.specs.Descriptors.{vnfds_after}
use Rattle.occ_table.specs.Going.{active_after}
use Rattle.occ_table.specs.Ongoing.{ongoings_after}
use Rattle.occ_table.specs.Steps.{rows_after}
use Rattle.occ_table.specs.Table.{IsKept, IsTableOf, Occurrences, Reserved}
use Rattle.occ_table.proofs.GoingLaws.{activated}
use Rattle.occ_table.proofs.HomeLaws.{redescribed}
use Rattle.occ_table.proofs.OngoingSteps.{engaged}
use Rattle.occ_table.proofs.RowsSteps.{applied}
use Rattle.occ_table.proofs.KnownSteps.{deeds}
use Rattle.occ_table.proofs.NeededSteps.{entry-step, kept-same, used-step}
use Rattle.occ_table.specs.Needed.{entry}
use Rattle.occ_table.specs.Resources.{deed_in, kept_after, kept_of, used_after}
use Rattle.occ_table.specs.declared.resources.DoneAttempt.{DoneAttempt}
use Rattle.lcm_events.specs.declared.changes.Def.{Def}
use Rattle.occ_table.specs.declared.rows.OccRow.{OccRow}
use Rattle.std.specs.Prelude.{Option}

-- a table whose parts followed an event of this kind
pub table_after : (width m : ℕ) (H : List Event) (e : Event) (k : EventKind) (old new : Occurrences) → e.kind ≡ k → width ≤ 4
    → IsLegalWithin width m H
    → IsAllowedWithin width m H e.kind → IsTableOf old H → new.rows
    ≡ rows_after old.vnfds e.moment (used_after (deed_in k old.rows) (kept_of old.resources)) k old.rows
    → new.active ≡ active_after k old.active
    → new.ongoing ≡ ongoings_after old.rows k old.ongoing → new.vnfds ≡ vnfds_after k old.vnfds
    → ((i : ℕ) (x : Def) → kept_of new.resources i x ≡ kept_after old.rows k (kept_of old.resources) i x) → IsTableOf new (e ∷ H)
table_after width m H e k old new is wide legal allowed table rows active ongoing vnfds resources = record {
  rows =
      rows
      ∙ (ap (λ (x : EventKind). rows_after old.vnfds e.moment (used_after (deed_in x old.rows) (kept_of old.resources)) x old.rows) (sym is)
      ∙ applied width m H e old.rows old.vnfds (used_after (deed_in e.kind old.rows) (kept_of old.resources)) wide legal allowed table.rows
      table.vnfds
      (ap (λ (d : Option DoneAttempt). used_after d (kept_of old.resources)) (deeds width m H old.rows e.kind legal allowed table.rows)
      ∙ used-step width m H (kept_of old.resources) e.kind legal allowed table.resources));
  active =
      activated width m H e old.active new.active legal allowed table.active
      (active ∙ ap (λ (x : EventKind). active_after x old.active) (sym is));
  ongoing =
      engaged width m H e old.rows old.ongoing new.ongoing legal allowed table.rows table.ongoing
      (ongoing ∙ ap (λ (x : EventKind). ongoings_after old.rows x old.ongoing) (sym is));
  resources = λ i x.
      resources i x
      ∙ (ap (λ (y : EventKind). kept_after old.rows y (kept_of old.resources) i x) (sym is)
      ∙ (kept-same old.rows e.kind (kept_of old.resources) (entry H) table.resources i x
      ∙ (ap (λ (rs : List OccRow). kept_after rs e.kind (entry H) i x) table.rows
      ∙ sym (entry-step width m H e.moment e.kind i x legal allowed))));
  vnfds = redescribed H e old.vnfds new.vnfds table.vnfds (vnfds ∙ ap (λ (x : EventKind). vnfds_after x old.vnfds) (sym is));
}

-- what was reserved is, where nothing of it changed
pub kept_same : (old new : Reserved) → new ≡ old → IsKept old new
kept_same old new is = record {
  others = is ∙ ap (λ (n : ℕ). record old { resources = n }) (sym (ap (λ (r : Reserved). r.resources) is));
  resources = omega (arith, ap (λ (r : Reserved). r.resources) is);
}
