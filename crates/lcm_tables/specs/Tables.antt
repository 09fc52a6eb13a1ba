-- What all tables stand for, and what their calls do (own rule).
use Rattle.std.specs.Prelude.{Bool, IfSome, List, IsTrue, length, ℕ, ◌↔◌, ◌∷◌, ◌<◌, ◌≡◌}
use Rattle.lcm_events.specs.declared.events.Event.{Event}
use Rattle.lcm_events.specs.declared.events.EventKind.{EventKind}
use Rattle.lcm_model.specs.Allowed.{IsAllowed, IsLegal}
use Rattle.lcm_model.specs.Holding.{top}
use Rattle.instance_table.specs.Rows.{StandsFor}
use Rattle.instance_table.specs.Table as instances
use Rattle.notice_table.specs.Queues as queues
use Rattle.notice_table.specs.Table.{IsNoticeOf}
use Rattle.notice_table.specs.Table as notices
use Rattle.occ_table.specs.Table.{IsTableOf, Occurrences}
use Rattle.occ_table.specs.Table as occurrences
use Rattle.vnfm_base.specs.Ident.{IsIdentNumber}
use Rattle.lcm_tables.specs.declared.tables.Tables.{Tables}

-- the tables are those of the history of manager m
pub record AreTablesOf (m : ℕ) (t : Tables) (H : List Event) : Type 0 where
  pub manager : t.manager ≡ m
  pub instances : StandsFor t.instances.rows H
  pub occurrences : IsTableOf t.occurrences H
  pub notices : queues.StandsFor m t.notices.queues H

-- the history is small: its serials are within those of a holding, and an identifier can carry the number of each event
-- (own limit)
pub record IsSmall (H : List Event) : Type 0 where
  pub serials : (i v : ℕ) → top H i v < 2147483648
  pub events : length H < 4611686018427387903

-- the tables are those of a small legal history
pub record HasSmallHistory (t : Tables) : Type 0 where
  pub manager : ℕ
  pub history : List Event
  pub legal : IsLegal manager history
  pub small : IsSmall history
  pub tables : AreTablesOf manager t history

-- what is laid aside is the notice of the event, after each legal history of these tables after which the event is
-- allowed
abbrev pub IsNoticeLaid : EventKind → Tables → Type 0
IsNoticeLaid k t = (m : ℕ) (H : List Event) → IsLegal m H → AreTablesOf m t H → length H < 4611686018427387903
    → IsAllowed m H k → IsNoticeOf m H k t.notice

-- what the event needs is reserved in all tables, and its notice is laid aside
pub record HasRoom (e : Event) (t : Tables) : Type 0 where
  pub instances : instances.HasRoom e.kind t.instances.rows t.instances.reserved
  pub occurrences : occurrences.HasRoom e t.occurrences.reserved
  pub notices : notices.HasRoom e.kind t.notice t.notices
  pub identified : IfSome t.notice (λ n. IsIdentNumber n.instance)
  pub laid : IsNoticeLaid e.kind t

-- the new tables are those of each history whose tables the old ones are
abbrev pub StandForSame : Tables → Tables → Type 0
StandForSame old new = (m : ℕ) (H : List Event) → AreTablesOf m old H → AreTablesOf m new H

-- tables of a small legal history are those of it with the event that was allowed after it
abbrev pub Applies : Event → Tables → Tables → Type 0
Applies e old new = (m : ℕ) (H : List Event) → length H < 4611686018427387903 → IsLegal m H → IsAllowed m H e.kind
    → AreTablesOf m old H → AreTablesOf m new (e ∷ H)

-- this holds of each legal history whose tables these are
abbrev pub Says : (List Event → Type 0) → Tables → Type 0
Says P t = (m : ℕ) (H : List Event) → IsLegal m H → AreTablesOf m t H → P H

-- the answer is whether the event is allowed after each legal history whose tables these are
abbrev pub Judges : EventKind → Bool → Tables → Type 0
Judges k answer t = (m : ℕ) (H : List Event) → IsLegal m H → AreTablesOf m t H → IsTrue answer ↔ IsAllowed m H k

-- the answer is whether the event is allowed after each small legal history whose tables these are
abbrev pub JudgesSmall : EventKind → Bool → Tables → Type 0
JudgesSmall k answer t = (m : ℕ) (H : List Event) → IsSmall H → IsLegal m H → AreTablesOf m t H
    → IsTrue answer ↔ IsAllowed m H k
