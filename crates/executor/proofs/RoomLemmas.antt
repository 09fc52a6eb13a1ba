-- For which events the tables have room though nothing was reserved for them, or something else was.
use Rattle.std.proofs.Common.{subst, ◌≡◌, ◌<◌, ℕ, List, Option, None, Some, length, refl, sym, true, true≢false}
use Rattle.std.specs.Prelude.{option_map}
use Rattle.executor.specs.Managed.{HasNoNotice, Keeps, Managed, needs_no_memory}
use Rattle.instance_table.specs.Table as instances
use Rattle.lcm_events.specs.declared.attempts.Outcome.{Outcome}
use Rattle.lcm_events.specs.declared.attempts.Outcome.TheVariants.{Done}
use Rattle.lcm_events.specs.declared.attempts.Tag.{Tag}
use Rattle.lcm_events.specs.declared.events.Event.{Event}
use Rattle.lcm_events.specs.declared.events.EventKind.{EventKind}
use Rattle.lcm_events.specs.declared.events.EventKind.TheVariants.{CallFailed, Intent, Settled}
use Rattle.lcm_model.specs.Allowed.{IsAllowed}
use Rattle.lcm_model.specs.Notices.{facts_of}
use Rattle.lcm_tables.specs.Tables.{HasRoom, IsNoticeLaid}
use Rattle.lcm_tables.specs.declared.tables.Tables.{Tables}
use Rattle.occ_table.specs.Table as occurrences

-- where no notice is laid aside, that of an event that makes none is
laid_none : (k : EventKind) (T : Tables) → T.notice ≡ None → ((H : List Event) → facts_of H k ≡ None) → IsNoticeLaid k T
laid_none k T none silent m H legal tables few allowed = record { facts = rw none (sym (silent H)); manager = rw none tt }

quiet : (time : ℕ) (k : EventKind) (T : Tables) → T.notice ≡ None → needs_no_memory k ≡ true
    → HasRoom (record { moment = time; kind = k }) T
quiet time (Intent t) T none free =
    record {
      instances = tt;
      occurrences = tt;
      notices = record { notice = rw none tt; queue = tt };
      identified = rw none tt;
      laid =
          laid_none (Intent t) T none (λ H. refl);
    }
quiet time (CallFailed t) T none free =
    record {
      instances = tt;
      occurrences = tt;
      notices = record { notice = rw none tt; queue = tt };
      identified = rw none tt;
      laid =
          laid_none (CallFailed t) T none (λ H. refl);
    }
quiet time (Settled t out) T none free = record {
  instances = rows out free;
  occurrences = names out free;
  notices = record { notice = rw none tt; queue = tt };
  identified = rw none tt;
  laid = laid_none (Settled t out) T none (λ H. refl);
} where
  rows : (out : Outcome) → needs_no_memory (Settled t out) ≡ true → instances.HasRoom (Settled t out) T.instances.rows T.instances.reserved
  rows (Done name) free = absurd (true≢false (sym free))
  rows _ free = tt

  names : (out : Outcome) → needs_no_memory (Settled t out) ≡ true → occurrences.HasNames out T.occurrences.reserved
  names (Done name) free = absurd (true≢false (sym free))
  names _ free = tt
quiet time _ T none free = absurd (true≢false (sym free))

-- a manager that has no notice laid aside has room for each event that needs no memory
pub quiet_room : (m : Managed) (e : Event) → HasNoNotice m → needs_no_memory e.kind ≡ true → HasRoom e m.tables
quiet_room m e none free = quiet e.moment e.kind m.tables none free

no_facts : {A B : Type 0} (f : A → B) (n : Option A) → option_map f n ≡ None → n ≡ None
no_facts f None is = refl
no_facts f (Some x) is = cc

-- where room was reserved for the begin of an attempt that may begin, no notice is laid aside: that event makes none
pub laid_quiet : (m : Managed) (H : List Event) (time : ℕ) (t : Tag) → Keeps m H → length H < 4611686018427387903
    → IsAllowed m.ledger.manager H (Intent t)
    → HasRoom (record { moment = time; kind = Intent t }) m.tables → HasNoNotice m
laid_quiet m H time t keeps few allowed room =
    no_facts _ m.tables.notice (room.laid m.ledger.manager H keeps.kept.legal keeps.tables few allowed).facts

-- and so it is for an event that is the begin of an attempt
pub intent_quiet : (m : Managed) (H : List Event) (e : Event) (t : Tag) → Keeps m H → length H < 4611686018427387903 → e.kind ≡ Intent t
    → IsAllowed m.ledger.manager H e.kind → HasRoom e m.tables → HasNoNotice m
intent_quiet m H e t keeps few is allowed room =
    laid_quiet m H e.moment t keeps few (subst (λ (k : EventKind). IsAllowed m.ledger.manager H k) is allowed)
    (subst (λ (k : EventKind). HasRoom (record { moment = e.moment; kind = k }) m.tables) is room)

end_rows : (t : Tag) (name : List ℕ) (out : Outcome) (T : Tables)
    → instances.HasRoom (Settled t (Done name)) T.instances.rows T.instances.reserved
    → instances.HasRoom (Settled t out) T.instances.rows T.instances.reserved
end_rows t name (Done other) T room = room
end_rows t name _ T room = tt

end_names : (name : List ℕ) (out : Outcome) (T : Tables) → occurrences.HasNames (Done name) T.occurrences.reserved
    → occurrences.HasNames out T.occurrences.reserved
end_names name (Done other) T room = room
end_names name _ T room = tt

-- where there is room for an attempt to end as done, there is room for it to end in any way, at any moment
pub end_room : (T : Tables) (now later : ℕ) (t : Tag) (name : List ℕ) (out : Outcome)
    → HasRoom (record { moment = now; kind = Settled t (Done name) }) T
    → HasRoom (record { moment = later; kind = Settled t out }) T
end_room T now later t name out room = record {
  instances = end_rows t name out T room.instances;
  occurrences = end_names name out T room.occurrences;
  notices = record { notice = room.notices.notice; queue = tt };
  identified = room.identified;
  laid = λ m H legal tables few allowed.
      let laid = room.laid m H legal tables few allowed in
      record { facts = laid.facts; manager = laid.manager };
}
