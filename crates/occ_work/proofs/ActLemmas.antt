-- An act, by what it exchanged and recorded.
use Rattle.std.proofs.Common.{◌≡◌, ◌∙◌, ap, ℕ, Bool, true, false, List, [], ◌∷◌, Some, Err, inl, inr, refl, Result, IfOk}
use Rattle.executor.specs.Managed.{IsReady, Managed}
use Rattle.executor.specs.Work.{Idles, went}
use Rattle.executor.specs.declared.manager.WorkFault.{WorkFault}
use Rattle.executor.specs.declared.manager.WorkFault.TheVariants as fault
use Rattle.executor.proofs.WorkLemmas.{with_jobs}
use Rattle.lcm_events.specs.declared.events.Event.{Event}
use Rattle.lcm_events.specs.declared.states.OpState.{OpState}
use Rattle.lcm_model.specs.Next.{next_action}
use Rattle.lcm_model.specs.Operations.{changes}
use Rattle.lcm_model.specs.declared.actions.Action.TheVariants.{AskForGrant, MoveTo, Poll}
use Rattle.lcm_events.specs.declared.events.EventKind.TheVariants.{Moved}
use Rattle.site_traits.specs.Advancing.{advances-refl}
use Rattle.site_traits.specs.Answer.{Answer as Heard}
use Rattle.site_traits.specs.Counts.{CallCounts, OnlyDiskFails, SiteCounts, one_more}
use Rattle.site_traits.specs.Moments.{kept_jobs}
use Rattle.site_traits.specs.Peers.{OrchestratorState}
use Rattle.site_traits.specs.Site.{KeepsJobs, SiteState}
use Rattle.site_traits.specs.declared.orchestrator.Call.{Call}
use Rattle.occ_work.specs.Acting.{Acts, Records}
use Rattle.occ_work.specs.Around.{Calls, Counts, DiskFails, Exchanges, ReachTells, peer, reach}
use Rattle.occ_work.specs.Attempting.{Attempts, IsWithoutPeer, shows}
use Rattle.occ_work.specs.Deeds.{Deed, Exchange, IsExchangeOf, aborted, answer_heard, asked, began, ending, looked, nothing, polled, point}
use Rattle.occ_work.specs.Exchanges.{exchange_of, exchanging, kinds_for}
use Rattle.occ_work.specs.declared.ends.Acted.{Acted}
use Rattle.occ_work.specs.declared.ends.Acted.TheVariants.{Recorded}
use Rattle.occ_work.proofs.AttemptLemmas.{alike_disk, alike_refl}

-- of all counts that of disk faults alone
pub disk_of : (failed : Type 0) (a b : SiteCounts) → OnlyDiskFails failed a b → DiskFails failed a b
disk_of failed a b only = record { rose = only.rose; stays = only.stays }

-- so it is where nothing was asked for
pub disk_untouched : (a : SiteCounts) → DiskFails ⊥ a a
disk_untouched a = record { rose = λ never. absurd never; stays = λ never. refl }

-- one answer stands for another
pub disk_as : (P Q : Type 0) (a b : SiteCounts) → DiskFails P a b → (P → Q) → (Q → P) → DiskFails Q a b
disk_as P Q a b fails there back = record { rose = λ is. fails.rose (back is); stays = λ never. fails.stays (λ is. never (there is)) }

-- behind calls of which none failed it is the last alone that did
pub disk_last : (P : Type 0) (a b c : SiteCounts) → DiskFails ⊥ a b → DiskFails P b c → DiskFails P a c
disk_last P a b c none last =
    let same = none.stays (λ never. never) in
    record { rose = λ is. last.rose is ∙ ap one_more same; stays = λ never. last.stays never ∙ same }

-- there was no memory for what it exchanges
pub starved_act : (t : ReachTells) (m : Managed) (now : ℕ) (H : List Event) (o : ℕ) (asking : Bool) (s : SiteState) (i : SiteCounts)
    (told : OrchestratorState) (counts : CallCounts)
    → Idles t.site s → IsReady t.site m H s → next_action H o ≡ Some (exchanging asking)
    → (d : Deed) × (d.occ ≡ o) × Acts t (point m.ledger.manager m.ledger.saved now H) d (Err fault.Memory) m (reach s i told counts)
    (reach s i told counts)
starved_act t m now H o true s i told counts idles ready next = (
  record { occ = o; action = AskForGrant; exchange = nothing },
  refl,
  record {
    tried = record { next = next; exchange = inr tt; ended = tt };
    exchanged = record {
      told = λ tells. refl;
      counts = refl;
      handled =
          record { jobs = λ tells. advances-refl s.jobs; answers = λ tells. refl; counts = alike_refl i };
    };
    records = record { works = with_jobs t.site m.ledger.manager H (went H) m s s (idles m H ready); saved = refl; room = tt };
    ended = tt;
  },
)
starved_act t m now H o false s i told counts idles ready next = (
  record { occ = o; action = Poll; exchange = nothing },
  refl,
  record {
    tried = record { next = next; exchange = inr tt; ended = tt };
    exchanged = record {
      told = λ tells. refl;
      counts = refl;
      handled =
          record { jobs = λ tells. advances-refl s.jobs; answers = λ tells. refl; counts = alike_refl i };
    };
    records = record { works = with_jobs t.site m.ledger.manager H (went H) m s s (idles m H ready); saved = refl; room = tt };
    ended = tt;
  },
)

-- the orchestrator was called, and what was answered taken
pub exchanging_act : (t : ReachTells) (m z now : ℕ) (H : List Event) (o : ℕ) (asking : Bool) (words : List ℕ) (ended : Call) (heard : Heard)
    (result : Result Acted WorkFault) (n : Managed) (a b : SiteState) (i j : SiteCounts) (failed : Type 0) (x y : OrchestratorState)
    (c k : CallCounts) → next_action H o ≡ Some (exchanging asking)
    → IsExchangeOf m H o (exchanging asking) (exchange_of asking words ended heard)
    → Calls t.orchestrator (exchange_of asking words ended heard) (peer x c) (peer y k)
    → (t.site → KeepsJobs a b) → OnlyDiskFails failed i j
    → Records t.site (point m z now H) (kinds_for asking o (answer_heard asking (changes H o) ended heard)) result n a b
    → IfOk result (λ done. done ≡ ending (exchanging asking) (answer_heard asking (changes H o) ended heard))
    → (d : Deed) × (d.occ ≡ o) × Acts t (point m z now H) d result n (reach a i x c) (reach b j y k)
exchanging_act t m z now H o true words ended heard result n a b i j failed x y c k next due calls alone only records ends = (
  record { occ = o; action = AskForGrant; exchange = asked words ended heard },
  refl,
  record {
    tried = record { next = next; exchange = inl due; ended = tt };
    exchanged = record {
      told = calls.told;
      counts = calls.counts;
      handled = record {
        jobs = λ tells. kept_jobs a b (alone tells);
        answers = λ tells. (alone tells).answers;
        counts = alike_disk failed i j only;
      };
    };
    records = records;
    ended = ends;
  },
)
exchanging_act t m z now H o false words ended heard result n a b i j failed x y c k next due calls alone only records ends = (
  record { occ = o; action = Poll; exchange = polled words ended heard },
  refl,
  record {
    tried = record { next = next; exchange = inl due; ended = tt };
    exchanged = record {
      told = calls.told;
      counts = calls.counts;
      handled = record {
        jobs = λ tells. kept_jobs a b (alone tells);
        answers = λ tells. (alone tells).answers;
        counts = alike_disk failed i j only;
      };
    };
    records = records;
    ended = ends;
  },
)

-- the occurrence was moved on
pub moving_act : (t : ReachTells) (m z now : ℕ) (H : List Event) (o : ℕ) (to : OpState) (result : Result Acted WorkFault) (n : Managed)
    (a b : SiteState) (i j : SiteCounts) (failed : Type 0)
    (told : OrchestratorState) (counts : CallCounts) → next_action H o ≡ Some (MoveTo to) → (t.site → KeepsJobs a b)
    → OnlyDiskFails failed i j
    → Records t.site (point m z now H) (Moved o to ∷ []) result n a b
    → IfOk result (λ done. done ≡ Recorded) → (d : Deed) × (d.occ ≡ o)
    × Acts t (point m z now H) d result n (reach a i told counts) (reach b j told counts)
moving_act t m z now H o to result n a b i j failed told counts next alone only records ends = (
  record { occ = o; action = MoveTo to; exchange = nothing },
  refl,
  record {
    tried = record { next = next; exchange = inl tt; ended = tt };
    exchanged = record {
      told = λ tells. refl;
      counts = refl;
      handled = record {
        jobs = λ tells. kept_jobs a b (alone tells);
        answers = λ tells. (alone tells).answers;
        counts =
            alike_disk failed i j only;
      };
    };
    records = records;
    ended = ends;
  },
)

-- the orchestrator stays where it isn't asked
unasked : (x : Exchange) (s : OrchestratorState) → IsWithoutPeer x → Exchanges x s s
unasked nothing s alone = refl
unasked (asked body ended heard) s alone = absurd alone
unasked (polled at ended heard) s alone = absurd alone
unasked (began t work answer) s alone = refl
unasked (looked t answer) s alone = refl
unasked (aborted aborts t answer) s alone = refl

uncounted : (x : Exchange) (c : CallCounts) → IsWithoutPeer x → Counts x c c
uncounted nothing c alone = refl
uncounted (asked body ended heard) c alone = absurd alone
uncounted (polled at ended heard) c alone = absurd alone
uncounted (began t work answer) c alone = refl
uncounted (looked t answer) c alone = refl
uncounted (aborted aborts t answer) c alone = refl

-- an attempt was made
pub attempting_act : (t : ReachTells) (m z now : ℕ) (H : List Event) (o : ℕ) (result : Result Acted WorkFault) (n : Managed)
    (a b : SiteState)
    (i j : SiteCounts) (told : OrchestratorState) (counts : CallCounts)
    → (d : Deed) × (d.occ ≡ o) × Attempts t.site (point m z now H) d result n (shows a i) (shows b j)
    → (d : Deed) × (d.occ ≡ o) × Acts t (point m z now H) d result n (reach a i told counts) (reach b j told counts)
attempting_act t m z now H o result n a b i j told counts it = (
  it.0,
  it.1,
  record {
    tried = it.2.tried;
    exchanged = record {
      told = λ tells. unasked it.0.exchange told it.2.alone;
      counts = uncounted it.0.exchange counts it.2.alone;
      handled = it.2.handled;
    };
    records = it.2.records;
    ended = it.2.ended;
  },
)
