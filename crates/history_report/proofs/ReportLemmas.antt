-- What a report comes to, by the manager that was opened and what was told.
use Rattle.std.proofs.Common.{◌≡◌, ◌<◌, ◌++◌, ◌∙◌, ℕ, Err, List, Ok, Result, ap, subst, sym}
use Rattle.executor.specs.History.{HasHistory, spellings}
use Rattle.executor.specs.Managed.{IsReady, Managed}
use Rattle.journal_records.specs.File.{HasRecords}
use Rattle.lcm_events.specs.declared.events.Event.{Event}
use Rattle.site_traits.specs.Site.{SiteState}
use Rattle.history_report.specs.Naming.{HasLegal}

-- the file of a manager that is ready has its history, which is legal
pub has_legal : (tells : Type 0) (m : Managed) (H : List Event) (s : SiteState) → tells → IsReady tells m H s
    → m.ledger.manager < 4294967296 → HasLegal m.ledger.manager H s.image
has_legal tells m H s tell is small =
    let stands = is.stands tell in
    let R : List (List ℕ) → Type 0 = λ rs. HasRecords m.ledger.manager rs s.image in
    record {
      small = small;
      history = record { file = subst R stands.records stands.journal.file; events = stands.events };
      legal = is.keeps.kept.legal;
    }

-- the same of the same bytes
pub same_legal : (m : ℕ) (H : List Event) (a b : List ℕ) → b ≡ a → HasLegal m H a → HasLegal m H b
same_legal m H a b is has = let P : List ℕ → Type 0 = λ image. HasLegal m H image in subst P (sym is) has
