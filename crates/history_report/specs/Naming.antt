-- Which numbers the identifiers name that a person gives (RFC 9562 4; own rule), and what a report of them tells.
use Rattle.std.specs.Prelude.{Err, List, None, Ok, Option, Result, Some, ℕ, ◌++◌, ◌<◌, ◌≡◌, ◌≤◌}
use Rattle.executor.specs.History.{HasHistory}
use Rattle.executor.specs.Open.{Refuses}
use Rattle.executor.specs.Questions.{made}
use Rattle.lcm_events.specs.declared.events.Event.{Event}
use Rattle.lcm_model.specs.Allowed.{IsLegal}
use Rattle.vnfm_base.specs.Ident.{IsIdentNumber, ident, ident_text}
use Rattle.vnfm_base.specs.declared.identifier.Kind.{Kind}
use Rattle.vnfm_base.specs.declared.identifier.Kind.TheVariants.{Instance, Occurrence}
use Rattle.history_report.specs.Telling.{IsFrontOf, PutsPage, lines}
use Rattle.history_report.specs.declared.chosen.Chosen.{Chosen}
use Rattle.history_report.specs.declared.reporting.Form.{Form}
use Rattle.history_report.specs.declared.reporting.Form.TheVariants.{Lines, Page}
use Rattle.history_report.specs.declared.reporting.ReportFault.{ReportFault}
use Rattle.history_report.specs.declared.reporting.ReportFault.TheVariants as fault
use Rattle.history_report.specs.declared.reporting.Wish.{Wish}

-- the text is the identifier of the n-th of a kind, which the history made
pub record Names (manager : ℕ) (H : List Event) (kind : Kind) (text : List ℕ) (n : ℕ) : Type 0 where
  pub number : IsIdentNumber n
  pub is : text ≡ ident_text (ident manager kind n)
  pub made : n ≤ made kind H

-- nothing that the history made has this identifier
abbrev pub NamesNone : ℕ → List Event → Kind → List ℕ → Type 0
NamesNone manager H kind text = (n : ℕ) → Names manager H kind text n → ⊥

-- the number of what has this identifier; none exactly where nothing that was made has it
abbrev pub FindsNumber : ℕ → List Event → Kind → List ℕ → Option ℕ → Type 0
FindsNumber manager H kind text (Some n) = Names manager H kind text n
FindsNumber manager H kind text None = NamesNone manager H kind text

-- the same where an identifier is given
abbrev pub FindsWhere : {E : Type 0} → ℕ → List Event → Kind → Option (List ℕ) → Result (Option ℕ) E → Type 0
FindsWhere manager H kind None (Ok None) = Unit {0}
FindsWhere manager H kind (Some text) (Ok (Some n)) = Names manager H kind text n
FindsWhere manager H kind (Some text) (Err none) = NamesNone manager H kind text
FindsWhere manager H kind _ _ = ⊥

-- the identifier that is wished for is that of nothing of this kind
abbrev pub LacksWished : ℕ → List Event → Kind → Option (List ℕ) → Type 0
LacksWished manager H kind (Some text) = NamesNone manager H kind text
LacksWished manager H kind None = ⊥

-- what is chosen has the number that the identifier names, where one is given
abbrev pub IsWished : ℕ → List Event → Kind → Option (List ℕ) → Option ℕ → Type 0
IsWished manager H kind None None = Unit {0}
IsWished manager H kind (Some text) (Some n) = Names manager H kind text n
IsWished manager H kind _ _ = ⊥

-- what is chosen is what is wished for
pub record AreWished (manager : ℕ) (H : List Event) (wish : Wish) (c : Chosen) : Type 0 where
  pub instance : IsWished manager H Instance wish.instance c.instance
  pub occurrence : IsWished manager H Occurrence wish.occurrence c.occurrence

-- what is wished for is chosen, or the journal has no such thing
abbrev pub Chooses : ℕ → List Event → Wish → Result Chosen ReportFault → Type 0
Chooses manager H wish (Ok c) = AreWished manager H wish c
Chooses manager H wish (Err fault.NoInstance) = LacksWished manager H Instance wish.instance
Chooses manager H wish (Err fault.NoOccurrence) = LacksWished manager H Occurrence wish.occurrence
Chooses manager H wish (Err other) = ⊥

-- all that is to be told in this form stands behind what stood there: the lines of what is chosen, or a page
abbrev pub IsTold : Form → ℕ → List Event → Chosen → List ℕ → List ℕ → Type 0
IsTold Lines manager H c before after = after ≡ before ++ lines manager H c
IsTold Page manager H c before after = PutsPage before after

-- what was put before a fault: a front of the lines; of a page nothing
abbrev pub IsPartTold : Form → ℕ → List Event → Chosen → List ℕ → List ℕ → Type 0
IsPartTold Lines manager H c before after = IsFrontOf (before ++ lines manager H c) after
IsPartTold Page manager H c before after = after ≡ before

-- all is told, or what was put before a fault
abbrev pub Tells : {T E : Type 0} → Form → ℕ → List Event → Chosen → Result T E → List ℕ → List ℕ → Type 0
Tells form manager H c (Ok done) before after = IsTold form manager H c before after
Tells form manager H c (Err why) before after = IsPartTold form manager H c before after

-- what a report comes to over a journal of this manager and this legal history: what is wished for is told; or nothing
-- is, since there is no such thing; or it is told in part
abbrev pub ReportsOf : {T : Type 0} → ℕ → List Event → Wish → Result T ReportFault → List ℕ → List ℕ → Type 0
ReportsOf manager H wish (Ok done) before after =
    (c : Chosen) × AreWished manager H wish c × IsTold wish.form manager H c before after
ReportsOf manager H wish (Err fault.NoInstance) before after =
    LacksWished manager H Instance wish.instance × (after ≡ before)
ReportsOf manager H wish (Err fault.NoOccurrence) before after =
    LacksWished manager H Occurrence wish.occurrence × (after ≡ before)
ReportsOf manager H wish (Err (fault.Tell why)) before after =
    (c : Chosen) × AreWished manager H wish c × IsPartTold wish.form manager H c before after
ReportsOf manager H wish (Err (fault.Open why)) before after = ⊥

-- the history that a file has, which is legal, and its manager
pub record HasLegal (manager : ℕ) (H : List Event) (image : List ℕ) : Type 0 where
  pub small : manager < 4294967296
  pub history : HasHistory manager H image
  pub legal : IsLegal manager H

-- what a report of a file comes to: the file isn't a journal that can be opened, and nothing was put; or the report is
-- of the journal's history
abbrev pub Reports : {T : Type 0} → Wish → Result T ReportFault → List ℕ → List ℕ → List ℕ → Type 0
Reports wish (Err (fault.Open why)) image before after = Refuses why image × (after ≡ before)
Reports wish result image before after =
    (manager : ℕ) × (H : List Event) × HasLegal manager H image × ReportsOf manager H wish result before after
