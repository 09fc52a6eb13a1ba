-- The nets of changes and their open attempts (own rule).
use Rattle.std.specs.Prelude.{List, length, true, ℕ, ◌<◌, ◌≡◌, ◌≤◌}
use Rattle.lcm_events.specs.declared.attempts.Tag.{Tag}
use Rattle.lcm_events.specs.declared.attempts.Way.TheVariants.{Forward, Undo}
use Rattle.lcm_events.specs.declared.events.Event.{Event}
use Rattle.lcm_events.specs.declared.states.OpState.TheVariants.{Completed, RolledBack}
use Rattle.lcm_model.specs.Allowed.{IsLegalWithin}
use Rattle.lcm_model.specs.Attempts.{done_count, is_open, net, open_attempts}
use Rattle.lcm_model.specs.Moves.{state}
use Rattle.lcm_model.specs.Operations.{changes}
use Rattle.lcm_model.specs.Work.{net_before, works_in}

-- the net of a change is 0 or 1: it was never undone more often than made, and made at most once more than undone (own
-- rule)
pub record IsMadeAtMostOnce (H : List Event) (o c : ℕ) : Type 0 where
  pub net : net H o c ≤ 1
  pub undone : done_count Undo H o c ≤ done_count Forward H o c

-- in a legal history each net is 0 or 1 (own rule)
abbrev pub NetsAreZeroOrOne : Type 0
NetsAreZeroOrOne = (width m : ℕ) (H : List Event) → IsLegalWithin width m H → (o c : ℕ) → IsMadeAtMostOnce H o c

-- in a legal history a change has at most one open attempt (own rule)
abbrev pub OneAttemptIsOpen : Type 0
OneAttemptIsOpen = (width m : ℕ) (H : List Event) → IsLegalWithin width m H → (o c : ℕ)
    → length (open_attempts H o c) ≤ 1

-- in a legal history a change with an open attempt forward has net 0, and one with an open undo net 1 (own rule)
abbrev pub OpenAttemptsFitNets : Type 0
OpenAttemptsFitNets = (width m : ℕ) (H : List Event) → IsLegalWithin width m H → (t : Tag) → is_open H t ≡ true
    → net H t.occ t.change ≡ net_before t.way

-- in a legal history an attempt forward is open only in PROCESSING, and an undo only in ROLLING_BACK (SOL 003 5.6.2)
abbrev pub OpenAttemptsFitStates : Type 0
OpenAttemptsFitStates = (width m : ℕ) (H : List Event) → IsLegalWithin width m H → (t : Tag) → is_open H t ≡ true
    → state H t.occ ≡ works_in t.way

-- each change of the occurrence has this net (own rule)
abbrev pub EachNetIs : List Event → ℕ → ℕ → Type 0
EachNetIs H o n = (c : ℕ) → c < length (changes H o) → net H o c ≡ n

-- in a legal history every change of an occurrence that is COMPLETED is made (own rule)
abbrev pub CompletedIsMade : Type 0
CompletedIsMade = (width m : ℕ) (H : List Event) → IsLegalWithin width m H → (o : ℕ) → state H o ≡ Completed
    → EachNetIs H o 1

-- in a legal history no change of an occurrence that is ROLLED_BACK is made (own rule)
abbrev pub RolledBackIsUndone : Type 0
RolledBackIsUndone = (width m : ℕ) (H : List Event) → IsLegalWithin width m H → (o : ℕ) → state H o ≡ RolledBack
    → EachNetIs H o 0
