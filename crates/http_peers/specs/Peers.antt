-- What peers that are reached over HTTP answer and count.
use Rattle.std.specs.Prelude.{◌⊎◌, ℕ, Bool, List, []}
use Rattle.site_traits.specs.Answer.{Answer}
use Rattle.site_traits.specs.Counts.{CallCounts}
use Rattle.site_traits.specs.Peers.{OrchestratorState}
use Rattle.peer_exchange.specs.declared.replies.Judged.{Judged}
use Rattle.peer_exchange.specs.declared.replies.Judged.TheVariants as judged
use Rattle.http_client.specs.Responses.{AreAnswer, whole, cut, bad, big}

-- what it says of the bytes of an answer, where this was heard
abbrev pub JudgedIs : Bool → List ℕ → Answer → Judged → Type 0
JudgedIs ended bytes heard judged.Whole = AreAnswer ended bytes (whole heard)
JudgedIs ended bytes heard judged.Part = AreAnswer ended bytes cut
JudgedIs ended bytes heard judged.Never = AreAnswer ended bytes bad ⊎ AreAnswer ended bytes big
JudgedIs ended bytes heard judged.Unknown = Unit {0}

-- all bytes that came on a connection are this answer, whole
pub record IsWholeAnswer (bytes : List ℕ) (heard : Answer) : Type 0 where
  pub ended : Bool
  pub are : AreAnswer ended bytes (whole heard)

-- the counts of an object that was called so often, of which so many calls failed
abbrev pub counted : ℕ → ℕ → CallCounts
counted calls faults = record { calls = calls; faults = faults }

-- an orchestrator that tells nothing
abbrev pub silent : OrchestratorState
silent = record { answers = []; asked = []; polled = [] }
