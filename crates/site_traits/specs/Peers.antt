-- What the orchestrator and the courier tell: what they were asked and what they answered.
use Rattle.std.specs.Prelude.{◌≡◌, ℕ, List, [], ◌∷◌, ◌++◌}
use Rattle.site_traits.specs.declared.orchestrator.Call.{Call}
use Rattle.site_traits.specs.declared.orchestrator.Call.TheVariants as call
use Rattle.site_traits.specs.declared.courier.PostAnswer.{PostAnswer}
use Rattle.site_traits.specs.declared.courier.PostAnswer.TheVariants as post
use Rattle.site_traits.specs.Answer.{Answer}
use Rattle.site_traits.specs.Counts.{CallCounts, called, called_in_vain}

-- All that an orchestrator tells: its answers, the bodies that it was asked and the locations that were polled, each
-- the oldest first (SOL 003 9.4).
pub record OrchestratorState : Type 0 where
  pub answers : List Answer
  pub asked : List (List ℕ)
  pub polled : List (List ℕ)

-- a grant request with this body got this answer
pub record Asked (body : List ℕ) (answer : Answer) (a b : OrchestratorState) : Type 0 where
  pub answers : b.answers ≡ a.answers ++ answer ∷ []
  pub asked : b.asked ≡ a.asked ++ body ∷ []
  pub polled : b.polled ≡ a.polled

-- a poll of this location got this answer
pub record Polled (location : List ℕ) (answer : Answer) (a b : OrchestratorState) : Type 0 where
  pub answers : b.answers ≡ a.answers ++ answer ∷ []
  pub asked : b.asked ≡ a.asked
  pub polled : b.polled ≡ a.polled ++ location ∷ []

-- what `ask` does by whether an answer came (own rule)
abbrev pub Asks : List ℕ → Answer → Call → OrchestratorState → OrchestratorState → Type 0
Asks body answer call.Came a b = Asked body answer a b
Asks body answer call.Failed a b = b ≡ a

-- what `poll` does by whether an answer came (own rule)
abbrev pub Polls : List ℕ → Answer → Call → OrchestratorState → OrchestratorState → Type 0
Polls location answer call.Came a b = Polled location answer a b
Polls location answer call.Failed a b = b ≡ a

-- one call more is counted, and one fault more where it failed (own rule)
abbrev pub CallCause : Call → CallCounts → CallCounts → Type 0
CallCause call.Came before now = now ≡ called before
CallCause call.Failed before now = now ≡ called_in_vain before

-- a notification that was posted, and the status that it got (SOL 003 5.4.20)
pub record Post : Type 0 where
  pub uri : List ℕ
  pub body : List ℕ
  pub status : ℕ

-- what `post` does by its answer: one post more with its status, the latest last (own rule)
abbrev pub Posts : List ℕ → List ℕ → PostAnswer → List Post → List Post → Type 0
Posts uri body (post.Status status) a b = b ≡ a ++ (record { uri = uri; body = body; status = status }) ∷ []
Posts uri body post.Failed a b = b ≡ a

-- one post more is counted, and one fault more where it failed (own rule)
abbrev pub PostCause : PostAnswer → CallCounts → CallCounts → Type 0
PostCause (post.Status status) before now = now ≡ called before
PostCause post.Failed before now = now ≡ called_in_vain before
