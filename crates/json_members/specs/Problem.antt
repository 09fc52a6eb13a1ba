-- The body of a refusal (SOL 013 ProblemDetails; RFC 9457 3).
use Rattle.std.specs.Prelude.{ℕ, List, codes}
use Rattle.serde_json.specs.Data.{Data, number, string, object, no_members, member, unsigned}
use Rattle.serde_json.specs.Written.{compact_text}

-- what happened, and the status
abbrev pub problem : ℕ → List ℕ → Data
problem status detail = object (member (codes "detail") (string detail)
    (member (codes "status") (number (unsigned status)) no_members))

-- its text
abbrev pub problem_text : ℕ → List ℕ → List ℕ
problem_text status detail = compact_text (problem status detail)
