-- What the body of a request for a task of an instance says.
use Rattle.std.proofs.Common.{◌≡◌, Result, Ok, Err, ap, sym, ◌∙◌}
use Rattle.std.specs.Prelude.{IsOkAnd, MatchResult}
use Rattle.json_bodies.specs.Body.{Gives, and_then}
use Rattle.json_bodies.specs.declared.body.BodyFault.{BodyFault}
use Rattle.json_bodies.specs.declared.body.BodyFault.TheVariants.{Lacks, Malformed, Memory, Wrong}

-- a body that was read, as one of a task
abbrev pub as_task : {A B : Type 0} → (A → B) → Result A BodyFault → Result B BodyFault
as_task make read = and_then read (λ body. Ok (make body))

-- what is made of a body that was read is what is made of the expected one
pub made_task : {A B : Type 0} (make : A → B) (read expected : Result A BodyFault) (made : Result B BodyFault) → Gives read expected
    → MatchResult read (λ body. IsOkAnd made (λ task. task ≡ make body)) (λ fault. made ≡ Err fault) → Gives made (as_task make expected)
made_task make (Ok body) expected made is from = by made from where
  by : (made : Result _ BodyFault) → IsOkAnd made (λ task. task ≡ make body) → Gives made (as_task make expected)
  by (Ok task) same = ap (as_task make) is ∙ sym (ap (λ t. Ok t) same)
  by (Err fault) none = absurd none
made_task make (Err Malformed) expected made is from = rw from (ap (as_task make) is)
made_task make (Err (Lacks name)) expected made is from = rw from (ap (as_task make) is)
made_task make (Err (Wrong name)) expected made is from = rw from (ap (as_task make) is)
made_task make (Err Memory) expected made is from = rw from tt
