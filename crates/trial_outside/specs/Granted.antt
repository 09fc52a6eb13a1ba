-- What the orchestrator of a trial answers (own rules). What an orchestrator tells has the oldest first.
use Rattle.std.specs.Prelude.{◌≡◌, ℕ, ◌++◌, List, [], ◌∷◌, length, reverse, Option, Some}
use Rattle.std.specs.Coded.{Coded, Coded-set, code_by, coded_list, coded_option, coded_ℕ, coded×, ×_prop, Unit-prop}
use mathlib.Core.HLevel.{⊥_prop}
use Rattle.std.proofs.Common.{◌∙◌, ap, arith, refl, subst, suc, sym}
use Rattle.std.proofs.lemmas.List.{length-reverse, reverse-append}
use Rattle.site_traits.specs.Answer.{Answer}
use Rattle.site_traits.specs.Peers.{OrchestratorState}
use Rattle.grant_desk.specs.GrantAll.{answer_to}

-- each of these bodies, the latest first, got the answer that is given to it behind so many
abbrev pub AreGiven : List (List ℕ) → List Answer → Type 0
AreGiven [] [] = Unit {0}
AreGiven (body ∷ asked) (answer ∷ answers) = (answer_to (length asked) body ≡ Some answer) × AreGiven asked answers
AreGiven asked answers = ⊥

-- each of these bodies, the oldest first, got the answer that is given to it behind so many
abbrev pub AreGranted : List (List ℕ) → List Answer → Type 0
AreGranted asked answers = AreGiven (reverse asked) (reverse answers)

-- each body that the orchestrator was asked got the answer that is given to it
abbrev pub GrantsAll : OrchestratorState → Type 0
GrantsAll o = AreGranted o.asked o.answers

-- what was asked and answered last
pub granted_last : (asked : List (List ℕ)) (body : List ℕ) (answers : List Answer) (answer : Answer)
    → AreGranted (asked ++ body ∷ []) (answers ++ answer ∷ [])
    → (answer_to (length asked) body ≡ Some answer) × AreGranted asked answers
granted_last asked body answers answer are =
    let A : List (List ℕ) → Type 0 = λ v. AreGiven v (reverse (answers ++ answer ∷ [])) in
    let B : List Answer → Type 0 = λ v. AreGiven (body ∷ reverse asked) v in
    let turned : AreGiven (body ∷ reverse asked) (answer ∷ reverse answers) =
    subst B (reverse-append answers (answer ∷ [])) (subst A (reverse-append asked (body ∷ [])) are) in
    (ap (λ n. answer_to n body) (sym (length-reverse asked)) ∙ turned.0, turned.1)

-- one request more, and its answer
pub granted_more : (asked : List (List ℕ)) (body : List ℕ) (answers : List Answer) (answer : Answer)
    → answer_to (length asked) body ≡ Some answer → AreGranted asked answers
    → AreGranted (asked ++ body ∷ []) (answers ++ answer ∷ [])
granted_more asked body answers answer given are =
    let A : List (List ℕ) → Type 0 = λ v. AreGiven v (reverse (answers ++ answer ∷ [])) in
    let B : List Answer → Type 0 = λ v. AreGiven (body ∷ reverse asked) v in
    subst A (sym (reverse-append asked (body ∷ [])))
    (subst B (sym (reverse-append answers (answer ∷ [])))
    (ap (λ n. answer_to n body) (length-reverse asked) ∙ given, are))

-- what is so of all is so of the earlier ones
given_before : (later asked : List (List ℕ)) (more answers : List Answer) → length later ≡ length more
    → AreGiven (later ++ asked) (more ++ answers) → AreGiven asked answers
given_before [] asked [] answers as_many are = are
given_before [] asked (answer ∷ more) answers as_many are = absurd (omega (arith, as_many))
given_before (body ∷ later) asked [] answers as_many are = absurd (omega (arith, as_many))
given_before (body ∷ later) asked (answer ∷ more) answers as_many are =
    given_before later asked more answers (omega (arith, as_many)) are.1

pub granted_before : (asked later : List (List ℕ)) (answers more : List Answer) → length later ≡ length more
    → AreGranted (asked ++ later) (answers ++ more) → AreGranted asked answers
granted_before asked later answers more as_many are =
    let A : List (List ℕ) → Type 0 = λ v. AreGiven v (reverse (answers ++ more)) in
    let B : List Answer → Type 0 = λ v. AreGiven (reverse later ++ reverse asked) v in
    given_before (reverse later) (reverse asked) (reverse more) (reverse answers)
    (length-reverse later ∙ as_many ∙ sym (length-reverse more))
    (subst B (reverse-append answers more) (subst A (reverse-append asked later) are))

-- as many were answered as were asked
given_length : (asked : List (List ℕ)) (answers : List Answer) → AreGiven asked answers → length asked ≡ length answers
given_length [] [] are = refl
given_length [] (answer ∷ answers) are = absurd are
given_length (body ∷ asked) [] are = absurd are
given_length (body ∷ asked) (answer ∷ answers) are = ap suc (given_length asked answers are.1)

pub granted_length : (asked : List (List ℕ)) (answers : List Answer) → AreGranted asked answers
    → length asked ≡ length answers
granted_length asked answers are =
    sym (length-reverse asked) ∙ given_length (reverse asked) (reverse answers) are ∙ length-reverse answers

-- each of these has one proof at most
answer_code : Coded Answer
answer_code = code_by (ℕ × (Option (List ℕ) × List ℕ))
    (coded× coded_ℕ (coded× (coded_option (coded_list coded_ℕ)) (coded_list coded_ℕ)))
    (λ a. (a.status, (a.location, a.body)))
    (λ p. record { status = p.0; location = p.1.0; body = p.1.1 })
    (λ _. refl)

AreGiven-prop : (asked : List (List ℕ)) (answers : List Answer) → IsProp (AreGiven asked answers)
AreGiven-prop [] [] = Unit-prop
AreGiven-prop [] (answer ∷ answers) = ⊥_prop
AreGiven-prop (body ∷ asked) [] = ⊥_prop
AreGiven-prop (body ∷ asked) (answer ∷ answers) =
    ×_prop (Coded-set (coded_option answer_code) (answer_to (length asked) body) (Some answer))
    (AreGiven-prop asked answers)

pub GrantsAll-prop : (o : OrchestratorState) → IsProp (GrantsAll o)
GrantsAll-prop o = AreGiven-prop (reverse o.asked) (reverse o.answers)
