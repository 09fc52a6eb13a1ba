-- Which ending a status is.
use Rattle.std.proofs.Common.{◌≡◌, ◌≢◌, ◌≤◌, ℕ, Bool, true, false, refl, sym, subst, ◌∙◌, arith, inl, inr, ⊎_elim, ◌⊎◌, Ok, Err, eq-eqb}
use Rattle.std.specs.Prelude.{◌==◌, if◌then◌else◌}
use Rattle.std.proofs.lemmas.Bool.{ne_eqb}
use Rattle.vnfm_commands.specs.Ending.{Ending, failure_status, status_of, told_status, IsStatus}
use Rattle.vnfm_commands.specs.Runs.{IsOrYields}
use Rattle.vnfm_commands.specs.declared.ending.Failure.{Failure}
use Rattle.vnfm_commands.specs.declared.ending.Failure.TheVariants.{Usage, SiteFault, DoorFault, NoJournal, NotAJournal, NoMemory}
use Rattle.vnfm_commands.specs.declared.ending.Failure.TheVariants.{BadRecord, JournalFull, DescriptorRefused, Taken}

-- a status but 7 is the ending's
pub status_told : (put : Bool) (s n : ℕ) → told_status put s ≡ n → n ≢ 7 → s ≡ n
status_told true s n is other = is
status_told false s n is other =
    (elim (s == 0) as (λ b. (if b then 7 else s) ≡ n → s ≡ n) [
      | true ↦ λ seven. absurd (other (sym seven))
      | false ↦ λ same. same
    ])
    is

-- where the ending's status isn't 0, it is told whether the line was put or not
pub told_same : (put : Bool) (s n : ℕ) → s ≡ n → n ≢ 0 → told_status put s ≡ n
told_same true s n is other = is
told_same false s n is other = rw (ne_eqb s 0 (λ none. other (sym is ∙ none))) is

-- the statuses of failures
record IsFailureStatus (s : ℕ) : Type 0 where
  least : 2 ≤ s
  most : s ≤ 11
  other : s ≢ 7

failure_is : (why : Failure) → IsFailureStatus (failure_status why)
failure_is Usage = record { least = omega arith; most = omega arith; other = λ is. omega (arith, is) }
failure_is SiteFault = record { least = omega arith; most = omega arith; other = λ is. omega (arith, is) }
failure_is DoorFault = record { least = omega arith; most = omega arith; other = λ is. omega (arith, is) }
failure_is NoJournal = record { least = omega arith; most = omega arith; other = λ is. omega (arith, is) }
failure_is (NotAJournal place) = record { least = omega arith; most = omega arith; other = λ is. omega (arith, is) }
failure_is NoMemory = record { least = omega arith; most = omega arith; other = λ is. omega (arith, is) }
failure_is (BadRecord n) = record { least = omega arith; most = omega arith; other = λ is. omega (arith, is) }
failure_is (JournalFull end more) = record { least = omega arith; most = omega arith; other = λ is. omega (arith, is) }
failure_is (DescriptorRefused why) = record { least = omega arith; most = omega arith; other = λ is. omega (arith, is) }
failure_is Taken = record { least = omega arith; most = omega arith; other = λ is. omega (arith, is) }

-- the program's status is one of those that there are
pub is_status : (put : Bool) (e : Ending) → IsStatus (told_status put (status_of e))
is_status true (Ok report) = inl refl
is_status false (Ok report) = inr (omega arith, omega arith)
is_status put (Err why) = let is = failure_is why in
    let least = is.least in
    subst IsStatus (sym (told_same put (failure_status why) (failure_status why) refl (λ none. omega (arith, none, least))))
    (inr (is.least, is.most))

-- status 7 is that of a report whose line was lost
pub seven_lost : (put : Bool) (e : Ending) → told_status put (status_of e) ≡ 7 → (put ≡ false) × (status_of e ≡ 0)
seven_lost true (Ok report) is = absurd (omega (arith, is))
seven_lost false (Ok report) is = (refl, refl)
seven_lost put (Err why) is =
    let kept = failure_is why in
    let least = kept.least in
    absurd (kept.other (sym (told_same put (failure_status why) (failure_status why) refl (λ none. omega (arith, none, least))) ∙ is))

-- no failure is told as 0
pub never_done : (put : Bool) (why : Failure) → told_status put (failure_status why) ≡ 0 → ⊥
never_done put why none =
    let least = (failure_is why).least in
    let is = status_told put (failure_status why) 0 none (λ wrong. cc wrong) in
    omega (arith, is, least)

-- where 0 is told the line was put
pub done_put : (put : Bool) → told_status put 0 ≡ 0 → put ≡ true
done_put true is = refl
done_put false is = absurd (omega (arith, is))

-- where this is so
abbrev pub Where : Bool → Type 0 → Type 0
Where true T = T
Where false T = Unit {0}

-- the words are no command, the disk failed, or the door did: each has a status of its own
pub told_by : (e : Ending) → Where (status_of e == 2) (e ≡ Err Usage) × Where (status_of e == 3) (e ≡ Err SiteFault)
    × Where (status_of e == 4) (e ≡ Err DoorFault)
told_by (Ok report) = (tt, tt, tt)
told_by (Err Usage) = (refl, tt, tt)
told_by (Err SiteFault) = (tt, refl, tt)
told_by (Err DoorFault) = (tt, tt, refl)
told_by (Err NoJournal) = (tt, tt, tt)
told_by (Err (NotAJournal place)) = (tt, tt, tt)
told_by (Err NoMemory) = (tt, tt, tt)
told_by (Err (BadRecord n)) = (tt, tt, tt)
told_by (Err (JournalFull end more)) = (tt, tt, tt)
told_by (Err (DescriptorRefused why)) = (tt, tt, tt)
told_by (Err Taken) = (tt, tt, tt)

-- what holds where a status is this one
pub where_told : (n s : ℕ) (T : Type 0) → Where (s == n) T → s ≡ n → T
where_told n s T told is = subst (λ (b : Bool). Where b T) (eq-eqb s n is) told

-- an ending that is told yields as it does
pub told_or_yields : (put : Bool) (s n : ℕ) → n ≢ 0 → IsOrYields n s → IsOrYields n (told_status put s)
told_or_yields put s n other is = ⊎_elim
    (λ (same : s ≡ n). inl (told_same put s n same other))
    (λ (yields : (s ≡ 3) ⊎ (s ≡ 6)). ⊎_elim
    (λ (disk : s ≡ 3). inr (inl (told_same put s 3 disk (omega arith))))
    (λ (memory : s ≡ 6). inr (inr (told_same put s 6 memory (omega arith))))
    yields)
    is

-- the status where the line was put
pub put_told : (put : Bool) (s n : ℕ) → n ≡ told_status put s → (put ≡ false → ⊥) → n ≡ s
put_told false s n is put = absurd (put refl)
put_told true s n is put = is

-- a status of 0 or 7 is that of an ending with 0
pub done_status : (put : Bool) (e : Ending) (result : ℕ) → result ≡ told_status put (status_of e) → (result ≡ 0) ⊎ (result ≡ 7)
    → status_of e ≡ 0
done_status put e result is at = ⊎_elim
    (λ (none : result ≡ 0). status_told put (status_of e) 0 (sym is ∙ none) (omega arith))
    (λ (seven : result ≡ 7). (seven_lost put e (sym is ∙ seven)).1)
    at
