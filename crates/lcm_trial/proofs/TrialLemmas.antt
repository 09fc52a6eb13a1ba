-- The steps of a trial, one after the other.
use Rattle.std.proofs.Common.{◌≡◌, ◌∙◌, ◌+◌, ◌-◌, ◌<◌, ◌≤◌, ℕ, Bool, Err, Ok, Result, true, false, add-one, ap, arith, refl, subst, suc, sym}
use Rattle.std.proofs.Common.{zero}
use Rattle.std.specs.Prelude.{◌||◌}
use Rattle.std.specs.Result.{IsErrAnd}
use Rattle.lcm_trial.specs.Playing.{IsAt, TellsRoom}
use Rattle.lcm_trial.specs.Stages.{Stage, first_stage, stage_after, stepped}
use Rattle.lcm_trial.specs.Trial.{is_full_at, passes_room, tried_at, tried_of}
use Rattle.lcm_trial.specs.declared.counts.Tried.{Tried}
use Rattle.lcm_trial.specs.declared.counts.TrialFault.{TrialFault}
use Rattle.lcm_trial.specs.declared.counts.TrialFault.TheVariants as fault
use Rattle.lcm_trial.specs.declared.trial.Trial.{Trial}

neither : (a b : Bool) → a ≡ false → b ≡ false → (a || b) ≡ false
neither a b none is = ap (λ (x : Bool). x || b) none ∙ is

either_first : (a b : Bool) → a ≡ true → (a || b) ≡ true
either_first a b is = ap (λ (x : Bool). x || b) is

either_second : (a b : Bool) → b ≡ true → (a || b) ≡ true
either_second true b is = refl
either_second false b is = is

-- before the first step
pub stage_first : (start : ℕ) → stage_after start 0 ≡ first_stage start
unfolding stage_after
stage_first start = refl

pub room_first : (start : ℕ) (answer : Bool) → is_full_at (stage_after start 0) ≡ answer → passes_room start 0 ≡ answer
unfolding passes_room
room_first start answer is = is

-- one step more
next_stage : (start k : ℕ) → stage_after start (suc k) ≡ stepped (stage_after start k)
unfolding stage_after
next_stage start k = refl

pub stage_next : (start k : ℕ) → stage_after start (k + 1) ≡ stepped (stage_after start k)
stage_next start k = ap (λ (n : ℕ). stage_after start n) (add-one k) ∙ next_stage start k

next_room : (start k : ℕ) → passes_room start (suc k) ≡ (passes_room start k || is_full_at (stage_after start (suc k)))
unfolding passes_room
next_room start k = refl

room_next : (start k : ℕ) → passes_room start (k + 1) ≡ (passes_room start k || is_full_at (stage_after start (k + 1)))
room_next start k =
    let P : ℕ → Type 0 = λ n. passes_room start n ≡ (passes_room start k || is_full_at (stage_after start n)) in
    subst P (sym (add-one k)) (next_room start k)

-- the room isn't passed by a step more where it wasn't before, and the journal isn't full now
pub room_left : (start k : ℕ) → passes_room start k ≡ false → is_full_at (stage_after start (k + 1)) ≡ false
    → passes_room start (k + 1) ≡ false
room_left start k before now =
    room_next start k ∙ neither (passes_room start k) (is_full_at (stage_after start (k + 1))) before now

pub room_passed : (start k : ℕ) → is_full_at (stage_after start (k + 1)) ≡ true → passes_room start (k + 1) ≡ true
room_passed start k now = room_next start k ∙ either_second (passes_room start k) (is_full_at (stage_after start (k + 1))) now

-- once it is passed it stays so
later : (start k more : ℕ) → passes_room start k ≡ true → passes_room start (k + more) ≡ true
later start k zero is = let P : ℕ → Type 0 = λ n. passes_room start n ≡ true in let same : k ≡ k + 0 = omega arith in subst P same is
later start k (suc more) is =
    let P : ℕ → Type 0 = λ n. passes_room start n ≡ true in
    let on = later start k more is in
    let same : (k + more) + 1 ≡ k + suc more = omega arith in
    subst P same (room_next start (k + more) ∙ either_first (passes_room start (k + more)) (is_full_at (stage_after start ((k + more) + 1))) on)

pub passed_for_good : (start k count : ℕ) → k ≤ count → passes_room start k ≡ true → passes_room start count ≡ true
passed_for_good start k count within is =
    let P : ℕ → Type 0 = λ n. passes_room start n ≡ true in
    let same : k + (count - k) ≡ count = omega (arith, within) in
    subst P same (later start k (count - k) is)

-- an answer that is this fault
fault_is : (r : Result Tried TrialFault) (why : TrialFault) → IsErrAnd r (λ e. e ≡ why) → r ≡ Err fault.Room → why ≡ fault.Room
fault_is (Ok t) why is room = absurd is
fault_is (Err e) why is room = let same : e ≡ fault.Room = cc in sym is ∙ same

told_full : (why : TrialFault) (s : Stage) → why ≡ fault.Room → TellsRoom (Err why) s → is_full_at s ≡ true
told_full why s is tells = let P : TrialFault → Type 0 = λ w. TellsRoom (Err w) s in subst P is tells

-- the room was passed before the first step
pub passed_first : (start count : ℕ) (r : Result Tried TrialFault) (why : TrialFault) → IsErrAnd r (λ e. e ≡ why)
    → TellsRoom (Err why) (first_stage start) → r ≡ Err fault.Room → passes_room start count ≡ true
passed_first start count r why is tells room =
    passed_for_good start 0 count (omega arith)
    (room_first start true (ap is_full_at (stage_first start) ∙ told_full why (first_stage start) (fault_is r why is room) tells))

-- or by a step
pub passed_then : (start k count : ℕ) (r : Result Tried TrialFault) (why : TrialFault) → k < count → IsErrAnd r (λ e. e ≡ why)
    → TellsRoom (Err why) (stepped (stage_after start k)) → r ≡ Err fault.Room → passes_room start count ≡ true
passed_then start k count r why less is tells room =
    passed_for_good start (k + 1) count (omega (arith, less))
    (room_passed start k (ap is_full_at (stage_next start k)
    ∙ told_full why (stepped (stage_after start k)) (fault_is r why is room) tells))

-- a trial of so many steps, in which no journal was full
pub record IsPlayed (start k : ℕ) (t : Trial) : Type 0 where
  pub at : IsAt (stage_after start k) t
  pub room : passes_room start k ≡ false

pub played_first : (start : ℕ) (t : Trial) → IsAt (first_stage start) t → is_full_at (first_stage start) ≡ false → IsPlayed start 0 t
played_first start t at room =
    let P : Stage → Type 0 = λ s. IsAt s t in
    record {
      at = subst P (sym (stage_first start)) at;
      room = room_first start false (ap is_full_at (stage_first start) ∙ room);
    }

pub played_on : (start k : ℕ) (t u : Trial) → passes_room start k ≡ false → IsAt (stepped (stage_after start k)) t
    → is_full_at (stepped (stage_after start k)) ≡ false → u ≡ t → IsPlayed start (k + 1) u
played_on start k t u before at room same =
    let P : Stage → Type 0 = λ s. IsAt s t in
    let Q : Trial → Type 0 = λ v. IsAt (stage_after start (k + 1)) v in
    record {
      at = subst Q (sym same) (subst P (sym (stage_next start k)) at);
      room = room_left start k before (ap is_full_at (stage_next start k) ∙ room);
    }

-- what a trial came to behind its last step
pub whole : (start k count : ℕ) (t : Tried) → k ≤ count → count ≤ k → t ≡ tried_at (stage_after start k) → passes_room start k ≡ false
    → (t ≡ tried_of start count) × (passes_room start count ≡ false)
unfolding tried_of
whole start k count t few many is room =
    let same : k ≡ count = omega (arith, few, many) in
    let P : ℕ → Type 0 = λ n. (t ≡ tried_at (stage_after start n)) × (passes_room start n ≡ false) in
    subst P same (is, room)
