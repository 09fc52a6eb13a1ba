-- The plans of a door, one after the other made ready from the last on.
use Rattle.std.proofs.Common.{◌≡◌, ◌≤◌, ◌<◌, ◌⊎◌, ◌∙◌, ap, sym, subst, inl, inr, ℕ, ◌+◌, ◌-◌, List, [], ◌∷◌, ◌++◌, length, take, get_or}
use Rattle.std.proofs.Common.{refl, arith, Bool, not, Option, Some}
use Rattle.std.proofs.lemmas.List.{take_at, take-take, get_or-take, get_or_push, get_or_append_left, length_push}
use Rattle.std.proofs.lemmas.Bool.{cases_lt}
use Rattle.std.proofs.lemmas.Option.{slice_get_read}
use Rattle.site_traits.specs.declared.mem_door.DoorPlan.{DoorPlan}
use Rattle.site_traits.specs.declared.mem_door.Planned.{Planned}
use Rattle.site_traits.specs.Counts.{one_more}
use Rattle.site_traits.specs.Door.{DoorCounts, ReadCause, WriteCause, call_failed}
use Rattle.site_traits.specs.declared.door.ReadAnswer.TheVariants as read
use Rattle.site_traits.specs.declared.door.WriteAnswer.TheVariants as write
use Rattle.site_traits.specs.declared.door.NextAnswer.{NextAnswer}
use Rattle.site_traits.specs.declared.mem_door.MemDoor.{MemDoor}
use Rattle.site_traits.specs.DoorPlans.{IsReady, Does, next_of, rest_of, calls_after}
use Rattle.site_traits.specs.MemDoor.{RunsNext}

-- the plans that are left, once the last of them is taken
pub left-less : (all left rest : List DoorPlan) (plan : DoorPlan) → left ≡ rest ++ plan ∷ [] → left ≡ take (length left) all
    → rest ≡ take (length rest) all
left-less all left rest plan split is =
    let long : length left ≡ length rest + 1 = ap length split ∙ length_push rest plan in
    sym (take_at rest (plan ∷ []) (length rest) refl) ∙ ap (take (length rest)) (sym split) ∙ ap (take (length rest)) is
    ∙ take-take (length rest) (length left) all (omega (arith, long))

-- the plan that is taken is the last of those that are left
pub taken-is : (all left rest : List DoorPlan) (plan p : DoorPlan) → left ≡ rest ++ plan ∷ [] → left ≡ take (length left) all
    → get_or all (length rest) p ≡ plan
taken-is all left rest plan p split is =
    let long : length left ≡ length rest + 1 = ap length split ∙ length_push rest plan in
    sym (get_or-take (length left) all (length rest) p (omega (arith, long)))
    ∙ ap (λ (v : List DoorPlan). get_or v (length rest) p) (sym is ∙ split)
    ∙ get_or_push rest plan p (length rest) refl

-- one plan more is ready
pub ready-more : (room : ℕ) (all left rest : List DoorPlan) (plan : DoorPlan) (ready new : List Planned) (one : Planned)
    → left ≡ rest ++ plan ∷ [] → left ≡ take (length left) all → length ready + length left ≡ length all → new ≡ ready ++ one ∷ []
    → IsReady room plan one
    → ((k : ℕ) (p : DoorPlan) (r : Planned) → length left ≤ k → k < length all
    → IsReady room (get_or all k p) (get_or ready (length all - 1 - k) r))
    → (k : ℕ) (p : DoorPlan) (r : Planned) → length rest ≤ k → k < length all
    → IsReady room (get_or all k p) (get_or new (length all - 1 - k) r)
ready-more room all left rest plan ready new one split is count new_is meets each k p r le lt = of (cases_lt k (length left)) where
  long : length left ≡ length rest + 1
  long = ap length split ∙ length_push rest plan

  of : (k < length left) ⊎ (length left ≤ k) → IsReady room (get_or all k p) (get_or new (length all - 1 - k) r)
  of (inr from) =
      let e : get_or ready (length all - 1 - k) r ≡ get_or new (length all - 1 - k) r =
      sym (ap (λ (v : List Planned). get_or v (length all - 1 - k) r) new_is
      ∙ get_or_append_left ready (one ∷ []) r (length all - 1 - k) (omega (arith, count))) in
      let P : Planned → Type 0 = λ v. IsReady room (get_or all k p) v in subst P e (each k p r from lt)
  of (inl before) =
      let at : k ≡ length rest = omega (arith, long) in
      let is_plan : plan ≡ get_or all k p = sym (ap (λ i. get_or all i p) at ∙ taken-is all left rest plan p split is) in
      let is_one : one ≡ get_or new (length all - 1 - k) r =
      sym (ap (λ (v : List Planned). get_or v (length all - 1 - k) r) new_is
      ∙ get_or_push ready one r (length all - 1 - k) (omega (arith, count, at, long))) in
      let P : DoorPlan → Type 0 = λ v. IsReady room v (get_or new (length all - 1 - k) r) in
      let Q : Planned → Type 0 = λ v. IsReady room plan v in
      subst P is_plan (subst Q is_one meets)

-- a read that failed once
pub read_cause : (a b : DoorCounts) → a.faults ≤ b.faults → b ≡ call_failed a → ReadCause read.Failed a b
read_cause a b le is = record {
  counts = record { faults = le; next = ap (λ (v : DoorCounts). v.next) is; up = ap (λ (v : DoorCounts). v.up) is };
  done = λ ne. absurd (ne refl);
  failed = λ _. is;
}

-- a write that failed once
pub write_cause : (a b : DoorCounts) → a.faults ≤ b.faults → b ≡ call_failed a → WriteCause write.Failed a b
write_cause a b le is = record {
  counts = record { faults = le; next = ap (λ (v : DoorCounts). v.next) is; up = ap (λ (v : DoorCounts). v.up) is };
  done = λ ne. absurd (ne refl);
  failed = λ _. is;
}

-- the counts with one fault more, where the connection is hung up as it was
pub failed_counts : (faults more next : ℕ) (was is : Bool) → more ≡ one_more faults → is ≡ was
    → ◌≡◌ {A = DoorCounts} (record { faults = more; next = next; up = not is })
    (call_failed (record { faults = faults; next = next; up = not was }))
failed_counts faults more next was is rose same =
    let P : ℕ → Type 0 = λ v. ◌≡◌ {A = DoorCounts} (record { faults = v; next = next; up = not is })
    (call_failed (record { faults = faults; next = next; up = not was })) in
    subst P (sym rose) (ap (λ (v : Bool). record { faults = one_more faults; next = next; up = not v }) same)

-- what was taken from the end comes next, and the others are left
next_popped : (all rest : List Planned) (p : Planned) → all ≡ rest ++ p ∷ [] → (next_of all ≡ Some p) × (rest ≡ rest_of all)
next_popped all rest p split =
    let long : length all ≡ length rest + 1 = ap length split ∙ length_push rest p in
    let last : length all - 1 ≡ length rest = omega (arith, long) in (
      slice_get_read all (length all) (length all - 1) p refl (omega (arith, long))
          (sym (ap (λ (v : List Planned). get_or v (length all - 1) p) split ∙ get_or_push rest p p (length all - 1) (sym last))),
      sym (ap (take (length all - 1)) split ∙ take_at rest (p ∷ []) (length all - 1) (sym last)),
    )

-- `next` does what comes next where the calls aren't spent
pub runs_next : (answer : NextAnswer) (old new : MemDoor) (p : Planned) → ¬ (1048576 ≤ old.calls)
    → old.plans.items ≡ new.plans.items ++ p ∷ [] → Does (Some p) answer new.conn
    → new.calls ≡ calls_after old.calls → RunsNext answer old new
runs_next answer old new p more split does calls =
    let popped = next_popped old.plans.items new.plans.items p split in
    record {
      spent = λ spent. absurd (more spent);
      does = λ _. (subst (λ (v : Option Planned). Does v answer new.conn) (sym popped.0) does, popped.1);
      calls = calls;
    }
