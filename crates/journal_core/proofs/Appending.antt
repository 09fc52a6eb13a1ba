-- The two writes of an append, each with its sync: what a stop since the start of the append leaves.
use Rattle.std.proofs.Common.{◌≡◌, ◌∙◌, sym, ap, subst, inl, inr, ⊎_elim, ℕ, ◌+◌, ◌≤◌, List, [], ◌∷◌, ◌++◌, length, All, Result, arith}
use Rattle.std.proofs.lemmas.List.{length_push}
use Rattle.std.specs.Result.{IsErr}
use Rattle.std.proofs.lemmas.Result.{IfOk-from_err}
use Rattle.site_traits.specs.Site.{Pair, SiteState, LeavesOnly, IsSettled, Torn, Holds, FileStep, WritesThrough}
use Rattle.site_traits.specs.Moments.{started, goes_on}
use Rattle.journal_records.specs.File.{batches, records, piece, gate_place, size, IsRecord, HasBatches, HasRecords}
use Rattle.journal_records.specs.Reading.{Reading, standing_at}
use Rattle.journal_core.specs.declared.marks.Mark.{Mark}
use Rattle.journal_core.specs.Marks.{IsMark, Kept, one_more}
use Rattle.journal_core.specs.Journal.{Ledger, Stands, HasOrAdds, Appends, IsReadUpTo}
use Rattle.journal_core.proofs.MarkLemmas.{mark_end, marks_more, all_of_more}
use Rattle.journal_core.proofs.Records.{IsReady, first_torn, first_written, second_torn, second_written, records_of, batches_of, has_its_records}
use Rattle.journal_core.proofs.Records.{its_batches, records_are, more_records, size_push, gate_push, one_length}
use Rattle.journal_core.proofs.ReadingLemmas.{stands_first}

-- a file of the same batches has the same records
has_same : (m : ℕ) (i j : List ℕ) → HasBatches m (batches i) j → HasRecords m (records i) j
has_same m i j has = record { batches = batches i; file = has; are = sym (records_are i) }

-- the batches of a journal's file
pub file_batches : (j : Ledger) (a : SiteState) → Stands a j → HasBatches j.manager (batches a.image) a.image
file_batches j a stands = its_batches j.manager (records a.image) a.image stands.file

-- a stop at the start of an append leaves the records
at_start : (bytes : List ℕ) (j : Ledger) (a : SiteState) → Stands a j → LeavesOnly (HasOrAdds j.manager bytes a) a a
at_start bytes j a stands =
    let P : List ℕ → Type 0 = λ v. HasRecords j.manager (records a.image) v in
    started (HasOrAdds j.manager bytes a) a (λ p left. record { file = inl (subst P (sym (stands.settled.image p left)) stands.file) })

-- a stop up to the end of the first write and its sync leaves the records
pub first_moments : {T E : Type 0} (bytes written : List ℕ) (at : ℕ) (r : Result T E) (j : Ledger) (a b : SiteState) → Stands a j
    → at ≡ j.end + 1 → WritesThrough at written r a b
    → LeavesOnly (HasOrAdds j.manager bytes a) a b
first_moments bytes written at r j a b stands place call =
    let bs = batches a.image in
    let at_end : at ≡ gate_place bs + 1 = (let e = stands.end in omega arith) in
    let Q : ℕ → Pair → Pair → Type 0 = λ v q p. Torn v (length written) q.image p.image in
    let P : List ℕ → Type 0 = λ v. HasBatches j.manager bs v in
    goes_on (HasOrAdds j.manager bytes a) (FileStep (Torn at (length written))) a a b (at_start bytes j a stands) call.on_file.passes
    (λ q p left step.
    let torn : Torn (gate_place bs + 1) (length written) q.image p.image =
    (let R : ℕ → Type 0 = λ v. Q v q p in subst R at_end step.image) in
    record {
      file = inl (has_same j.manager a.image p.image (first_torn j.manager bs (length written) q.image p.image
          (subst P (sym (stands.settled.image q left)) (file_batches j a stands)) torn));
    })

-- once it succeeded, the file is ready for one record more
pub first_ready : (bytes written : List ℕ) (at : ℕ) (j : Ledger) (a b : SiteState) → Stands a j → at ≡ j.end + 1 → written ≡ piece bytes
    → Holds a.image at written b.image
    → IsReady j.manager (batches a.image) bytes b.image
first_ready bytes written at j a b stands place same holds =
    let bs = batches a.image in
    let at_end : at ≡ gate_place bs + 1 = (let e = stands.end in omega arith) in
    let P : ℕ → Type 0 = λ v. Holds a.image v written b.image in
    let Q : List ℕ → Type 0 = λ v. Holds a.image (gate_place bs + 1) v b.image in
    first_written j.manager bs bytes a.image b.image (file_batches j a stands) (subst Q same (subst P at_end holds))

-- a stop up to the end of the second write and its sync leaves the records, or one more
pub second_moments : {T E : Type 0} (bytes : List ℕ) (at : ℕ) (r : Result T E) (j : Ledger) (a b c : SiteState)
    → LeavesOnly (HasOrAdds j.manager bytes a) a b → Stands a j → IsSettled b
    → IsReady j.manager (batches a.image) bytes b.image → IsRecord bytes → at ≡ j.end → j.end + 10 + length bytes ≤ 268435456
    → WritesThrough at (1 ∷ []) r b c
    → LeavesOnly (HasOrAdds j.manager bytes a) a c
second_moments bytes at r j a b c so_far stands settled ready one place room call =
    let bs = batches a.image in
    let at_end : at ≡ gate_place bs = place ∙ stands.end in
    let fits : gate_place bs + 10 + length bytes ≤ 268435456 = (let e = stands.end in omega arith) in
    goes_on (HasOrAdds j.manager bytes a) (FileStep (Torn at 1)) a b c so_far call.on_file.passes
    (λ q p left step.
    let torn : Torn (gate_place bs) 1 q.image p.image = (let R : ℕ → Type 0 = λ v. Torn v 1 q.image p.image in subst R at_end step.image) in
    let P : List ℕ → Type 0 = λ v. IsReady j.manager bs bytes v in
    record {
      file = ⊎_elim (λ (was : HasBatches j.manager bs p.image). inl (has_same j.manager a.image p.image was))
          (λ (more : HasBatches j.manager (bs ++ (bytes ∷ []) ∷ []) p.image). inr (more_records j.manager bs (records a.image) bytes p.image
          (records_are a.image) more))
          (second_torn j.manager bs bytes q.image p.image (subst P (sym (settled.image q left)) ready) one fits torn);
    })

-- once it succeeded, the file has one record more
pub second_has : (bytes : List ℕ) (at : ℕ) (j : Ledger) (a b c : SiteState) → Stands a j → IsReady j.manager (batches a.image) bytes b.image
    → IsRecord bytes
    → at ≡ j.end → j.end + 10 + length bytes ≤ 268435456 → Holds b.image at (1 ∷ []) c.image
    → HasBatches j.manager (batches a.image ++ (bytes ∷ []) ∷ []) c.image
second_has bytes at j a b c stands ready one place room holds =
    let bs = batches a.image in
    let P : ℕ → Type 0 = λ v. Holds b.image v (1 ∷ []) c.image in
    second_written j.manager bs bytes b.image c.image ready one (let e = stands.end in omega arith) (subst P (place ∙ stands.end) holds)

-- its records are those before and it
pub added_record : (bytes : List ℕ) (j : Ledger) (a c : SiteState) → HasBatches j.manager (batches a.image ++ (bytes ∷ []) ∷ []) c.image
    → records c.image ≡ records a.image ++ bytes ∷ []
added_record bytes j a c has =
    records_of j.manager (records a.image ++ bytes ∷ []) c.image
    (more_records j.manager (batches a.image) (records a.image) bytes c.image (records_are a.image) has)

-- the places that it then keeps
pub marks_kept : (bytes : List ℕ) (j : Ledger) (a : SiteState) (kept : Kept) (m : Mark) → Stands a j → kept.places ≡ j.marks
    → m.before ≡ j.count → m.place ≡ j.end
    → All (IsMark (batches a.image ++ (bytes ∷ []) ∷ [])) (one_more kept m).places
marks_kept bytes j a kept m stands is before place =
    let bs = batches a.image in
    let P : List Mark → Type 0 = λ v. All (IsMark bs) v in
    all_of_more (IsMark (bs ++ (bytes ∷ []) ∷ [])) kept m (marks_more bs (bytes ∷ []) kept.places (subst P (sym is) stands.marks))
    (mark_end bs (bytes ∷ []) m (before ∙ stands.count ∙ ap length (records_are a.image)) (place ∙ stands.end))

-- the journal with one record more, where nothing is pending
pub stands_more : (bytes : List ℕ) (j k : Ledger) (a c : SiteState) → Stands a j → IsSettled c
    → HasBatches j.manager (batches a.image ++ (bytes ∷ []) ∷ []) c.image
    → k.manager ≡ j.manager → k.count ≡ j.count + 1 → k.end ≡ j.end + 9 + length bytes → k.saved ≡ j.saved
    → All (IsMark (batches a.image ++ (bytes ∷ []) ∷ [])) k.marks → k.behind ≡ 0 → k.reading ≡ standing_at 32 → Stands c k
stands_more bytes j k a c stands settled has manager count end saved marks behind reading =
    let bs = batches a.image in
    let more = bs ++ (bytes ∷ []) ∷ [] in
    let is : records c.image ≡ records a.image ++ bytes ∷ [] = added_record bytes j a c has in
    let same : batches c.image ≡ more = batches_of j.manager more c.image has in
    let P : ℕ → Type 0 = λ v. HasRecords v (records c.image) c.image in
    let M : List (List (List ℕ)) → Type 0 = λ v. All (IsMark v) k.marks in
    let gate : k.end ≡ gate_place more =
    (let e = stands.end in let g = gate_push bs (bytes ∷ []) in let l = one_length bytes in omega arith) in
    let R : ℕ → Reading → Type 0 = λ n r. IsReadUpTo (batches c.image) n r k.end c.image in
    let first : R 0 (standing_at 32) = (let S : List (List (List ℕ)) → Type 0 = λ v. IsReadUpTo v 0 (standing_at 32) k.end c.image in
    subst S (sym same) (stands_first j.manager more k.end c.image has gate)) in
    record {
      settled = settled;
      file = subst P (sym manager) (has_its_records j.manager (records a.image ++ bytes ∷ []) c.image
          (more_records j.manager bs (records a.image) bytes c.image (records_are a.image) has));
      count = (let n = stands.count in let e = ap length is in let l = length_push (records a.image) bytes in omega arith);
      end = gate ∙ ap gate_place (sym same);
      saved = (let s = stands.saved in let e = ap size is in let l = size_push (records a.image) bytes in omega arith);
      marks = subst M (sym same) marks;
      reading = (let N : ℕ → Type 0 = λ v. R v (standing_at 32) in let T : Reading → Type 0 = λ v. R k.behind v in
          subst T (sym reading) (subst N (sym behind) first));
    }

-- what an append says where it failed
pub appends_not : {T E : Type 0} (bytes : List ℕ) (r : Result T E) (j k : Ledger) (a b : SiteState) → IsErr r
    → LeavesOnly (HasOrAdds j.manager bytes a) a b → Appends bytes r j k a b
appends_not bytes r j k a b err moments = record {
  any_moment = moments;
  stands = IfOk-from_err r (λ _. Stands b k) err;
  added =
      IfOk-from_err r (λ _. records b.image ≡ records a.image ++ bytes ∷ []) err;
}
