-- The steps of the making of a journal file: each write with its sync.
use Rattle.std.proofs.Common.{◌≡◌, ◌≢◌, lit<, ◌⊎◌, ◌∙◌, sym, ap, subst, inl, inr, ⊎_elim, ℕ, ◌+◌, ◌≤◌, true, false, List, [], ◌∷◌, ◌++◌}
use Rattle.std.proofs.Common.{length, take, drop, get_or, Result, Ok, Err, OnOk, IsErr, length-take, length-drop, refl, arith}
use Rattle.std.specs.Prelude.{eqb}
use Rattle.std.proofs.lemmas.Result.{on_ok_weaker, IfOk-from_err}
use Rattle.std.proofs.lemmas.Bool.Decides.{eqb_tells}
use Rattle.std.proofs.lemmas.List.{get_or-take, append-nil, nil_from_length}
use Rattle.site_traits.specs.Site.{Pair, SiteState, LeavesOnly, IsSettled, Same, Torn, Cut, Holds, FileStep, OnFile, WritesThrough, Syncs}
use Rattle.site_traits.specs.Moments.{started, goes_on, followed, on_file-reads, keeps_one, keeps_then, weakened}
use Rattle.journal_records.specs.File.{header, HasRecords}
use Rattle.journal_core.specs.Header.{made, first, IsUnfinished}
use Rattle.site_traits.specs.declared.site.DiskFailed.{DiskFailed}
use Rattle.journal_core.specs.declared.create.CreateFault.{CreateFault}
use Rattle.journal_core.specs.declared.create.CreateFault.TheVariants as fault
use Rattle.journal_core.specs.Load.{SyncsAndReads}
use Rattle.journal_core.specs.Create.{Creates, MayBeMade, IsMaking, IsMakingOf, IsBegun, IsEmpty, IsFilled, IsWhole, IsWritten}
use Rattle.journal_core.specs.Create.{MakesFile, StandsSo, Steps}

-- two things that hold where it succeeded
on_ok_both : {T E A B C : Type 0} (r : Result T E) → (A → B → C) → OnOk r A → OnOk r B → OnOk r C
on_ok_both (Ok x) f a b = f a b
on_ok_both (Err e) f a b = tt

-- one write through, where a stop within it leaves only such files and where it succeeded the file is so
step_by : {T E : Type 0} (m : ℕ) (whole : List ℕ) (at : ℕ) (bytes : List ℕ) (so next : List ℕ → Type 0) (r : Result T E)
    (a b : SiteState) → StandsSo so a → WritesThrough at bytes r a b
    → ((i : List ℕ) → so i → IsUnfinished m i) → ((i j : List ℕ) → so i → Torn at (length bytes) i j → IsUnfinished m j ⊎ (j ≡ whole))
    → ((i j : List ℕ) → so i → Holds i at bytes j → next j) → Steps m whole next r a b
step_by m whole at bytes so next r a b stands call unfinished torn written =
    let before : LeavesOnly (IsMakingOf m whole) a a =
    started (IsMakingOf m whole) a
    (λ p left. record { file = inl (unfinished p.image (subst so (sym (stands.settled.image p left)) stands.file)) })
    in
    record {
      any_moment = goes_on (IsMakingOf m whole) (FileStep (Torn at (length bytes))) a a b before call.on_file.passes
          (λ q p left step. record { file = torn q.image p.image (subst so (sym (stands.settled.image q left)) stands.file) step.image });
      stands = on_ok_both r
          (λ (settled : IsSettled b) (holds : Holds a.image at bytes b.image).
          record { settled = settled; file = written a.image b.image stands.file holds })
          call.settled call.holds;
      jobs = keeps_one (Torn at (length bytes)) a b call.on_file;
    }

-- bytes that begin with a header begin with `V`, and are longer than one
whole_is : (m : ℕ) (whole : List ℕ) → take 32 whole ≡ header m → (whole ≡ 86 ∷ drop 1 whole) × (31 ≤ length (drop 1 whole))
unfolding header
whole_is m [] is = absurd (omega (arith, ap length is))
whole_is m (x ∷ xs) is = (
  ap (λ v. v ∷ xs) (ap first is),
  (let t = length-take 31 xs in let n : length (x ∷ take 31 xs) ≡ 32 = ap length is in omega arith),
)

-- bytes that begin with a header have 32 or more
pub header_long : (m : ℕ) (whole : List ℕ) → take 32 whole ≡ header m → 32 ≤ length whole
unfolding header
header_long m whole is = let t = length-take 32 whole in let n : length (take 32 whole) ≡ 32 = ap length is in omega arith

-- behind the first byte stands the rest of the header
header_rest : (whole front : List ℕ) → take 32 whole ≡ front → take 31 (drop 1 whole) ≡ drop 1 front
header_rest [] front is = ap (drop 1) is
header_rest (x ∷ xs) front is = ap (drop 1) is

-- a file with the first byte and all behind it is whole
whole_of : (m : ℕ) (whole j : List ℕ) → take 32 whole ≡ header m → first j ≡ 86 → drop 1 j ≡ drop 1 whole → j ≡ whole
whole_of m whole [] is begins rest = absurd (omega (arith, (whole_is m whole is).1, ap length rest))
whole_of m whole (x ∷ xs) is begins rest = ap (λ v. v ∷ xs) begins ∙ ap (λ v. 86 ∷ v) rest ∙ sym (whole_is m whole is).0

filled_unfinished : (m : ℕ) (whole i : List ℕ) → take 32 whole ≡ header m → IsFilled whole i → IsUnfinished m i
filled_unfinished m whole i is filled = inr (inr (filled.not_made, ap (take 31) filled.rest ∙ header_rest whole (header m) is))

pub begins : {T E : Type 0} (m : ℕ) (whole : List ℕ) (r : Result T E) (a b : SiteState) → StandsSo IsEmpty a
    → WritesThrough 0 (118 ∷ []) r a b → Steps m whole IsBegun r a b
begins m whole r a b stands call =
    step_by m whole 0 (118 ∷ []) IsEmpty IsBegun r a b stands call
    (λ i empty. inl empty.short)
    (λ i j empty torn. inl (inl (let s = empty.short in let l = torn.no_longer in omega arith)))
    (λ i j empty holds. record {
      is = holds ∙ ap (λ v. 118 ∷ v) (nil_from_length (drop 1 i) (let s = empty.short in omega (arith, length-drop 1 i)));
    })

pub fills : {T E : Type 0} (m : ℕ) (whole bytes : List ℕ) (r : Result T E) (a b : SiteState) → take 32 whole ≡ header m
    → bytes ≡ drop 1 whole → StandsSo IsBegun a → WritesThrough 1 bytes r a b → Steps m whole (IsFilled whole) r a b
fills m whole bytes r a b front is stands call =
    step_by m whole 1 bytes IsBegun (IsFilled whole) r a b stands call
    (λ i begun. inr (inl (ap first begun.is)))
    (λ i j begun torn. inl (inr (inl (sym (get_or-take 1 j 0 0 (omega arith)) ∙ ap (λ v. get_or v 0 0) torn.before
    ∙ get_or-take 1 i 0 0 (omega arith) ∙ ap first begun.is))))
    (λ i j begun holds.
    let long = (whole_is m whole front).1 in
    let n : length bytes ≡ length (drop 1 whole) = ap length is in
    let one : List ℕ = 118 ∷ [] in
    let behind = drop (1 + length bytes) one in
    let none : behind ≡ [] = nil_from_length behind (omega (arith, length-drop (1 + length bytes) one)) in
    let j_is : j ≡ 118 ∷ (bytes ++ behind) = holds ∙ ap (λ v. take 1 v ++ bytes ++ drop (1 + length bytes) v) begun.is in
    record {
      not_made = λ e. omega (arith, sym (ap first j_is) ∙ e);
      rest = ap (drop 1) j_is ∙ ap (λ v. bytes ++ v) none ∙ append-nil bytes ∙ is;
    })

pub finishes : {T E : Type 0} (m : ℕ) (whole : List ℕ) (r : Result T E) (a b : SiteState) → take 32 whole ≡ header m
    → StandsSo (IsFilled whole) a → WritesThrough 0 (86 ∷ []) r a b → Steps m whole (IsWhole whole) r a b
finishes m whole r a b front stands call =
    step_by m whole 0 (86 ∷ []) (IsFilled whole) (IsWhole whole) r a b stands call
    (λ i filled. filled_unfinished m whole i front filled)
    (λ i j filled torn.
    let rest : drop 1 j ≡ drop 1 whole = torn.after ∙ filled.rest in
    ⊎_elim
    (λ (is : (eqb (first j) 86 ≡ true) × (first j ≡ 86)). inr (whole_of m whole j front is.1 rest))
    (λ (not : (eqb (first j) 86 ≡ false) × (first j ≢ 86)).
    inl (filled_unfinished m whole j front (record { not_made = not.1; rest = rest })))
    (eqb_tells (first j) 86))
    (λ i j filled holds. record { is = whole_of m whole j front (ap first holds) (ap (drop 1) holds ∙ filled.rest) })

-- two steps, one after the other
pub steps_then : {T E U F : Type 0} (m : ℕ) (whole : List ℕ) (so next : List ℕ → Type 0) (r : Result T E) (s : Result U F)
    (a b c : SiteState) → Steps m whole so r a b → Steps m whole next s b c → Steps m whole next s a c
steps_then m whole so next r s a b c first second = record {
  any_moment = followed (IsMakingOf m whole) (IsMakingOf m whole) a b c first.any_moment second.any_moment (λ p h. h);
  stands = second.stands;
  jobs = keeps_then a b c first.jobs second.jobs;
}

cut_unfinished : (m : ℕ) (i j : List ℕ) → IsUnfinished m i → Cut 1 i j → IsUnfinished m j
cut_unfinished m i j unfinished cut =
    ⊎_elim (λ (same : j ≡ i). let P : List ℕ → Type 0 = IsUnfinished m in subst P (sym same) unfinished)
    (λ (less : j ≡ take 1 i). inl (omega (arith, ap length less, length-take 1 i)))
    cut

-- A cut of an unfinished file to one byte with its sync: a stop within leaves the file as it was, or one byte of it.
cut_by : {T E : Type 0} (m : ℕ) (whole : List ℕ) (r : Result T E) (a b : SiteState) → StandsSo (IsUnfinished m) a
    → OnFile (Cut 1) a b → OnOk r (StandsSo IsEmpty b) → Steps m whole IsEmpty r a b
cut_by m whole r a b stands call done =
    let unfinished : (q : Pair) → a.since a.moment q → IsUnfinished m q.image =
    λ q left. let P : List ℕ → Type 0 = IsUnfinished m in subst P (sym (stands.settled.image q left)) stands.file in
    record {
      any_moment = goes_on (IsMakingOf m whole) (FileStep (Cut 1)) a a b
          (started (IsMakingOf m whole) a (λ p left. record { file = inl (unfinished p left) }))
          call.passes
          (λ q p left step. record { file = inl (cut_unfinished m q.image p.image (unfinished q left) step.image) });
      stands = done;
      jobs = keeps_one (Cut 1) a b call;
    }

pub cut_failed : {T E : Type 0} (m : ℕ) (whole : List ℕ) (r : Result T E) (a b : SiteState) → StandsSo (IsUnfinished m) a
    → OnFile (Cut 1) a b → IsErr r → Steps m whole IsEmpty r a b
cut_failed m whole r a b stands call err = cut_by m whole r a b stands call (IfOk-from_err r (λ _. StandsSo IsEmpty b) err)

pub shortens : {T E : Type 0} (m : ℕ) (whole : List ℕ) (r : Result T E) (a b c : SiteState) → StandsSo (IsUnfinished m) a
    → OnFile (Cut 1) a b → b.image ≡ take 1 a.image → Syncs r b c → Steps m whole IsEmpty r a c
shortens m whole r a b c stands call is syncs =
    let one : length c.image ≤ 1 = (let e = ap length (syncs.same ∙ is) in omega (arith, length-take 1 a.image)) in
    cut_by m whole r a c stands (on_file-reads (Cut 1) a b c call syncs.on_file (λ i. inl refl))
    (on_ok_weaker r (λ (settled : IsSettled c). record { settled = settled; file = record { short = one } }) syncs.settled)

-- reading leaves a file that may be made unfinished
read_moments : (m : ℕ) (whole : List ℕ) (a b : SiteState) → SyncsAndReads a b → MayBeMade m a → LeavesOnly (IsMakingOf m whole) a b
read_moments m whole a b read may =
    goes_on (IsMakingOf m whole) (FileStep Same) a a b (started (IsMakingOf m whole) a (λ p left. record { file = inl (may.each p left) }))
    read.on_file.passes
    (λ q p left step. let P : List ℕ → Type 0 = λ v. IsUnfinished m v in record { file = inl (subst P (sym step.image) (may.each q left)) })

same_unfinished : (m : ℕ) (a b : SiteState) → SyncsAndReads a b → IsUnfinished m b.image → IsUnfinished m a.image
same_unfinished m a b read unfinished = let P : List ℕ → Type 0 = λ v. IsUnfinished m v in subst P read.same unfinished

unfinished_same : (m : ℕ) (a b : SiteState) → SyncsAndReads a b → IsUnfinished m a.image → IsUnfinished m b.image
unfinished_same m a b read unfinished = let P : List ℕ → Type 0 = λ v. IsUnfinished m v in subst P (sym read.same) unfinished

-- an answer is one of them alone
pub not_taken : (r : Result (Unit {0}) CreateFault) → r ≡ Err fault.Disk → r ≡ Err fault.Taken → ⊥
not_taken r is e = cc

pub ok_not_taken : (r : Result (Unit {0}) CreateFault) → r ≡ Ok tt → r ≡ Err fault.Taken → ⊥
ok_not_taken r is e = cc

pub not_ok : (r : Result (Unit {0}) CreateFault) → r ≡ Err fault.Disk → r ≡ Ok tt → ⊥
not_ok r is e = cc

-- the file could not be read
pub makes_not : (m : ℕ) (whole : List ℕ) (r : Result (Unit {0}) CreateFault) (a b : SiteState) → r ≡ Err fault.Disk → SyncsAndReads a b
    → MakesFile m whole r a b
makes_not m whole r a b is read = record {
  taken = λ e. absurd (not_taken r is e);
  kept = λ not. (read, λ e. not_ok r is e);
  any_moment = read_moments m whole a b read;
  made = (let P : Result (Unit {0}) CreateFault → Type 0 = λ v. OnOk v (IsWritten whole b) in subst P (sym is) tt);
}

-- the file isn't unfinished for this manager
pub makes_taken : (m : ℕ) (whole : List ℕ) (a b : SiteState) → SyncsAndReads a b → (IsUnfinished m b.image → ⊥)
    → MakesFile m whole (Err fault.Taken) a b
makes_taken m whole a b read not = record {
  taken = λ e unfinished. not (unfinished_same m a b read unfinished);
  kept = λ unfinished. (read, λ e. cc);
  any_moment = read_moments m whole a b read;
  made = tt;
}

-- the file was made, or a step of its making failed
pub makes_steps : (m : ℕ) (whole : List ℕ) (r : Result (Unit {0}) CreateFault) (s : Result (Unit {0}) DiskFailed) (a b c : SiteState)
    → SyncsAndReads a b → IsUnfinished m b.image → Steps m whole (IsWhole whole) s b c → (r ≡ Err fault.Taken → ⊥)
    → (OnOk s (StandsSo (IsWhole whole) c) → OnOk r (StandsSo (IsWhole whole) c)) → MakesFile m whole r a c
makes_steps m whole r s a b c read standing steps not_refused ok =
    let unfinished = same_unfinished m a b read standing in
    record {
      taken = λ e. absurd (not_refused e);
      kept = λ not. absurd (not unfinished);
      any_moment = λ may. followed (IsMakingOf m whole) (IsMakingOf m whole) a b c (read_moments m whole a b read may) steps.any_moment (λ p h. h);
      made = on_ok_weaker r (λ (h : StandsSo (IsWhole whole) c). record { settled = h.settled; file = h.file.is }) (ok steps.stands);
    }

-- behind the first byte of a made file with no record stand 32
pub made_begins : (m : ℕ) → take 32 (made m) ≡ header m
unfolding header
made_begins m = refl

-- and the first 31 of these are the rest of the header
pub header_in_made : (m : ℕ) → take 31 (drop 1 (made m)) ≡ drop 1 (header m)
unfolding header
header_in_made m = refl

-- a made file with no record has none
made_has : (m : ℕ) → HasRecords m [] (made m)
unfolding header
made_has m = record {
  batches = [];
  file = record {
    gate = 0;
    tail = [];
    is = refl;
    closed = λ e. absurd (omega (arith, e));
    each = λ k d lt. absurd (omega arith);
    small = lit< tt;
  };
  are = refl;
}

-- the making of that file is the making of a journal
pub creates_of : (m : ℕ) (whole : List ℕ) (r : Result (Unit {0}) CreateFault) (a b : SiteState) → whole ≡ made m
    → MakesFile m whole r a b → Creates m r a b
creates_of m whole r a b is makes =
    let has : (i : List ℕ) → i ≡ whole → HasRecords m [] i =
    λ i e. let P : List ℕ → Type 0 = HasRecords m [] in subst P (sym (e ∙ is)) (made_has m) in
    record {
      taken = makes.taken;
      kept = makes.kept;
      any_moment = λ may. weakened (IsMaking m) (IsMakingOf m whole) a b (makes.any_moment may)
          (λ p h. record { file = ⊎_elim (λ (u : IsUnfinished m p.image). inl u) (λ (e : p.image ≡ whole). inr (has p.image e)) h.file });
      made = on_ok_weaker r (λ (h : IsWritten whole b). record { settled = h.settled; file = has b.image h.file }) makes.made;
    }
