-- The records of a file, as they are packed into batches.
use Rattle.std.proofs.Common.{◌≡◌, ◌∙◌, ◌≤◌, ◌<◌, sym, ap, subst, refl, arith, ⊎_elim, ℕ, zero, suc, ◌+◌, List, [], ◌∷◌, ◌++◌, length, All}
use Rattle.std.proofs.Common.{Option, Some, None, is_some, false, Result, Ok, Err, OnOk, if◌then◌else◌, append_assoc, length-append, lit<}
use Rattle.std.specs.Result.{is_ok}
use Rattle.std.specs.Int.{w32, to_be_bytes}
use Rattle.std.proofs.lemmas.List.{append-nil}
use Rattle.std.proofs.lemmas.List.Elements.{All-append}
use Rattle.journal_records.specs.File.{header, held, content, framed, blocks, gate_place, records_of_all, IsBatch, IsRecord}
use Rattle.journal_records.specs.declared.limits.TheConstants.{MAX_BATCH, MAX_FILE}
use Rattle.journal_records.proofs.ContentLemmas.{held_length}
use Rattle.journal_core.proofs.Records.{blocks_push, gate_push, front_length, records_push}
use Rattle.journal_migration.specs.Packing.{Appends, AreFull, ArePacked, HasNoRoomFor, HasPacked, HoldsBatches}
use Rattle.journal_migration.specs.Packing.{Packing, PacksAll, opened}
use Rattle.journal_migration.specs.declared.packing.Full.{Full}

-- what holds where bytes were put behind others
pub on_put : {E P : Type 0} (r : Result (Unit {0}) E) (new old bytes : List ℕ) → new ≡ (if is_ok r then old ++ bytes else old)
    → (new ≡ old ++ bytes → P) → OnOk r P
on_put (Ok done) new old bytes is leads = leads is
on_put (Err fault) new old bytes is leads = tt

-- a record behind its number
pub put_held : {E : Type 0} (r : Result (Unit {0}) E) (new mid old bytes four : List ℕ) → new ≡ (if is_ok r then mid ++ bytes else mid)
    → mid ≡ old ++ four → four ≡ to_be_bytes w32 (length bytes) → OnOk r (new ≡ old ++ held bytes)
unfolding held
put_held (Ok done) new mid old bytes four is behind number =
    is ∙ ap (λ v. v ++ bytes) behind ∙ append_assoc old four bytes ∙ ap (λ v. old ++ (v ++ bytes)) number
put_held (Err fault) new mid old bytes four is behind number = tt

-- an answer of Ok leads from two things to a third
pub on_ok_leads : {T E A B : Type 0} (r : Result T E) → OnOk r A → (A → B) → OnOk r B
on_ok_leads (Ok done) a leads = leads a
on_ok_leads (Err fault) a leads = tt

-- all of one thing
one_of : {X : Type 0} (P : X → Type 0) (x : X) → P x → All P (x ∷ [])
one_of P x holds zero d lt = holds
one_of P x holds (suc k) d lt = absurd (omega (arith, lt))

-- the content of records with one more
pub content_push : (rs : List (List ℕ)) (bytes : List ℕ) → content (rs ++ bytes ∷ []) ≡ content rs ++ held bytes
content_push [] bytes = append-nil (held bytes)
content_push (r ∷ rs) bytes = ap (λ v. held r ++ v) (content_push rs bytes) ∙ sym (append_assoc (held r) (content rs) (held bytes))

-- whether a batch has room is asked of the first record behind it
room_same : (b c : List (List ℕ)) (xs ys : List (List (List ℕ))) → HasNoRoomFor b (c ∷ xs) → HasNoRoomFor b (c ∷ ys)
room_same b [] xs ys full = tt
room_same b (r ∷ rs) xs ys full = full

-- a batch at hand that has a record gets another
grows : (before : List (List (List ℕ))) (r bytes : List ℕ) (rs : List (List ℕ)) → AreFull (before ++ (r ∷ rs) ∷ [])
    → AreFull (before ++ (r ∷ rs ++ bytes ∷ []) ∷ [])
grows [] r bytes rs full = (tt, tt)
grows (b ∷ []) r bytes rs full = (full.0, grows [] r bytes rs full.1)
grows (b ∷ c ∷ before) r bytes rs full = (room_same b c _ _ full.0, grows (c ∷ before) r bytes rs full.1)

-- a new batch at hand gets the record for which the one before it had no room
begins : (before : List (List (List ℕ))) (hand : List (List ℕ)) (bytes : List ℕ) → AreFull (before ++ hand ∷ [])
    → MAX_BATCH < length (content hand) + length (held bytes) → AreFull ((before ++ hand ∷ []) ++ (bytes ∷ []) ∷ [])
begins [] hand bytes full over = (over, (tt, tt))
begins (b ∷ []) hand bytes full over = (room_same b hand _ _ full.0, begins [] hand bytes full.1 over)
begins (b ∷ c ∷ before) hand bytes full over = (room_same b c _ _ full.0, begins (c ∷ before) hand bytes full.1 over)

-- the batch at hand is one
hand_batch : (hand : List (List ℕ)) (bytes : List ℕ) → All IsRecord hand → bytes ≡ content hand → length bytes ≤ MAX_BATCH → 1 ≤ length bytes
    → IsBatch hand
hand_batch [] bytes some is fits long = absurd (omega (arith, ap length is, long))
hand_batch (r ∷ rs) bytes some is fits long = record { some = omega arith; each = some; fits = omega (arith, ap length is, fits) }

-- the file holds one batch more, or has no room for it
pub holds_more : (m : ℕ) (bs : List (List (List ℕ))) (hand : List (List ℕ)) (old new : Packing) → old.content ≡ content hand
    → old.unfit ≡ None → Appends old new → HoldsBatches m bs old.bytes old.unfit → HoldsBatches m (bs ++ hand ∷ []) new.bytes new.unfit
unfolding framed
holds_more m bs hand old new is none appends holds =
    let P : Option Full → Type 0 = λ v. HoldsBatches m bs old.bytes v in
    let file = subst P none holds in
    let long : length old.bytes ≡ gate_place bs = ap length file.0 ∙ front_length m bs in
    let many : length old.content ≡ length (content hand) = ap length is in
    let Q : Option Full → Type 0 = λ v. HoldsBatches m (bs ++ hand ∷ []) new.bytes v in
    ⊎_elim
    (λ (fits : (length old.bytes + 6 + length old.content ≤ MAX_FILE) × (new.unfit ≡ old.unfit)
    × (new.bytes ≡ old.bytes ++ opened old.content)).
    subst Q (sym (fits.1 ∙ none)) (
      fits.2 ∙ ap (λ v. v ++ opened old.content) file.0 ∙ append_assoc (header m) (blocks bs) (opened old.content)
          ∙ ap (λ v. header m ++ (blocks bs ++ opened v)) is ∙ ap (λ v. header m ++ v) (sym (blocks_push bs hand)),
      omega (arith, gate_push bs hand, fits.0, long, many),
    ))
    (λ (over : (MAX_FILE < length old.bytes + 6 + length old.content) × (new.bytes ≡ old.bytes)
    × (new.unfit ≡ Some (record { end = length old.bytes; more = length old.content }))).
    subst Q (sym over.2) (record {
      before = bs;
      batch = hand;
      behind = [];
      splits = refl;
      end = long;
      more = many;
      fits = file.1;
      passes = over.0;
    }))
    appends

-- a file that has no room for a batch holds no other behind it
pub holds_none : (m : ℕ) (bs : List (List (List ℕ))) (hand : List (List ℕ)) (bytes : List ℕ) (unfit : Option Full) (f : Full) → unfit ≡ Some f
    → HoldsBatches m bs bytes unfit → HoldsBatches m (bs ++ hand ∷ []) bytes unfit
holds_none m bs hand bytes unfit f is holds =
    let P : Option Full → Type 0 = λ v. HoldsBatches m bs bytes v in
    let Q : Option Full → Type 0 = λ v. HoldsBatches m (bs ++ hand ∷ []) bytes v in
    let first = subst P is holds in
    subst Q (sym is) (record {
      before = first.before;
      batch = first.batch;
      behind = first.behind ++ hand ∷ [];
      splits = ap (λ v. v ++ hand ∷ []) first.splits ∙ append_assoc first.before (first.batch ∷ first.behind) (hand ∷ []);
      end = first.end;
      more = first.more;
      fits = first.fits;
      passes = first.passes;
    })

-- a file that is seen whole
pub holds_seen : (m : ℕ) (bs : List (List (List ℕ))) (seen p : Packing) → seen ≡ p → HoldsBatches m bs p.bytes p.unfit
    → HoldsBatches m bs seen.bytes seen.unfit
holds_seen m bs seen p is holds = let P : Packing → Type 0 = λ v. HoldsBatches m bs v.bytes v.unfit in subst P (sym is) holds

-- an option that isn't some is none
pub none_of : {X : Type 0} (o : Option X) → is_some o ≡ false → o ≡ None
none_of None is = refl
none_of (Some x) is = cc

-- before the first record
pub none_packed : (m : ℕ) (p : Packing) → p.bytes ≡ header m → p.content ≡ [] → p.unfit ≡ None → HasPacked m [] p
none_packed m p bytes empty none =
    let P : Option Full → Type 0 = λ v. HoldsBatches m [] p.bytes v in
    record {
      batches = [];
      hand = [];
      records = refl;
      each = λ k d lt. absurd (omega (arith, lt));
      some = λ k d lt. absurd (omega (arith, lt));
      at_hand = empty;
      full = (tt, tt);
      begun = λ _. refl;
      file = subst P (sym none) (bytes ∙ sym (append-nil (header m)), lit< tt);
    }

-- one record more in the batch at hand
pub packs_in : (m : ℕ) (rs : List (List ℕ)) (bytes : List ℕ) (old new : Packing) → HasPacked m rs old → IsRecord bytes
    → new.content ≡ old.content ++ held bytes → new.bytes ≡ old.bytes → new.unfit ≡ old.unfit → HasPacked m (rs ++ bytes ∷ []) new
packs_in m rs bytes old new has one content_is same unfit =
    let P : List ℕ → Option Full → Type 0 = λ v w. HoldsBatches m has.batches v w in
    let file : HoldsBatches m has.batches new.bytes new.unfit =
    (let Q : List ℕ → Type 0 = λ v. HoldsBatches m has.batches v new.unfit in
    let R : Option Full → Type 0 = λ w. HoldsBatches m has.batches old.bytes w in subst Q (sym same) (subst R (sym unfit) has.file)) in
    record {
      batches = has.batches;
      hand = has.hand ++ bytes ∷ [];
      records = sym (append_assoc (records_of_all has.batches) has.hand (bytes ∷ [])) ∙ ap (λ v. v ++ bytes ∷ []) has.records;
      each = has.each;
      some = All-append IsRecord has.hand (bytes ∷ []) has.some (one_of IsRecord bytes one);
      at_hand = content_is ∙ ap (λ v. v ++ held bytes) has.at_hand ∙ sym (content_push has.hand bytes);
      full = full_more has.batches has.hand has.full has.begun;
      begun = λ none. absurd (omega (arith, ap length none, length-append has.hand (bytes ∷ [])));
      file = file;
    } where
      full_more : (batches : List (List (List ℕ))) (hand : List (List ℕ)) → AreFull (batches ++ hand ∷ []) → (hand ≡ [] → batches ≡ [])
          → AreFull (batches ++ (hand ++ bytes ∷ []) ∷ [])
      full_more batches [] full begun =
          let P : List (List (List ℕ)) → Type 0 = λ v. AreFull (v ++ (bytes ∷ []) ∷ []) in subst P (sym (begun refl)) (tt, tt)
      full_more batches (r ∷ rs) full begun = grows batches r bytes rs full

-- and in a new one, where the one at hand, which was closed, had no room for it
pub packs_on : (m : ℕ) (rs : List (List ℕ)) (bytes : List ℕ) (old mid new : Packing) → (has : HasPacked m rs old) → IsRecord bytes
    → length old.content ≤ MAX_BATCH → 1 ≤ length old.content → MAX_BATCH < length old.content + 4 + length bytes → mid.content ≡ []
    → HoldsBatches m (has.batches ++ has.hand ∷ []) mid.bytes mid.unfit
    → new.content ≡ mid.content ++ held bytes → new.bytes ≡ mid.bytes → new.unfit ≡ mid.unfit → HasPacked m (rs ++ bytes ∷ []) new
packs_on m rs bytes old mid new has one fits long over empty holds content_is same unfit =
    let Q : List ℕ → Type 0 = λ v. HoldsBatches m (has.batches ++ has.hand ∷ []) v new.unfit in
    let R : Option Full → Type 0 = λ w. HoldsBatches m (has.batches ++ has.hand ∷ []) mid.bytes w in
    let batch = hand_batch has.hand old.content has.some has.at_hand fits long in
    record {
      batches = has.batches ++ has.hand ∷ [];
      hand = bytes ∷ [];
      records = ap (λ v. v ++ bytes ∷ []) (records_push has.batches has.hand ∙ has.records);
      each = All-append IsBatch has.batches (has.hand ∷ []) has.each (one_of IsBatch has.hand batch);
      some = one_of IsRecord bytes one;
      at_hand = content_is ∙ ap (λ v. v ++ held bytes) empty ∙ sym (append-nil (held bytes));
      full = begins has.batches has.hand bytes has.full (omega (arith, over, ap length has.at_hand, held_length bytes));
      begun = λ none. absurd (omega (arith, ap length none));
      file = subst Q (sym same) (subst R (sym unfit) holds);
    }

-- all records were packed, and the batch at hand was closed where it has one
finishes : (m : ℕ) (rs : List (List ℕ)) (bs : List (List (List ℕ))) (bytes whole : List ℕ) (unfit : Option Full) → ArePacked rs bs
    → HoldsBatches m bs bytes unfit → whole ≡ bytes ++ 0 ∷ [] → PacksAll m rs whole unfit
finishes m rs bs bytes whole None packed holds is = record {
  batches = bs;
  packed = packed;
  is = is ∙ ap (λ v. v ++ 0 ∷ []) holds.0;
  small = holds.1;
}
finishes m rs bs bytes whole (Some unfit) packed holds is = record { batches = bs; packed = packed; first = holds }

pub finishes_closed : (m : ℕ) (rs : List (List ℕ)) (old mid : Packing) (whole : List ℕ) (unfit : Option Full) → (has : HasPacked m rs old)
    → length old.content ≤ MAX_BATCH → 1 ≤ length old.content → HoldsBatches m (has.batches ++ has.hand ∷ []) mid.bytes mid.unfit
    → whole ≡ mid.bytes ++ 0 ∷ [] → unfit ≡ mid.unfit → PacksAll m rs whole unfit
finishes_closed m rs old mid whole unfit has fits long holds is same =
    let batch = hand_batch has.hand old.content has.some has.at_hand fits long in
    let R : Option Full → Type 0 = λ w. HoldsBatches m (has.batches ++ has.hand ∷ []) mid.bytes w in
    finishes m rs (has.batches ++ has.hand ∷ []) mid.bytes whole unfit
    (record {
      records = records_push has.batches has.hand ∙ has.records;
      each = All-append IsBatch has.batches (has.hand ∷ []) has.each (one_of IsBatch has.hand batch);
      full = has.full;
    })
    (subst R (sym same) holds) is

pub finishes_empty : (m : ℕ) (rs : List (List ℕ)) (old : Packing) (whole : List ℕ) (unfit : Option Full) → (has : HasPacked m rs old)
    → length old.content ≡ 0 → whole ≡ old.bytes ++ 0 ∷ [] → unfit ≡ old.unfit → PacksAll m rs whole unfit
finishes_empty m rs old whole unfit has empty is same =
    let none = nothing has.hand (omega (arith, ap length has.at_hand, empty)) in
    let first = has.begun none in
    let R : Option Full → Type 0 = λ w. HoldsBatches m has.batches old.bytes w in
    let P : List (List (List ℕ)) → Type 0 = AreFull in
    finishes m rs has.batches old.bytes whole unfit
    (record {
      records = sym (append-nil (records_of_all has.batches)) ∙ ap (λ v. records_of_all has.batches ++ v) (sym none) ∙ has.records;
      each = has.each;
      full = subst P (sym first) tt;
    })
    (subst R (sym same) has.file) is where
      nothing : (hand : List (List ℕ)) → length (content hand) ≡ 0 → hand ≡ []
      nothing [] short = refl
      nothing (r ∷ rs) short = absurd (omega (arith, short, held_length r, length-append (held r) (content rs)))
