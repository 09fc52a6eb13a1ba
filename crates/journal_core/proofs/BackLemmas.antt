-- Records that are read back, on from where the reader stands.
use Rattle.std.proofs.Common.{◌≡◌, ◌∙◌, sym, ap, ap₂, subst, ⊎_elim, Bool, true, false, ℕ, suc, ◌+◌, ◌-◌, ◌≤◌, ◌<◌, List, [], ◌∷◌, ◌++◌, length, take, drop, get_or, All}
use Rattle.std.proofs.Common.{append_assoc, length-append, refl, arith}
use Rattle.std.proofs.lemmas.List.{length_push, drop_at, take_at}
use Rattle.std.proofs.lemmas.List.Concat.{flat_map-append}
use Rattle.std.proofs.lemmas.Bool.{false≢true, cases_lt}
use Rattle.site_traits.specs.Site.{SiteState, Reads}
use Rattle.journal_records.specs.declared.reader.Head.{Head}
use Rattle.journal_records.specs.declared.reader.Head.TheVariants.{Closed, Open, Broken}
use Rattle.journal_records.specs.File.{header, framed, blocks, batches, records, records_of_all, gate_place, size, IsBatch, HasBatches, HasRecords}
use Rattle.journal_records.specs.Head.{IsClosed, IsOpen, IsBroken}
use Rattle.journal_records.specs.Reading.{Reading, part, standing_at, AreAhead, Gives, HeadIs}
use Rattle.journal_core.specs.declared.marks.Mark.{Mark}
use Rattle.journal_core.specs.Marks.{IsMark}
use Rattle.journal_core.specs.Back.{CanGive, HasGiven, GoesBefore}
use Rattle.journal_core.specs.Journal.{Ledger, Stands, IsReadUpTo}
use Rattle.journal_core.proofs.Records.{front_length, its_batches, records_are, batch_first, first_once}
use Rattle.journal_core.proofs.ReadingLemmas.{stands_given, stands_entered, stands_at_mark, all_given}
use Rattle.journal_records.proofs.HeadLemmas.{framed_length, content_some}

-- batches of which the first were read: their records
records_split : (bs before behind : List (List (List ℕ))) → bs ≡ before ++ behind
    → records_of_all bs ≡ records_of_all before ++ records_of_all behind
records_split bs before behind is = ap records_of_all is ∙ flat_map-append (λ batch. batch) before behind

-- the element behind some
behind_some : (xs : List (List ℕ)) (q : List ℕ) (rest : List (List ℕ)) (n : ℕ) → n ≡ length xs → get_or (xs ++ q ∷ rest) n [] ≡ q
behind_some [] q rest n is = ap (λ v. get_or (q ∷ rest) v []) is
behind_some (x ∷ xs) q rest n is =
    ap (λ v. get_or (x ∷ (xs ++ q ∷ rest)) v []) is ∙ behind_some xs q rest (length xs) refl

-- one record more was given, of a batch at hand
pub has_given : (bs : List (List (List ℕ))) (n : ℕ) (r k : Reading) (end : ℕ) (image : List ℕ) → IsReadUpTo bs n r end image → Gives r k
    → HasGiven bs (n + 1) k end image
has_given bs n r k end image up gives =
    let q = k.record_bytes in
    let given = up.records in
    let standing = stands_given up.before given r k end image up.reading gives in
    let ws = standing.waiting in
    let rest = records_of_all up.behind in
    let whole : records_of_all bs ≡ given ++ q ∷ (ws ++ rest) =
    records_split bs up.before up.behind up.splits ∙ ap (λ v. v ++ rest) (standing.records ∙ append_assoc given (q ∷ []) ws)
    ∙ append_assoc given (q ∷ ws) rest in
    let place : n + 1 - 1 ≡ n = omega arith in
    record {
      reading = record {
        before = up.before;
        behind = up.behind;
        records = given ++ q ∷ [];
        splits = up.splits;
        many = (let m = up.many in omega (arith, length_push given q));
        reading = standing;
      };
      last = sym (ap (λ v. get_or (records_of_all bs) v []) place ∙ ap (λ v. get_or v n []) whole
          ∙ behind_some given q (ws ++ rest) n up.many);
    }

-- The batch that stands where the reader does, between two batches.
record Next (bs : List (List (List ℕ))) (r : Reading) (end : ℕ) (image : List ℕ) (before behind : List (List (List ℕ))) : Type 0 where
  b : List (List ℕ)
  rest : List (List (List ℕ))
  is : behind ≡ b ∷ rest
  there : IsOpen r.place b (part r.place end image)
  bytes : part r.place end image ≡ framed b ++ blocks rest

-- the blocks of batches in two parts
blocks_split : (xs ys : List (List (List ℕ))) → blocks (xs ++ ys) ≡ blocks xs ++ blocks ys
blocks_split [] ys = refl
blocks_split (x ∷ xs) ys = ap (λ v. framed x ++ v) (blocks_split xs ys) ∙ sym (append_assoc (framed x) (blocks xs) (blocks ys))

-- each of the later ones is one
each_behind : (xs ys : List (List (List ℕ))) → All IsBatch (xs ++ ys) → All IsBatch ys
each_behind [] ys each = each
each_behind (x ∷ xs) ys each = each_behind xs ys (λ k d lt. each (suc k) d (omega arith))

-- some batches have records
some_behind : (behind : List (List (List ℕ))) → 1 ≤ length (records_of_all behind) → (b : List (List ℕ)) × (rest : List (List (List ℕ)))
    × (behind ≡ b ∷ rest)
some_behind [] some = absurd (omega arith)
some_behind (b ∷ rest) some = (b, rest, refl)

next_batch : (bs : List (List (List ℕ))) (n : ℕ) (r : Reading) (end : ℕ) (image : List ℕ) → (can : CanGive bs n 1 r end image) → r.left ≡ 0
    → Next bs r end image can.reading.before can.reading.behind
next_batch bs n r end image can none =
    let up = can.reading in
    let before = up.before in
    let behind = up.behind in
    let m = can.manager in
    let has = can.file in
    let all = all_given before up.records r end image up.reading none in
    let many : 1 ≤ length (records_of_all behind) =
    (let t = can.there in let e = ap length (records_split bs before behind up.splits) in
    let a = length-append (records_of_all before) (records_of_all behind) in let g = ap length all in let c = up.many in omega arith) in
    let some = some_behind behind many in
    let b = some.0 in
    let rest = some.1 in
    let standing = up.reading.place in
    let gate : r.place ≡ gate_place before = omega arith in
    let front = header m ++ blocks before in
    let tail = has.gate ∷ has.tail in
    let whole : image ≡ front ++ (blocks behind ++ tail) =
    has.is ∙ ap (λ v. header m ++ blocks v ++ tail) up.splits ∙ ap (λ v. header m ++ v ++ tail) (blocks_split before behind)
    ∙ ap (λ v. v ++ tail) (sym (append_assoc (header m) (blocks before) (blocks behind))) ∙ append_assoc front (blocks behind) tail in
    let long : end ≡ r.place + length (blocks behind) =
    (let g = can.gate in let e = ap (λ v. length (blocks v)) up.splits in let s = ap length (blocks_split before behind) in
    let a = length-append (blocks before) (blocks behind) in omega arith) in
    let here : part r.place end image ≡ blocks behind =
    ap (λ v. take (end - r.place) v) (ap (drop r.place) whole ∙ drop_at front (blocks behind ++ tail) r.place (front_length m before ∙ sym gate))
    ∙ take_at (blocks behind) tail (end - r.place) (omega arith) in
    let E : List (List (List ℕ)) → Type 0 = λ v. All IsBatch v in
    let one : IsBatch b = batch_first b rest (subst E some.2 (each_behind before behind (subst E up.splits has.each))) in
    let bytes : part r.place end image ≡ framed b ++ blocks rest = here ∙ ap blocks some.2 in
    let small = has.small in
    record {
      b = b;
      rest = rest;
      is = some.2;
      there = record {
        one = one;
        rest = blocks rest;
        is = bytes;
        small = (let g = can.gate in let l = ap length bytes in let h = ap length here in
            let a = length-append (framed b) (blocks rest) in let f = framed_length b in omega arith);
      };
      bytes = bytes;
    }

-- so neither a closed gate stands there, nor is the file broken
pub not_closed : (bs : List (List (List ℕ))) (n : ℕ) (r : Reading) (end : ℕ) (image : List ℕ) → CanGive bs n 1 r end image → r.left ≡ 0
    → IsClosed (part r.place end image) → ⊥
unfolding framed
not_closed bs n r end image can none closed =
    let next = next_batch bs n r end image can none in
    closed.closed (ap (λ v. get_or v 0 0) (sym closed.is ∙ next.bytes))

pub not_broken : (bs : List (List (List ℕ))) (n : ℕ) (r : Reading) (end : ℕ) (image : List ℕ) → CanGive bs n 1 r end image → r.left ≡ 0
    → IsBroken r.place (part r.place end image) → ⊥
not_broken bs n r end image can none broken =
    let next = next_batch bs n r end image can none in
    ⊎_elim
    (λ (nothing : part r.place end image ≡ []).
    (let e = ap length (sym nothing ∙ next.bytes) in let a = length-append (framed next.b) (blocks next.rest) in
    let f = framed_length next.b in omega arith))
    (λ (other : (body : List ℕ) × (part r.place end image ≡ 1 ∷ body) × ((batch : List (List ℕ)) → IsOpen r.place batch (part r.place end image) → ⊥)).
    other.2 next.b next.there)
    broken

-- once its head was passed, the reader stands behind as many records
pub up_to_entered : (bs : List (List (List ℕ))) (n : ℕ) (r k : Reading) (end : ℕ) (image : List ℕ) → CanGive bs n 1 r end image → r.left ≡ 0
    → HeadIs r.place (part r.place end image) Open k → k.place ≡ r.place + 5 → AreAhead k.place k.ahead end image
    → IsReadUpTo bs n k end image × (1 ≤ k.left)
up_to_entered bs n r k end image can none found place ahead =
    let up = can.reading in
    let next = next_batch bs n r end image can none in
    let b = found.0 in
    let there = found.1 in
    let same : b ≡ next.b =
    (first_once b next.b there.rest (blocks next.rest) there.one next.there.one (sym there.is ∙ next.bytes)).0 in
    let standing = stands_entered up.before up.records r k end image b up.reading none there.one found.2 found.3 place ahead in
    let splits : bs ≡ (up.before ++ b ∷ []) ++ next.rest =
    up.splits ∙ ap (λ v. up.before ++ v) (next.is ∙ ap (λ v. v ∷ next.rest) (sym same)) ∙ sym (append_assoc up.before (b ∷ []) next.rest) in (
      record {
        before = up.before ++ b ∷ [];
        behind = next.rest;
        records = up.records;
        splits = splits;
        many = up.many;
        reading = standing;
      },
      (let c = content_some b there.one in let l = found.3 in omega arith),
    )

-- what a reading back may go on with, once some were given and the file is the same
pub can_go_on : (bs : List (List (List ℕ))) (n given many : ℕ) (r k : Reading) (end : ℕ) (a b : List ℕ) → b ≡ a → CanGive bs n many r end a
    → given < many → IsReadUpTo bs (n + given) k end b → CanGive bs (n + given) 1 k end b
can_go_on bs n given many r k end a b same can less up =
    let m = can.manager in
    let P : List ℕ → Type 0 = λ v. HasBatches m bs v in
    record {
      manager = m;
      file = subst P (sym same) can.file;
      gate = can.gate;
      reading = up;
      there = (let t = can.there in omega arith);
    }

-- none is left where a test says that not one is
pub none_left : (left : ℕ) (b : Bool) → (1 ≤ left → b ≡ true) → b ≡ false → left ≡ 0
none_left left b some none =
    ⊎_elim (λ (lt : left < 1). omega arith) (λ (le : 1 ≤ left). absurd (false≢true (sym none ∙ some le))) (cases_lt left 1)

-- what stands there is a batch and nothing else
pub no_head : (bs : List (List (List ℕ))) (n : ℕ) (r k : Reading) (end : ℕ) (image : List ℕ) → CanGive bs n 1 r end image → r.left ≡ 0
    → (h : Head) → (h ≡ Open → ⊥) → HeadIs r.place (part r.place end image) h k → ⊥
no_head bs n r k end image can none Closed not head = not_closed bs n r end image can none head
no_head bs n r k end image can none Open not head = not refl
no_head bs n r k end image can none Broken not head = not_broken bs n r end image can none head

-- a journal's reader, once it stands before record n, may give all up to it
pub goes_can : (n : ℕ) (j k : Ledger) (a : SiteState) → Stands a j → GoesBefore n j k → n ≤ j.count
    → CanGive (batches a.image) k.behind (n - k.behind) k.reading k.end a.image
goes_can n j k a stands goes within =
    let bs = batches a.image in
    let has = its_batches j.manager (records a.image) a.image stands.file in
    let end : k.end ≡ j.end = ap (λ (v : Ledger). v.end) goes.same in
    let P : ℕ → Reading → Type 0 = λ v r. IsReadUpTo bs v r k.end a.image in
    let E : ℕ → ℕ → Reading → Type 0 = λ e v r. IsReadUpTo bs v r e a.image in
    let both : (v : ℕ) (r : Reading) → k.behind ≡ v → k.reading ≡ r → E j.end v r → P k.behind k.reading =
    λ v r is same up.
    let Q : ℕ → Type 0 = λ e. E e v r in
    let R : ℕ → Type 0 = λ x. P x r in
    let S : Reading → Type 0 = λ x. P k.behind x in
    subst S (sym same) (subst R (sym is) (subst Q (sym end) up)) in
    let before = goes.before in
    record {
      manager = j.manager;
      file = has;
      gate = end ∙ stands.end;
      reading = ⊎_elim
          (λ (same : (k.behind ≡ j.behind) × (k.reading ≡ j.reading)). both j.behind j.reading same.0 same.1 stands.reading)
          (λ (mark : (m : Mark) × (k.behind ≡ m.before) × (k.reading ≡ standing_at m.place)
          × ((xs : List (List (List ℕ))) → All (IsMark xs) j.marks → IsMark xs m)).
          both mark.0.before (standing_at mark.0.place) mark.1 mark.2
          (stands_at_mark j.manager j.end bs a.image mark.0 has stands.end (mark.3 bs stands.marks)))
          goes.stands;
      there = (let c = stands.count in let l = ap length (records_are a.image) in omega arith);
    }

-- the journal stands for the same records then
pub stands_back : (j k : Ledger) (a b : SiteState) → Stands a j → Reads a b → k.manager ≡ j.manager → k.count ≡ j.count → k.end ≡ j.end
    → k.saved ≡ j.saved → k.marks ≡ j.marks → IsReadUpTo (batches a.image) k.behind k.reading k.end b.image → Stands b k
stands_back j k a b stands reads manager count end saved marks up =
    let same = reads.same in
    let P : ℕ → Type 0 = λ v. HasRecords v (records b.image) b.image in
    let Q : List ℕ → Type 0 = λ v. HasRecords j.manager (records v) v in
    let R : List ℕ → Type 0 = λ v. All (IsMark (batches v)) k.marks in
    let M : List Mark → Type 0 = λ v. All (IsMark (batches a.image)) v in
    let U : List ℕ → Type 0 = λ v. IsReadUpTo (batches v) k.behind k.reading k.end b.image in
    record {
      settled = reads.settled stands.settled;
      file = subst P (sym manager) (subst Q (sym same) stands.file);
      count = count ∙ stands.count ∙ ap (λ v. length (records v)) (sym same);
      end = end ∙ stands.end ∙ ap (λ v. gate_place (batches v)) (sym same);
      saved = ap₂ (λ x y. x + y) end saved ∙ stands.saved ∙ ap (λ v. size (records v)) (sym same);
      marks = subst R (sym same) (subst M (sym marks) stands.marks);
      reading = subst U (sym same) up;
    }
