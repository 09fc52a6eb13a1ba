-- The steps of a loading: one record more, the end, and what a read keeps.
use Rattle.std.proofs.Common.{Err, ◌≡◌, ◌≤◌, ◌<◌, ◌∙◌, sym, ap, subst, false, ℕ, ◌+◌, ◌*◌, List, [], ◌∷◌, ◌++◌, length}
use Rattle.std.proofs.Common.{take, drop}
use Rattle.std.proofs.Common.{append_assoc, All, length-take, length-drop, refl, arith}
use Rattle.std.specs.Int.{w32, to_be_bytes}
use Rattle.std.proofs.lemmas.Nat.{be_bytes_4}
use Rattle.std.proofs.lemmas.List.{take-append-drop, drop-drop, length_push, append-nil}
use Rattle.std.proofs.lemmas.List.Elements.{All-push, All-cons, All-nil}
use Rattle.site_traits.specs.Site.{SiteState, IsSettled, Reads}
use Rattle.old_journal.specs.File.{header, framed, blocks, size, HasRecords}
use Rattle.journal_records.specs.File.{IsRecord}
use Rattle.old_journal.specs.Header.{HasHeader}
use Rattle.journal_records.specs.File.{number}
use Rattle.journal_records.specs.Head.{IsClosed}
use Rattle.old_journal.specs.Head.{IsOpen, EndsWithin, BeginsWith}
use Rattle.old_journal.specs.Load.{Progress, Loads, LoadsAll, ReadsOn, Finds, Loaded}
use Rattle.journal_core.specs.declared.loading.LoadFault.{LoadFault}
use Rattle.journal_core.specs.declared.loading.LoadFault.TheVariants as fault
use Rattle.old_journal.specs.declared.marks.Mark.{Mark}
use Rattle.old_journal.specs.Marks.{IsMark, first_mark}
use Rattle.old_journal.proofs.MarkLemmas.{mark_first, mark_end, marks_more}
use Rattle.old_journal.proofs.Records.{blocks_push, size_push, records_of, has_its_records}

-- a read keeps what was read so far, and so does a change of the last record and of whether the end was found
pub loads_kept : (rs : List (List ℕ)) (l k : Progress) (a b : SiteState) → Loads rs l a → Reads a b
    → k.manager ≡ l.manager
    → k.count ≡ l.count → k.end ≡ l.end → k.len ≡ l.len
    → k.marks ≡ l.marks → Loads rs k b
loads_kept rs l k a b loads reads manager count end len marks =
    let same = reads.same in
    record {
      settled = reads.settled loads.settled;
      header = (let P : List ℕ → Type 0 = λ v. HasHeader k.manager v in let Q : ℕ → Type 0 = λ v. HasHeader v a.image in
          subst P (sym same) (subst Q (sym manager) loads.header));
      begins = (let P : List ℕ → Type 0 = λ v. BeginsWith k.manager rs (drop k.end v) v in
          let Q : ℕ → Type 0 = λ v. BeginsWith v rs (drop k.end a.image) a.image in
          let R : ℕ → Type 0 = λ v. BeginsWith l.manager rs (drop v a.image) a.image in
          subst P (sym same) (subst Q (sym manager) (subst R (sym end) loads.begins)));
      count = count ∙ loads.count;
      end = end ∙ loads.end;
      len = len ∙ loads.len ∙ ap length (sym same);
      marks = (let P : List Mark → Type 0 = λ v. All (IsMark rs) v in subst P (sym marks) loads.marks);
    }

-- the bytes of a record behind an open gate, and what stands behind them
pub open_splits : (end n : ℕ) (bytes rest : List ℕ) → IsOpen end n rest → bytes ≡ take n (drop 5 rest)
    → (IsRecord bytes) × (length bytes ≡ n) × (rest ≡ framed bytes ++ drop (5 + n) rest)
unfolding framed number
open_splits end n bytes rest open_gate is =
    let body = open_gate.body in
    let behind : drop 5 rest ≡ drop 4 body = ap (drop 5) open_gate.is in
    let fits = open_gate.good.fits in
    let some = open_gate.good.some in
    let whole = open_gate.good.whole in
    let n_is : number body ≡ n = open_gate.size in
    let bytes_are : bytes ≡ take n (drop 4 body) = is ∙ ap (take n) behind in
    let many : length bytes ≡ n = ap length bytes_are ∙ (let t = length-take n (drop 4 body) in let d =
    length-drop 4 body in omega arith)
    in
    let four : length (take 4 body) ≡ 4 = (let t = length-take 4 body in omega arith) in
    let number_bytes : to_be_bytes w32 n ≡ take 4 body =
    be_bytes_4 (take 4 body) n four open_gate.bytes_are (sym n_is) in
    let body_is : body ≡ to_be_bytes w32 (length bytes) ++ (bytes ++ drop (4 + n) body) =
    sym (take-append-drop 4 body)
    ∙ ap (λ v. v ++ drop 4 body) (sym number_bytes ∙ ap (to_be_bytes w32) (sym many))
    ∙ ap (λ v. to_be_bytes w32 (length bytes) ++ v) (sym (take-append-drop n (drop 4 body))
    ∙ ap (λ v. v ++ drop n (drop 4 body)) (sym bytes_are) ∙ ap (λ v. bytes ++ v) (drop-drop n 4 body)) in
    let after : drop (5 + n) rest ≡ drop (4 + n) body = sym (drop-drop n 5 rest) ∙ ap (drop n) behind
    ∙ drop-drop n 4 body in (
      record { some = omega arith; fits = omega arith },
      many,
      open_gate.is ∙ ap (λ v. 1 ∷ v) body_is ∙ ap (λ v. 1 ∷ (to_be_bytes w32 (length bytes) ++ (bytes ++ v)))
          (sym after)
          ∙ ap (λ v. 1 ∷ v) (sym (append_assoc (to_be_bytes w32 (length bytes)) bytes (drop (5 + n) rest))),
    )

-- the place behind the records read so far
abbrev pub mark_behind : Progress → Mark
mark_behind l = record { before = l.count; place = l.end }

-- one record more
pub loads_more : (rs : List (List ℕ)) (l k : Progress) (n : ℕ) (a b : SiteState) → Loads rs l a → Reads a b
    → IsOpen l.end n (drop l.end a.image)
    → k.record_bytes ≡ take n (drop (l.end + 5) a.image) → k.manager ≡ l.manager → k.count ≡ l.count + 1
    → k.end ≡ l.end + (5 + n)
    → k.len ≡ l.len
    → (All (IsMark (rs ++ k.record_bytes ∷ [])) l.marks → IsMark (rs ++ k.record_bytes ∷ []) (mark_behind l)
    → All (IsMark (rs ++ k.record_bytes ∷ [])) k.marks)
    → Loads (rs ++ k.record_bytes ∷ []) k b
loads_more rs l k n a b loads reads open_gate is manager count end len keeps =
    let bytes = k.record_bytes in
    let m = l.manager in
    let rest = drop l.end a.image in
    let parts = open_splits l.end n bytes rest open_gate (is ∙ ap (take n) (sym (drop-drop 5 l.end a.image))) in
    let begins = loads.begins in
    let small = open_gate.good.small in
    let n_is = open_gate.size in
    let grown = size_push rs bytes in
    let whole : a.image ≡ header m ++ blocks (rs ++ bytes ∷ []) ++ drop k.end a.image =
    begins.is ∙ ap (λ v. header m ++ blocks rs ++ v) (parts.2 ∙ ap (λ v. framed bytes ++ v)
    (drop-drop (5 + n) l.end a.image ∙ ap (λ v. drop v a.image) (sym end)))
    ∙ sym (append_assoc (header m ++ blocks rs) (framed bytes) (drop k.end a.image))
    ∙ ap (λ v. v ++ drop k.end a.image) (append_assoc (header m) (blocks rs) (framed bytes)
    ∙ ap (λ v. header m ++ v) (sym (blocks_push rs bytes))) in
    let mid : Progress = record k { manager = l.manager } in
    let more : Loads (rs ++ bytes ∷ []) mid a = record {
      settled = loads.settled;
      header = loads.header;
      begins = record {
        is = whole;
        each = All-push IsRecord rs bytes begins.each parts.0;
        small =
            (let e = loads.end in omega (arith, parts.1));
      };
      count = count ∙ (let c = loads.count in omega (arith, length_push rs bytes));
      end = (let e = loads.end in omega (arith, parts.1));
      len = len ∙ loads.len;
      marks = keeps (marks_more rs bytes l.marks loads.marks) (mark_end rs bytes (mark_behind l) loads.count loads.end);
    } in
    loads_kept (rs ++ bytes ∷ []) mid k a b more reads manager refl refl refl refl

-- what one record more leaves, by what its head said of it
pub grows_more : (l k : Progress) (n : ℕ) → EndsWithin l.end l.len n → length k.record_bytes ≡ n → k.manager ≡ l.manager
    → k.count ≡ l.count + 1 → k.end ≡ l.end + (5 + n)
    → k.ended ≡ false → ReadsOn l k
grows_more l k n ends many manager count end ended = record {
  manager = manager;
  record_is = record { some = omega (arith, ends.some); fits = omega (arith, ends.fits) };
  count = count;
  end = omega arith;
  small = omega (arith, ends.small);
  ended = ended;
}

-- its place and the number of records stay within the file and its limit
pub within_more : (count end len n : ℕ) → count * 6 ≤ end → EndsWithin end len n
    → (end + (5 + n) < 268435456) × ((count + 1) * 6 ≤ end + (5 + n)) × (end + (5 + n) ≤ len) × (n ≤ 65536)
within_more count end len n few ends = (
  omega (arith, ends.small),
  omega (arith, ends.some),
  omega (arith, ends.whole),
  ends.fits,
)

-- the closed gate behind the records
pub loads_end : (rs : List (List ℕ)) (l k : Progress) (a b : SiteState) → Loads rs l a → Reads a b
    → IsClosed (drop l.end a.image)
    → k.manager ≡ l.manager → k.count ≡ l.count → k.end ≡ l.end → k.len ≡ l.len → k.marks ≡ l.marks → LoadsAll rs k b
loads_end rs l k a b loads reads closed manager count end len marks =
    let kept = loads_kept rs l k a b loads reads manager count end len marks in
    let rest : drop k.end b.image ≡ closed.gate ∷ closed.tail = ap (λ v. drop v b.image) end
    ∙ ap (drop l.end) reads.same ∙ closed.is in
    let has : HasRecords k.manager rs b.image = record {
      gate = closed.gate;
      tail = closed.tail;
      is = kept.begins.is ∙ ap (λ v. header k.manager ++ blocks rs ++ v) rest;
      closed = closed.closed;
      each = kept.begins.each;
      small = kept.begins.small;
    } in
    let is = records_of k.manager rs b.image has in
    record {
      loads = kept;
      records = is;
      stands = record {
        settled = kept.settled;
        file = has_its_records k.manager rs b.image has;
        count = kept.count ∙ ap length (sym is);
        end = kept.end ∙ ap size (sym is);
        marks = (let P : List (List ℕ) → Type 0 = λ v. All (IsMark v) (first_mark ∷ k.marks) in
            subst P (sym is) (All-cons (IsMark rs) first_mark k.marks (mark_first rs) kept.marks));
      };
    }

-- a file with a header, before its first record is read
pub loads_none : (l : Progress) (s : SiteState) → IsSettled s → HasHeader l.manager s.image → l.count ≡ 0 → l.end ≡ 32
    → l.len ≡ length s.image → l.marks ≡ [] → Loads [] l s
loads_none l s settled has count end len marks = record {
  settled = settled;
  header = has;
  begins = record {
    is = sym (take-append-drop 32 s.image) ∙ ap (λ v. v ++ drop 32 s.image)
        (has.front ∙ sym (append-nil (header l.manager)))
        ∙ ap (λ v. header l.manager ++ [] ++ drop v s.image) (sym end);
    each = λ k d lt. absurd (omega arith);
    small = omega arith;
  };
  count = count;
  end = end;
  len = len;
  marks = (let P : List Mark → Type 0 = λ v. All (IsMark []) v in subst P (sym marks) (All-nil (IsMark [])));
}

-- why a step found none is why there is no journal
pub failed_load : (rs : List (List ℕ)) (e : LoadFault) (l k : Progress) (a b : SiteState) → Loads rs l a → Reads a b
    → k.manager ≡ l.manager
    → Finds rs (Err e) k b → Loaded (Err e) b
failed_load rs fault.Unmade l k a b loads reads same finds = absurd finds
failed_load rs (fault.Foreign place) l k a b loads reads same finds = absurd finds
failed_load rs (fault.Broken n) l k a b loads reads same finds =
    let P : List ℕ → Type 0 = λ v. HasHeader k.manager v in
    let Q : ℕ → Type 0 = λ v. HasHeader v a.image in
    (k.manager, subst P (sym reads.same) (subst Q (sym same) loads.header), finds.0)
failed_load rs fault.Disk l k a b loads reads same finds = tt
failed_load rs fault.Memory l k a b loads reads same finds = absurd finds
