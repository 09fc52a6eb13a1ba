-- The steps of a loading: one record more, the end, and what a read keeps.
use Rattle.std.proofs.Common.{Result, Err, ◌≡◌, ◌≤◌, ◌∙◌, sym, ap, subst, false, ℕ, ◌+◌, List, [], ◌∷◌, ◌++◌, length, take, drop}
use Rattle.std.proofs.Common.{append_assoc, All, refl, arith}
use Rattle.std.proofs.lemmas.List.{take-append-drop, length_push, append-nil, drop_at}
use Rattle.std.proofs.lemmas.List.Elements.{All-push, All-nil}
use Rattle.site_traits.specs.Site.{SiteState, IsSettled, KeepsJobs, Same, Syncs, Reads}
use Rattle.site_traits.specs.Moments.{keeps_one, on_file-reads, reads-then}
use Rattle.journal_records.specs.File.{header, content, framed, blocks, batches, records, gate_place, size, IsRecord, IsBatch, HasBatches}
use Rattle.journal_records.specs.Reading.{Reading, standing_at, part, AreAhead, StandsBehind}
use Rattle.journal_core.specs.Header.{HasHeader}
use Rattle.journal_records.specs.Head.{IsClosed, IsOpen, IsBroken, IsBrokenAt, BeginsWith}
use Rattle.journal_core.specs.Load.{Progress, Loads, LoadsAll, GivesOne, SyncsAndReads, Finds, Loaded}
use Rattle.journal_core.specs.Journal.{IsReadUpTo}
use Rattle.site_traits.specs.Counts.{SiteCounts}
use Rattle.journal_core.specs.Asking.{FailsWhere}
use Rattle.journal_core.specs.declared.loading.LoadFault.{LoadFault}
use Rattle.journal_core.specs.declared.loading.LoadFault.TheVariants as fault
use Rattle.journal_core.specs.declared.marks.Mark.{Mark}
use Rattle.journal_core.specs.Marks.{IsMark}
use Rattle.journal_core.proofs.HeaderLemmas.{header_long}
use Rattle.journal_core.proofs.MarkLemmas.{mark_end, marks_more}
use Rattle.journal_core.proofs.ReadingLemmas.{stands_given, stands_entered, stands_first, all_given, part_all}
use Rattle.journal_core.proofs.Records.{blocks_push, gate_push, size_push, front_length, batches_of, all_records, its_records}

-- what a file begins with stays after a read
loads_whole : (l k : Progress) (a b : SiteState) (bs : List (List (List ℕ))) → BeginsWith l.manager bs (drop l.end a.image) a.image
    → k.manager ≡ l.manager → k.end ≡ l.end → b.image ≡ a.image → BeginsWith k.manager bs (drop k.end b.image) b.image
loads_whole l k a b bs begins manager end same =
    let P : List ℕ → Type 0 = λ v. BeginsWith k.manager bs (drop k.end v) v in
    let Q : ℕ → Type 0 = λ v. BeginsWith v bs (drop k.end a.image) a.image in
    let R : ℕ → Type 0 = λ v. BeginsWith l.manager bs (drop v a.image) a.image in
    subst P (sym same) (subst Q (sym manager) (subst R (sym end) begins))

-- a read keeps what was read so far, and so does a change of whether the end was found
pub loads_kept : (rs : List (List ℕ)) (l k : Progress) (a b : SiteState) → (loads : Loads rs l a) → Reads a b → k.manager ≡ l.manager
    → k.count ≡ l.count → k.end ≡ l.end → k.total ≡ l.total → k.len ≡ l.len → k.marks ≡ l.marks
    → StandsBehind loads.batches rs k.reading k.len a.image → Loads rs k b
loads_kept rs l k a b loads reads manager count end total len marks reading =
    let same = reads.same in
    let bs = loads.batches in
    record {
      settled = reads.settled loads.settled;
      header = (let P : List ℕ → Type 0 = λ v. HasHeader k.manager v in let Q : ℕ → Type 0 = λ v. HasHeader v a.image in
          subst P (sym same) (subst Q (sym manager) loads.header));
      batches = bs;
      begins = loads_whole l k a b bs loads.begins manager end same;
      reading = (let P : List ℕ → Type 0 = λ v. StandsBehind bs rs k.reading k.len v in subst P (sym same) reading);
      count = count ∙ loads.count;
      end = end ∙ loads.end;
      total = total ∙ loads.total;
      len = len ∙ loads.len ∙ ap length (sym same);
      marks = (let P : List Mark → Type 0 = λ v. All (IsMark bs) v in subst P (sym marks) loads.marks);
    }

-- whether the end was found has no part in it
pub loads_unended : (rs : List (List ℕ)) (l : Progress) (s : SiteState) → Loads rs l s → Loads rs (record l { ended = false }) s
loads_unended rs l s loads = record {
  settled = loads.settled;
  header = loads.header;
  batches = loads.batches;
  begins = loads.begins;
  reading = loads.reading;
  count = loads.count;
  end = loads.end;
  total = loads.total;
  len = loads.len;
  marks = loads.marks;
}

-- one record more of the batch at hand
pub loads_given : (rs : List (List ℕ)) (l k : Progress) (s : SiteState) → Loads rs l s → GivesOne l k → Loads (rs ++ k.record_bytes ∷ []) k s
loads_given rs l k s loads gives =
    let bs = loads.batches in
    let given : StandsBehind bs (rs ++ k.reading.record_bytes ∷ []) k.reading l.len s.image =
    stands_given bs rs l.reading k.reading l.len s.image loads.reading gives.reading in
    record {
      settled = loads.settled;
      header = (let Q : ℕ → Type 0 = λ v. HasHeader v s.image in subst Q (sym gives.manager) loads.header);
      batches = bs;
      begins = (let Q : ℕ → Type 0 = λ v. BeginsWith v bs (drop k.end s.image) s.image in
          let R : ℕ → Type 0 = λ v. BeginsWith l.manager bs (drop v s.image) s.image in
          subst Q (sym gives.manager) (subst R (sym gives.end) loads.begins));
      reading = (let P : List ℕ → Type 0 = λ v. StandsBehind bs (rs ++ v ∷ []) k.reading k.len s.image in
          let Q : ℕ → Type 0 = λ v. StandsBehind bs (rs ++ k.reading.record_bytes ∷ []) k.reading v s.image in
          subst P (sym gives.record_is) (subst Q (sym gives.len) given));
      count = gives.count ∙ (let c = loads.count in omega (arith, length_push rs k.record_bytes));
      end = gives.end ∙ loads.end;
      total = (let t = loads.total in let g = gives.total in omega (arith, size_push rs k.record_bytes));
      len = gives.len ∙ loads.len;
      marks = (let P : List Mark → Type 0 = λ v. All (IsMark bs) v in subst P (sym gives.marks) loads.marks);
    }

-- the place behind the batches read so far
abbrev pub mark_behind : Progress → Mark
mark_behind l = record { before = l.count; place = l.reading.place }

-- behind an open gate a batch was found, where the one before it was read to its end
pub loads_entered : (rs : List (List ℕ)) (l k : Progress) (b : List (List ℕ)) (a s : SiteState) → (loads : Loads rs l a) → Reads a s
    → l.reading.left ≡ 0 → IsOpen l.reading.place b (part l.reading.place l.len a.image) → take k.reading.left k.reading.ahead ≡ content b
    → k.reading.left ≡ length (content b) → k.reading.place ≡ l.reading.place + 5
    → AreAhead k.reading.place k.reading.ahead l.len a.image
    → k.manager ≡ l.manager → k.count ≡ l.count → k.end ≡ k.reading.place + k.reading.left → k.total ≡ l.total → k.len ≡ l.len
    → (All (IsMark (loads.batches ++ b ∷ [])) l.marks → IsMark (loads.batches ++ b ∷ []) (mark_behind l)
    → All (IsMark (loads.batches ++ b ∷ [])) k.marks)
    → Loads rs k s
loads_entered rs l k b a s loads reads none there bytes left place ahead manager count end total len keeps =
    let bs = loads.batches in
    let m = l.manager in
    let more = bs ++ b ∷ [] in
    let standing = loads.reading.place in
    let gate : l.reading.place ≡ gate_place bs = omega arith in
    let at_end : l.reading.place ≡ l.end = gate ∙ sym loads.end in
    let rest : part l.reading.place l.len a.image ≡ drop l.end a.image =
    part_all l.reading.place l.len a.image loads.len ∙ ap (λ v. drop v a.image) at_end in
    let here : drop l.end a.image ≡ framed b ++ there.rest = sym rest ∙ there.is in
    let grown = gate_push bs b in
    let k_end : k.end ≡ gate_place more = omega arith in
    let front : header m ++ blocks more ≡ header m ++ blocks bs ++ framed b =
    ap (λ v. header m ++ v) (blocks_push bs b) ∙ sym (append_assoc (header m) (blocks bs) (framed b)) in
    let whole : a.image ≡ header m ++ blocks more ++ there.rest =
    loads.begins.is ∙ ap (λ v. header m ++ blocks bs ++ v) here
    ∙ sym (append_assoc (header m ++ blocks bs) (framed b) there.rest) ∙ ap (λ v. v ++ there.rest) (sym front) in
    let behind : drop k.end a.image ≡ there.rest =
    ap (drop k.end) whole ∙ drop_at (header m ++ blocks more) there.rest k.end (front_length m more ∙ sym k_end) in
    let standing_more : StandsBehind more rs k.reading l.len a.image =
    stands_entered bs rs l.reading k.reading l.len a.image b loads.reading none there.one bytes left place ahead in
    let small = there.small in
    let all = all_given bs rs l.reading l.len a.image loads.reading none in
    let mid : Progress = record k { manager = l.manager; len = l.len } in
    let entered : Loads rs mid a = record {
      settled = loads.settled;
      header = loads.header;
      batches = more;
      begins = record {
        is = whole ∙ ap (λ v. header m ++ blocks more ++ v) (sym behind);
        each = All-push IsBatch bs b loads.begins.each there.one;
        small = omega arith;
      };
      reading = standing_more;
      count = count ∙ loads.count;
      end = k_end;
      total = total ∙ loads.total;
      len = loads.len;
      marks = keeps (marks_more bs b l.marks loads.marks)
          (mark_end bs b (mark_behind l) (loads.count ∙ ap length (sym all)) gate);
    } in
    let R : ℕ → Type 0 = λ v. StandsBehind more rs k.reading v a.image in
    loads_kept rs mid k a s entered reads manager refl refl refl len refl (subst R (sym len) standing_more)

-- the closed gate behind the records
pub loads_end : (rs : List (List ℕ)) (l k : Progress) (a b : SiteState) → Loads rs l a → Reads a b → l.reading.left ≡ 0
    → IsClosed (part l.reading.place l.len a.image) → AreAhead l.reading.place k.reading.ahead l.len a.image
    → k.reading.place ≡ l.reading.place → k.reading.left ≡ 0 → k.end ≡ k.reading.place + k.reading.left
    → k.manager ≡ l.manager → k.count ≡ l.count → k.total ≡ l.total → l.end ≤ l.total → k.len ≡ l.len → k.marks ≡ l.marks → LoadsAll rs k b
loads_end rs l k a b loads reads none closed ahead place left end manager count total less len marks =
    let bs = loads.batches in
    let standing = loads.reading.place in
    let gate : l.reading.place ≡ gate_place bs = omega arith in
    let at_end : l.reading.place ≡ l.end = gate ∙ sym loads.end in
    let k_end : k.end ≡ l.end = omega arith in
    let all = all_given bs rs l.reading l.len a.image loads.reading none in
    let reading : StandsBehind bs rs k.reading k.len a.image =
    (let P : ℕ → Type 0 = λ v. StandsBehind bs rs k.reading v a.image in
    let A : ℕ → Type 0 = λ v. AreAhead v k.reading.ahead l.len a.image in
    let L : ℕ → Type 0 = λ v. take v k.reading.ahead ≡ [] in
    let nothing : take k.reading.left k.reading.ahead ≡ [] = subst L (sym left) refl in
    subst P (sym len) (record {
      waiting = [];
      records = all ∙ sym (append-nil rs);
      each = All-nil IsRecord;
      bytes = nothing;
      left = left;
      place = omega arith;
      ahead = subst A (sym place) ahead;
    })) in
    let kept = loads_kept rs l k a b loads reads manager count k_end total len marks reading in
    let whole = loads_whole l k a b bs loads.begins manager k_end reads.same in
    let rest : drop k.end b.image ≡ closed.gate ∷ closed.tail =
    ap (λ v. drop v b.image) (k_end ∙ sym at_end) ∙ ap (drop l.reading.place) reads.same
    ∙ sym (part_all l.reading.place l.len a.image loads.len) ∙ closed.is in
    let has : HasBatches k.manager bs b.image = record {
      gate = closed.gate;
      tail = closed.tail;
      is = whole.is ∙ ap (λ v. header k.manager ++ blocks bs ++ v) rest;
      closed = closed.closed;
      each = whole.each;
      small = whole.small;
    } in
    let is : records b.image ≡ rs = all_records k.manager bs b.image has ∙ all in
    let same : batches b.image ≡ bs = batches_of k.manager bs b.image has in
    let M : List (List (List ℕ)) → Type 0 = λ v. All (IsMark v) k.marks in
    let L : List Mark → Type 0 = λ v. All (IsMark bs) v in
    let k_gate : k.end ≡ gate_place bs = k_end ∙ loads.end in
    let R : List (List (List ℕ)) → Type 0 = λ v. IsReadUpTo v 0 (standing_at 32) k.end b.image in
    record {
      loads = kept;
      records = is;
      stands = record {
        settled = reads.settled loads.settled;
        file = its_records k.manager bs b.image has;
        count = count ∙ loads.count ∙ ap length (sym is);
        end = k_gate ∙ ap gate_place (sym same);
        saved = (let t = total ∙ loads.total in let e = ap size is in omega arith);
        marks = subst M (sym same) (subst L (sym marks) loads.marks);
        reading = subst R (sym same) (stands_first k.manager bs k.end b.image has k_gate);
      };
    }

-- neither a closed gate nor a batch stands behind the records
pub loads_broken : (rs : List (List ℕ)) (l k : Progress) (a b : SiteState) → Loads rs l a → Reads a b → l.reading.left ≡ 0
    → IsBroken l.reading.place (part l.reading.place l.len a.image) → k.manager ≡ l.manager
    → IsBrokenAt k.manager (l.count + 1) b.image × (l.count + 1 ≡ length rs + 1)
loads_broken rs l k a b loads reads none broken manager =
    let bs = loads.batches in
    let standing = loads.reading.place in
    let gate : l.reading.place ≡ gate_place bs = omega arith in
    let at_end : l.reading.place ≡ l.end = gate ∙ sym loads.end in
    let all = all_given bs rs l.reading l.len a.image loads.reading none in
    let rest : part l.reading.place l.len a.image ≡ drop l.end a.image =
    part_all l.reading.place l.len a.image loads.len ∙ ap (λ v. drop v a.image) at_end in
    let P : ℕ → List ℕ → Type 0 = λ p v. IsBroken p v in
    let Q : ℕ → Type 0 = λ v. P v (drop l.end a.image) in
    let R : List ℕ → Type 0 = λ v. P l.reading.place v in
    let B : ℕ → Type 0 = λ v. IsBrokenAt v (l.count + 1) b.image in
    let C : List ℕ → Type 0 = λ v. IsBrokenAt l.manager (l.count + 1) v in (
      subst B (sym manager) (subst C (sym reads.same) (record {
        batches = bs;
        rest = drop l.end a.image;
        begins = loads.begins;
        place = ap (λ v. v + 1) (loads.count ∙ ap length (sym all));
        broken = subst Q gate (subst R rest broken);
      })),
      ap (λ v. v + 1) loads.count,
    )

-- a sync and two reads
pub syncs_and_reads : {T E : Type 0} (r : Result T E) (a b c d : SiteState) → Syncs r a b → Reads b c → Reads c d → SyncsAndReads a d
syncs_and_reads r a b c d sync first second = record {
  on_file = on_file-reads Same a b d sync.on_file (reads-then b c d first second).on_file (λ i. refl);
  same = (reads-then b c d first second).same ∙ sync.same;
}

-- a file with a header, before its first record is read
pub loads_none : (l : Progress) (s : SiteState) → IsSettled s → HasHeader l.manager s.image → l.count ≡ 0 → l.end ≡ 32 → l.total ≡ 32
    → l.len ≡ length s.image → l.marks ≡ [] → l.reading ≡ standing_at 32 → Loads [] l s
loads_none l s settled has count end total len marks reading =
    let long : 32 ≤ length s.image = header_long l.manager s.image has in
    let first : StandsBehind [] [] (standing_at 32) l.len s.image = record {
      waiting = [];
      records = refl;
      each = All-nil IsRecord;
      bytes = refl;
      left = refl;
      place = refl;
      ahead = record { long = omega arith; is = refl; within = omega arith };
    } in
    let R : Reading → Type 0 = λ v. StandsBehind [] [] v l.len s.image in
    record {
      settled = settled;
      header = has;
      batches = [];
      begins = record {
        is = sym (take-append-drop 32 s.image) ∙ ap (λ v. v ++ drop 32 s.image) (has.front ∙ sym (append-nil (header l.manager)))
            ∙ ap (λ v. header l.manager ++ [] ++ drop v s.image) (sym end);
        each = λ k d lt. absurd (omega arith);
        small = omega arith;
      };
      reading = subst R (sym reading) first;
      count = count;
      end = end;
      total = total;
      len = len;
      marks = (let P : List Mark → Type 0 = λ v. All (IsMark []) v in subst P (sym marks) (All-nil (IsMark [])));
    }

-- a read more
pub syncs_then_reads : (a b c : SiteState) → SyncsAndReads a b → Reads b c → SyncsAndReads a c
syncs_then_reads a b c first second = record {
  on_file = on_file-reads Same a b c first.on_file second.on_file (λ i. refl);
  same = second.same ∙ first.same;
}

-- the answer is another fault than the disk's, and none was counted
pub no_fault : {T : Type 0} (r : Result T LoadFault) (other : LoadFault) (asked now : SiteCounts) → r ≡ Err other → ¬ (other ≡ fault.Disk)
    → now ≡ asked
    → FailsWhere (r ≡ Err fault.Disk) asked now
no_fault {T = T} r other asked now is ne stays = record {
  rose = λ disk. absurd (ne (let both : ◌≡◌ {A = Result T LoadFault} (Err other) (Err fault.Disk) = sym is ∙ disk in cc both));
  stays = λ _. stays;
}

-- why a step found none is why there is no journal
pub failed_load : (rs : List (List ℕ)) (e : LoadFault) (l k : Progress) (a b : SiteState) → Loads rs l a → Reads a b → k.manager ≡ l.manager
    → Finds rs (Err e) k b → Loaded (Err e) b
failed_load rs fault.Unmade l k a b loads reads same finds = absurd finds
failed_load rs (fault.Foreign place) l k a b loads reads same finds = absurd finds
failed_load rs (fault.Broken n) l k a b loads reads same finds =
    let P : List ℕ → Type 0 = λ v. HasHeader k.manager v in
    let Q : ℕ → Type 0 = λ v. HasHeader v a.image in
    (k.manager, subst P (sym reads.same) (subst Q (sym same) loads.header), finds.0)
failed_load rs fault.Disk l k a b loads reads same finds = tt
failed_load rs fault.Memory l k a b loads reads same finds = absurd finds

-- what syncs and reads leaves the jobs alone
pub loading_keeps : (a b : SiteState) → SyncsAndReads a b → KeepsJobs a b
loading_keeps a b read = keeps_one Same a b read.on_file

-- what reads leaves the jobs alone
pub reading_keeps : (a b : SiteState) → Reads a b → KeepsJobs a b
reading_keeps a b read = keeps_one Same a b read.on_file
