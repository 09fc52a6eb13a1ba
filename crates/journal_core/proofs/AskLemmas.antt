-- Calls in a row, by what they ask of the site.
use Rattle.std.proofs.Common.{◌≡◌, ◌∙◌, sym, ap, refl, Bool, List, [], ◌∷◌, ◌++◌, append_assoc, length-append, Result, Ok, Err, arith}
use Rattle.site_traits.specs.Counts.{SiteCounts, Ask, asked, all_asked, disk_failed, DiskCause, StopsIn, Asks}
use Rattle.site_traits.specs.Counts.Ask.{write, cut, sync}
use Rattle.std.proofs.Common.{IsErr}
use Rattle.std.proofs.lemmas.Result.{IfOk-from_err}
use Rattle.site_traits.specs.Counts.{OnlyDiskFails, one_more}
use Rattle.journal_core.specs.declared.create.CreateFault.{CreateFault}
use Rattle.journal_core.specs.declared.create.CreateFault.TheVariants as creating
use Rattle.journal_core.specs.declared.journal.AppendFault.{AppendFault}
use Rattle.journal_core.specs.declared.journal.AppendFault.TheVariants as appending
use Rattle.journal_core.specs.Asking.{through, to_make, AppendAsks, AsksToMake}

-- what was asked for in two parts
pub all_asked-append : (xs ys : List Ask) (c : SiteCounts) → all_asked (xs ++ ys) c ≡ all_asked ys (all_asked xs c)
all_asked-append [] ys c = refl
all_asked-append (x ∷ xs) ys c = all_asked-append xs ys (asked x c)

-- a call that failed is the last one, whatever was to follow
pub stops_more : (xs ys : List Ask) (a b : SiteCounts) → StopsIn xs a b → StopsIn (xs ++ ys) a b
stops_more xs ys a b s = record {
  made = s.made;
  rest = s.rest ++ ys;
  front = ap (λ v. v ++ ys) s.front ∙ append_assoc s.made s.rest ys;
  some = s.some;
  counts = s.counts;
}

-- what came before counts too
pub stops_after : (xs ys : List Ask) (a m b : SiteCounts) → m ≡ all_asked xs a → StopsIn ys m b → StopsIn (xs ++ ys) a b
stops_after xs ys a m b is s = record {
  made = xs ++ s.made;
  rest = s.rest;
  front = ap (λ v. xs ++ v) s.front ∙ sym (append_assoc xs s.made s.rest);
  some = (let some = s.some in let long = length-append xs s.made in omega arith);
  counts = s.counts ∙ ap (λ (v : SiteCounts). disk_failed (all_asked s.made v)) is ∙ ap disk_failed (sym (all_asked-append xs s.made a));
}

-- one part of the calls, and then the other
pub asks_then : {T E : Type 0} (xs ys : List Ask) (r : Result T E) (a m b : SiteCounts) → m ≡ all_asked xs a → Asks ys r m b
    → Asks (xs ++ ys) r a b
asks_then xs ys (Ok done) a m b is asks = record { done = asks.done ∙ ap (all_asked ys) is ∙ sym (all_asked-append xs ys a); failed = tt }
asks_then xs ys (Err fault) a m b is asks = record { done = tt; failed = stops_after xs ys a m b is asks.failed }

-- a write that failed
pub write_stops : (a b : SiteCounts) → b ≡ disk_failed (asked write a) → StopsIn (through 1) a b
write_stops a b is = record { made = write ∷ []; rest = sync ∷ []; front = refl; some = omega arith; counts = is }

-- a write, and then a sync
pub write_and_sync : {T E : Type 0} (r : Result T E) (a m b : SiteCounts) → m ≡ asked write a → DiskCause (asked sync m) b r
    → Asks (through 1) r a b
write_and_sync (Ok done) a m b is cause = record { done = cause.done ∙ ap (asked sync) is; failed = tt }
write_and_sync (Err fault) a m b is cause =
    record {
      done = tt;
      failed = record {
        made = write ∷ sync ∷ [];
        rest = [];
        front = refl;
        some = omega arith;
        counts =
            cause.failed ∙ ap (λ (v : SiteCounts). disk_failed (asked sync v)) is;
      };
    }

-- a cut that failed, and a cut and then a sync
pub cut_stops : (a b : SiteCounts) → b ≡ disk_failed (asked cut a) → StopsIn (cut ∷ sync ∷ []) a b
cut_stops a b is = record { made = cut ∷ []; rest = sync ∷ []; front = refl; some = omega arith; counts = is }

pub cut_and_sync : {T E : Type 0} (r : Result T E) (a m b : SiteCounts) → m ≡ asked cut a → DiskCause (asked sync m) b r
    → Asks (cut ∷ sync ∷ []) r a b
cut_and_sync (Ok done) a m b is cause = record { done = cause.done ∙ ap (asked sync) is; failed = tt }
cut_and_sync (Err fault) a m b is cause =
    record {
      done = tt;
      failed = record {
        made = cut ∷ sync ∷ [];
        rest = [];
        front = refl;
        some = omega arith;
        counts =
            cause.failed ∙ ap (λ (v : SiteCounts). disk_failed (asked sync v)) is;
      };
    }

-- the first sync failed, or a read behind it
pub sync_stops : (asks : List Ask) (a b : SiteCounts) → b ≡ disk_failed (asked sync a) → StopsIn (sync ∷ asks) a b
sync_stops asks a b is = record { made = sync ∷ []; rest = asks; front = refl; some = omega arith; counts = is }

-- one of these failed
pub asks_failed : {T E : Type 0} (asks : List Ask) (r : Result T E) (a b : SiteCounts) → IsErr r → StopsIn asks a b → Asks asks r a b
asks_failed {T = T} {E = E} asks (Ok done) a b err s = record {
  done =
      IfOk-from_err {T = T} {E = E} (Ok done) (λ _. b ≡ all_asked asks a) err;
  failed = tt;
}
asks_failed {T = T} {E = E} asks (Err fault) a b err s = record { done = tt; failed = s }

-- the faults that are counted
record SameFaults (a b : SiteCounts) : Type 0 where
  disk : b.disk ≡ a.disk
  vim : b.vim ≡ a.vim
  look : b.look ≡ a.look
  refusals : b.refusals ≡ a.refusals

asked-faults : (ask : Ask) (a : SiteCounts) → SameFaults a (asked ask a)
asked-faults write a = record { disk = refl; vim = refl; look = refl; refusals = refl }
asked-faults cut a = record { disk = refl; vim = refl; look = refl; refusals = refl }
asked-faults sync a = record { disk = refl; vim = refl; look = refl; refusals = refl }

-- what is asked for counts no fault
all_asked-faults : (asks : List Ask) (a : SiteCounts) → SameFaults a (all_asked asks a)
all_asked-faults [] a = record { disk = refl; vim = refl; look = refl; refusals = refl }
all_asked-faults (ask ∷ asks) a =
    let one = asked-faults ask a in
    let more = all_asked-faults asks (asked ask a) in
    record { disk = more.disk ∙ one.disk; vim = more.vim ∙ one.vim; look = more.look ∙ one.look; refusals = more.refusals ∙ one.refusals }

-- one of these failed, which is one disk fault
pub stops_fails : (asks : List Ask) (failed : Type 0) (a b : SiteCounts) → StopsIn asks a b → failed → OnlyDiskFails failed a b
stops_fails asks failed a b s is =
    let same = all_asked-faults s.made a in
    record {
      rose = λ _. ap (λ (v : SiteCounts). v.disk) s.counts ∙ ap one_more same.disk;
      stays = λ never. absurd (never is);
      vim = ap (λ (v : SiteCounts). v.vim) s.counts ∙ same.vim;
      look = ap (λ (v : SiteCounts). v.look) s.counts ∙ same.look;
      refusals = ap (λ (v : SiteCounts). v.refusals) s.counts ∙ same.refusals;
    }

-- none of these failed
pub asked_fails : (asks : List Ask) (failed : Type 0) (a b : SiteCounts) → b ≡ all_asked asks a → ¬ failed → OnlyDiskFails failed a b
asked_fails asks failed a b is never =
    let same = all_asked-faults asks a in
    record {
      rose = λ yes. absurd (never yes);
      stays = λ _. ap (λ (v : SiteCounts). v.disk) is ∙ same.disk;
      vim = ap (λ (v : SiteCounts). v.vim) is ∙ same.vim;
      look = ap (λ (v : SiteCounts). v.look) is ∙ same.look;
      refusals = ap (λ (v : SiteCounts). v.refusals) is ∙ same.refusals;
    }

-- the faults of an append
pub append_fails : {T : Type 0} (r : Result T AppendFault) (a b : SiteCounts) → AppendAsks r a b
    → OnlyDiskFails (r ≡ Err appending.Disk) a b
append_fails (Ok done) a b asks = asked_fails (through 2) _ a b asks (λ wrong. cc wrong)
append_fails (Err (appending.Full end more)) a b asks = asked_fails [] _ a b asks (λ wrong. cc wrong)
append_fails (Err appending.Disk) a b asks = stops_fails (through 2) _ a b asks refl

-- the faults of the making of a file
pub create_fails : {T : Type 0} (longer : Bool) (r : Result T CreateFault) (a b : SiteCounts) → AsksToMake longer r a b
    → OnlyDiskFails (r ≡ Err creating.Disk) a b
create_fails longer (Ok done) a b asks = asked_fails (sync ∷ to_make longer) _ a b asks (λ wrong. cc wrong)
create_fails longer (Err creating.Taken) a b asks = asked_fails (sync ∷ []) _ a b asks (λ wrong. cc wrong)
create_fails longer (Err creating.Disk) a b asks = stops_fails (sync ∷ to_make longer) _ a b asks refl
