-- Records that only grow.
use Rattle.std.proofs.Common.{◌≡◌, ◌∙◌, ap, ℕ, suc, List, [], ◌∷◌, ◌++◌, length, take, drop, map, All, length-append, length-drop, refl}
use Rattle.std.proofs.Common.{arith, subst, sym, ◌+◌}
use Rattle.std.proofs.lemmas.List.{take-append-le, drop-append-le, drop_at, map_push, take_all}
use Rattle.std.proofs.lemmas.List.Elements.{All-push}
use Rattle.std.proofs.lemmas.List.Sums.{sum_by_push}
use Rattle.site_traits.specs.declared.log.Entry.{Entry}
use Rattle.site_traits.specs.Log.{entry_of, size_of, IsWithin, IsKept}

-- an entry stays as it is where more bytes come
pub entry_stays : {T : Type 0} (bytes more : List ℕ) (e : Entry T) → IsWithin bytes e → entry_of (bytes ++ more) e ≡ entry_of bytes e
entry_stays bytes more e within =
    ap (λ v. (e.what, v))
    (ap (take e.len) (drop-append-le e.from bytes more (omega arith))
    ∙ take-append-le e.len (drop e.from bytes) more (let d = length-drop e.from bytes in omega arith))

pub entries_stay : {T : Type 0} (bytes more : List ℕ) (es : List (Entry T)) → All (IsWithin bytes) es
    → map (entry_of (bytes ++ more)) es ≡ map (entry_of bytes) es
entries_stay bytes more [] all = refl
entries_stay {T} bytes more (e ∷ es) all =
    ap (λ v. v ∷ map (entry_of (bytes ++ more)) es) (entry_stays bytes more e (all 0 e (omega arith)))
    ∙ ap (λ v. entry_of bytes e ∷ v) (entries_stay bytes more es (λ k d lt. all (suc k) d (omega arith)))

pub within_stays : {T : Type 0} (bytes more : List ℕ) (es : List (Entry T)) → All (IsWithin bytes) es → All (IsWithin (bytes ++ more)) es
within_stays bytes more es all = λ k d lt. let h = all k d lt in omega (arith, length-append bytes more)

-- one call more
pub log_push : {T : Type 0} (es fs : List (Entry T)) (bytes more all : List ℕ) (what : T) (from len : ℕ) → All (IsWithin bytes) es
    → all ≡ bytes ++ more
    → fs ≡ es ++ (record { what = what; from = from; len = len }) ∷ [] → from ≡ length bytes → len ≡ length more
    → map (entry_of all) fs ≡ map (entry_of bytes) es ++ (what, more) ∷ []
log_push {T} es fs bytes more all what from len within all_is fs_is from_is len_is =
    let e : Entry T = record { what = what; from = from; len = len } in
    let last : entry_of (bytes ++ more) e ≡ (what, more) =
    ap (λ v. (what, v)) (ap (λ v. take len (drop v (bytes ++ more))) from_is ∙ ap (take len) (drop_at bytes more (length bytes) refl)
    ∙ ap (λ v. take v more) len_is ∙ take_all (length more) more (omega arith)) in
    ap (λ v. map (entry_of v) fs) all_is ∙ ap (map (entry_of (bytes ++ more))) fs_is ∙ map_push (entry_of (bytes ++ more)) es e
    ∙ ap (λ v. v ++ entry_of (bytes ++ more) e ∷ []) (entries_stay bytes more es within)
    ∙ ap (λ v. map (entry_of bytes) es ++ v ∷ []) last

-- one call more, and its bytes
pub kept_push : {T : Type 0} (es fs : List (Entry T)) (bytes more all : List ℕ) (what : T) (from len : ℕ) → IsKept bytes es
    → all ≡ bytes ++ more
    → fs ≡ es ++ (record { what = what; from = from; len = len }) ∷ [] → from ≡ length bytes → len ≡ length more → IsKept all fs
kept_push {T} es fs bytes more all what from len kept all_is fs_is from_is len_is =
    let e : Entry T = record { what = what; from = from; len = len } in
    let both : length (bytes ++ more) ≡ length bytes + length more = length-append bytes more in
    let calls : map (entry_of all) fs ≡ map (entry_of bytes) es ++ (what, more) ∷ [] =
    log_push es fs bytes more all what from len kept.within all_is fs_is from_is len_is in
    let size : size_of (map (entry_of all) fs) ≡ size_of (map (entry_of bytes) es) + length more =
    ap size_of calls ∙ sum_by_push (λ (c : T × List ℕ). length c.1) (map (entry_of bytes) es) (what, more) in
    let long : length all ≡ length bytes + length more = ap length all_is ∙ both in
    record {
      within = (let P : List ℕ → Type 0 = λ v. All (IsWithin v) fs in subst P (sym all_is)
          (let Q : List (Entry T) → Type 0 = λ v. All (IsWithin (bytes ++ more)) v in subst Q (sym fs_is)
          (All-push (IsWithin (bytes ++ more)) es e (within_stays bytes more es kept.within) (omega (arith, both, from_is, len_is)))));
      size = omega (arith, size, long, kept.size);
    }
