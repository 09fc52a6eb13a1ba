-- What a write leaves of a file whose front is known: of one that begins behind a byte, and of one of that byte alone.
use Rattle.std.proofs.Common.{Result, Ok, Err, OnOk, ◌≡◌, ◌∙◌, sym, ap, ℕ, ◌+◌, ◌<◌, List, [], ◌∷◌, ◌++◌, length, take, drop, get_or}
use Rattle.std.proofs.Common.{append_assoc, length-append, refl, arith}
use Rattle.std.proofs.lemmas.List.{take-append-drop, take_at, drop_at, drop_more, length_push}
use Rattle.site_traits.specs.Site.{SiteState, Torn, Holds, OnFile, Writes, Syncs, WritesThrough}
use Rattle.site_traits.specs.Moments.{on_file-reads}

-- the byte behind the front goes with it
pushed : (front tail : List ℕ) (gate : ℕ) → front ++ gate ∷ tail ≡ (front ++ gate ∷ []) ++ tail
pushed front tail gate = sym (append_assoc front (gate ∷ []) tail)

-- a write behind that byte that a stop cuts short leaves anything behind it
pub torn_behind : (front tail : List ℕ) (gate n : ℕ) (new : List ℕ) → Torn (length front + 1) n (front ++ gate ∷ tail) new
    → (t : List ℕ) × (new ≡ front ++ gate ∷ t)
torn_behind front tail gate n new torn =
    let k = length front + 1 in
    let old_front : take k (front ++ gate ∷ tail) ≡ front ++ gate ∷ [] =
    ap (take k) (pushed front tail gate) ∙ take_at (front ++ gate ∷ []) tail k (length_push front gate) in (
      drop k new,
      sym (take-append-drop k new) ∙ ap (λ v. v ++ drop k new) (torn.before ∙ old_front)
          ∙ append_assoc front (gate ∷ []) (drop k new),
    )

-- a write behind that byte that succeeded leaves the bytes there
pub written_behind : (front tail : List ℕ) (gate : ℕ) (bytes new : List ℕ) → Holds (front ++ gate ∷ tail) (length front + 1) bytes new
    → (t : List ℕ) × (new ≡ front ++ gate ∷ (bytes ++ t))
written_behind front tail gate bytes new holds =
    let k = length front + 1 in
    let rest = drop (k + length bytes) (front ++ gate ∷ tail) in
    let old_front : take k (front ++ gate ∷ tail) ≡ front ++ gate ∷ [] =
    ap (take k) (pushed front tail gate) ∙ take_at (front ++ gate ∷ []) tail k (length_push front gate) in (
      rest,
      holds ∙ append_assoc (take k (front ++ gate ∷ tail)) bytes rest ∙ ap (λ v. v ++ (bytes ++ rest)) old_front
          ∙ append_assoc front (gate ∷ []) (bytes ++ rest),
    )

-- a write of that byte that a stop cuts short leaves any byte there
pub torn_gate : (front tail : List ℕ) (gate : ℕ) (new : List ℕ) → Torn (length front) 1 (front ++ gate ∷ tail) new
    → (g : ℕ) × (new ≡ front ++ g ∷ tail)
torn_gate front tail gate new torn =
    let k = length front in
    let old = front ++ gate ∷ tail in
    let old_len : length old ≡ k + (1 + length tail) = length-append front (gate ∷ tail) ∙ (omega arith) in
    let no_shorter = torn.no_shorter in
    let there : k < length new = omega arith in
    let fronts : take k new ≡ front = torn.before ∙ take_at front (gate ∷ tail) k refl in
    let tails : drop (k + 1) new ≡ tail =
    torn.after ∙ ap (drop (k + 1)) (pushed front tail gate) ∙ drop_at (front ++ gate ∷ []) tail (k + 1) (length_push front gate) in (
      get_or new k 0,
      sym (take-append-drop k new) ∙ ap (λ v. v ++ drop k new) fronts
          ∙ ap (λ v. front ++ v) (drop_more new k 0 there ∙ ap (λ v. get_or new k 0 ∷ v) tails),
    )

-- a write of that byte that succeeded leaves the new one
pub written_gate : (front tail : List ℕ) (gate byte : ℕ) (new : List ℕ) → Holds (front ++ gate ∷ tail) (length front) (byte ∷ []) new
    → new ≡ front ++ byte ∷ tail
written_gate front tail gate byte new holds =
    let k = length front in
    let rest : drop (k + 1) (front ++ gate ∷ tail) ≡ tail =
    ap (drop (k + 1)) (pushed front tail gate) ∙ drop_at (front ++ gate ∷ []) tail (k + 1) (length_push front gate) in
    holds ∙ append_assoc (take k (front ++ gate ∷ tail)) (byte ∷ []) (drop (k + 1) (front ++ gate ∷ tail))
    ∙ ap (λ v. v ++ byte ∷ drop (k + 1) (front ++ gate ∷ tail)) (take_at front (gate ∷ tail) k refl) ∙ ap (λ v. front ++ byte ∷ v) rest

-- nothing written is a torn write
pub torn-refl : (at n : ℕ) (i : List ℕ) → Torn at n i i
torn-refl at n i = record { before = refl; after = refl; no_shorter = omega arith; no_longer = omega arith }

-- what holds anyway holds where it succeeded
pub on_ok_anyway : {T E P : Type 0} (r : Result T E) → P → OnOk r P
on_ok_anyway (Ok x) p = p
on_ok_anyway (Err e) p = tt

-- a write that succeeded, and a sync
pub written_through : {T E : Type 0} (at : ℕ) (bytes : List ℕ) (r : Result T E) (a b c : SiteState) → OnFile (Torn at (length bytes)) a b
    → Holds a.image at bytes b.image
    → Syncs r b c → WritesThrough at bytes r a c
written_through at bytes r a b c wrote holds syncs = record {
  on_file = on_file-reads (Torn at (length bytes)) a b c wrote syncs.on_file (torn-refl at (length bytes));
  holds = on_ok_anyway r (syncs.same ∙ holds);
  settled = syncs.settled;
}

-- a write that failed
pub write_failed : {T E U V : Type 0} (at : ℕ) (bytes : List ℕ) (e : E) (r : Result U V) (a b : SiteState) → Writes at bytes r a b
    → WritesThrough {T = T} at bytes (Err e) a b
write_failed at bytes e r a b wrote = record { on_file = wrote.on_file; holds = tt; settled = tt }
