-- Records are packed in one way.
use Rattle.std.proofs.Common.{◌≡◌, ◌∙◌, ◌≤◌, ◌<◌, sym, ap, refl, arith, ⊎_elim, ℕ, ◌+◌, List, [], ◌∷◌, ◌++◌, length, All}
use Rattle.std.proofs.Common.{length-append}
use Rattle.std.proofs.lemmas.Bool.{cases_lt}
use Rattle.journal_records.specs.File.{blocks, content, framed, gate_place, held, records_of_all, IsBatch}
use Rattle.journal_records.specs.declared.limits.TheConstants.{MAX_FILE}
use Rattle.journal_records.proofs.HeadLemmas.{framed_length}
use Rattle.journal_core.proofs.Records.{batch_first, batch_rest}
use Rattle.journal_migration.specs.Packing.{AreFull, ArePacked, IsFirstUnfit}
use Rattle.journal_migration.specs.declared.packing.Full.{Full}

-- of two fronts of a list the longer one goes on with what stands behind the shorter
split_of : {X : Type 0} (b c x y : List X) → b ++ x ≡ c ++ y → length b < length c
    → (r : X) × (between : List X) × (rest : List X) × (c ≡ b ++ r ∷ between) × (x ≡ r ∷ rest)
split_of [] [] x y same less = absurd (omega (arith, less))
split_of [] (z ∷ c) x y same less = (z, c, c ++ y, refl, same)
split_of (w ∷ b) [] x y same less = absurd (omega (arith, less))
split_of {X = X} (w ∷ b) (z ∷ c) x y same less =
    let first : w ≡ z = cc in
    let behind : b ++ x ≡ c ++ y = cc in
    let found = split_of b c x y behind (omega (arith, less)) in
    (found.0, found.1, found.2, ap (λ (t : List X). z ∷ t) found.3 ∙ ap (λ (t : X). t ∷ b ++ found.0 ∷ found.1) (sym first), found.4)

-- two fronts of one length are one
same_front : {X : Type 0} (b c x y : List X) → b ++ x ≡ c ++ y → length b ≡ length c → (b ≡ c) × (x ≡ y)
same_front [] [] x y same long = (refl, same)
same_front [] (z ∷ c) x y same long = absurd (omega (arith, long))
same_front (w ∷ b) [] x y same long = absurd (omega (arith, long))
same_front {X = X} (w ∷ b) (z ∷ c) x y same long =
    let first : w ≡ z = cc in
    let behind : b ++ x ≡ c ++ y = cc in
    let rest = same_front b c x y behind (omega (arith, long)) in
    (ap (λ (t : X). t ∷ b) first ∙ ap (λ (t : List X). z ∷ t) rest.0, rest.1)

-- the content of records in two parts
content_long : (xs ys : List (List ℕ)) → length (content (xs ++ ys)) ≡ length (content xs) + length (content ys)
content_long [] ys = omega arith
content_long (x ∷ xs) ys =
    let rest = content_long xs ys in
    omega (arith, rest, length-append (held x) (content (xs ++ ys)), length-append (held x) (content xs))

-- a batch goes on only where that before had no room, which no batch of that front is for
no_longer : (b c : List (List ℕ)) (bs : List (List (List ℕ))) (r : List ℕ) (between rest : List (List ℕ)) → AreFull (b ∷ bs) → All IsBatch bs
    → IsBatch c → c ≡ b ++ r ∷ between → records_of_all bs ≡ r ∷ rest → ⊥
no_longer b c [] r between rest full each one is same = omega (arith, ap length same)
no_longer b c ([] ∷ bs) r between rest full each one is same = omega (arith, (batch_first [] bs each).some)
no_longer b c ((q ∷ more) ∷ bs) r between rest full each one is same =
    let first : q ≡ r = cc in
    let long = ap (λ v. length (content v)) is in
    omega (arith, full.0, one.fits, long, content_long b (r ∷ between), length-append (held r) (content between), ap (λ v. length (held v)) first)

same_batches : (bs cs : List (List (List ℕ))) → All IsBatch bs → All IsBatch cs → AreFull bs → AreFull cs
    → records_of_all bs ≡ records_of_all cs → bs ≡ cs
same_batches [] [] each others full also same = refl
same_batches [] (c ∷ cs) each others full also same =
    absurd (omega (arith, ap length same, length-append c (records_of_all cs), (batch_first c cs others).some))
same_batches (b ∷ bs) [] each others full also same =
    absurd (omega (arith, ap length same, length-append b (records_of_all bs), (batch_first b bs each).some))
same_batches (b ∷ bs) (c ∷ cs) each others full also same = ⊎_elim
    (λ (less : length b < length c).
    let found = split_of b c (records_of_all bs) (records_of_all cs) same less in
    absurd (no_longer b c bs found.0 found.1 found.2 full (batch_rest b bs each) (batch_first c cs others) found.3 found.4))
    (λ (least : length c ≤ length b). ⊎_elim
    (λ (less : length c < length b).
    let found = split_of c b (records_of_all cs) (records_of_all bs) (sym same) less in
    absurd (no_longer c b cs found.0 found.1 found.2 also (batch_rest c cs others) (batch_first b bs each) found.3 found.4))
    (λ (most : length b ≤ length c).
    let parts = same_front b c (records_of_all bs) (records_of_all cs) same (omega (arith, least, most)) in
    ap (λ (t : List (List ℕ)). t ∷ bs) parts.0
    ∙ ap (λ (t : List (List (List ℕ))). c ∷ t)
    (same_batches bs cs (batch_rest b bs each) (batch_rest c cs others) full.1 also.1 parts.1))
    (cases_lt (length c) (length b)))
    (cases_lt (length b) (length c))

pub packed_once : (rs : List (List ℕ)) (bs cs : List (List (List ℕ))) → ArePacked rs bs → ArePacked rs cs → bs ≡ cs
packed_once rs bs cs one other = same_batches bs cs one.each other.each one.full other.full (one.records ∙ sym other.records)

-- the bytes of batches in two parts
blocks_long : (xs ys : List (List (List ℕ))) → length (blocks (xs ++ ys)) ≡ length (blocks xs) + length (blocks ys)
blocks_long [] ys = omega arith
blocks_long (x ∷ xs) ys =
    let rest = blocks_long xs ys in
    omega (arith, rest, length-append (framed x) (blocks (xs ++ ys)), length-append (framed x) (blocks xs))

-- a file that has room for all batches has room for each
pub fits_not : (bs : List (List (List ℕ))) (unfit : Full) → gate_place bs < MAX_FILE → IsFirstUnfit unfit bs → ⊥
fits_not bs unfit small first =
    omega (
      arith,
      small,
      first.passes,
      first.end,
      first.more,
      ap (λ v. length (blocks v)) first.splits,
      blocks_long first.before (first.batch ∷ first.behind),
      length-append (framed first.batch) (blocks first.behind),
      framed_length first.batch,
    )

not_before : (bs : List (List (List ℕ))) (f g : Full) → (one : IsFirstUnfit f bs) → (other : IsFirstUnfit g bs)
    → length one.before < length other.before → ⊥
not_before bs f g one other less =
    let found = split_of one.before other.before (one.batch ∷ one.behind) (other.batch ∷ other.behind) (sym one.splits ∙ other.splits) less in
    let first : one.batch ≡ found.0 = (let e = found.4 in cc) in
    omega (
      arith,
      one.passes,
      one.end,
      one.more,
      other.fits,
      ap (λ v. length (blocks v)) found.3,
      blocks_long one.before (found.0 ∷ found.1),
      length-append (framed found.0) (blocks found.1),
      framed_length found.0,
      ap (λ v. length (content v)) first,
    )

-- of batches the first for which a file has no room is one
pub first_once : (bs : List (List (List ℕ))) (f g : Full) → IsFirstUnfit f bs → IsFirstUnfit g bs → (f.end ≡ g.end) × (f.more ≡ g.more)
first_once bs f g one other = ⊎_elim
    (λ (less : length one.before < length other.before). absurd (not_before bs f g one other less))
    (λ (least : length other.before ≤ length one.before). ⊎_elim
    (λ (less : length other.before < length one.before). absurd (not_before bs g f other one less))
    (λ (most : length one.before ≤ length other.before).
    let parts = same_front one.before other.before (one.batch ∷ one.behind) (other.batch ∷ other.behind) (sym one.splits ∙ other.splits)
    (omega (arith, least, most)) in
    let batch : one.batch ≡ other.batch = (let e = parts.1 in cc) in
    (one.end ∙ ap gate_place parts.0 ∙ sym other.end, one.more ∙ ap (λ v. length (content v)) batch ∙ sym other.more))
    (cases_lt (length other.before) (length one.before)))
    (cases_lt (length one.before) (length other.before))
