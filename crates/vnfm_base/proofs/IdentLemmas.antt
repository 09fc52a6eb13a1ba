-- What the text and the bytes of an identifier give back.
use Rattle.std.proofs.Common.{◌≡◌, ℕ, ◌+◌, ◌^◌, ◌<◌, List, [], ◌∷◌, ◌++◌, length, drop, All, Some, refl, sym, ◌∙◌, ap, arith, inl}
use Rattle.std.specs.Int.{to_be_bytes, w32, w64}
use Rattle.std.proofs.lemmas.List.Elements.{All-from_recursion}
use Rattle.uuid.specs.Text.{hyphenated_text, lower, parsed}
use Rattle.uuid.proofs.TextLemmas.{by_index_length}
use Rattle.uuid.proofs.RoundTrips.{parses_hyphenated}
use Rattle.vnfm_base.specs.declared.identifier.Kind.{Kind}
use Rattle.vnfm_base.specs.declared.identifier.Kind.TheVariants.{Instance, Occurrence, Subscription, Notice}
use Rattle.vnfm_base.specs.Ident.{ident, ident_text, kind_byte}

-- the text of a UUID has 36 bytes
pub length_hyphenated : (id : List ℕ) → length (hyphenated_text lower id) ≡ 36
length_hyphenated id = by_index_length 36 _

-- an identifier has sixteen bytes
pub length-ident : (manager : ℕ) (kind : Kind) (n : ℕ) → length (ident manager kind n) ≡ 16
unfolding ident
length-ident manager kind n = refl

-- its last eight hold the number
pub drop-ident : (manager : ℕ) (kind : Kind) (n : ℕ) → drop 8 (ident manager kind n) ≡ to_be_bytes w64 (2 ^ 63 + n)
unfolding ident
drop-ident manager kind n = refl

-- the byte of a kind is one
pub byte-kind : (kind : Kind) → kind_byte kind < 256
byte-kind Instance = omega arith
byte-kind Occurrence = omega arith
byte-kind Subscription = omega arith
byte-kind Notice = omega arith

-- each of them is a byte
pub bytes-ident : (manager : ℕ) (kind : Kind) (n : ℕ) → All (λ b. b < 256) (ident manager kind n)
unfolding ident
bytes-ident manager kind n =
    let small : kind_byte kind < 256 = byte-kind kind in
    All-from_recursion (λ b. b < 256) (to_be_bytes w32 manager ++ (118 ∷ 109 ∷ 128 ∷ kind_byte kind ∷ [] ++ to_be_bytes w64 (2 ^ 63 + n))) (
      omega arith,
      (
        omega arith,
        (
          omega arith,
          (
            omega arith,
            (
              omega arith,
              (
                omega arith,
                (
                  omega arith,
                  (
                    small,
                    (
                      omega arith,
                      (
                        omega arith,
                        (
                          omega arith,
                          (
                            omega arith,
                            (omega arith, (omega arith, (omega arith, (omega arith, tt)))),
                          ),
                        ),
                      ),
                    ),
                  ),
                ),
              ),
            ),
          ),
        ),
      ),
    )

-- its text parses to it
pub parsed-ident : (manager : ℕ) (kind : Kind) (n : ℕ) → Some (ident manager kind n) ≡ parsed (ident_text (ident manager kind n))
unfolding ident_text
parsed-ident manager kind n =
    parses_hyphenated lower (ident manager kind n) (inl refl) (length-ident manager kind n) (bytes-ident manager kind n)

-- whatever parses as that text is that identifier
pub parsed-same : (text id : List ℕ) (manager : ℕ) (kind : Kind) (n : ℕ) → Some id ≡ parsed text
    → text ≡ ident_text (ident manager kind n) → drop 8 id ≡ to_be_bytes w64 (2 ^ 63 + n)
parsed-same text id manager kind n parses is =
    let found : Some id ≡ Some (ident manager kind n) = parses ∙ ap parsed is ∙ sym (parsed-ident manager kind n) in
    let same : id ≡ ident manager kind n = cc in
    ap (drop 8) same ∙ drop-ident manager kind n
