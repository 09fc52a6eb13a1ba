-- Laws on the front of a chunk's size line: what can follow, and what can't.
use Rattle.std.proofs.Common.{◌≡◌, ℕ, ◌+◌, ◌*◌, ◌^◌, ◌<◌, ◌≤◌, Bool, true, false, List, [], ◌∷◌, ◌++◌, length, get_or, take, drop, refl}
use Rattle.std.proofs.Common.{sym, ap, ◌∙◌, subst, arith, pow-add, append_assoc, append-nil, length-append, Option, Some, None}
use Rattle.std.proofs.lemmas.Bool.Decides.{nat_tests}
use Rattle.std.proofs.lemmas.List.{take_more, take-append-drop}
use Rattle.std.proofs.lemmas.List.Elements.{All-nil, All-cons, All-head, All-push}
use Rattle.std.proofs.lemmas.Int.Digits.{digits_value_push}
use Rattle.std.proofs.Math.Nat.{pow-le-pow_right}
use Rattle.std.specs.Char.{is_ascii_hexdigit, digit_value}
use Rattle.std.specs.Str.Parse.{digits_value}
use Rattle.httparse.specs.Grammar.{is_ows, is_extension_byte, AllPass, ChunkLine, IsChunkLine, IsExtension, print_chunk_line}
use Rattle.httparse.specs.Grammar.{print_extension, crlf, print_end, ReadsChunkLine, HasNoChunkLine, NeverHasChunkLine, MayBecomeChunkLine}
use Rattle.httparse.specs.Pieces.{Stops}
use Rattle.httparse.proofs.ChunkLemmas.{chunk_line_unique, chunk_pieces, HexDigits_long}
use Rattle.httparse.proofs.ChunkLemmas.{ReadsChunkLine-append}
use Rattle.httparse.proofs.PieceLemmas.{Never_elim}
use Rattle.httparse.proofs.RunLemmas.{run_unique, Stops-append}
use Rattle.http_frames.specs.Lines.{AreDigits, AreBlanks, StopsDigits, AreExtended, LacksFeed, IsSizeFront, IsSizeLine}
use Rattle.http_frames.specs.declared.lines.SizeLine.{SizeLine}
use Rattle.http_frames.specs.declared.lines.SizeLine.TheVariants as front

-- ---- the parts of a whole line

-- what a size line is behind its digits and behind its blanks, where these are known
behind_digits : (digits x : List ℕ) (l : ChunkLine) (rest : List ℕ) → AllPass is_ascii_hexdigit digits → StopsDigits x
    → ReadsChunkLine (digits ++ x) l rest
    → (l.digits ≡ digits) × (0 < length l.digits) × ((y : List ℕ) × AllPass is_ows l.pad × (x ≡ l.pad ++ y) × Stops is_ows y
    × (y ≡ print_extension l.extension ++ (print_end crlf ++ rest)))
behind_digits digits x l rest each stops reads =
    let p = chunk_pieces (digits ++ x) l rest reads in
    let same = run_unique is_ascii_hexdigit l.digits digits p.0 x p.1.0.0 each p.1.0.2 stops (sym p.1.0.1) in
    (same.0, p.1.1, (p.2.0, p.2.1.0, sym same.1 ∙ p.2.1.1, p.2.1.2, p.2.2.1))

behind_blanks : (digits blanks y : List ℕ) (l : ChunkLine) (rest : List ℕ) → AllPass is_ascii_hexdigit digits → AllPass is_ows blanks
    → StopsDigits (blanks ++ y) → Stops is_ows y → ReadsChunkLine (digits ++ (blanks ++ y)) l rest
    → y ≡ print_extension l.extension ++ (print_end crlf ++ rest)
behind_blanks digits blanks y l rest each blank stops ends reads =
    let d = behind_digits digits (blanks ++ y) l rest each stops reads in
    let same = run_unique is_ows l.pad blanks d.2.0 y d.2.1 blank d.2.3 ends (sym d.2.2) in
    sym same.1 ∙ d.2.4

-- behind the blanks stands a semicolon or CR
not_behind : (b : ℕ) (z : List ℕ) (e : Option (List ℕ)) (rest : List ℕ) → (b ≡ 59 → ⊥) → (b ≡ 13 → ⊥)
    → b ∷ z ≡ print_extension e ++ (print_end crlf ++ rest) → ⊥
not_behind b z None rest semicolon return e = return (cc)
not_behind b z (Some text) rest semicolon return e = semicolon (cc)

-- behind CR stands LF
feed_behind : (b : ℕ) (z : List ℕ) (e : Option (List ℕ)) (rest : List ℕ) → (b ≡ 10 → ⊥)
    → 13 ∷ b ∷ z ≡ print_extension e ++ (print_end crlf ++ rest) → ⊥
feed_behind b z None rest feed e = feed (cc)
feed_behind b z (Some text) rest feed e = cc

-- the extension ends at the first CR
extension_ends : (text z : List ℕ) (b : ℕ) (e : Option (List ℕ)) (rest : List ℕ) → AllPass is_extension_byte text
    → IsExtension e → is_extension_byte b ≡ false → 59 ∷ (text ++ b ∷ z) ≡ print_extension e ++ (print_end crlf ++ rest)
    → b ∷ z ≡ 13 ∷ 10 ∷ rest
extension_ends text z b None rest each is ends e = absurd (cc)
extension_ends text z b (Some t) rest each is ends e =
    (run_unique is_extension_byte text t (b ∷ z) (13 ∷ 10 ∷ rest) each is ends refl (cc)).1

stops_at : (b : ℕ) (z : List ℕ) (test : ℕ → Bool) → test b ≡ false → Stops test (b ∷ z)
stops_at b z test e = e

ows_is_no_digit : (b : ℕ) → is_ows b ≡ true → is_ascii_hexdigit b ≡ false
ows_is_no_digit b ows = grind (arith, nat_tests)

-- blanks are no digits
pub blanks_stop : (blanks y : List ℕ) → AllPass is_ows blanks → StopsDigits y → StopsDigits (blanks ++ y)
blanks_stop [] y each stops = stops
blanks_stop (b ∷ blanks) y each stops = ows_is_no_digit b (All-head (λ v. is_ows v ≡ true) b blanks each)

pub some_blanks_stop : (blanks y : List ℕ) → AllPass is_ows blanks → 0 < length blanks → StopsDigits (blanks ++ y)
some_blanks_stop [] y each some = absurd (omega arith)
some_blanks_stop (b ∷ blanks) y each some = ows_is_no_digit b (All-head (λ v. is_ows v ≡ true) b blanks each)

-- ---- no size line goes on like this

one_more : (w more : List ℕ) (b : ℕ) (l : ChunkLine) (rest : List ℕ) → ReadsChunkLine ((w ++ b ∷ []) ++ more) l rest
    → ReadsChunkLine (w ++ b ∷ more) l rest
one_more w more b l rest reads = subst (λ (x : List ℕ). ReadsChunkLine x l rest) (append_assoc w (b ∷ []) more) reads

-- it has no digit
pub never_begins : (digits : List ℕ) (count size b : ℕ) → AreDigits digits count size → count ≡ 0 → is_ascii_hexdigit b ≡ false
    → NeverHasChunkLine (digits ++ b ∷ [])
never_begins digits count size b a none other more l rest reads =
    let d = behind_digits digits (b ∷ more) l rest a.each other (one_more digits more b l rest reads) in
    let counted = a.counted in
    absurd (omega (arith, ap length d.0, d.1))

-- it has 17 digits
pub never_so_long : (digits : List ℕ) (count size b : ℕ) → AreDigits digits count size → count ≡ 16 → is_ascii_hexdigit b ≡ true
    → NeverHasChunkLine (digits ++ b ∷ [])
never_so_long digits count size b a all digit more l rest reads =
    let long : length (digits ++ b ∷ []) ≡ length digits + 1 = length-append digits (b ∷ []) in
    let counted = a.counted in
    let p = chunk_pieces ((digits ++ b ∷ []) ++ more) l rest reads in
    let each = All-push (λ v. is_ascii_hexdigit v ≡ true) digits b a.each digit in
    Never_elim (HexDigits_long (digits ++ b ∷ []) (omega arith) (λ k lt. each k 0 (omega arith))) more (l.digits, p.0, p.1)

-- neither a blank, a semicolon nor CR stands behind the digits and the blanks
pub never_behind : (digits blanks : List ℕ) (size b : ℕ) → AreBlanks digits blanks size → StopsDigits (blanks ++ b ∷ []) → is_ows b ≡ false
    → (b ≡ 59 → ⊥) → (b ≡ 13 → ⊥)
    → NeverHasChunkLine ((digits ++ blanks) ++ b ∷ [])
never_behind digits blanks size b a stops ows semicolon return more l rest reads =
    let parted : ((digits ++ blanks) ++ b ∷ []) ++ more ≡ digits ++ (blanks ++ b ∷ more) =
    append_assoc (digits ++ blanks) (b ∷ []) more ∙ append_assoc digits blanks (b ∷ more) in
    let stopped : StopsDigits (blanks ++ b ∷ more) = subst StopsDigits (append_assoc blanks (b ∷ []) more)
    (Stops-append is_ascii_hexdigit (blanks ++ b ∷ []) more stops) in
    not_behind b more l.extension rest semicolon return
    (behind_blanks digits blanks (b ∷ more) l rest a.each a.blank stopped ows
    (subst (λ (x : List ℕ). ReadsChunkLine x l rest) parted reads))

-- LF ends an extension
pub never_in_extension : (w : List ℕ) (size b : ℕ) → AreExtended w size → b ≡ 10 → NeverHasChunkLine (w ++ b ∷ [])
never_in_extension w size b a feed more l rest reads =
    let digits = a.digits in
    let blanks = a.blanks in
    let text = a.text in
    let parted : (w ++ b ∷ []) ++ more ≡ digits ++ (blanks ++ 59 ∷ (text ++ b ∷ more)) =
    append_assoc w (b ∷ []) more ∙ ap (λ x. x ++ b ∷ more) a.is ∙ append_assoc digits (blanks ++ 59 ∷ text) (b ∷ more)
    ∙ ap (λ x. digits ++ x) (append_assoc blanks (59 ∷ text) (b ∷ more)) in
    let behind = behind_blanks digits blanks (59 ∷ (text ++ b ∷ more)) l rest a.begins.each a.begins.blank
    (blanks_stop blanks _ a.begins.blank refl) refl (subst (λ (x : List ℕ). ReadsChunkLine x l rest) parted reads) in
    let ended = extension_ends text more b l.extension rest a.extension reads.0.extension (grind (arith, nat_tests)) behind in
    not_return b more rest feed ended
  where
    not_return : (b : ℕ) (z rest : List ℕ) → b ≡ 10 → b ∷ z ≡ 13 ∷ 10 ∷ rest → ⊥
    not_return b z rest feed e = cc

-- another byte than LF follows CR
pub never_behind_return : (w : List ℕ) (size b : ℕ) → LacksFeed w size → (b ≡ 10 → ⊥) → NeverHasChunkLine (w ++ b ∷ [])
never_behind_return w size b a other more l rest reads =
    let digits = a.line.digits in
    let blanks = a.line.pad in
    let parted : (w ++ b ∷ []) ++ more ≡ digits ++ (blanks ++ (print_extension a.line.extension ++ 13 ∷ b ∷ more)) =
    append_assoc w (b ∷ []) more ∙ ap (λ x. x ++ b ∷ more) a.is ∙ regroup digits blanks (print_extension a.line.extension) (b ∷ more) in
    ends a.line.extension a.good.extension digits blanks a.good.digits.2 a.good.pad
    (subst (λ (x : List ℕ). ReadsChunkLine x l rest) parted reads)
  where
    regroup : (digits blanks e z : List ℕ) → (digits ++ (blanks ++ (e ++ 13 ∷ []))) ++ z ≡ digits ++ (blanks ++ (e ++ 13 ∷ z))
    regroup digits blanks e z = append_assoc digits (blanks ++ (e ++ 13 ∷ [])) z
        ∙ ap (λ x. digits ++ x) (append_assoc blanks (e ++ 13 ∷ []) z ∙ ap (λ x. blanks ++ x) (append_assoc e (13 ∷ []) z))

    feed_last : (z rest : List ℕ) → 13 ∷ b ∷ z ≡ 13 ∷ 10 ∷ rest → ⊥
    feed_last z rest e = other (cc)

    ends : (e : Option (List ℕ)) → IsExtension e → (digits blanks : List ℕ) → AllPass is_ascii_hexdigit digits → AllPass is_ows blanks
        → ReadsChunkLine (digits ++ (blanks ++ (print_extension e ++ 13 ∷ b ∷ more))) l rest → ⊥
    ends None is digits blanks each blank reads = feed_behind b more l.extension rest other
        (behind_blanks digits blanks (13 ∷ b ∷ more) l rest each blank (blanks_stop blanks _ blank refl) refl reads)
    ends (Some text) is digits blanks each blank reads =
        let behind = behind_blanks digits blanks (59 ∷ (text ++ 13 ∷ b ∷ more)) l rest each blank
        (blanks_stop blanks _ blank refl) refl reads in
        feed_last more rest (extension_ends text (b ∷ more) 13 l.extension rest is reads.0.extension refl behind)

-- ---- one byte more

-- one more digit stays below the next power
digit_more : (size digit at : ℕ) → size < 16 ^ at → digit < 16 → size * 16 + digit < 16 ^ (at + 1)
digit_more size digit at below small = omega (arith, pow-add 16 at 1)

below_top : (at : ℕ) → at < 16 → 16 ^ (at + 1) ≤ 2 ^ 64
below_top at h = pow-le-pow_right {n = 16} (omega arith) {j = 16} (omega arith)

-- the size stays a word of 64 bits
pub digit_fits : (digits : List ℕ) (count size digit : ℕ) → AreDigits digits count size → (count ≡ 16 → ⊥) → digit < 16
    → size * 16 + digit < 2 ^ 64
digit_fits digits count size digit a less small =
    let few = a.few in omega (arith, digit_more size digit count a.fits small, below_top count (omega arith))

pub more_digits : (digits : List ℕ) (count size b digit : ℕ) → AreDigits digits count size → (count ≡ 16 → ⊥) → is_ascii_hexdigit b ≡ true
    → digit ≡ digit_value b → digit < 16 → AreDigits (digits ++ b ∷ []) (count + 1) (size * 16 + digit)
more_digits digits count size b digit a less is value small =
    let few = a.few in
    let counted = a.counted in
    record {
      counted = omega (arith, length-append digits (b ∷ []));
      few = omega arith;
      each = All-push (λ v. is_ascii_hexdigit v ≡ true) digits b a.each is;
      size_is = ap (λ n. n * 16 + digit) a.size_is ∙ ap (λ n. digits_value 16 digits * 16 + n) value ∙ sym (digits_value_push 16 digits b);
      fits = digit_more size digit count a.fits small;
    }

-- digits with no blank behind them
pub no_blanks : (digits : List ℕ) (count size : ℕ) → AreDigits digits count size → (count ≡ 0 → ⊥) → AreBlanks digits [] size
no_blanks digits count size a some =
    let few = a.few in
    let counted = a.counted in
    record { some = omega arith; few = omega arith; each = a.each; size_is = a.size_is; blank = All-nil (λ v. is_ows v ≡ true) }

pub more_blanks : (digits blanks : List ℕ) (size b : ℕ) → AreBlanks digits blanks size → is_ows b ≡ true
    → (ds bs : List ℕ) × AreBlanks ds bs size × (0 < length bs) × ((digits ++ blanks) ++ b ∷ [] ≡ ds ++ bs)
more_blanks digits blanks size b a is = (
  digits,
  blanks ++ b ∷ [],
  record { some = a.some; few = a.few; each = a.each; size_is = a.size_is; blank = All-push (λ v. is_ows v ≡ true) blanks b a.blank is },
  omega (arith, length-append blanks (b ∷ [])),
  append_assoc digits blanks (b ∷ []),
)

pub begins_extension : (digits blanks : List ℕ) (size b : ℕ) → AreBlanks digits blanks size → b ≡ 59
    → AreExtended ((digits ++ blanks) ++ b ∷ []) size
begins_extension digits blanks size b a is = record {
  digits = digits;
  blanks = blanks;
  text = [];
  begins = a;
  extension = All-nil (λ v. is_extension_byte v ≡ true);
  is = ap (λ x. (digits ++ blanks) ++ x ∷ []) is ∙ append_assoc digits blanks (59 ∷ []);
}

pub more_extension : (w : List ℕ) (size b : ℕ) → AreExtended w size → is_extension_byte b ≡ true → AreExtended (w ++ b ∷ []) size
more_extension w size b a is = record {
  digits = a.digits;
  blanks = a.blanks;
  text = a.text ++ b ∷ [];
  begins = a.begins;
  extension = All-push (λ v. is_extension_byte v ≡ true) a.text b a.extension is;
  is = ap (λ x. x ++ b ∷ []) a.is ∙ append_assoc a.digits (a.blanks ++ 59 ∷ a.text) (b ∷ [])
      ∙ ap (λ x. a.digits ++ x) (append_assoc a.blanks (59 ∷ a.text) (b ∷ []));
}

pub returns_behind_blanks : (digits blanks : List ℕ) (size b : ℕ) → AreBlanks digits blanks size → b ≡ 13
    → LacksFeed ((digits ++ blanks) ++ b ∷ []) size
returns_behind_blanks digits blanks size b a is = record {
  line = record { digits = digits; pad = blanks; extension = None };
  good = record { digits = (a.some, a.few, a.each); pad = a.blank; extension = tt };
  size_is = a.size_is;
  is = ap (λ x. (digits ++ blanks) ++ x ∷ []) is ∙ append_assoc digits blanks (13 ∷ []);
}

pub returns_behind_extension : (w : List ℕ) (size b : ℕ) → AreExtended w size → b ≡ 13 → LacksFeed (w ++ b ∷ []) size
returns_behind_extension w size b a is = record {
  line = record { digits = a.digits; pad = a.blanks; extension = Some a.text };
  good = record { digits = (a.begins.some, a.begins.few, a.begins.each); pad = a.begins.blank; extension = a.extension };
  size_is = a.begins.size_is;
  is = ap (λ x. x ++ b ∷ []) a.is ∙ ap (λ x. (a.digits ++ (a.blanks ++ 59 ∷ a.text)) ++ x ∷ []) is
      ∙ append_assoc a.digits (a.blanks ++ 59 ∷ a.text) (13 ∷ []) ∙ ap (λ x. a.digits ++ x) (append_assoc a.blanks (59 ∷ a.text) (13 ∷ []));
}

pub feed_ends : (w : List ℕ) (size b : ℕ) → LacksFeed w size → b ≡ 10 → IsSizeLine (w ++ b ∷ []) size
unfolding print_chunk_line
feed_ends w size b a is = record {
  line = a.line;
  good = a.good;
  size_is = a.size_is;
  is = ap (λ x. x ++ b ∷ []) a.is ∙ ap (λ x. (a.line.digits ++ (a.line.pad ++ (print_extension a.line.extension ++ 13 ∷ []))) ++ x ∷ []) is
      ∙ regroup a.line.digits a.line.pad (print_extension a.line.extension);
}
  where
    regroup : (digits blanks e : List ℕ) → (digits ++ (blanks ++ (e ++ 13 ∷ []))) ++ 10 ∷ [] ≡ digits ++ blanks ++ e ++ 13 ∷ 10 ∷ []
    regroup digits blanks e = simp append_assoc

-- ---- many bytes more

pub never_grows : (w more : List ℕ) → NeverHasChunkLine w → NeverHasChunkLine (w ++ more)
never_grows w more never behind l rest reads = never (more ++ behind) l rest
    (subst (λ (x : List ℕ). ReadsChunkLine x l rest) (append_assoc w more behind) reads)

-- the front, the bytes passed so far, and the next byte
pub one_byte_more : (w bytes : List ℕ) (n : ℕ) → n < length bytes → (w ++ take n bytes) ++ get_or bytes n 0 ∷ [] ≡ w ++ take (n + 1) bytes
one_byte_more w bytes n within = append_assoc w (take n bytes) (get_or bytes n 0 ∷ []) ∙ ap (λ x. w ++ x) (sym (take_more bytes n 0 within))

pub passed_whole : (w bytes : List ℕ) (n : ℕ) → w ++ bytes ≡ (w ++ take n bytes) ++ drop n bytes
passed_whole w bytes n = ap (λ x. w ++ x) (sym (take-append-drop n bytes)) ∙ sym (append_assoc w (take n bytes) (drop n bytes))

-- ---- what a line that breaks off needs

crlf_ends : (l : ChunkLine) → IsChunkLine l → (e : List ℕ) → e ≡ l.digits ++ (l.pad ++ print_extension l.extension)
    → ReadsChunkLine (e ++ 13 ∷ 10 ∷ []) l []
unfolding print_chunk_line
crlf_ends l is e whole = (is, ap (λ x. x ++ 13 ∷ 10 ∷ []) whole ∙ regroup l.digits l.pad (print_extension l.extension))
  where
    regroup : (digits blanks e : List ℕ) → (digits ++ (blanks ++ e)) ++ 13 ∷ 10 ∷ [] ≡ (digits ++ blanks ++ e ++ 13 ∷ 10 ∷ []) ++ []
    regroup digits blanks e = simp (append_assoc, append-nil)

-- some bytes more make it a whole line
pub missing : (w : List ℕ) (s : SizeLine) → IsSizeFront w s → (b : ℕ) × (more : List ℕ) × (l : ChunkLine)
    × ReadsChunkLine (w ++ b ∷ more) l []
missing w (front.Digits count size) a = digits_end w a.counted a.few a.each
  where
    digits_end : (w : List ℕ) → length w ≡ count → count ≤ 16 → AllPass is_ascii_hexdigit w
        → (b : ℕ) × (more : List ℕ) × (l : ChunkLine) × ReadsChunkLine (w ++ b ∷ more) l []
    digits_end [] counted few each = (
      48,
      13 ∷ 10 ∷ [],
      record { digits = 48 ∷ []; pad = []; extension = None },
      crlf_ends (record { digits = 48 ∷ []; pad = []; extension = None })
          (record {
            digits = (
              omega arith,
              omega arith,
              All-cons (λ v. is_ascii_hexdigit v ≡ true) 48 [] refl
                  (All-nil (λ v. is_ascii_hexdigit v ≡ true)),
            );
            pad = All-nil (λ v. is_ows v ≡ true);
            extension = tt;
          })
          (48 ∷ []) refl,
    )
    digits_end (d ∷ w) counted few each = (
      13,
      10 ∷ [],
      record { digits = d ∷ w; pad = []; extension = None },
      crlf_ends (record { digits = d ∷ w; pad = []; extension = None })
          (record { digits = (omega arith, omega arith, each); pad = All-nil (λ v. is_ows v ≡ true); extension = tt })
          (d ∷ w) (sym (append-nil (d ∷ w))),
    )
missing w (front.Blanks size) (digits, blanks, a, some, is) = (
  13,
  10 ∷ [],
  record { digits = digits; pad = blanks; extension = None },
  crlf_ends (record { digits = digits; pad = blanks; extension = None })
      (record { digits = (a.some, a.few, a.each); pad = a.blank; extension = tt }) w (is ∙ ap (λ x. digits ++ x) (sym (append-nil blanks))),
)
missing w (front.Extension size) a = (
  13,
  10 ∷ [],
  record { digits = a.digits; pad = a.blanks; extension = Some a.text },
  crlf_ends (record { digits = a.digits; pad = a.blanks; extension = Some a.text })
      (record { digits = (a.begins.some, a.begins.few, a.begins.each); pad = a.begins.blank; extension = a.extension }) w a.is,
)
missing w (front.Return size) a =
    let whole = feed_ends w size 10 a refl in
    (10, [], whole.line, (whole.good, whole.is ∙ sym (append-nil (print_chunk_line whole.line))))

pub may_become : (w : List ℕ) (s : SizeLine) → IsSizeFront w s → MayBecomeChunkLine w
may_become w s is = let m = missing w s is in (m.0 ∷ m.1, m.2, m.3)

-- and so it is none yet
pub no_line_yet : (w : List ℕ) (s : SizeLine) → IsSizeFront w s → HasNoChunkLine w
no_line_yet w s is l rest reads =
    let m = missing w s is in
    let same = chunk_line_unique (w ++ m.0 ∷ m.1) l m.2 (rest ++ m.0 ∷ m.1) [] (ReadsChunkLine-append w l rest (m.0 ∷ m.1) reads) m.3 in
    absurd (omega (arith, ap length same.1, length-append rest (m.0 ∷ m.1)))
