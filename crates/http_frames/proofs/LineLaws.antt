-- What a head is behind lines of it that are known to be whole.
use Rattle.std.proofs.Common.{◌≡◌, ℕ, List, [], ◌∷◌, ◌++◌, length, refl, sym, ap, ◌∙◌, subst, inl, arith, append_assoc, append-nil}
use Rattle.std.proofs.Common.{length-append}
use Rattle.std.specs.List.{flat_map}
use Rattle.std.proofs.lemmas.List.{append_cancel_right}
use Rattle.std.proofs.lemmas.List.Elements.{All-append}
use Rattle.std.proofs.lemmas.Grind.{flat_map-append}
use Rattle.httparse.specs.Grammar.{LineEnd, crlf, lf, print_end, print_blank, print_version, Field, IsField, print_field, print_section}
use Rattle.httparse.specs.Grammar.{ReadsSection, HasNoSection, MayBecomeSection, RequestHead, print_request, ReadsRequest, HasNoRequest}
use Rattle.httparse.specs.Grammar.{MayBecomeRequest}
use Rattle.httparse.proofs.GrammarLemmas.{request_unique, ReadsRequest-append, print_request-append}
use Rattle.http_frames.specs.Heads.{AreWholeLines}
use Rattle.http_frames.proofs.ListLaws.{same_front}

-- a request line and what follows it
begun : RequestHead → List ℕ → List ℕ
begun h x = print_blank h.blank ++ (h.method ++ 32 ∷ (h.target ++ 32 ∷ (print_version h.minor ++ (print_end h.line_end ++ x))))

begun-append : (h : RequestHead) (x y : List ℕ) → begun h x ++ y ≡ begun h (x ++ y)
unfolding begun
begun-append h x y = regroup (print_blank h.blank) h.method h.target (print_version h.minor) (print_end h.line_end) x y
  where
    regroup : (a b c d e x y : List ℕ) → (a ++ (b ++ 32 ∷ (c ++ 32 ∷ (d ++ (e ++ x))))) ++ y
        ≡ a ++ (b ++ 32 ∷ (c ++ 32 ∷ (d ++ (e ++ (x ++ y)))))
    regroup a b c d e x y = append_assoc a (b ++ 32 ∷ (c ++ 32 ∷ (d ++ (e ++ x)))) y
        ∙ ap (λ z. a ++ z) (append_assoc b (32 ∷ (c ++ 32 ∷ (d ++ (e ++ x)))) y
        ∙ ap (λ z. b ++ 32 ∷ z) (append_assoc c (32 ∷ (d ++ (e ++ x))) y
        ∙ ap (λ z. c ++ 32 ∷ z) (append_assoc d (e ++ x) y ∙ ap (λ z. d ++ z) (append_assoc e x y))))

printed : (h : RequestHead) (rest : List ℕ) → print_request h ++ rest ≡ begun h (print_section h.fields h.last ++ rest)
unfolding begun
printed h rest = print_request-append h rest

-- the fields and the end of a head, apart
section_ends : (fields : List Field) (last : LineEnd) (rest : List ℕ)
    → print_section fields last ++ rest ≡ flat_map print_field fields ++ (print_end last ++ rest)
section_ends fields last rest = append_assoc (flat_map print_field fields) (print_end last) rest

-- the lines themselves
lines_are : (w : List ℕ) (a : AreWholeLines w) → w ≡ begun a.head (flat_map print_field a.head.fields)
lines_are w a =
    let fields : List ℕ = flat_map print_field a.head.fields in
    append_cancel_right w (begun a.head fields) (10 ∷ [])
    (a.reads.1 ∙ printed a.head [] ∙ ap (λ z. begun a.head z) (section_ends a.head.fields a.head.last []
    ∙ ap (λ (l : LineEnd). fields ++ (print_end l ++ [])) a.last) ∙ sym (begun-append a.head fields (10 ∷ [])))

-- the head with more fields behind these lines
abbrev longer : RequestHead → List Field → LineEnd → RequestHead
longer h fields last = record h { fields = h.fields ++ fields; last = last }

reads_longer : (w tail more : List ℕ) (a : AreWholeLines w) (fields : List Field) (last : LineEnd)
    → ReadsSection (tail ++ more) fields last []
    → ReadsRequest ((w ++ tail) ++ more) (longer a.head fields last) []
unfolding begun
reads_longer w tail more a fields last s =
    let h = a.head in
    let known : List ℕ = flat_map print_field h.fields in
    let behind : known ++ (tail ++ more) ≡ print_section (h.fields ++ fields) last ++ [] =
    ap (λ z. known ++ z) (s.1 ∙ section_ends fields last []) ∙ sym (append_assoc known (flat_map print_field fields) (print_end last ++ []))
    ∙ ap (λ z. z ++ (print_end last ++ [])) (sym (flat_map-append print_field h.fields fields))
    ∙ sym (section_ends (h.fields ++ fields) last []) in (
      record {
        method = a.reads.0.method;
        target = a.reads.0.target;
        target_text = a.reads.0.target_text;
        minor = a.reads.0.minor;
        fields =
            All-append IsField h.fields fields a.reads.0.fields s.0;
      },
      append_assoc w tail more ∙ ap (λ z. z ++ (tail ++ more)) (lines_are w a) ∙ begun-append h known (tail ++ more)
          ∙ ap (λ z. begun h z) behind
          ∙ sym (printed (longer h fields last) []),
    )

-- where the fields behind them go on, so does the head
pub goes_on : (w tail : List ℕ) → AreWholeLines w → HasNoSection tail → MayBecomeSection tail
    → HasNoRequest (w ++ tail) × MayBecomeRequest (w ++ tail)
goes_on w tail a none may =
    let whole = reads_longer w tail may.0 a may.1 may.2 may.3 in (
      λ k rest reads. missing rest (request_unique ((w ++ tail) ++ may.0) k (longer a.head may.1 may.2) (rest ++ may.0) []
          (ReadsRequest-append (w ++ tail) k rest may.0 reads) whole).1,
      inl (may.0, longer a.head may.1 may.2, whole),
    )
  where
    missing : (rest : List ℕ) → rest ++ may.0 ≡ [] → ⊥
    missing rest e = at rest may.0 e may.3
      where
        at : (rest more : List ℕ) → rest ++ more ≡ [] → ReadsSection (tail ++ more) may.1 may.2 [] → ⊥
        at [] [] e s = none may.1 may.2 [] (subst (λ (x : List ℕ). ReadsSection x may.1 may.2 []) (append-nil tail) s)
        at [] (x ∷ more) e s = cc
        at (x ∷ rest) more e s = cc

-- lines that end in a line feed end in no CR
pub ends_in_feed : (w f : List ℕ) (h : RequestHead) → w ≡ f ++ 10 ∷ [] → ReadsRequest (w ++ 10 ∷ []) h [] → h.last ≡ lf
ends_in_feed w f h e reads = at h.last refl
  where
    no_return : (x y : List ℕ) → (x ++ 10 ∷ []) ++ 10 ∷ [] ≡ (y ++ 13 ∷ []) ++ 10 ∷ [] → ⊥
    no_return x y same =
        let shorter : x ++ 10 ∷ [] ≡ y ++ 13 ∷ [] = append_cancel_right (x ++ 10 ∷ []) (y ++ 13 ∷ []) (10 ∷ []) same in
        let front = same_front x y (10 ∷ []) (13 ∷ []) (omega (
          arith,
          ap length shorter,
          length-append x (10 ∷ []),
          length-append y (13 ∷ []),
        )) shorter in
        thirteen front.1
      where
        thirteen : ◌≡◌ {A = List ℕ} (10 ∷ []) (13 ∷ []) → ⊥
        thirteen e = cc

    at : (l : LineEnd) → h.last ≡ l → h.last ≡ lf
    at lf is = is
    at crlf is =
        let fields : List ℕ = flat_map print_field h.fields in
        absurd (no_return f (begun h fields) (ap (λ x. x ++ 10 ∷ []) (sym e) ∙ reads.1 ∙ printed h []
        ∙ ap (λ z. begun h z) (section_ends h.fields h.last []
        ∙ ap (λ (l : LineEnd). fields ++ (print_end l ++ [])) is) ∙ sym (begun-append h fields (13 ∷ 10 ∷ []))
        ∙ sym (append_assoc (begun h fields) (13 ∷ []) (10 ∷ []))))
