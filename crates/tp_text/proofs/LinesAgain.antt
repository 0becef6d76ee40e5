-- The lines of a text are read again, where a line's reader has that law.
use Rattle.std.proofs.Common.{◌≡◌, ℕ, ◌+◌, ◌<◌, ◌≤◌, Bool, true, false, List, [], ◌∷◌, ◌++◌, length, Result, Ok, Err, refl, sym, ap, ◌∙◌, arith, length-append}
use Rattle.std.specs.List.{join_with_byte}
use Rattle.std.specs.Prelude.{IfOk, OnOk, codes}
use Rattle.std.proofs.lemmas.List.{length-map}
use Rattle.tp_base.specs.Lists.{Each}
use Rattle.tp_text.specs.Framing.{end_words, header_at, header_line, header_words, line_at, lines_from}
use Rattle.tp_text.specs.Lines.{Input, lines_of, words_of}
use Rattle.tp_text.specs.Numbers.{number_of}
use Rattle.tp_text.specs.Reading.{IsReadAs, Reads, all_lines}
use Rattle.tp_text.specs.Steps.{◌>>=◌}
use Rattle.tp_text.specs.Writing.{lines_text}
use Rattle.tp_text.specs.declared.fault.TextError.{TextError}
use Rattle.tp_text.specs.declared.fault.TextError.TheVariants as errors
use Rattle.tp_text.specs.declared.fault.TextFault.{TextFault}
use Rattle.tp_text.specs.declared.framing.HeaderCauses.{HeaderCauses}
use Rattle.tp_text.proofs.Joined.{IsPlain, lines_again, same_left, some_piece, text_taken, words_again}
use Rattle.tp_text.proofs.LinesFound.{joined}
use Rattle.tp_text.proofs.LinesRead.{LineOf, Pieces, step, unread, with_end}
use Rattle.tp_text.proofs.Plain.{bytes_same, plain_by}
use Rattle.tp_text.proofs.Stepped.{ok_is}

-- the words of a line, in which no space stands
abbrev pub IsLine : Pieces → Type 0
IsLine words = Each IsPlain words × (1 ≤ length words)

words_back : (words : Pieces) → IsLine words → words_of (join_with_byte 32 words) ≡ words
words_back [] line = absurd (omega (arith, line.1))
words_back (w ∷ words) line = words_again w words line.0

pub line_again : {A C : Type 0} (n : ℕ) (missing : C) (said : Pieces → Result A C) (words : Pieces) (lines : Pieces) (x : A) → IsLine words → 0 < length lines → said words ≡ Ok x
    → line_at n missing said (join_with_byte 32 words ∷ lines) ≡ Ok (x, lines)
unfolding line_at
line_again n missing said words lines x line some says = rw (with_end n missing (join_with_byte 32 words) lines some, words_back words line, says) refl

pub header_plain : (name : List ℕ) → IsPlain name → IsLine (header_words name)
header_plain name plain = ((plain, (plain_by (codes "1") refl, tt)), omega arith)

pub end_plain : IsLine end_words
end_plain = ((plain_by (codes "end") refl, tt), omega arith)

header_read : {C : Type 0} (name : List ℕ) (causes : HeaderCauses C) → header_line name causes (header_words name) ≡ Ok tt
unfolding header_line number_of
header_read name causes = rw (bytes_same name) refl

pub header_again : {C : Type 0} (name : List ℕ) (causes : HeaderCauses C) (n : ℕ) (lines : Pieces) → IsPlain name → 0 < length lines → header_at name causes n (join_with_byte 32 (header_words name) ∷ lines) ≡ Ok (tt, lines)
header_again name causes n lines plain some = line_again n causes.header (header_line name causes) (header_words name) lines tt (header_plain name plain) some (header_read name causes)

-- lines lead from what was said before them to what was said with them
abbrev pub Runs : {D C : Type 0} → LineOf D C → D → List Pieces → D → Type 0
Runs line_of d [] e = d ≡ e
Runs {D} line_of d (words ∷ lines) e = (mid : D) × (line_of d words ≡ Ok (true, mid)) × Runs line_of mid lines e

pub some_others : (lines : List Pieces) (last : Pieces) (rest : Pieces) → 0 < length (joined (lines ++ last ∷ []) ++ rest)
some_others [] last rest = omega arith
some_others (words ∷ lines) last rest = omega arith

pub run_again : {D C : Type 0} (missing : C) (line_of : LineOf D C) (last : Pieces) (n : ℕ) (d e : D) (lines : List Pieces) (rest : Pieces) → 0 < length rest → IsLine last → line_of e last ≡ Ok (false, e)
    → Runs line_of d lines e → Each IsLine lines → lines_from missing line_of n d (joined (lines ++ last ∷ []) ++ rest) ≡ Ok (e, rest)
run_again {D} {C} missing line_of last n d e [] rest some line end run plain =
    let says : line_of d last ≡ Ok (false, e) = ap (λ (x : D). line_of x last) run ∙ end in
    step missing line_of n d (join_with_byte 32 last) rest
    ∙ ap (λ (r : Result ((Bool × D) × Pieces) (TextFault C)). r >>= λ x. unread missing line_of x.0.0 (n + 1) x.0.1 rest) (line_again n missing (line_of d) last rest (false, e) line some says)
run_again {D} {C} missing line_of last n d e (words ∷ lines) rest some line end run plain =
    let others : Pieces = joined (lines ++ last ∷ []) ++ rest in
    step missing line_of n d (join_with_byte 32 words) others
    ∙ ap (λ (r : Result ((Bool × D) × Pieces) (TextFault C)). r >>= λ x. unread missing line_of x.0.0 (n + 1) x.0.1 others) (line_again n missing (line_of d) words others (true, run.0) plain.0 (some_others lines last rest) run.1)
    ∙ run_again missing line_of last (n + 1) run.0 e lines rest some line end run.2 plain.1

-- ---- the clauses of a text's reader

-- a reader of lines with these laws: what is read is a value of which these are the lines, and they are read as it
pub record IsReader {X C : Type 0} (said : Pieces → Result (X × Pieces) (TextFault C)) (IsValue : X → Type 0) (lines : X → List Pieces) : Type 0 where
  pub found : (input : Pieces) (x : X × Pieces) → said input ≡ Ok x → IsValue x.0 × (input ≡ joined (lines x.0) ++ x.1)
  pub again : (x : X) (rest : Pieces) → IsValue x → 0 < length rest → said (joined (lines x) ++ rest) ≡ Ok (x, rest)
  pub plain : (x : X) → IsValue x → Each IsLine (lines x)

pub is_found : {X C : Type 0} (said : Pieces → Result (X × Pieces) (TextFault C)) (IsValue : X → Type 0) (lines : X → List Pieces) (laws : IsReader said IsValue lines) (old new : List ℕ) (r : Result X (TextError C))
    → Reads (λ x. (x, lines_of new)) r (said (lines_of old)) → IfOk r (λ x. IsValue x × (old ≡ lines_text (lines x) ++ new))
is_found said IsValue lines laws old new (Ok x) read =
    let found = laws.found (lines_of old) (x, lines_of new) read in
    (found.0, text_taken old new (lines x) found.1)
is_found said IsValue lines laws old new (Err e) read = tt

plain_lines : (lines : List Pieces) → Each IsLine lines → Each (Each IsPlain) lines
plain_lines [] are = tt
plain_lines (words ∷ lines) are = (are.0.0, plain_lines lines are.1)

-- the text of a value is read as it, whatever stands behind
pub text_again : {X C : Type 0} (said : Pieces → Result (X × Pieces) (TextFault C)) (IsValue : X → Type 0) (lines : X → List Pieces) (laws : IsReader said IsValue lines) (x : X) (rest : List ℕ)
    → IsValue x → said (lines_of (lines_text (lines x) ++ rest)) ≡ Ok (x, lines_of rest)
text_again said IsValue lines laws x rest ok =
    ap said (lines_again (lines x) rest (plain_lines (lines x) (laws.plain x ok))) ∙ laws.again x (lines_of rest) ok (some_piece 10 rest)

pub is_only : {X C : Type 0} (said : Pieces → Result (X × Pieces) (TextFault C)) (IsValue : X → Type 0) (lines : X → List Pieces) (laws : IsReader said IsValue lines) (old new : List ℕ) (r : Result X (TextError C))
    → Reads (λ x. (x, lines_of new)) r (said (lines_of old)) → (x : X) (rest : List ℕ) → IsValue x → old ≡ lines_text (lines x) ++ rest → IsReadAs x rest new r
is_only {X} {C} said IsValue lines laws old new r read x rest ok e = go r read
  where
    made : said (lines_of old) ≡ Ok (x, lines_of rest)
    made = ap (λ (text : List ℕ). said (lines_of text)) e ∙ text_again said IsValue lines laws x rest ok

    go : (r : Result X (TextError C)) → Reads (λ y. (y, lines_of new)) r (said (lines_of old)) → IsReadAs x rest new r
    go (Ok y) read' =
        let same : (x, lines_of rest) ≡ (y, lines_of new) = ok_is (TextFault C) (x, lines_of rest) (y, lines_of new) (sym made ∙ read') in
        (sym (ap (λ (p : X × Pieces). p.0) same), same_left new rest (sym (ap (λ (p : X × Pieces). p.1) same)))
    go (Err errors.NoMemory) read' = tt
    go (Err (errors.Fault fault)) read' = let wrong = sym made ∙ read' in cc

pub is_counted : {X C : Type 0} (said : Pieces → Result (X × Pieces) (TextFault C)) (IsValue : X → Type 0) (lines : X → List Pieces) (laws : IsReader said IsValue lines) (old new : Input) (r : Result X (TextError C))
    → Reads (λ x. (x, lines_of new.left)) r (said (lines_of old.left)) → OnOk r (all_lines new ≡ all_lines old) → IfOk r (λ x. new.count ≡ old.count + length (lines x))
is_counted said IsValue lines laws old new (Ok x) read all =
    let found = laws.found (lines_of old.left) (x, lines_of new.left) read in
    omega (arith, all, ap length found.1, length-append (joined (lines x)) (lines_of new.left), length-map (lines x) (join_with_byte 32))
is_counted said IsValue lines laws old new (Err e) read all = tt
