-- What was read is its text: each line that was read is the next line of the text, where a line's reader has that law.
use Rattle.std.proofs.Common.{◌≡◌, ◌==◌, ℕ, ◌+◌, inl, inr, Bool, true, false, cond, leb, List, [], ◌∷◌, ◌++◌, map, Result, Ok, Err, sym, ap, subst, ◌∙◌, arith, append_assoc}
use Rattle.std.specs.Fmt.{decimal}
use Rattle.std.specs.List.{join_with_byte}
use Rattle.std.specs.Prelude.{codes}
use Rattle.std.specs.Str.{bytes_eq}
use Rattle.std.proofs.lemmas.Bool.{eqb-true}
use Rattle.std.proofs.lemmas.Fmt.{decimal_digit}
use Rattle.std.proofs.lemmas.List.{append-nil}
use Rattle.tp_text.specs.Framing.{at_line, ended_line, header_at, header_line, header_words, line_at, lines_from, most_version, version}
use Rattle.tp_text.specs.Lines.{words_of}
use Rattle.tp_text.specs.Numbers.{number_of}
use Rattle.tp_text.specs.Steps.{◌>>=◌}
use Rattle.tp_text.specs.declared.fault.TextFault.{TextFault}
use Rattle.tp_text.specs.declared.framing.HeaderCauses.{HeaderCauses}
use Rattle.tp_text.specs.declared.numbers.NumberFault.{NumberFault}
use Rattle.tp_text.proofs.Joined.{joined_words}
use Rattle.tp_text.proofs.LinesRead.{LineOf, Pieces, unread}
use Rattle.tp_text.proofs.Numerals.{number_takes}
use Rattle.tp_text.proofs.Plain.{same_bytes}
use Rattle.tp_text.proofs.Stepped.{bind_ok, chosen, ok_is}

abbrev pub joined : List Pieces → Pieces
joined lines = map (join_with_byte 32) lines

-- ---- one line

at_ok : {A C : Type 0} (n : ℕ) (r : Result A C) (x : A) → at_line n r ≡ Ok x → r ≡ Ok x
at_ok n (Ok y) x e = cc
at_ok n (Err cause) x e = let wrong : ⊥ = cc in absurd wrong

ended_is : {C : Type 0} (n : ℕ) (missing : C) (lines : Pieces) (x : List ℕ × Pieces) → ended_line n missing lines ≡ Ok x → lines ≡ x.0 ∷ x.1
unfolding ended_line
ended_is n missing [] x e = let wrong : ⊥ = cc in absurd wrong
ended_is n missing (piece ∷ []) x e = let wrong : ⊥ = cc in absurd wrong
ended_is {C} n missing (line ∷ next ∷ lines) x e = ap (λ (p : List ℕ × Pieces). p.0 ∷ p.1) (ok_is (TextFault C) (line, next ∷ lines) x e)

-- a line that was taken stands first, and what was read is what its words say
pub record IsTaken {A C : Type 0} (said : Pieces → Result A C) (lines : Pieces) (x : A × Pieces) : Type 0 where
  pub words : Pieces
  pub first : lines ≡ join_with_byte 32 words ∷ x.1
  pub says : said words ≡ Ok x.0

pub line_found : {A C : Type 0} (n : ℕ) (missing : C) (said : Pieces → Result A C) (lines : Pieces) (x : A × Pieces) → line_at n missing said lines ≡ Ok x → IsTaken said lines x
unfolding line_at
line_found {A} {C} n missing said lines x e =
    let a = bind_ok (ended_line n missing lines) (λ line. at_line n (said (words_of line.0)) >>= λ y. Ok (y, line.1)) x e in
    let b = bind_ok (at_line n (said (words_of a.0.0))) (λ y. Ok (y, a.0.1)) x a.2 in
    let text : lines ≡ join_with_byte 32 (words_of a.0.0) ∷ a.0.1 = ended_is n missing lines a.0 a.1 ∙ ap (λ (l : List ℕ). l ∷ a.0.1) (sym (joined_words a.0.0)) in
    subst (λ (y : A × Pieces). IsTaken said lines y) (ok_is (TextFault C) (b.0, a.0.1) x b.2) (record { words = words_of a.0.0; first = text; says = at_ok n (said (words_of a.0.0)) b.0 b.1 })

-- ---- the first line

no_version : {C : Type 0} (causes : HeaderCauses C) (b : Bool) (u : Unit {0}) → (let r : Result (Unit {0}) C = cond b (Err causes.newer) (Err causes.header) in r) ≡ Ok u → ⊥
no_version causes true u e = cc
no_version causes false u e = cc

one_text : decimal 1 ≡ codes "1"
one_text = decimal_digit 1 (omega arith)

version_is : {C : Type 0} (causes : HeaderCauses C) (r : Result ℕ NumberFault) (u : Unit {0}) → version causes r ≡ Ok u → r ≡ Ok 1
version_is causes (Ok n) u e = elim (chosen (n == 1) (Ok tt) (cond (leb 2 n) (Err causes.newer) (Err causes.header)) (Ok u) e) [
  | inl p ↦ ap (λ (m : ℕ). Ok m) (eqb-true _ _ p.0)
  | inr q ↦ let wrong : ⊥ = no_version causes (leb 2 n) u q.1 in absurd wrong
]
version_is causes (Err fault) u e = let wrong : ⊥ = cc in absurd wrong

header_is : {C : Type 0} (name : List ℕ) (causes : HeaderCauses C) (words : Pieces) (u : Unit {0}) → header_line name causes words ≡ Ok u → words ≡ header_words name
unfolding header_line
header_is name causes [] u e = let wrong : ⊥ = cc in absurd wrong
header_is name causes (word ∷ []) u e = let wrong : ⊥ = cc in absurd wrong
header_is name causes (word ∷ number ∷ []) u e = elim (chosen (bytes_eq word name) (version causes (number_of most_version number)) (Err causes.header) (Ok u) e) [
  | inl p ↦
      let one = number_takes most_version number 1 (omega arith) (version_is causes (number_of most_version number) u p.1) in
      ap (λ (w : List ℕ). w ∷ number ∷ []) (same_bytes word name p.0) ∙ ap (λ (w : List ℕ). name ∷ w ∷ []) (one.0 ∙ one_text)
  | inr z ↦ let wrong : ⊥ = cc in absurd wrong
]
header_is name causes (word ∷ number ∷ other ∷ words) u e = let wrong : ⊥ = cc in absurd wrong

pub header_found : {C : Type 0} (name : List ℕ) (causes : HeaderCauses C) (n : ℕ) (lines : Pieces) (x : Unit {0} × Pieces) → header_at name causes n lines ≡ Ok x → lines ≡ join_with_byte 32 (header_words name) ∷ x.1
header_found name causes n lines x e =
    let taken = line_found n causes.header (header_line name causes) lines x e in
    taken.first ∙ ap (λ (words : Pieces). join_with_byte 32 words ∷ x.1) (header_is name causes taken.words x.0 taken.says)

-- ---- all lines behind it

-- what a line that was read did: it grew the text so far, or it is the last one
pub data Begun {D : Type 0} (IsDraft : D → Type 0) (body : D → List Pieces) (last : Pieces) (d : D) (words : Pieces) (x : Bool × D) : Type 0 where
  grew : (after : D) → (true, after) ≡ x → IsDraft after → body after ≡ body d ++ words ∷ [] → Begun IsDraft body last d words x
  ended : (false, d) ≡ x → words ≡ last → Begun IsDraft body last d words x

-- the lines that were read
pub record AreRead {D : Type 0} (IsDraft : D → Type 0) (body : D → List Pieces) (last : Pieces) (d : D) (lines : Pieces) (x : D × Pieces) : Type 0 where
  pub draft : IsDraft x.0
  pub read : List Pieces
  pub stood : lines ≡ joined (read ++ last ∷ []) ++ x.1
  pub text : body x.0 ≡ body d ++ read

one_more : {D : Type 0} (IsDraft : D → Type 0) (body : D → List Pieces) (last : Pieces) (d after : D) (words : Pieces) (lines : Pieces) (x : D × Pieces)
    → body after ≡ body d ++ words ∷ [] → AreRead IsDraft body last after lines x → AreRead IsDraft body last d (join_with_byte 32 words ∷ lines) x
one_more IsDraft body last d after words lines x grown rest = record {
  draft = rest.draft;
  read = words ∷ rest.read;
  stood = ap (λ (ls : Pieces). join_with_byte 32 words ∷ ls) rest.stood;
  text = rest.text ∙ ap (λ (b : List Pieces). b ++ rest.read) grown ∙ append_assoc (body d) (words ∷ []) rest.read;
}

last_one : {D : Type 0} (IsDraft : D → Type 0) (body : D → List Pieces) (last : Pieces) (d : D) (words : Pieces) (lines : Pieces) → IsDraft d → words ≡ last → AreRead IsDraft body last d (join_with_byte 32 words ∷ lines) (d, lines)
last_one IsDraft body last d words lines is e = record {
  draft = is;
  read = [];
  stood = ap (λ (ws : Pieces). join_with_byte 32 ws ∷ lines) e;
  text = sym (append-nil (body d));
}

-- what was read is as the lines of the text say, where that holds of each line
pub lines_found : {D C : Type 0} (missing : C) (line_of : LineOf D C) (IsDraft : D → Type 0) (body : D → List Pieces) (last : Pieces) (law : (d : D) (words : Pieces) (x : Bool × D) → IsDraft d → line_of d words ≡ Ok x → Begun IsDraft body last d words x)
    → (n : ℕ) (d : D) (lines : Pieces) (x : D × Pieces) → IsDraft d → lines_from missing line_of n d lines ≡ Ok x → AreRead IsDraft body last d lines x
unfolding lines_from
lines_found missing line_of IsDraft body last law n d [] x is e = let wrong : ⊥ = cc in absurd wrong
lines_found {D} {C} missing line_of IsDraft body last law n d (line ∷ lines) x is e =
    let a = bind_ok (line_at n missing (line_of d) (line ∷ lines)) (λ y. unread missing line_of y.0.0 (n + 1) y.0.1 lines) x e in
    let taken = line_found n missing (line_of d) (line ∷ lines) a.0 a.1 in
    let text : line ∷ lines ≡ join_with_byte 32 taken.words ∷ lines = let both = taken.first in cc in
    subst (λ (ls : Pieces). AreRead IsDraft body last d ls x) (sym text)
    (go taken.words a.0.0 (law d taken.words a.0.0 is taken.says) a.2 (λ after. lines_found missing line_of IsDraft body last law (n + 1) after lines x))
  where
    go : (words : Pieces) (more : Bool × D) → Begun IsDraft body last d words more → unread missing line_of more.0 (n + 1) more.1 lines ≡ Ok x
        → ((after : D) → IsDraft after → lines_from missing line_of (n + 1) after lines ≡ Ok x → AreRead IsDraft body last after lines x) → AreRead IsDraft body last d (join_with_byte 32 words ∷ lines) x
    go words more (grew after same is-after grown) rest others =
        let behind : lines_from missing line_of (n + 1) after lines ≡ Ok x = ap (λ (m : Bool × D). unread missing line_of m.0 (n + 1) m.1 lines) same ∙ rest in
        one_more IsDraft body last d after words lines x grown (others after is-after behind)
    go words more (ended same word) rest others =
        let done : unread missing line_of false (n + 1) d lines ≡ Ok x = ap (λ (m : Bool × D). unread missing line_of m.0 (n + 1) m.1 lines) same ∙ rest in
        subst (AreRead IsDraft body last d (join_with_byte 32 words ∷ lines)) (ok_is (TextFault C) (d, lines) x done) (last_one IsDraft body last d words lines is word)
