-- The laws of each kind of word: what is read is written so, what is written is read, and no space stands in it.
use Rattle.std.proofs.Common.{◌≡◌, ◌==◌, ℕ, ◌^◌, ◌<◌, ◌≤◌, inl, inr, cond, ltb, List, [], ◌∷◌, ◌++◌, length, Option, Some, None, Result, Ok, Err, refl, ap, subst, ◌∙◌, arith}
use Rattle.hex.specs.Hex.{encode_lower}
use Rattle.std.specs.Fmt.{decimal}
use Rattle.std.proofs.lemmas.Bool.{eqb-true}
use Rattle.tp_base.specs.declared.names.ActorName.{ActorName}
use Rattle.tp_base.specs.declared.names.ActorName.TheVariants.{Process, Executor, Session}
use Rattle.tp_base.specs.declared.names.CommandId.{CommandId}
use Rattle.tp_base.specs.declared.names.Site.{Site}
use Rattle.tp_entry.specs.Kinds.{AllSaid, IsActorName, IsCommandName, IsPart, IsSaid, Kind, Said, actor, dotted_at, else_wire, id, kinds, message, message_word, most, most_part, number, part, parts, parts_at, read_actor, read_id, read_message, read_session, read_site, read_word, row, word_of}
use Rattle.tp_entry.specs.declared.fault.JournalCause.{JournalCause}
use Rattle.tp_entry.specs.declared.fault.JournalCause.TheVariants.{Word, Number, Hex}
use Rattle.tp_text.specs.Hexadecimal.{hex_of}
use Rattle.tp_text.specs.Lines.{halves}
use Rattle.tp_text.specs.Names.{actor_word, dotted, id_at, id_word, site_at, site_word}
use Rattle.tp_text.specs.Numbers.{number_of}
use Rattle.tp_text.specs.Rows.{words_of_row}
use Rattle.tp_text.specs.Steps.{◌>>=◌, else_cause, need}
use Rattle.tp_text.specs.declared.numbers.NumberFault.{NumberFault}
use Rattle.tp_text.specs.declared.numbers.NumberFault.TheVariants.{NotANumber, NumberTooLarge}
use Rattle.tp_text.proofs.Halved.{decimal_apart, halves_again, halves_take}
use Rattle.tp_text.proofs.Hexed.{hex_again, hex_takes}
use Rattle.tp_text.proofs.Joined.{IsPlain}
use Rattle.tp_text.proofs.Numerals.{number_again, number_takes}
use Rattle.tp_text.proofs.Plain.{decimal_plain, dotted_plain, hex_plain}
use Rattle.tp_text.proofs.Ranged.{number_read, number_written}
use Rattle.tp_text.proofs.Rowed.{AreKinds, AreSaid, row_takes}
use Rattle.tp_text.proofs.Stepped.{bind_ok, chosen, else_ok, need_ok, ok_is}
use Rattle.tp_base.specs.Lists.{Each}
use Rattle.tp_wire.specs.Meaning.{message_of}
use Rattle.tp_wire.specs.Ranges.{IsInRange}
use Rattle.tp_wire.specs.Spelling.{bytes_of}
use Rattle.tp_wire.specs.declared.fault.WireFault.{WireFault}
use Rattle.tp_wire.specs.declared.message.Message.{Message}
use Rattle.tp_entry.proofs.Wired.{some_bytes, wire_again, wire_bytes, wire_takes}

-- the kinds that have the laws
abbrev pub IsKind : Kind → Type 0
IsKind (number low high) = high < 2 ^ 64
IsKind id = Unit {0}
IsKind actor = Unit {0}
IsKind message = Unit {0}

-- ---- two numbers with a point between them

parts_ok : (a b : Result ℕ NumberFault) (pair : ℕ × ℕ) → parts a b ≡ Ok pair → (a ≡ Ok pair.0) × (b ≡ Ok pair.1)
unfolding parts
parts_ok (Err NotANumber) b pair e = let wrong : ⊥ = cc in absurd wrong
parts_ok (Err NumberTooLarge) (Err NotANumber) pair e = let wrong : ⊥ = cc in absurd wrong
parts_ok (Err NumberTooLarge) (Err NumberTooLarge) pair e = let wrong : ⊥ = cc in absurd wrong
parts_ok (Err NumberTooLarge) (Ok n) pair e = let wrong : ⊥ = cc in absurd wrong
parts_ok (Ok m) (Err NotANumber) pair e = let wrong : ⊥ = cc in absurd wrong
parts_ok (Ok m) (Err NumberTooLarge) pair e = let wrong : ⊥ = cc in absurd wrong
parts_ok (Ok m) (Ok n) pair e =
    let same : (m, n) ≡ pair = ok_is JournalCause (m, n) pair e in
    (ap (λ (p : ℕ × ℕ). let r : Result ℕ NumberFault = Ok p.0 in r) same, ap (λ (p : ℕ × ℕ). let r : Result ℕ NumberFault = Ok p.1 in r) same)

dotted_read : (first second : ℕ) (word : List ℕ) (pair : ℕ × ℕ) → first < 2 ^ 64 → second < 2 ^ 64 → dotted_at first second word ≡ Ok pair → (word ≡ dotted pair.0 pair.1) × (pair.0 ≤ first) × (pair.1 ≤ second)
unfolding dotted_at
dotted_read first second word pair small small' e = go (halves 46 word) refl e
  where
    go : (h : Option (List ℕ × List ℕ)) → halves 46 word ≡ h → parts_at first second h ≡ Ok pair → (word ≡ dotted pair.0 pair.1) × (pair.0 ≤ first) × (pair.1 ≤ second)
    go None is e' = absurd cc
    go (Some p) is e' =
        let both = parts_ok (number_of first p.0) (number_of second p.1) pair e' in
        let m = number_takes first p.0 pair.0 small both.0 in
        let n = number_takes second p.1 pair.1 small' both.1 in
        let text : word ≡ dotted pair.0 pair.1 = halves_take 46 word p.0 p.1 is ∙ ap (λ (x : List ℕ). x ++ 46 ∷ p.1) m.0 ∙ ap (λ (x : List ℕ). decimal pair.0 ++ 46 ∷ x) n.0 in
        (text, m.1, n.1)

dotted_written : (first second m n : ℕ) → first < 2 ^ 64 → second < 2 ^ 64 → m ≤ first → n ≤ second → dotted_at first second (dotted m n) ≡ Ok (m, n)
unfolding dotted_at parts
dotted_written first second m n small small' le le' =
    rw (halves_again 46 (decimal m) (decimal n) (decimal_apart m (omega arith)) (decimal_apart n (omega arith)), number_again first m small le, number_again second n small' le') refl

-- ---- sites and identifiers

abbrev IsSiteName : Site → Type 0
IsSiteName s = IsPart s.partition.0 × IsPart s.rank.0

site_read : (word : List ℕ) (s : Site) → read_site word ≡ Ok s → (word ≡ site_word s) × IsSiteName s
unfolding read_site
site_read word s e =
    let a = bind_ok (dotted_at most_part most_part word) (λ pair. Ok (site_at pair)) s e in
    let w = dotted_read most_part most_part word a.0 (omega arith) (omega arith) a.1 in
    subst (λ (x : Site). (word ≡ site_word x) × IsSiteName x) (ok_is JournalCause (site_at a.0) s a.2) (w.0, (w.1, w.2))

site_written : (s : Site) → IsSiteName s → read_site (site_word s) ≡ Ok s
unfolding read_site
site_written s fits = rw (dotted_written most_part most_part s.partition.0 s.rank.0 (omega arith) (omega arith) fits.0 fits.1) refl

site_plain : (s : Site) → IsSiteName s → IsPlain (site_word s)
site_plain s fits = dotted_plain s.partition.0 s.rank.0 (omega (arith, fits.0)) (omega (arith, fits.1))

id_read : (word : List ℕ) (i : CommandId) → read_id word ≡ Ok i → (word ≡ id_word i) × IsCommandName i
unfolding read_id
id_read word i e =
    let a = bind_ok (dotted_at most_part most word) (λ pair. Ok (id_at pair)) i e in
    let w = dotted_read most_part most word a.0 (omega arith) (omega arith) a.1 in
    subst (λ (x : CommandId). (word ≡ id_word x) × IsCommandName x) (ok_is JournalCause (id_at a.0) i a.2) (w.0, (w.1, w.2))

id_written : (i : CommandId) → IsCommandName i → read_id (id_word i) ≡ Ok i
unfolding read_id
id_written i fits = rw (dotted_written most_part most i.session.0 i.number (omega arith) (omega arith) fits.0 fits.1) refl

id_plain : (i : CommandId) → IsCommandName i → IsPlain (id_word i)
id_plain i fits = dotted_plain i.session.0 i.number (omega (arith, fits.0)) (omega (arith, fits.1))

-- ---- actors

part_ok : (r : Result ℕ NumberFault) (n : ℕ) → part r ≡ Ok n → r ≡ Ok n
part_ok (Ok m) n e = ap (λ (k : ℕ). let r : Result ℕ NumberFault = Ok k in r) (ok_is JournalCause m n e)
part_ok (Err NotANumber) n e = let wrong : ⊥ = cc in absurd wrong
part_ok (Err NumberTooLarge) n e = let wrong : ⊥ = cc in absurd wrong

session_read : (word : List ℕ) (a : ActorName) → read_session word ≡ Ok a → (115 ∷ word ≡ actor_word a) × IsActorName a
unfolding read_session
session_read word a e =
    let x = bind_ok (part (number_of most_part word)) (λ s. Ok (Session (record { 0 = s }))) a e in
    let w = number_takes most_part word x.0 (omega arith) (part_ok (number_of most_part word) x.0 x.1) in
    subst (λ (y : ActorName). (115 ∷ word ≡ actor_word y) × IsActorName y) (ok_is JournalCause (Session (record { 0 = x.0 })) a x.2) (ap (λ (v : List ℕ). 115 ∷ v) w.0, w.1)

actor_read : (word : List ℕ) (a : ActorName) → read_actor word ≡ Ok a → (word ≡ actor_word a) × IsActorName a
unfolding read_actor
actor_read [] a e = let wrong : ⊥ = cc in absurd wrong
actor_read (letter ∷ word) a e = elim (chosen (letter == 112) (read_site word >>= λ s. Ok (Process s)) (cond (letter == 101) (read_site word >>= λ s. Ok (Executor s)) (cond (letter == 115) (read_session word) (Err Word))) (Ok a) e) [
  | inl p ↦
      let x = bind_ok (read_site word) (λ s. Ok (Process s)) a p.1 in
      let w = site_read word x.0 x.1 in
      subst (λ (y : ActorName). (letter ∷ word ≡ actor_word y) × IsActorName y) (ok_is JournalCause (Process x.0) a x.2) (ap (λ (c : ℕ). c ∷ word) (eqb-true _ _ p.0) ∙ ap (λ (v : List ℕ). 112 ∷ v) w.0, w.1)
  | inr q ↦ elim (chosen (letter == 101) (read_site word >>= λ s. Ok (Executor s)) (cond (letter == 115) (read_session word) (Err Word)) (Ok a) q.1) [
    | inl p ↦
        let x = bind_ok (read_site word) (λ s. Ok (Executor s)) a p.1 in
        let w = site_read word x.0 x.1 in
        subst (λ (y : ActorName). (letter ∷ word ≡ actor_word y) × IsActorName y) (ok_is JournalCause (Executor x.0) a x.2) (ap (λ (c : ℕ). c ∷ word) (eqb-true _ _ p.0) ∙ ap (λ (v : List ℕ). 101 ∷ v) w.0, w.1)
    | inr r ↦ elim (chosen (letter == 115) (read_session word) (Err Word) (Ok a) r.1) [
      | inl p ↦
          let w = session_read word a p.1 in
          (ap (λ (c : ℕ). c ∷ word) (eqb-true _ _ p.0) ∙ w.0, w.1)
      | inr z ↦ absurd (let wrong : ⊥ = cc in wrong)
    ]
  ]
]

pub actor_written : (a : ActorName) → IsActorName a → read_actor (actor_word a) ≡ Ok a
unfolding read_actor read_session
actor_written (Process s) fits = rw (site_written s fits) refl
actor_written (Executor s) fits = rw (site_written s fits) refl
actor_written (Session s) fits = rw (number_again most_part s.0 (omega arith) fits) refl

pub actor_plain : (a : ActorName) → IsActorName a → IsPlain (actor_word a)
actor_plain (Process s) fits = (omega arith, site_plain s fits)
actor_plain (Executor s) fits = (omega arith, site_plain s fits)
actor_plain (Session s) fits = (omega arith, decimal_plain s.0 (omega (arith, fits)))

-- ---- messages

wire_ok : (r : Result Message WireFault) (m : Message) → else_wire r ≡ Ok m → r ≡ Ok m
wire_ok (Ok n) m e = ap (λ (k : Message). let r : Result Message WireFault = Ok k in r) (ok_is JournalCause n m e)
wire_ok (Err fault) m e = let wrong : ⊥ = cc in absurd wrong

message_read : (word : List ℕ) (m : Message) → read_message word ≡ Ok m → (word ≡ message_word m) × IsInRange m
unfolding read_message
message_read word m e =
    let a = bind_ok (else_cause Hex (hex_of word)) (λ bytes. need (ltb 0 (length bytes)) Hex >>= λ _. else_wire (message_of bytes)) m e in
    let t = need_ok (ltb 0 (length a.0)) Hex (else_wire (message_of a.0)) m a.2 in
    let w = hex_takes word a.0 (else_ok Hex (hex_of word) a.0 a.1) in
    let d = wire_takes a.0 m w.1 (wire_ok (message_of a.0) m t.1) in
    (w.0 ∙ ap (λ (bytes : List ℕ). encode_lower bytes) d.0, d.1)

message_written : (m : Message) → IsInRange m → read_message (message_word m) ≡ Ok m
unfolding read_message
message_written m fits = rw (hex_again (bytes_of m) (wire_bytes m fits), some_bytes m, wire_again m fits) refl

-- ---- all kinds

kind_takes : (k : Kind) → IsKind k → (word : List ℕ) (said : Said k) → read_word k word ≡ Ok said → (word ≡ word_of k said) × IsSaid k said
kind_takes (number low high) kind word said e = number_read Number low high word said kind e
kind_takes id kind word said e = id_read word said e
kind_takes actor kind word said e = actor_read word said e
kind_takes message kind word said e = message_read word said e

kind_again : (k : Kind) → IsKind k → (said : Said k) → IsSaid k said → read_word k (word_of k said) ≡ Ok said
kind_again (number low high) kind said fits = number_written Number low high said kind fits
kind_again id kind said fits = id_written said fits
kind_again actor kind said fits = actor_written said fits
kind_again message kind said fits = message_written said fits

kind_plain : (k : Kind) → IsKind k → (said : Said k) → IsSaid k said → IsPlain (word_of k said)
kind_plain (number low high) kind said fits = decimal_plain said (omega (arith, kind, fits.1))
kind_plain id kind said fits = id_plain said fits
kind_plain actor kind said fits = actor_plain said fits
kind_plain message kind said fits = hex_plain (bytes_of said) (wire_bytes said fits)

pub laws : AreKinds kinds IsKind IsSaid
laws = record { takes = kind_takes; again = kind_again; plain = kind_plain }

-- what a row's words are
pub row_is : (ks : List Kind) → Each IsKind ks → (words : List (List ℕ)) (said : AllSaid ks) → row ks words ≡ Ok said → (words ≡ words_of_row kinds ks said) × AreSaid {Said = Said} IsSaid ks said
row_is ks fit words said e = row_takes kinds IsKind IsSaid laws ks fit words said e
