-- The laws of each kind of word: what is read is written so, what is written is read, and no space stands in it.
use Rattle.std.proofs.Common.{◌≡◌, ◌==◌, ℕ, ◌^◌, ◌<◌, ◌≤◌, ◌⊎◌, inl, inr, Bool, true, false, cond, List, [], ◌∷◌, ◌++◌, length, Option, Some, None, Ok, Err, refl, sym, ap, subst, ◌∙◌, arith}
use Rattle.hex.specs.Hex.{encode_lower, lower_digits}
use Rattle.hex.proofs.HexLemmas.{length-encode_with}
use Rattle.std.specs.Fmt.{decimal}
use Rattle.std.specs.Prelude.{codes}
use Rattle.std.specs.Str.{bytes_eq}
use Rattle.std.proofs.lemmas.Bool.{and_parts, eqb-true, or_cases}
use Rattle.tp_base.proofs.Ranges.{in_range, range_in}
use Rattle.tp_base.specs.Limits.{IsId, is_from}
use Rattle.tp_base.specs.Lists.{Each}
use Rattle.tp_base.specs.Names.{same_id}
use Rattle.tp_base.specs.declared.names.ActorName.{ActorName}
use Rattle.tp_base.specs.declared.names.ActorName.TheVariants.{Process, Executor, Session as SessionOf}
use Rattle.tp_base.specs.declared.names.CommandId.{CommandId}
use Rattle.tp_base.specs.declared.names.Site.{Site}
use Rattle.tp_ops.specs.Limits.{IsText, IsValue}
use Rattle.tp_ops.specs.declared.command.Command.{Command}
use Rattle.tp_script.specs.Kinds.{IsActorIn, IsSaid, Kind, Said, actor, bytes_at, dotted_at, id, is_there, key, kinds, literal, most, number, numbers_at, read_actor, read_id, read_session, read_site, read_word, site, value, value_at, value_word, word_of}
use Rattle.tp_script.specs.declared.fault.ScriptCause.{ScriptCause}
use Rattle.tp_script.specs.declared.fault.ScriptCause.TheVariants.{Word, Number, Shape, Key, Value, Session}
use Rattle.tp_text.specs.Hexadecimal.{hex_of}
use Rattle.tp_text.specs.Lines.{halves}
use Rattle.tp_text.specs.Names.{actor_word, dotted, id_at, id_word, site_at, site_word}
use Rattle.tp_text.specs.Numbers.{number_of}
use Rattle.tp_text.specs.Steps.{◌>>=◌, else_cause, need}
use Rattle.tp_text.proofs.Halved.{decimal_apart, halves_again, halves_take}
use Rattle.tp_text.proofs.Hexed.{hex_again, hex_takes}
use Rattle.tp_text.proofs.Joined.{IsPlain}
use Rattle.tp_text.proofs.Numerals.{number_again, number_takes}
use Rattle.tp_text.proofs.Plain.{bytes_same, decimal_plain, dotted_plain, hex_plain, same_bytes}
use Rattle.tp_text.proofs.Ranged.{number_read, number_written}
use Rattle.tp_text.proofs.Rowed.{AreKinds}
use Rattle.tp_text.proofs.Stepped.{bind_ok, chosen, else_ok, need_ok, ok_is}
use Rattle.tp_topology.specs.Shape.{IsShape, Shape as StoreShape, IsSiteOf, is_site_of}

-- the kinds that have the laws
abbrev pub IsKind : Kind → Type 0
IsKind (number low high) = high < 2 ^ 64
IsKind (literal text) = IsPlain text
IsKind key = Unit {0}
IsKind value = Unit {0}
IsKind (site shape) = IsShape shape
IsKind (id commands) = Each (λ c. IsId c.id) commands
IsKind (actor shape sessions) = IsShape shape × (sessions ≤ 16)

cases : (b : Bool) → (b ≡ true) ⊎ (b ≡ false)
cases true = inl refl
cases false = inr refl

unit_step : (b : Bool) → (need b Word) ≡ (need b Word >>= λ _. Ok tt)
unit_step true = refl
unit_step false = refl

-- ---- keys and values

bytes_read : (cause : ScriptCause) (longest : ℕ) (word bytes : List ℕ) → bytes_at cause longest word ≡ Ok bytes → (word ≡ encode_lower bytes) × IsText 1 longest bytes
unfolding bytes_at
bytes_read cause longest word bytes e =
    let a = bind_ok (else_cause cause (hex_of word)) (λ bs. need (is_from 1 longest (length bs)) cause >>= λ _. Ok bs) bytes e in
    let w = hex_takes word a.0 (else_ok cause (hex_of word) a.0 a.1) in
    let t = need_ok (is_from 1 longest (length a.0)) cause (Ok a.0) bytes a.2 in
    subst (λ (bs : List ℕ). (word ≡ encode_lower bs) × IsText 1 longest bs) (ok_is ScriptCause a.0 bytes t.1) (w.0, (in_range 1 longest (length a.0) t.0, w.1))

bytes_written : (cause : ScriptCause) (longest : ℕ) (bytes : List ℕ) → IsText 1 longest bytes → bytes_at cause longest (encode_lower bytes) ≡ Ok bytes
unfolding bytes_at
bytes_written cause longest bytes fits = rw (hex_again bytes fits.1, range_in 1 longest (length bytes) fits.0) refl

some_value : (bytes : List ℕ) → 1 ≤ length bytes → value_word bytes ≡ encode_lower bytes
some_value [] some = absurd (omega arith)
some_value (b ∷ bytes) some = refl

value_read : (word bytes : List ℕ) → value_at word ≡ Ok bytes → (word ≡ value_word bytes) × IsValue bytes
unfolding value_at
value_read word bytes e = elim (chosen (bytes_eq word (codes "-")) (Ok []) (bytes_at Value 64 word) (Ok bytes) e) [
  | inl none ↦ subst (λ (bs : List ℕ). (word ≡ value_word bs) × IsValue bs) (ok_is ScriptCause [] bytes none.1) (same_bytes word (codes "-") none.0, ((omega arith, omega arith), tt))
  | inr some ↦
      let r = bytes_read Value 64 word bytes some.1 in
      (r.0 ∙ sym (some_value bytes r.1.0.0), ((omega arith, r.1.0.1), r.1.1))
]

hex_is_no_dash : (b : ℕ) (bytes : List ℕ) → Each (λ x. x < 256) (b ∷ bytes) → bytes_eq (encode_lower (b ∷ bytes)) (codes "-") ≡ false
hex_is_no_dash b bytes fits = elim (cases (bytes_eq (encode_lower (b ∷ bytes)) (codes "-"))) [
  | inl yes' ↦
      let text = same_bytes (encode_lower (b ∷ bytes)) (codes "-") yes' in
      let len = ap length text in
      absurd (omega (arith, len, length-encode_with lower_digits (b ∷ bytes)))
  | inr no' ↦ no'
]

value_written : (bytes : List ℕ) → IsValue bytes → value_at (value_word bytes) ≡ Ok bytes
unfolding value_at
value_written [] fits = refl
value_written (b ∷ bytes) fits = rw (hex_is_no_dash b bytes fits.1) (bytes_written Value 64 (b ∷ bytes) ((omega arith, fits.0.1), fits.1))

-- ---- two numbers with a point between them

dotted_read : (word : List ℕ) (pair : ℕ × ℕ) → dotted_at word ≡ Ok pair → (word ≡ dotted pair.0 pair.1) × (pair.0 ≤ most) × (pair.1 ≤ most)
unfolding dotted_at
dotted_read word pair e = go (halves 46 word) refl e
  where
    go : (h : Option (List ℕ × List ℕ)) → halves 46 word ≡ h → numbers_at h ≡ Ok pair → (word ≡ dotted pair.0 pair.1) × (pair.0 ≤ most) × (pair.1 ≤ most)
    go None is e' = absurd cc
    go (Some p) is e' =
        let a = bind_ok (else_cause Word (number_of most p.0)) (λ m. else_cause Word (number_of most p.1) >>= λ n. Ok (m, n)) pair e' in
        let b = bind_ok (else_cause Word (number_of most p.1)) (λ n. Ok (a.0, n)) pair a.2 in
        let m = number_takes most p.0 a.0 (omega arith) (else_ok Word (number_of most p.0) a.0 a.1) in
        let n = number_takes most p.1 b.0 (omega arith) (else_ok Word (number_of most p.1) b.0 b.1) in
        let text : word ≡ dotted a.0 b.0 = halves_take 46 word p.0 p.1 is ∙ ap (λ (x : List ℕ). x ++ 46 ∷ p.1) m.0 ∙ ap (λ (x : List ℕ). decimal a.0 ++ 46 ∷ x) n.0 in
        subst (λ (q : ℕ × ℕ). (word ≡ dotted q.0 q.1) × (q.0 ≤ most) × (q.1 ≤ most)) (ok_is ScriptCause (a.0, b.0) pair b.2) (text, m.1, n.1)

dotted_written : (m n : ℕ) → m ≤ most → n ≤ most → dotted_at (dotted m n) ≡ Ok (m, n)
unfolding dotted_at
dotted_written m n first second =
    rw (halves_again 46 (decimal m) (decimal n) (decimal_apart m (omega arith)) (decimal_apart n (omega arith)), number_again most m (omega arith) first, number_again most n (omega arith) second) refl

-- ---- sites

site_read : (shape : StoreShape) (word : List ℕ) (s : Site) → read_site shape word ≡ Ok s → (word ≡ site_word s) × IsSiteOf shape s
unfolding read_site
site_read shape word s e =
    let a = bind_ok (dotted_at word) (λ pair. need (is_site_of shape (site_at pair)) Shape >>= λ _. Ok (site_at pair)) s e in
    let w = dotted_read word a.0 a.1 in
    let t = need_ok (is_site_of shape (site_at a.0)) Shape (Ok (site_at a.0)) s a.2 in
    let parts = and_parts (is_from 1 shape.partitions a.0.0) (is_from 1 shape.replicas a.0.1) t.0 in
    subst (λ (x : Site). (word ≡ site_word x) × IsSiteOf shape x) (ok_is ScriptCause (site_at a.0) s t.1) (w.0, (in_range 1 shape.partitions a.0.0 parts.0, in_range 1 shape.replicas a.0.1 parts.1))

site_small : (shape : StoreShape) (s : Site) → IsShape shape → IsSiteOf shape s → (s.partition.0 ≤ most) × (s.rank.0 ≤ most)
site_small shape s valid fits = (omega (arith, valid.few_partitions, fits.0.1), omega (arith, valid.few_replicas, fits.1.1))

site_written : (shape : StoreShape) (s : Site) → IsShape shape → IsSiteOf shape s → read_site shape (site_word s) ≡ Ok s
unfolding read_site
site_written shape s valid fits =
    let small = site_small shape s valid fits in
    rw (dotted_written s.partition.0 s.rank.0 small.0 small.1, range_in 1 shape.partitions s.partition.0 fits.0, range_in 1 shape.replicas s.rank.0 fits.1) refl

site_plain : (shape : StoreShape) (s : Site) → IsShape shape → IsSiteOf shape s → IsPlain (site_word s)
site_plain shape s valid fits = let small = site_small shape s valid fits in dotted_plain s.partition.0 s.rank.0 (omega (arith, small.0)) (omega (arith, small.1))

-- ---- identifiers

id_read : (commands : List Command) (word : List ℕ) (i : CommandId) → read_id commands word ≡ Ok i → (word ≡ id_word i) × (is_there commands i ≡ true)
unfolding read_id
id_read commands word i e =
    let a = bind_ok (dotted_at word) (λ pair. need (is_there commands (id_at pair)) Session >>= λ _. Ok (id_at pair)) i e in
    let w = dotted_read word a.0 a.1 in
    let t = need_ok (is_there commands (id_at a.0)) Session (Ok (id_at a.0)) i a.2 in
    subst (λ (x : CommandId). (word ≡ id_word x) × (is_there commands x ≡ true)) (ok_is ScriptCause (id_at a.0) i t.1) (w.0, t.0)

id_small : (commands : List Command) (i : CommandId) → Each (λ c. IsId c.id) commands → is_there commands i ≡ true → (i.session.0 ≤ most) × (i.number ≤ most)
id_small [] i ids e = absurd cc
id_small (c ∷ commands) i ids e = elim (or_cases (same_id c.id i) (is_there commands i) e) [
  | inl here ↦
      let parts = and_parts (c.id.session.0 == i.session.0) (c.id.number == i.number) here in
      let session = eqb-true _ _ parts.0 in
      let number' = eqb-true _ _ parts.1 in
      (omega (arith, session, ids.0.0.1), omega (arith, number', ids.0.1.1))
  | inr later ↦ id_small commands i ids.1 later
]

id_written : (commands : List Command) (i : CommandId) → Each (λ c. IsId c.id) commands → is_there commands i ≡ true → read_id commands (id_word i) ≡ Ok i
unfolding read_id
id_written commands i ids there =
    let small = id_small commands i ids there in
    rw (dotted_written i.session.0 i.number small.0 small.1, there) refl

-- ---- actors

session_read : (sessions : ℕ) (word : List ℕ) (a : ActorName) → read_session sessions word ≡ Ok a → (115 ∷ word ≡ actor_word a) × ((shape : StoreShape) → IsActorIn shape sessions a)
unfolding read_session
session_read sessions word a e =
    let x = bind_ok (else_cause Word (number_of most word)) (λ s. need (is_from 1 sessions s) Session >>= λ _. Ok (SessionOf (record { 0 = s }))) a e in
    let w = number_takes most word x.0 (omega arith) (else_ok Word (number_of most word) x.0 x.1) in
    let t = need_ok (is_from 1 sessions x.0) Session (Ok (SessionOf (record { 0 = x.0 }))) a x.2 in
    subst (λ (y : ActorName). (115 ∷ word ≡ actor_word y) × ((shape : StoreShape) → IsActorIn shape sessions y)) (ok_is ScriptCause (SessionOf (record { 0 = x.0 })) a t.1) (ap (λ (v : List ℕ). 115 ∷ v) w.0, λ _. in_range 1 sessions x.0 t.0)

actor_read : (shape : StoreShape) (sessions : ℕ) (word : List ℕ) (a : ActorName) → read_actor shape sessions word ≡ Ok a → (word ≡ actor_word a) × IsActorIn shape sessions a
unfolding read_actor
actor_read shape sessions [] a e = absurd cc
actor_read shape sessions (letter ∷ word) a e = elim (chosen (letter == 112) (read_site shape word >>= λ s. Ok (Process s)) (cond (letter == 101) (read_site shape word >>= λ s. Ok (Executor s)) (cond (letter == 115) (read_session sessions word) (Err Word))) (Ok a) e) [
  | inl p ↦
      let x = bind_ok (read_site shape word) (λ s. Ok (Process s)) a p.1 in
      let w = site_read shape word x.0 x.1 in
      subst (λ (y : ActorName). (letter ∷ word ≡ actor_word y) × IsActorIn shape sessions y) (ok_is ScriptCause (Process x.0) a x.2) (ap (λ (c : ℕ). c ∷ word) (eqb-true _ _ p.0) ∙ ap (λ (v : List ℕ). 112 ∷ v) w.0, w.1)
  | inr q ↦ elim (chosen (letter == 101) (read_site shape word >>= λ s. Ok (Executor s)) (cond (letter == 115) (read_session sessions word) (Err Word)) (Ok a) q.1) [
    | inl p ↦
        let x = bind_ok (read_site shape word) (λ s. Ok (Executor s)) a p.1 in
        let w = site_read shape word x.0 x.1 in
        subst (λ (y : ActorName). (letter ∷ word ≡ actor_word y) × IsActorIn shape sessions y) (ok_is ScriptCause (Executor x.0) a x.2) (ap (λ (c : ℕ). c ∷ word) (eqb-true _ _ p.0) ∙ ap (λ (v : List ℕ). 101 ∷ v) w.0, w.1)
    | inr r ↦ elim (chosen (letter == 115) (read_session sessions word) (Err Word) (Ok a) r.1) [
      | inl p ↦
          let w = session_read sessions word a p.1 in
          (ap (λ (c : ℕ). c ∷ word) (eqb-true _ _ p.0) ∙ w.0, w.1 shape)
      | inr z ↦ absurd (let wrong : ⊥ = cc in wrong)
    ]
  ]
]

actor_written : (shape : StoreShape) (sessions : ℕ) (a : ActorName) → IsShape shape → sessions ≤ 16 → IsActorIn shape sessions a → read_actor shape sessions (actor_word a) ≡ Ok a
unfolding read_actor read_session
actor_written shape sessions (Process s) valid few fits = rw (site_written shape s valid fits) refl
actor_written shape sessions (Executor s) valid few fits = rw (site_written shape s valid fits) refl
actor_written shape sessions (SessionOf s) valid few fits = rw (number_again most s.0 (omega arith) (omega (arith, fits.1, few)), range_in 1 sessions s.0 fits) refl

actor_plain : (shape : StoreShape) (sessions : ℕ) (a : ActorName) → IsShape shape → sessions ≤ 16 → IsActorIn shape sessions a → IsPlain (actor_word a)
actor_plain shape sessions (Process s) valid few fits = (omega arith, site_plain shape s valid fits)
actor_plain shape sessions (Executor s) valid few fits = (omega arith, site_plain shape s valid fits)
actor_plain shape sessions (SessionOf s) valid few fits = (omega arith, decimal_plain s.0 (omega (arith, fits.1, few)))

-- ---- all kinds

kind_takes : (k : Kind) → IsKind k → (word : List ℕ) (said : Said k) → read_word k word ≡ Ok said → (word ≡ word_of k said) × IsSaid k said
kind_takes (number low high) kind word said e = number_read Number low high word said kind e
kind_takes (literal text) kind word said e =
    let t = need_ok (bytes_eq word text) Word (Ok tt) said (sym (unit_step (bytes_eq word text)) ∙ e) in
    (same_bytes word text t.0, tt)
kind_takes key kind word said e = bytes_read Key 32 word said e
kind_takes value kind word said e = value_read word said e
kind_takes (site shape) kind word said e = site_read shape word said e
kind_takes (id commands) kind word said e = id_read commands word said e
kind_takes (actor shape sessions) kind word said e = actor_read shape sessions word said e

kind_again : (k : Kind) → IsKind k → (said : Said k) → IsSaid k said → read_word k (word_of k said) ≡ Ok said
kind_again (number low high) kind said fits = number_written Number low high said kind fits
kind_again (literal text) kind said fits = rw (bytes_same text) refl
kind_again key kind said fits = bytes_written Key 32 said fits
kind_again value kind said fits = value_written said fits
kind_again (site shape) kind said fits = site_written shape said kind fits
kind_again (id commands) kind said fits = id_written commands said kind fits
kind_again (actor shape sessions) kind said fits = actor_written shape sessions said kind.0 kind.1 fits

pub value_plain : (bytes : List ℕ) → IsValue bytes → IsPlain (value_word bytes)
value_plain [] fits = (omega arith, tt)
value_plain (b ∷ bytes) fits = hex_plain (b ∷ bytes) fits.1

kind_plain : (k : Kind) → IsKind k → (said : Said k) → IsSaid k said → IsPlain (word_of k said)
kind_plain (number low high) kind said fits = decimal_plain said (omega (arith, kind, fits.1))
kind_plain (literal text) kind said fits = kind
kind_plain key kind said fits = hex_plain said fits.1
kind_plain value kind said fits = value_plain said fits
kind_plain (site shape) kind said fits = site_plain shape said kind fits
kind_plain (id commands) kind said fits = let small = id_small commands said kind fits in dotted_plain said.session.0 said.number (omega (arith, small.0)) (omega (arith, small.1))
kind_plain (actor shape sessions) kind said fits = actor_plain shape sessions said kind.0 kind.1 fits

pub laws : AreKinds kinds IsKind IsSaid
laws = record { takes = kind_takes; again = kind_again; plain = kind_plain }
