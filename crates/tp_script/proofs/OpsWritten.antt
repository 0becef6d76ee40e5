-- A command's operations: what is read is written so, and what is written is read.
use Rattle.std.proofs.Common.{◌≡◌, ℕ, zero, suc, ◌≤◌, inl, inr, true, cond, List, [], ◌∷◌, ◌++◌, length, take, Option, Some, None, Ok, Err, refl, sym, ap, subst, ◌∙◌, arith, length-append}
use Rattle.hex.specs.Hex.{encode_lower}
use Rattle.std.specs.Option.{option_map}
use Rattle.std.specs.Prelude.{codes}
use Rattle.std.specs.Str.{bytes_eq}
use Rattle.std.proofs.lemmas.List.{take_all}
use Rattle.tp_base.specs.Lists.{Each}
use Rattle.tp_ops.specs.Limits.{IsKey, IsOp, IsValue}
use Rattle.tp_ops.specs.declared.operation.Op.{Op}
use Rattle.tp_ops.specs.declared.operation.Op.TheVariants.{Get, Put, Del, Cas}
use Rattle.tp_script.specs.Grammar.{after_op, cas_at, del_at, get_at, op_and_after, op_at, ops_and_count, ops_at, put_at, with_others}
use Rattle.tp_script.specs.Kinds.{IsSaid, key, kinds, take_word, value, value_word}
use Rattle.tp_script.specs.Print.{more_words, op_words, ops_words}
use Rattle.tp_script.specs.declared.fault.ScriptCause.{ScriptCause}
use Rattle.tp_script.specs.declared.fault.ScriptCause.TheVariants.{Word}
use Rattle.tp_script.proofs.Kinded.{IsKind, laws, value_plain}
use Rattle.tp_text.specs.Steps.{◌>>=◌}
use Rattle.tp_text.proofs.Joined.{IsPlain}
use Rattle.tp_text.proofs.Plain.{hex_plain, plain_by, same_bytes}
use Rattle.tp_text.proofs.Rowed.{taken, word_again}
use Rattle.tp_text.proofs.Stepped.{bind_ok, chosen, ok_is}

abbrev Words : Type 0
Words = List (List ℕ)

-- ---- reading

key_taken : (words : Words) (x : List ℕ × Words) → take_word key words ≡ Ok x → (words ≡ encode_lower x.0 ∷ x.1) × IsKey x.0
key_taken words x e = taken kinds IsKind IsSaid laws key tt words x e

value_taken : (words : Words) (x : List ℕ × Words) → take_word value words ≡ Ok x → (words ≡ value_word x.0 ∷ x.1) × IsValue x.0
value_taken words x e = taken kinds IsKind IsSaid laws value tt words x e

-- what an operation took off, behind its name
abbrev Takes : List ℕ → Words → Op × Words → Type 0
Takes name words x = (name ∷ words ≡ op_words x.0 ++ x.1) × IsOp x.0

get_takes : (words : Words) (x : Op × Words) → get_at words ≡ Ok x → Takes (codes "get") words x
unfolding get_at
get_takes words x e =
    let k = bind_ok (take_word key words) (λ k. Ok (Get k.0, k.1)) x e in
    let t = key_taken words k.0 k.1 in
    subst (Takes (codes "get") words) (ok_is ScriptCause (Get k.0.0, k.0.1) x k.2) (ap (λ (w : Words). codes "get" ∷ w) t.0, t.1)

put_takes : (words : Words) (x : Op × Words) → put_at words ≡ Ok x → Takes (codes "put") words x
unfolding put_at
put_takes words x e =
    let k = bind_ok (take_word key words) (λ k. take_word value k.1 >>= λ v. Ok (Put k.0 v.0, v.1)) x e in
    let v = bind_ok (take_word value k.0.1) (λ v. Ok (Put k.0.0 v.0, v.1)) x k.2 in
    let t = key_taken words k.0 k.1 in
    let u = value_taken k.0.1 v.0 v.1 in
    subst (Takes (codes "put") words) (ok_is ScriptCause (Put k.0.0 v.0.0, v.0.1) x v.2)
    (ap (λ (w : Words). codes "put" ∷ w) (t.0 ∙ ap (λ (w : Words). encode_lower k.0.0 ∷ w) u.0), (t.1, u.1))

del_takes : (words : Words) (x : Op × Words) → del_at words ≡ Ok x → Takes (codes "del") words x
unfolding del_at
del_takes words x e =
    let k = bind_ok (take_word key words) (λ k. Ok (Del k.0, k.1)) x e in
    let t = key_taken words k.0 k.1 in
    subst (Takes (codes "del") words) (ok_is ScriptCause (Del k.0.0, k.0.1) x k.2) (ap (λ (w : Words). codes "del" ∷ w) t.0, t.1)

cas_takes : (words : Words) (x : Op × Words) → cas_at words ≡ Ok x → Takes (codes "cas") words x
unfolding cas_at
cas_takes words x e =
    let k = bind_ok (take_word key words) (λ k. take_word value k.1 >>= λ old. take_word value old.1 >>= λ new. Ok (Cas k.0 old.0 new.0, new.1)) x e in
    let v = bind_ok (take_word value k.0.1) (λ old. take_word value old.1 >>= λ new. Ok (Cas k.0.0 old.0 new.0, new.1)) x k.2 in
    let n = bind_ok (take_word value v.0.1) (λ new. Ok (Cas k.0.0 v.0.0 new.0, new.1)) x v.2 in
    let t = key_taken words k.0 k.1 in
    let u = value_taken k.0.1 v.0 v.1 in
    let w = value_taken v.0.1 n.0 n.1 in
    subst (Takes (codes "cas") words) (ok_is ScriptCause (Cas k.0.0 v.0.0 n.0.0, n.0.1) x n.2)
    (ap (λ (y : Words). codes "cas" ∷ y) (t.0 ∙ ap (λ (y : Words). encode_lower k.0.0 ∷ y) (u.0 ∙ ap (λ (y : Words). value_word v.0.0 ∷ y) w.0)), (t.1, u.1, w.1))

named : (word name : List ℕ) (words : Words) (x : Op × Words) → bytes_eq word name ≡ true → Takes name words x → (word ∷ words ≡ op_words x.0 ++ x.1) × IsOp x.0
named word name words x same t = (ap (λ (w : List ℕ). w ∷ words) (same_bytes word name same) ∙ t.0, t.1)

op_takes : (words : Words) (x : Op × Words) → op_at words ≡ Ok x → (words ≡ op_words x.0 ++ x.1) × IsOp x.0
unfolding op_at
op_takes [] x e = absurd cc
op_takes (word ∷ words) x e =
    elim (chosen (bytes_eq word (codes "get")) (get_at words) (cond (bytes_eq word (codes "put")) (put_at words) (cond (bytes_eq word (codes "del")) (del_at words) (cond (bytes_eq word (codes "cas")) (cas_at words) (Err Word)))) (Ok x) e) [
      | inl p ↦ named word (codes "get") words x p.0 (get_takes words x p.1)
      | inr q ↦ elim (chosen (bytes_eq word (codes "put")) (put_at words) (cond (bytes_eq word (codes "del")) (del_at words) (cond (bytes_eq word (codes "cas")) (cas_at words) (Err Word))) (Ok x) q.1) [
        | inl p ↦ named word (codes "put") words x p.0 (put_takes words x p.1)
        | inr r ↦ elim (chosen (bytes_eq word (codes "del")) (del_at words) (cond (bytes_eq word (codes "cas")) (cas_at words) (Err Word)) (Ok x) r.1) [
          | inl p ↦ named word (codes "del") words x p.0 (del_takes words x p.1)
          | inr s ↦ elim (chosen (bytes_eq word (codes "cas")) (cas_at words) (Err Word) (Ok x) s.1) [
            | inl p ↦ named word (codes "cas") words x p.0 (cas_takes words x p.1)
            | inr z ↦ let wrong : ⊥ = cc in absurd wrong
          ]
        ]
      ]
    ]

-- what stands behind an operation
abbrev behind : Option Words → Words
behind None = []
behind (Some words) = codes ";" ∷ words

after_takes : (words : Words) (more : Option Words) → after_op words ≡ Ok more → words ≡ behind more
unfolding after_op
after_takes [] more e = ap behind (ok_is ScriptCause None more e)
after_takes (word ∷ words) more e = elim (chosen (bytes_eq word (codes ";")) (Ok (Some words)) (Err Word) (Ok more) e) [
  | inl p ↦ ap (λ (w : List ℕ). w ∷ words) (same_bytes word (codes ";") p.0) ∙ ap behind (ok_is ScriptCause (Some words) more p.1)
  | inr z ↦ let wrong : ⊥ = cc in absurd wrong
]

both_take : (words : Words) (x : Op × Option Words) → op_and_after words ≡ Ok x → (words ≡ op_words x.0 ++ behind x.1) × IsOp x.0
unfolding op_and_after
both_take words x e =
    let o = bind_ok (op_at words) (λ op. after_op op.1 >>= λ more. Ok (op.0, more)) x e in
    let m = bind_ok (after_op o.0.1) (λ more. Ok (o.0.0, more)) x o.2 in
    let t = op_takes words o.0 o.1 in
    subst (λ (y : Op × Option Words). (words ≡ op_words y.0 ++ behind y.1) × IsOp y.0) (ok_is ScriptCause (o.0.0, m.0) x m.2)
    (t.0 ∙ ap (λ (w : Words). op_words o.0.0 ++ w) (after_takes o.0.1 m.0 m.1), t.1)

more_is : (ops : List Op) → 1 ≤ length ops → more_words ops ≡ codes ";" ∷ ops_words ops
more_is [] some = absurd (omega arith)
more_is (op ∷ ops) some = refl

-- what was read of a line's operations
abbrev AreRead : Words → List Op → Type 0
AreRead words ops = (words ≡ ops_words ops) × (1 ≤ length ops) × Each IsOp ops

others_take : (n : ℕ) (words : Words) (op : Op) (more : Option Words) (ops : List Op) → words ≡ op_words op ++ behind more → IsOp op
    → ((ws : Words) (others : List Op) → ops_at n ws ≡ Ok others → AreRead ws others)
    → with_others op (option_map (λ ws. ops_at n ws) more) ≡ Ok ops → AreRead words ops
others_take n words op None ops text fits others e =
    subst (AreRead words) (ok_is ScriptCause (op ∷ []) ops e) (text, omega arith, (fits, tt))
others_take n words op (Some ws) ops text fits others e =
    let a = bind_ok (ops_at n ws) (λ os. Ok (op ∷ os)) ops e in
    let t = others ws a.0 a.1 in
    let grown : words ≡ op_words op ++ more_words a.0 = text ∙ ap (λ (w : Words). op_words op ++ codes ";" ∷ w) t.0 ∙ ap (λ (w : Words). op_words op ++ w) (sym (more_is a.0 t.1)) in
    subst (AreRead words) (ok_is ScriptCause (op ∷ a.0) ops a.2) (grown, omega arith, (fits, t.2))

pub ops_take : (n : ℕ) (words : Words) (ops : List Op) → ops_at n words ≡ Ok ops → AreRead words ops
unfolding ops_at
ops_take zero words ops e = let wrong : ⊥ = cc in absurd wrong
ops_take (suc n) words ops e =
    let a = bind_ok (op_and_after words) (λ first. with_others first.0 (option_map (λ ws. ops_at n ws) first.1)) ops e in
    let t = both_take words a.0 a.1 in
    others_take n words a.0.0 a.0.1 ops t.0 t.1 (ops_take n) a.2

whole : (ops : List Op) → length ops ≤ 16 → take 16 ops ≡ ops
whole ops few = take_all 16 ops few

-- where no more than sixteen were counted, they were all kept
pub counted_take : (words : Words) (x : List Op × ℕ) → ops_and_count words ≡ Ok x → x.1 ≤ 16 → AreRead words x.0 × (length x.0 ≡ x.1)
unfolding ops_and_count
counted_take words x e few =
    let a = bind_ok (ops_at (length words) words) (λ ops. Ok (take 16 ops, length ops)) x e in
    let made : (take 16 a.0, length a.0) ≡ x = ok_is ScriptCause (take 16 a.0, length a.0) x a.2 in
    let number : length a.0 ≡ x.1 = ap (λ (y : List Op × ℕ). y.1) made in
    let list : a.0 ≡ x.0 = sym (whole a.0 (omega (arith, number, few))) ∙ ap (λ (y : List Op × ℕ). y.0) made in
    (subst (AreRead words) list (ops_take (length words) words a.0 a.1), ap (λ (ops : List Op). length ops) (sym list) ∙ number)

-- ---- writing

key_again : (k : List ℕ) (words : Words) → IsKey k → take_word key (encode_lower k ∷ words) ≡ Ok (k, words)
key_again k words fits = word_again kinds IsKind IsSaid laws key tt k words fits

value_again : (v : List ℕ) (words : Words) → IsValue v → take_word value (value_word v ∷ words) ≡ Ok (v, words)
value_again v words fits = word_again kinds IsKind IsSaid laws value tt v words fits

op_again : (op : Op) (rest : Words) → IsOp op → op_at (op_words op ++ rest) ≡ Ok (op, rest)
unfolding op_at get_at put_at del_at cas_at
op_again (Get k) rest fits = rw (key_again k rest fits) refl
op_again (Put k v) rest fits = rw (key_again k (value_word v ∷ rest) fits.0, value_again v rest fits.1) refl
op_again (Del k) rest fits = rw (key_again k rest fits) refl
op_again (Cas k old new) rest fits = rw (key_again k (value_word old ∷ value_word new ∷ rest) fits.0, value_again old (value_word new ∷ rest) fits.1, value_again new rest fits.2) refl

last_again : (op : Op) → IsOp op → op_and_after (op_words op ++ []) ≡ Ok (op, None)
unfolding op_and_after after_op
last_again op fits = rw (op_again op [] fits) refl

next_again : (op : Op) (words : Words) → IsOp op → op_and_after (op_words op ++ codes ";" ∷ words) ≡ Ok (op, Some words)
unfolding op_and_after after_op
next_again op words fits = rw (op_again op (codes ";" ∷ words) fits) refl

pub ops_again : (n : ℕ) (ops : List Op) → length ops ≤ n → 1 ≤ length ops → Each IsOp ops → ops_at n (ops_words ops) ≡ Ok ops
unfolding ops_at
ops_again n [] few some fit = absurd (omega arith)
ops_again zero (op ∷ ops) few some fit = absurd (omega arith)
ops_again (suc n) (op ∷ []) few some fit = rw (last_again op fit.0) refl
ops_again (suc n) (op ∷ next ∷ ops) few some fit = rw (next_again op (ops_words (next ∷ ops)) fit.0, ops_again n (next ∷ ops) (omega arith) (omega arith) fit.1) refl

-- there are as many words as operations, or more
op_long : (op : Op) → 1 ≤ length (op_words op)
op_long (Get k) = omega arith
op_long (Put k v) = omega arith
op_long (Del k) = omega arith
op_long (Cas k old new) = omega arith

more_long : (ops : List Op) → length ops ≤ length (more_words ops)
more_long [] = omega arith
more_long (op ∷ ops) = omega (arith, length-append (op_words op) (more_words ops), more_long ops)

pub ops_long : (ops : List Op) → length ops ≤ length (ops_words ops)
ops_long [] = omega arith
ops_long (op ∷ ops) = omega (arith, length-append (op_words op) (more_words ops), more_long ops, op_long op)

-- ---- no spaces

pub plain_lines : (xs ys : Words) → Each IsPlain xs → Each IsPlain ys → Each IsPlain (xs ++ ys)
plain_lines [] ys a b = b
plain_lines (x ∷ xs) ys a b = (a.0, plain_lines xs ys a.1 b)

op_plain : (op : Op) → IsOp op → Each IsPlain (op_words op)
op_plain (Get k) fits = (plain_by (codes "get") refl, (hex_plain k fits.1, tt))
op_plain (Put k v) fits = (plain_by (codes "put") refl, (hex_plain k fits.0.1, (value_plain v fits.1, tt)))
op_plain (Del k) fits = (plain_by (codes "del") refl, (hex_plain k fits.1, tt))
op_plain (Cas k old new) fits = (plain_by (codes "cas") refl, (hex_plain k fits.0.1, (value_plain old fits.1, (value_plain new fits.2, tt))))

more_plain : (ops : List Op) → Each IsOp ops → Each IsPlain (more_words ops)
more_plain [] fit = tt
more_plain (op ∷ ops) fit = (plain_by (codes ";") refl, plain_lines (op_words op) (more_words ops) (op_plain op fit.0) (more_plain ops fit.1))

pub ops_plain : (ops : List Op) → Each IsOp ops → Each IsPlain (ops_words ops)
ops_plain [] fit = tt
ops_plain (op ∷ ops) fit = plain_lines (op_words op) (more_words ops) (op_plain op fit.0) (more_plain ops fit.1)

pub counted_again : (ops : List Op) → length ops ≤ 16 → 1 ≤ length ops → Each IsOp ops → ops_and_count (ops_words ops) ≡ Ok (ops, length ops)
unfolding ops_and_count
counted_again ops few some fit = rw (ops_again (length (ops_words ops)) ops (ops_long ops) some fit, whole ops few) refl
