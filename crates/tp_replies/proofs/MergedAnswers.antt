-- The answers of partitions' stores, merged, are those of one store. Used for replies and for results.
use Rattle.std.proofs.Common.{◌≡◌, ◌≢◌, ℕ, Bool, true, false, cond, List, [], ◌∷◌, ◌++◌, refl, sym, ap, subst, ◌∙◌}
use Rattle.std.specs.Prelude.{filter, ◌==◌}
use Rattle.std.specs.List.{list_any}
use Rattle.std.proofs.lemmas.Bool.{cond_both, eqb-true, eq-eqb, ne_eqb, or_left, or_right}
use Rattle.tp_base.specs.Partition.{partition_number}
use Rattle.tp_ops.specs.declared.operation.Answer.{Answer}
use Rattle.tp_ops.specs.declared.operation.Op.{Op}
use Rattle.tp_ops.specs.Parts.{first_of, is_on, key_of, merged, ops_on, rest_of}
use Rattle.tp_ops.specs.Store.{Contents, after, answer_of, answers_of}
use Rattle.tp_rules.specs.Outcome.{answers_on}
use Rattle.tp_replies.specs.Stores.{AgreeOn}
use Rattle.tp_replies.proofs.OneStore.{after_both, after_one, elsewhere, same_answer}

-- of the one store's answers, those on a partition
pub answers_on_partition : (n p : ℕ) (ops : List Op) (f g : Contents) → AgreeOn n p f g
    → answers_on n p ops (answers_of ops f) ≡ answers_of (ops_on n p ops) g
unfolding ops_on
answers_on_partition n p [] f g h = refl
answers_on_partition n p (op ∷ ops) f g h = on_test (is_on n p op) refl (answers_on_partition n p ops (after op f))
  where
    rest : List Answer
    rest = answers_on n p ops (answers_of ops (after op f))

    own : List Op
    own = filter (is_on n p) ops

    on_test : (b : Bool) → is_on n p op ≡ b → ((k : Contents) → AgreeOn n p (after op f) k → rest ≡ answers_of own k)
        → cond b (answer_of op f ∷ rest) rest ≡ answers_of (cond b (op ∷ own) own) g
    on_test true on more =
        let here = eqb-true (partition_number (key_of op) n) p on in
        ap (λ (a : Answer). a ∷ rest) (same_answer n p op f g here h)
        ∙ ap (λ (as' : List Answer). answer_of op g ∷ as') (more (after op g) (after_both n p op f g here h))
    on_test false off more = more g (after_one n p op f g (elsewhere n p op off) h)

-- answers to the operations on a partition, by a store that agrees there with the one store
pub record IsPart (n : ℕ) (ops : List Op) (f : Contents) (p : ℕ) (answers : List Answer) : Type 0 where
  -- the store
  pub store : Contents
  pub agrees : AgreeOn n p f store
  -- the answers are its own
  pub answered : answers ≡ answers_of (ops_on n p ops) store

-- what is left of each partition's answers, once the first of partition p is merged
abbrev left : ℕ → (ℕ → List Answer) → ℕ → List Answer
left p parts q = cond (q == p) (rest_of (parts q)) (parts q)

-- the parts of all partitions that the operations are on, merged, are the one store's answers
pub merged_parts : (n : ℕ) (ops : List Op) (f : Contents) (parts : ℕ → List Answer)
    → ((p : ℕ) → list_any (is_on n p) ops ≡ true → IsPart n ops f p (parts p)) → merged n ops parts ≡ answers_of ops f
unfolding merged ops_on
merged_parts n [] f parts h = refl
merged_parts n (op ∷ ops) f parts h =
    let p : ℕ = partition_number (key_of op) n in
    let on : is_on n p op ≡ true = eq-eqb p p refl in
    let own = h p (or_left (is_on n p op) (list_any (is_on n p) ops) on) in
    let first_then : parts p ≡ answer_of op own.store ∷ answers_of (ops_on n p ops) (after op own.store) =
    own.answered ∙ ap (λ (b : Bool). answers_of (with_op p b) own.store) on in
    let first : first_of (parts p) ≡ answer_of op f ∷ [] =
    ap first_of first_then ∙ ap (λ (a : Answer). a ∷ []) (sym (same_answer n p op f own.store refl own.agrees)) in
    ap (λ (as' : List Answer). as' ++ merged n ops (left p parts)) first
    ∙ ap (λ (as' : List Answer). answer_of op f ∷ as') (merged_parts n ops (after op f) (left p parts) (λ q some.
    cond_both (q == p) (rest_of (parts q)) (parts q) (IsPart n ops (after op f) q)
    (λ t. let same : p ≡ q = sym (eqb-true q p t) in
    subst (λ (k : ℕ). IsPart n ops (after op f) k (rest_of (parts k))) same (record {
      store = after op own.store;
      agrees = after_both n p op f own.store refl own.agrees;
      answered = ap rest_of first_then;
    }))
    (λ no.
    let apart : p ≢ q = λ e. absurd (let t : (q == p) ≡ true = eq-eqb q p (sym e) in cc) in
    let other = h q (or_right (is_on n q op) (list_any (is_on n q) ops) some) in
    record {
      store = other.store;
      agrees = after_one n q op f other.store apart other.agrees;
      answered = other.answered ∙ ap (λ (b : Bool). answers_of (with_op q b) other.store) (ne_eqb p q apart);
    })))
  where
    with_op : ℕ → Bool → List Op
    with_op q b = cond b (op ∷ filter (is_on n q) ops) (filter (is_on n q) ops)
