-- Merging goes on with what is left of each partition's answers.
use Rattle.std.proofs.Common.{◌≡◌, ◌≢◌, ℕ, zero, suc, ◌+◌, ◌-◌, ◌<◌, ◌≤◌, inl, inr, Bool, true, cond, List, [], ◌∷◌, ◌++◌, length, get_or, set, drop, Option, Some, None, refl, sym, ap, subst, ◌∙◌, arith, get_or-set_same, get_or-set_other}
use Rattle.std.specs.Prelude.{slice_get, ◌==◌}
use Rattle.std.proofs.lemmas.List.{append-nil, append_assoc, drop_all, drop_more}
use Rattle.std.proofs.lemmas.Bool.{cases_eq, ne_eqb}
use Rattle.tp_base.specs.Partition.{partition_number}
use Rattle.tp_ops.specs.declared.operation.Answer.{Answer}
use Rattle.tp_ops.specs.declared.operation.Op.{Op}
use Rattle.tp_ops.specs.Parts.{answers_in, first_of, key_of, merged, rest_of}

-- what is left of each partition's answers, after so many were taken
abbrev pub left : List (Option (List Answer)) → List ℕ → ℕ → List Answer
left parts taken q = drop (get_or taken (q - 1) 0) (answers_in parts q)

abbrev next : ℕ → (ℕ → List Answer) → ℕ → List Answer
next p f q = cond (q == p) (rest_of (f q)) (f q)

number_low : (key : List ℕ) (n : ℕ) → 1 ≤ partition_number key n
number_low key n = omega arith

number_high : (key : List ℕ) (n : ℕ) → 1 ≤ n → partition_number key n ≤ n
number_high key n some = omega arith

-- only the answers of the partitions that there are matter
pub merged_within : (n : ℕ) (ops : List Op) (f g : ℕ → List Answer) → 1 ≤ n → ((q : ℕ) → 1 ≤ q → q ≤ n → f q ≡ g q) → merged n ops f ≡ merged n ops g
unfolding merged
merged_within n [] f g some same = refl
merged_within n (op ∷ ops) f g some same =
    let p = partition_number (key_of op) n in
    ap (λ (xs : List Answer). first_of xs ++ merged n ops (next p f)) (same p (number_low (key_of op) n) (number_high (key_of op) n some))
    ∙ ap (λ (ys : List Answer). first_of (g p) ++ ys)
    (merged_within n ops (next p f) (next p g) some (λ q low high. ap (λ (xs : List Answer). cond (q == p) (rest_of xs) xs) (same q low high)))

rest-drop : (n : ℕ) (xs : List Answer) → rest_of (drop n xs) ≡ drop (suc n) xs
rest-drop zero [] = refl
rest-drop zero (x ∷ xs) = refl
rest-drop (suc n) [] = refl
rest-drop (suc n) (x ∷ xs) = rest-drop n xs

drop-nil : (n : ℕ) → drop {A = Answer} n [] ≡ []
drop-nil zero = refl
drop-nil (suc n) = refl

first-drop : (n : ℕ) (xs : List Answer) (a : Answer) → slice_get xs n ≡ Some a → first_of (drop n xs) ≡ a ∷ []
first-drop n [] a e = absurd cc
first-drop zero (x ∷ xs) a e = let same : x ≡ a = cc in ap (λ (y : Answer). y ∷ []) same
first-drop (suc n) (x ∷ xs) a e = first-drop n xs a e

drop-none : (n : ℕ) (xs : List Answer) → slice_get xs n ≡ None → drop n xs ≡ []
drop-none n [] e = drop-nil n
drop-none zero (x ∷ xs) e = absurd cc
drop-none (suc n) (x ∷ xs) e = drop-none n xs e

-- another partition's answers are not touched
left_other : (parts : List (Option (List Answer))) (taken : List ℕ) (p q x : ℕ) → 1 ≤ p → q ≢ p → left parts taken q ≡ left parts (set taken (p - 1) x) q
left_other parts taken p zero x low apart = drop-nil (get_or taken 0 0) ∙ sym (drop-nil (get_or (set taken (p - 1) x) 0 0))
left_other parts taken p (suc q) x low apart =
    let other : suc q - 1 ≢ p - 1 = λ e. apart (omega arith) in
    ap (λ (n : ℕ). drop n (answers_in parts (suc q))) (sym (get_or-set_other taken (p - 1) (suc q - 1) x 0 other))

left_here : (parts : List (Option (List Answer))) (taken : List ℕ) (p : ℕ) → (p - 1) < length taken
    → rest_of (left parts taken p) ≡ left parts (set taken (p - 1) (get_or taken (p - 1) 0 + 1)) p
left_here parts taken p lt =
    let one : suc (get_or taken (p - 1) 0) ≡ get_or taken (p - 1) 0 + 1 = omega arith in
    rest-drop (get_or taken (p - 1) 0) (answers_in parts p)
    ∙ ap (λ (n : ℕ). drop n (answers_in parts p)) (one ∙ sym (get_or-set_same taken (p - 1) (get_or taken (p - 1) 0 + 1) 0 lt))

left_next : (parts : List (Option (List Answer))) (taken : List ℕ) (p : ℕ) → 1 ≤ p → (p - 1) < length taken → (q : ℕ)
    → next p (left parts taken) q ≡ left parts (set taken (p - 1) (get_or taken (p - 1) 0 + 1)) q
left_next parts taken p low lt q = elim (cases_eq q p) [
  | inl e ↦ let is : (q == p) ≡ true = grind arith in
      ap (λ (b : Bool). cond b (rest_of (left parts taken q)) (left parts taken q)) is
      ∙ subst (λ (k : ℕ). rest_of (left parts taken k) ≡ left parts (set taken (p - 1) (get_or taken (p - 1) 0 + 1)) k) (sym e) (left_here parts taken p lt)
  | inr apart ↦ ap (λ (b : Bool). cond b (rest_of (left parts taken q)) (left parts taken q)) (ne_eqb q p apart)
      ∙ left_other parts taken p q (get_or taken (p - 1) 0 + 1) low apart
]

-- the next answer of its partition is there
merged_some : (n : ℕ) (op : Op) (ops : List Op) (parts : List (Option (List Answer))) (taken : List ℕ) (p : ℕ) (a : Answer)
    → 1 ≤ n → p ≡ partition_number (key_of op) n → 1 ≤ p → (p - 1) < length taken → slice_get (answers_in parts p) (get_or taken (p - 1) 0) ≡ Some a
    → merged n (op ∷ ops) (left parts taken) ≡ a ∷ merged n ops (left parts (set taken (p - 1) (get_or taken (p - 1) 0 + 1)))
unfolding merged
merged_some n op ops parts taken p a some e low lt here =
    subst (λ (k : ℕ). first_of (left parts taken k) ++ merged n ops (next k (left parts taken)) ≡ a ∷ merged n ops (left parts (set taken (p - 1) (get_or taken (p - 1) 0 + 1)))) e
    (ap (λ (xs : List Answer). xs ++ merged n ops (next p (left parts taken))) (first-drop (get_or taken (p - 1) 0) (answers_in parts p) a here)
    ∙ ap (λ (ys : List Answer). a ∷ ys) (merged_within n ops (next p (left parts taken)) (left parts (set taken (p - 1) (get_or taken (p - 1) 0 + 1))) some (λ q _ _. left_next parts taken p low lt q)))

next_none : (p : ℕ) (f : ℕ → List Answer) → f p ≡ [] → (q : ℕ) → next p f q ≡ f q
next_none p f none q = elim (cases_eq q p) [
  | inl e ↦ let is : (q == p) ≡ true = grind arith in
      let empty : f q ≡ [] = ap f e ∙ none in
      ap (λ (b : Bool). cond b (rest_of (f q)) (f q)) is ∙ ap rest_of empty ∙ sym empty
  | inr apart ↦ ap (λ (b : Bool). cond b (rest_of (f q)) (f q)) (ne_eqb q p apart)
]

-- no answer of its partition is left
merged_none : (n : ℕ) (op : Op) (ops : List Op) (parts : List (Option (List Answer))) (taken : List ℕ) (p : ℕ)
    → 1 ≤ n → p ≡ partition_number (key_of op) n → slice_get (answers_in parts p) (get_or taken (p - 1) 0) ≡ None
    → merged n (op ∷ ops) (left parts taken) ≡ merged n ops (left parts taken)
unfolding merged
merged_none n op ops parts taken p some e here =
    let none : left parts taken p ≡ [] = drop-none (get_or taken (p - 1) 0) (answers_in parts p) here in
    subst (λ (k : ℕ). first_of (left parts taken k) ++ merged n ops (next k (left parts taken)) ≡ merged n ops (left parts taken)) e
    (ap (λ (xs : List Answer). first_of xs ++ merged n ops (next p (left parts taken))) none
    ∙ merged_within n ops (next p (left parts taken)) (left parts taken) some (λ q _ _. next_none p (left parts taken) none q))

merged_nil : (n : ℕ) (f : ℕ → List Answer) → merged n [] f ≡ []
unfolding merged
merged_nil n f = refl

-- one operation further

more : (n : ℕ) (ops : List Op) (op : Op) (i : ℕ) (total done : List Answer) (f : ℕ → List Answer)
    → total ≡ done ++ merged n (drop i ops) f → i < length ops → op ≡ get_or ops i op
    → total ≡ done ++ merged n (op ∷ drop (i + 1) ops) f
more n ops op i total done f so_far lt is =
    so_far ∙ ap (λ (rest : List Op). done ++ merged n rest f) (drop_more ops i op lt ∙ ap (λ (o : Op). o ∷ drop (i + 1) ops) (sym is))

-- with an answer of its partition
pub step_some : (n : ℕ) (ops : List Op) (op : Op) (i : ℕ) (total done : List Answer) (parts : List (Option (List Answer))) (taken : List ℕ) (p place : ℕ) (a : Answer)
    → 1 ≤ n → total ≡ done ++ merged n (drop i ops) (left parts taken) → i < length ops → op ≡ get_or ops i op
    → p ≡ partition_number (key_of op) n → 1 ≤ p → place ≡ p - 1 → place < length taken
    → slice_get (answers_in parts p) (get_or taken place 0) ≡ Some a
    → total ≡ (done ++ a ∷ []) ++ merged n (drop (i + 1) ops) (left parts (set taken place (get_or taken place 0 + 1)))
step_some n ops op i total done parts taken p place a some so_far lt is e low at within here =
    let here' : slice_get (answers_in parts p) (get_or taken (p - 1) 0) ≡ Some a = subst (λ (k : ℕ). slice_get (answers_in parts p) (get_or taken k 0) ≡ Some a) at here in
    more n ops op i total done (left parts taken) so_far lt is
    ∙ ap (λ (ys : List Answer). done ++ ys) (merged_some n op (drop (i + 1) ops) parts taken p a some e low (subst (λ (k : ℕ). k < length taken) at within) here')
    ∙ sym (append_assoc done (a ∷ []) (merged n (drop (i + 1) ops) (left parts (set taken (p - 1) (get_or taken (p - 1) 0 + 1)))))
    ∙ ap (λ (k : ℕ). (done ++ a ∷ []) ++ merged n (drop (i + 1) ops) (left parts (set taken k (get_or taken k 0 + 1)))) (sym at)

-- with none
pub step_none : (n : ℕ) (ops : List Op) (op : Op) (i : ℕ) (total done : List Answer) (parts : List (Option (List Answer))) (taken : List ℕ) (p place : ℕ)
    → 1 ≤ n → total ≡ done ++ merged n (drop i ops) (left parts taken) → i < length ops → op ≡ get_or ops i op
    → p ≡ partition_number (key_of op) n → place ≡ p - 1
    → slice_get (answers_in parts p) (get_or taken place 0) ≡ None
    → total ≡ done ++ merged n (drop (i + 1) ops) (left parts taken)
step_none n ops op i total done parts taken p place some so_far lt is e at here =
    more n ops op i total done (left parts taken) so_far lt is
    ∙ ap (λ (ys : List Answer). done ++ ys) (merged_none n op (drop (i + 1) ops) parts taken p some e (subst (λ (k : ℕ). slice_get (answers_in parts p) (get_or taken k 0) ≡ None) at here))

-- after the last operation
pub merged_end : (n : ℕ) (ops : List Op) (i : ℕ) (total done : List Answer) (f : ℕ → List Answer)
    → total ≡ done ++ merged n (drop i ops) f → length ops ≤ i → total ≡ done
merged_end n ops i total done f so_far le =
    so_far
    ∙ ap (λ (rest : List Op). done ++ merged n rest f) (drop_all i ops le)
    ∙ ap (λ (ys : List Answer). done ++ ys) (merged_nil n f)
    ∙ append-nil done

-- no partition's count is above that of the operations
pub bound_more : (taken : List ℕ) (place i k : ℕ) → ((j : ℕ) → get_or taken j 0 ≤ i) → place < length taken
    → get_or (set taken place (get_or taken place 0 + 1)) k 0 ≤ i + 1
bound_more taken place i k bound within =
    let here : get_or (set taken place (get_or taken place 0 + 1)) place 0 ≡ get_or taken place 0 + 1 = get_or-set_same taken place (get_or taken place 0 + 1) 0 within in
    elim (cases_eq k place) [
      | inl e ↦ subst (λ (j : ℕ). get_or (set taken place (get_or taken place 0 + 1)) j 0 ≤ i + 1) (sym e) (omega (arith, here, bound place))
      | inr apart ↦ omega (arith, get_or-set_other taken place k (get_or taken place 0 + 1) 0 apart, bound k)
    ]
