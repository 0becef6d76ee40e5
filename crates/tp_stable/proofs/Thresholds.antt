-- The greatest of the stable numbers is a front.
use Rattle.std.proofs.Common.{◌≡◌, ℕ, zero, suc, ◌+◌, ◌<◌, ◌≤◌, inl, inr, Bool, true, false, cond, refl, sym, ap, subst, ◌∙◌, arith}
use Rattle.std.specs.Prelude.{nat_le}
use Rattle.std.proofs.lemmas.Bool.{cases_lt, le-leb, leb-true, lt-leb}
use Rattle.tp_topology.specs.Counting.{all_up_to, count_up_to}
use Rattle.tp_topology.proofs.Passing.{all_below, all_fails, count_more, count_next}

-- each number up to the front passes, and the next one doesn't
pub record IsFront (q : ℕ → Bool) (front : ℕ) : Type 0 where
  pub all : all_up_to q front ≡ true
  pub next : q (front + 1) ≡ false

-- each number up to a stamp passes where the stamp is not past the front
pub front_says : (q : ℕ → Bool) (front stamp : ℕ) → IsFront q front → all_up_to q stamp ≡ nat_le stamp front
front_says q front stamp is = elim (cases_lt front stamp) [
  | inl lt ↦ all_fails q stamp (front + 1) (omega arith) (omega arith) is.next ∙ sym (lt-leb stamp front lt)
  | inr ge ↦ all_below q front stamp ge is.all ∙ sym (le-leb stamp front ge)
]

some_counted : (q : ℕ → Bool) (n k : ℕ) → 1 ≤ k → k ≤ n → q k ≡ true → 0 < count_up_to q n
some_counted q zero k low high e = absurd (omega arith)
some_counted q (suc n) k low high e = elim (cases_lt k (suc n)) [
  | inl lt ↦ more (q (suc n)) (some_counted q n k low (omega arith) e)
  | inr ge ↦
      let same : k ≡ suc n = omega arith in
      let here : q (suc n) ≡ true = subst (λ (j : ℕ). q j ≡ true) same e in
      subst (λ (b : Bool). 0 < cond b (suc (count_up_to q n)) (count_up_to q n)) (sym here) (omega arith)
]
  where
    more : (b : Bool) → 0 < count_up_to q n → 0 < cond b (suc (count_up_to q n)) (count_up_to q n)
    more true lt = omega arith
    more false lt = lt

module _ (p : ℕ → ℕ → Bool) (majority ranks : ℕ) where
  -- how many ranks have all numbers up to s
  abbrev pub reach : ℕ → ℕ → ℕ
  reach s n = count_up_to (λ rank. all_up_to (p rank) s) n

  abbrev pub is_stable_at : ℕ → Bool
  is_stable_at s = nat_le majority (reach s ranks)

  -- the front of a rank, which is at most `top` where it is stable
  pub record Below (top rank : ℕ) : Type 0 where
    pub front : ℕ
    pub is : IsFront (p rank) front
    pub low : is_stable_at front ≡ true → front ≤ top

  record Lowest (top s n : ℕ) : Type 0 where
    front : ℕ
    low : is_stable_at front ≡ true → front ≤ top
    past : s ≤ front
    others : (k : ℕ) → 1 ≤ k → k ≤ n → all_up_to (p k) s ≡ true → all_up_to (p k) front ≡ true

  -- of the fronts at or past s the least one
  lowest : (top s n : ℕ) → ((k : ℕ) → 1 ≤ k → k ≤ n → Below top k) → 0 < reach s n → Lowest top s n
  lowest top s zero fronts some = absurd (omega arith)
  lowest top s (suc n) fronts some =
      go (all_up_to (p (suc n)) s) refl some (lowest top s n (λ k low high. fronts k low (omega arith)))
    where
      here : Below top (suc n)
      here = fronts (suc n) (omega arith) (omega arith)

      split : (front k : ℕ) → k ≤ suc n → (k ≤ n → all_up_to (p k) front ≡ true) → (k ≡ suc n → all_up_to (p k) front ≡ true) → all_up_to (p k) front ≡ true
      split front k high before last = elim (cases_lt k (suc n)) [ inl lt ↦ before (omega arith) | inr ge ↦ last (omega arith) ]

      at_last : (front k : ℕ) → front ≤ here.front → k ≡ suc n → all_up_to (p k) front ≡ true
      at_last front k le same = subst (λ (j : ℕ). all_up_to (p j) front ≡ true) (sym same) (all_below (p (suc n)) here.front front le here.is.all)

      among : all_up_to (p (suc n)) s ≡ true → s ≤ here.front → (0 < reach s n → Lowest top s n) → Lowest top s (suc n)
      among passes le rest = elim (cases_lt 0 (reach s n)) [
        | inl more ↦ let found : Lowest top s n = rest more in elim (cases_lt found.front here.front) [
          | inl lt ↦ record {
            front = found.front;
            low = found.low;
            past = found.past;
            others = λ k low high e. split found.front k high (λ le'. found.others k low le' e) (at_last found.front k (omega arith));
          }
          | inr ge ↦ record {
            front = here.front;
            low = here.low;
            past = le;
            others = λ k low high e. split here.front k high (λ le'. all_below (p k) found.front here.front ge (found.others k low le' e)) (at_last here.front k (omega arith));
          }
        ]
        | inr none ↦ record {
          front = here.front;
          low = here.low;
          past = le;
          others = λ k low high e. split here.front k high
              (λ le'. let one : 0 < reach s n = some_counted (λ rank. all_up_to (p rank) s) n k low le' e in absurd (omega arith))
              (at_last here.front k (omega arith));
        }
      ]

      go : (t : Bool) → all_up_to (p (suc n)) s ≡ t → 0 < cond t (suc (reach s n)) (reach s n) → (0 < reach s n → Lowest top s n) → Lowest top s (suc n)
      go true e more rest = among e (leb-true s here.front (sym (front_says (p (suc n)) here.front s here.is) ∙ e)) rest
      go false e more rest = let found : Lowest top s n = rest more in record {
        front = found.front;
        low = found.low;
        past = found.past;
        others = λ k low high e'. split found.front k high (λ le'. found.others k low le' e') (λ same. let no : all_up_to (p k) s ≡ false = subst (λ (j : ℕ). all_up_to (p j) s ≡ false) (sym same) e in absurd cc);
      }

  -- so each stable number is at most `top`
  pub stable_below : (top s : ℕ) → 1 ≤ majority → ((k : ℕ) → 1 ≤ k → k ≤ ranks → Below top k) → is_stable_at s ≡ true → s ≤ top
  stable_below top s some fronts stable =
      let enough : majority ≤ reach s ranks = leb-true majority (reach s ranks) stable in
      let found : Lowest top s ranks = lowest top s ranks fronts (omega arith) in
      let more : reach s ranks ≤ reach found.front ranks = count_more (λ rank. all_up_to (p rank) s) (λ rank. all_up_to (p rank) found.front) ranks found.others in
      let low : found.front ≤ top = found.low (le-leb majority (reach found.front ranks) (omega arith)) in
      omega (arith, found.past)

  all_reach : (n : ℕ) → reach 0 n ≡ n
  all_reach zero = refl
  all_reach (suc n) = ap (λ (k : ℕ). suc k) (all_reach n)

  pub none_stable : majority ≤ ranks → is_stable_at 0 ≡ true
  none_stable le = le-leb majority (reach 0 ranks) (omega (arith, all_reach ranks))

  -- what the search of the greatest has found after n ranks
  pub record Found (top n : ℕ) : Type 0 where
    pub stable : is_stable_at top ≡ true
    pub below : (k : ℕ) → 1 ≤ k → k ≤ n → Below top k

  further : (top top' k : ℕ) → top ≤ top' → Below top k → Below top' k
  further top top' k le b = record { front = b.front; is = b.is; low = λ e. let low : b.front ≤ top = b.low e in omega arith }

  pub found_more : (top top' n front : ℕ) → Found top n → IsFront (p (n + 1)) front → top ≤ top' → is_stable_at top' ≡ true → (is_stable_at front ≡ true → front ≤ top') → Found top' (n + 1)
  found_more top top' n front found is le stable low = record {
    stable = stable;
    below = λ k one high. elim (cases_lt k (n + 1)) [
      | inl lt ↦ further top top' k le (found.below k one (omega arith))
      | inr ge ↦ let same : k ≡ n + 1 = omega arith in subst (λ (j : ℕ). Below top' j) (sym same) (record { front = front; is = is; low = low })
    ];
  }

-- one rank more is counted
pub one_rank : (q : ℕ → Bool) (k count count' : ℕ) (b : Bool) → count ≡ count_up_to q k → q (k + 1) ≡ b → count' ≡ cond b (count + 1) count → count' ≡ count_up_to q (k + 1)
one_rank q k count count' b so_far here is =
    is ∙ ap (λ (n : ℕ). cond b (n + 1) n) so_far
    ∙ sym (count_next q k ∙ ap (λ (t : Bool). cond t (count_up_to q k + 1) (count_up_to q k)) here)
