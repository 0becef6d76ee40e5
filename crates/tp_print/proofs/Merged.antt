-- Answers in the order of a command's operations, and the reply that they are.
use Rattle.std.proofs.Common.{◌≡◌, ℕ, zero, suc, ◌≤◌, Bool, true, false, cond, List, [], ◌∷◌, ◌++◌, Option, Some, None, is_some, unwrap_or, refl, sym, ap, ◌∙◌, arith}
use Rattle.std.specs.List.{list_all}
use Rattle.std.specs.Prelude.{◌==◌, ◌&&◌, filter}
use Rattle.std.proofs.lemmas.List.Elements.{filter-append}
use Rattle.std.proofs.lemmas.List.Folds.{list_all-append}
use Rattle.tp_base.specs.Partition.{partition_number}
use Rattle.tp_base.specs.Tables.{kept_at}
use Rattle.tp_ops.specs.Parts.{answers_in, first_of, is_accessed, key_of, merged, rest_of}
use Rattle.tp_ops.specs.declared.command.Command.{Command}
use Rattle.tp_ops.specs.declared.operation.Answer.{Answer}
use Rattle.tp_ops.specs.declared.operation.Op.{Op}
use Rattle.tp_print.specs.Results.{AreKept, ByPartition}
use Rattle.tp_rules.specs.Addresses.{accessed}
use Rattle.tp_rules.specs.Outcome.{reply_from}
use Rattle.tp_script.specs.declared.script.Script.{Script}
use Rattle.tp_topology.specs.Counting.{up_to}

-- only the answers of the partitions that there are matter
merged_same : (n : ℕ) (ops : List Op) (f g : ℕ → List Answer) → 1 ≤ n → ((q : ℕ) → 1 ≤ q → q ≤ n → f q ≡ g q)
    → merged n ops f ≡ merged n ops g
unfolding merged
merged_same n [] f g some same = refl
merged_same n (op ∷ ops) f g some same =
    let p = partition_number (key_of op) n in
    let low : 1 ≤ p = omega arith in
    let high : p ≤ n = omega arith in
    ap (λ (xs : List Answer). first_of xs ++ merged n ops (λ q. cond (q == p) (rest_of (f q)) (f q))) (same p low high)
    ∙ ap (λ (ys : List Answer). first_of (g p) ++ ys)
    (merged_same n ops (λ q. cond (q == p) (rest_of (f q)) (f q)) (λ q. cond (q == p) (rest_of (g q)) (g q)) some
    (λ q from to. ap (λ (xs : List Answer). cond (q == p) (rest_of xs) xs) (same q from to)))

all_same : (f g a : ℕ → Bool) (n : ℕ) → ((q : ℕ) → 1 ≤ q → q ≤ n → f q ≡ g q)
    → list_all f (filter a (up_to n)) ≡ list_all g (filter a (up_to n))
all_same f g a zero same = refl
all_same f g a (suc n) same =
    let last : list_all f (filter a (suc n ∷ [])) ≡ list_all g (filter a (suc n ∷ [])) =
    one (a (suc n)) (same (suc n) (omega arith) (omega arith)) in
    ap (list_all f) (filter-append a (up_to n) (suc n ∷ []))
    ∙ list_all-append f (filter a (up_to n)) (filter a (suc n ∷ []))
    ∙ ap (λ (b : Bool). b && list_all f (filter a (suc n ∷ [])))
    (all_same f g a n (λ q low high. same q low (omega arith)))
    ∙ ap (λ (b : Bool). list_all g (filter a (up_to n)) && b) last
    ∙ sym (list_all-append g (filter a (up_to n)) (filter a (suc n ∷ [])))
    ∙ sym (ap (list_all g) (filter-append a (up_to n) (suc n ∷ [])))
  where
    one : (b : Bool) → f (suc n) ≡ g (suc n) → list_all f (cond b (suc n ∷ []) []) ≡ list_all g (cond b (suc n ∷ []) [])
    one true e = ap (λ (t : Bool). t && true) e
    one false e = refl

-- replies out of a table, where it keeps the answers
module _ (script : Script) (c : Command) (table : ByPartition) (parts : ℕ → Option (List Answer))
    (some : 1 ≤ script.topology.partitions) (few : script.topology.partitions ≤ 4)
    (kept : AreKept table parts) where
  all_told : list_all (λ q. is_some (parts q)) (accessed script.topology c) ≡ list_all (λ q. is_some (kept_at table q))
      (accessed script.topology c)
  all_told =
      sym (all_same (λ q. is_some (kept_at table q)) (λ q. is_some (parts q))
      (is_accessed script.topology.partitions c) script.topology.partitions
      (λ q low high. ap is_some (kept q low (omega (arith, few)))))

  told : List Answer
  told = merged script.topology.partitions c.ops (λ q. unwrap_or (parts q) [])

  -- some are wanting
  pub not_replied : list_all (λ q. is_some (kept_at table q)) (accessed script.topology c) ≡ false
      → reply_from script parts (Some c) ≡ None
  unfolding told
  not_replied whole = ap (λ (b : Bool). cond b (Some told) None) (all_told ∙ whole)

  -- all are there
  pub replied : list_all (λ q. is_some (kept_at table q)) (accessed script.topology c) ≡ true
      → reply_from script parts (Some c) ≡ Some (merged script.topology.partitions c.ops (answers_in table))
  unfolding told
  replied whole =
      ap (λ (b : Bool). cond b (Some told) None) (all_told ∙ whole)
      ∙ ap (λ (answers : List Answer). Some answers)
      (sym (merged_same script.topology.partitions c.ops (answers_in table) (λ q. unwrap_or (parts q) []) some
      (λ q low high. ap (λ (o : Option (List Answer)). unwrap_or o []) (kept q low (omega (arith, few))))))
