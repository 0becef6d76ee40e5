-- An execution keeps the order: the executor goes one further along its share of the line, or the command is new and
-- comes after all others. Used for the induction over the journal (EntriesKeepOrder).
use Rattle.std.proofs.Common.{◌≡◌, ◌⊎◌, ℕ, inl, inr, true, List, [], ◌∷◌, ◌++◌, map, refl, sym, subst, ap, ◌∙◌}
use Rattle.std.proofs.lemmas.Bool.{cases_Bool, cases_eq}
use Rattle.std.proofs.lemmas.List.{map-append}
use Rattle.tp_base.specs.Lists.{IsIn, IsPrefixOf, Ascends}
use Rattle.tp_base.specs.Names.{key_lt}
use Rattle.tp_base.proofs.Each.{each_of}
use Rattle.tp_base.proofs.Members.{in_push, in_push_cases, in_map}
use Rattle.tp_base.proofs.Orders.{ascends_push}
use Rattle.tp_base.proofs.Prefixes.{prefix_self, prefix_next, prefix_then}
use Rattle.tp_base.proofs.SameNames.{key_cases}
use Rattle.tp_base.specs.declared.names.CommandId.{CommandId}
use Rattle.tp_base.specs.declared.names.Key.{Key}
use Rattle.tp_base.specs.declared.names.Site.{Site}
use Rattle.tp_rules.specs.Outcome.{executions, line, share, accesses, command_of}
use Rattle.tp_rules.specs.declared.event.Entry.{Entry}
use Rattle.tp_script.specs.declared.script.Script.{Script}
use Rattle.tp_order.proofs.DeclaredOrExecuted.{IsDeclaredOrExecutedIn, by_declaration, stays_declared_or_executed}
use Rattle.tp_order.proofs.Executions.{site_cases, executions_grow}
use Rattle.tp_order.proofs.InOrder.{SmallerDueAreExecuted, InOrder, OrderlyExecution}
use Rattle.tp_order.proofs.LineGoesOn.{LineAfter, next_of_share, new_at_end, line_after, is_before_greater}
use Rattle.tp_order.proofs.Shares.{line_share, in_share, share_in, share_with, share_without, share_grows}
use Rattle.tp_order.specs.Due.{IsDue, final_key}

module _ (script : Script) (whole older : List Entry) (e : Entry) (s : Site) (c : CommandId)
    (o : InOrder script whole older) (x : OrderlyExecution script whole older e s c) where
  abbrev key : CommandId → Key
  key = final_key whole

  abbrev Reaches : ℕ → CommandId → Type 0
  Reaches p id = accesses script p (command_of script id) ≡ true

  abbrev before : ℕ → List CommandId
  before p = line_share script older p

  abbrev now : ℕ → List CommandId
  now p = line_share script (e ∷ older) p

  abbrev After : Type 0
  After = LineAfter script whole older e s c o x

  after : After
  after = line_after script whole older e s c o x

  same_share : line (e ∷ older) ≡ line older → (p : ℕ) → now p ≡ before p
  same_share same p = ap (share script p) same

  share_with_it : line (e ∷ older) ≡ line older ++ c ∷ [] → (p : ℕ) → Reaches p c → now p ≡ before p ++ c ∷ []
  share_with_it same p does = ap (share script p) same ∙ share_with script p (line older) c does

  -- each share of the line grows at its end alone
  share_grows_now : (p : ℕ) → After → IsPrefixOf (before p) (now p)
  share_grows_now p (next_of_share rest next same) =
      subst (IsPrefixOf (before p)) (sym (same_share same p)) (prefix_self (before p))
  share_grows_now p (new_at_end all absent same) =
      subst (IsPrefixOf (before p)) (sym (ap (share script p) same)) (share_grows script p (line older) (c ∷ []))

  -- what this executor has executed now begins the share
  begins_here : After → IsPrefixOf (executions older s ++ c ∷ []) (now s.partition.0)
  begins_here (next_of_share rest next same) =
      subst (IsPrefixOf (executions older s ++ c ∷ [])) (sym (same_share same s.partition.0))
      (prefix_next (executions older s) c rest (before s.partition.0) next)
  begins_here (new_at_end all absent same) =
      let whole_share : executions older s ++ c ∷ [] ≡ now s.partition.0 =
      ap (λ (l : List CommandId). l ++ c ∷ []) all ∙ sym (share_with_it same s.partition.0 x.is_next.is_due.accesses) in
      subst (IsPrefixOf (executions older s ++ c ∷ [])) whole_share (prefix_self (executions older s ++ c ∷ []))

  executions_begin_share : (y : Site) → IsPrefixOf (executions (e ∷ older) y) (now y.partition.0)
  executions_begin_share y = elim (site_cases y s) [
    | inl here ↦
        subst (λ (z : Site). IsPrefixOf (executions (e ∷ older) z) (now z.partition.0)) (sym here)
        (subst (λ (l : List CommandId). IsPrefixOf l (now s.partition.0)) (sym x.is_added) (begins_here after))
    | inr apart ↦
        let p = y.partition.0 in
        subst (λ (l : List CommandId). IsPrefixOf l (now p)) (sym (x.others_stay y apart))
        (prefix_then (executions older y) (before p) (now p) (o.executions_begin_share y) (share_grows_now p after))
  ]

  -- it is due in each partition that it accesses
  due_in : (p : ℕ) → Reaches p c → IsDue script whole p c
  due_in p does = let due = x.is_next.is_due in record {
    commit = due.commit;
    is_committed = due.is_committed;
    names_it = due.names_it;
    accesses = does;
  }

  -- a command that is new to the line has a greater key than all of each share that it comes into
  all_are_smaller : (p : ℕ) → Reaches p c → (IsIn c (line older) → ⊥) → (d : CommandId) → IsIn d (before p) →
      key_lt (key d) (key c) ≡ true
  all_are_smaller p does absent d there = elim (key_cases (key d) (key c)) [
    | inl same ↦
        let in_line = (share_in script p (line older) d there).0 in
        absurd (absent (subst (λ (i : CommandId). IsIn i (line older)) (ap (λ (k : Key). k.id) same) in_line))
    | inr (inl smaller) ↦ smaller
    | inr (inr greater) ↦
        let there_too = is_before_greater script whole older e s c o x p d (due_in p does) there greater in
        absurd (absent (share_in script p (line older) c there_too).0)
  ]

  keys_ascend : (p : ℕ) → After → Ascends key_lt (map key (now p))
  keys_ascend p (next_of_share rest next same) =
      subst (λ (l : List CommandId). Ascends key_lt (map key l)) (sym (same_share same p)) (o.keys_ascend p)
  keys_ascend p (new_at_end all absent same) = elim (cases_Bool (accesses script p (command_of script c))) [
    | inl does ↦
        subst (λ (l : List CommandId). Ascends key_lt (map key l)) (sym (share_with_it same p does))
        (subst (Ascends key_lt) (sym (map-append key (before p) (c ∷ [])))
        (ascends_push key_lt (map key (before p)) (key c) (o.keys_ascend p)
        (each_of (λ (k : Key). key_lt k (key c) ≡ true) (map key (before p)) (λ k there.
        let of = in_map key (before p) k there in
        subst (λ (i : Key). key_lt i (key c) ≡ true) (sym of.2) (all_are_smaller p does absent of.0 of.1)))))
    | inr doesnt ↦
        let unchanged = ap (share script p) same ∙ share_without script p (line older) c doesnt in
        subst (λ (l : List CommandId). Ascends key_lt (map key l)) (sym unchanged) (o.keys_ascend p)
  ]

  -- what is in a share now was in it before, or is c
  share_cases : (p : ℕ) (d : CommandId) → After → IsIn d (now p) → IsIn d (before p) ⊎ ((d ≡ c) × Reaches p c)
  share_cases p d (next_of_share rest next same) there = inl (subst (IsIn d) (same_share same p) there)
  share_cases p d (new_at_end all absent same) there =
      let (in_line, does) = share_in script p (line (e ∷ older)) d there in
      elim (in_push_cases (line older) c d (subst (IsIn d) same in_line)) [
        | inl old ↦ inl (in_share script p (line older) d old does)
        | inr is ↦ inr (is, subst (Reaches p) is does)
      ]

  share_is_due : (p : ℕ) (d : CommandId) → IsIn d (now p) → IsDue script whole p d
  share_is_due p d there = elim (share_cases p d after there) [
    | inl old ↦ o.share_is_due p d old
    | inr (is, does) ↦ subst (IsDue script whole p) (sym is) (due_in p does)
  ]

  -- it is executed in this very partition
  executed_in_its_partition : IsDeclaredOrExecutedIn script (e ∷ older) s.partition.0 c
  executed_in_its_partition = record {
    by = s;
    partition = refl;
    is_declared_or_executed = inl (subst (IsIn c) (sym x.is_added) (in_push (executions older s) c));
  }

  share_is_declared_or_executed : (p : ℕ) (d : CommandId) → IsIn d (now p) →
      IsDeclaredOrExecutedIn script (e ∷ older) p d
  share_is_declared_or_executed p d there = elim (share_cases p d after there) [
    | inl old ↦ stays_declared_or_executed script older e p d (o.share_is_declared_or_executed p d old)
    | inr (is, does) ↦ subst (IsDeclaredOrExecutedIn script (e ∷ older) p) (sym is) (elim (cases_eq p s.partition.0) [
      | inl same ↦ subst (λ (r : ℕ). IsDeclaredOrExecutedIn script (e ∷ older) r c) (sym same) executed_in_its_partition
      | inr apart ↦
          let declared = by_declaration script older p c (x.is_declared_elsewhere p does apart) in
          stays_declared_or_executed script older e p c declared
    ])
  ]

  smaller_due_are_executed : SmallerDueAreExecuted script whole (e ∷ older)
  smaller_due_are_executed y a d did due smaller = executions_grow older e y d (elim (x.adds_only_it y a did) [
    | inl old ↦ o.smaller_due_are_executed y a d old due smaller
    | inr (here, is) ↦
        let due_here = subst (λ (z : Site). IsDue script whole z.partition.0 d) here due in
        let below = subst (λ (i : CommandId). key_lt (key d) (key i) ≡ true) is smaller in
        subst (λ (z : Site). IsIn d (executions older z)) (sym here)
        (x.is_next.smaller_due_are_executed d due_here below)
  ])

  pub execution_keeps_order : InOrder script whole (e ∷ older)
  execution_keeps_order = record {
    executions_begin_share = executions_begin_share;
    keys_ascend = λ p. keys_ascend p after;
    share_is_due = share_is_due;
    smaller_due_are_executed = smaller_due_are_executed;
    share_is_declared_or_executed = share_is_declared_or_executed;
  }
