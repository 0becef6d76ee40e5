-- Where a command is executed, it is the very next of its partition's share of the line, or new at the line's end.
-- Used for the step of an execution (ExecutionKeepsOrder).
use Rattle.std.proofs.Common.{◌≡◌, ◌⊎◌, ℕ, inl, inr, Bool, true, false, cond, List, [], ◌∷◌, ◌++◌, map, refl, sym, subst, ap, ◌∙◌}
use Rattle.std.proofs.lemmas.Bool.{false_from_ne_true}
use Rattle.std.proofs.lemmas.List.{append-nil, map-append}
use Rattle.tp_base.specs.Lists.{IsIn, has, Ascends}
use Rattle.tp_base.specs.Names.{same_id, key_lt}
use Rattle.tp_base.proofs.Each.{each_in}
use Rattle.tp_base.proofs.Members.{in_right, in_either, map_in, has_in, in_has}
use Rattle.tp_base.proofs.Orders.{ascends_before, ascends_right}
use Rattle.tp_base.proofs.Prefixes.{prefix_in}
use Rattle.tp_base.proofs.SameNames.{same_id_is, same_id_refl, key_cases, key_lt_self, key_lt_then}
use Rattle.tp_base.specs.declared.names.CommandId.{CommandId}
use Rattle.tp_base.specs.declared.names.Key.{Key}
use Rattle.tp_base.specs.declared.names.Site.{Site}
use Rattle.tp_rules.specs.Outcome.{executions, line, once_at_end}
use Rattle.tp_rules.specs.declared.event.Entry.{Entry}
use Rattle.tp_script.specs.declared.script.Script.{Script}
use Rattle.tp_order.proofs.InOrder.{InOrder, OrderlyExecution}
use Rattle.tp_order.proofs.Shares.{line_share, in_share, share_in}
use Rattle.tp_order.specs.Due.{IsDue, final_key}

not_below_itself : (k : Key) → key_lt k k ≡ true → ⊥
not_below_itself k below = let itself : key_lt k k ≡ false = key_lt_self k in cc

module _ (script : Script) (whole older : List Entry) (e : Entry) (s : Site) (c : CommandId)
    (o : InOrder script whole older) (x : OrderlyExecution script whole older e s c) where
  abbrev key : CommandId → Key
  key = final_key whole

  abbrev executed_here : List CommandId
  executed_here = executions older s

  abbrev share_here : List CommandId
  share_here = line_share script older s.partition.0

  -- where c is due in a partition whose share has a command with a greater key, c is in that share: some executor of
  -- the partition has declared or executed the greater one, hence has executed c
  pub is_before_greater : (p : ℕ) (d : CommandId) → IsDue script whole p c → IsIn d (line_share script older p) →
      key_lt (key c) (key d) ≡ true → IsIn c (line_share script older p)
  is_before_greater p d due there smaller =
      let found = o.share_is_declared_or_executed p d there in
      let y = found.by in
      let due_there = subst (λ (r : ℕ). IsDue script whole r c) (sym found.partition) due in
      let executed = o.smaller_due_are_executed y d c found.is_declared_or_executed due_there smaller in
      subst (λ (r : ℕ). IsIn c (line_share script older r)) found.partition
      (prefix_in (executions older y) (line_share script older y.partition.0) c (o.executions_begin_share y) executed)

  -- where the share goes on after what was executed here, it goes on with c
  next_is : (d : CommandId) (rest : List CommandId) → executed_here ++ d ∷ rest ≡ share_here → d ≡ c
  next_is d rest goes_on = by_keys (key_cases (key d) (key c))
    where
      in_the_share : IsIn d share_here
      in_the_share = subst (IsIn d) goes_on (in_right executed_here (d ∷ rest) d (inl refl))

      ascending : Ascends key_lt (map key executed_here ++ map key (d ∷ rest))
      ascending =
          subst (Ascends key_lt) (ap (map key) (sym goes_on) ∙ map-append key executed_here (d ∷ rest))
          (o.keys_ascend s.partition.0)

      -- d stands after what was executed here, so it wasn't
      not_executed : IsIn d executed_here → ⊥
      not_executed executed =
          not_below_itself (key d)
          (ascends_before key_lt (map key executed_here) (map key (d ∷ rest)) (key d) (key d) ascending
          (map_in key executed_here d executed) (inl refl))

      -- c is in the share, not executed here, and not after d: it is d
      not_after : IsIn c executed_here ⊎ IsIn c (d ∷ rest) → key_lt (key c) (key d) ≡ true → d ≡ c
      not_after (inl executed) smaller = absurd (x.is_next.is_new executed)
      not_after (inr (inl same)) smaller = sym same
      not_after (inr (inr later)) smaller =
          let right : Ascends key_lt (map key (d ∷ rest)) =
          ascends_right key_lt (map key executed_here) (map key (d ∷ rest)) ascending in
          let greater : key_lt (key d) (key c) ≡ true =
          each_in (λ (k : Key). key_lt (key d) k ≡ true) (map key rest) (key c) right.0 (map_in key rest c later) in
          absurd (not_below_itself (key c) (key_lt_then (key c) (key d) (key c) smaller greater))

      by_keys : (key d ≡ key c) ⊎ ((key_lt (key d) (key c) ≡ true) ⊎ (key_lt (key c) (key d) ≡ true)) → d ≡ c
      by_keys (inl same) = ap (λ (k : Key). k.id) same
      by_keys (inr (inl smaller)) =
          let due = o.share_is_due s.partition.0 d in_the_share in
          absurd (not_executed (x.is_next.smaller_due_are_executed d due smaller))
      by_keys (inr (inr greater)) =
          let there = is_before_greater s.partition.0 d x.is_next.is_due in_the_share greater in
          not_after (in_either executed_here (d ∷ rest) c (subst (IsIn c) (sym goes_on) there)) greater

  -- the line after the execution
  pub data LineAfter : Type 0 where
    next_of_share : (rest : List CommandId) → executed_here ++ c ∷ rest ≡ share_here →
        line (e ∷ older) ≡ line older → LineAfter
    new_at_end : executed_here ≡ share_here → (IsIn c (line older) → ⊥) →
        line (e ∷ older) ≡ line older ++ c ∷ [] → LineAfter

  line_by_test : (b : Bool) → has same_id c (line older) ≡ b →
      line (e ∷ older) ≡ cond b (line older) (line older ++ c ∷ [])
  line_by_test b is =
      ap (once_at_end (line older)) x.executes_it ∙ ap (λ (t : Bool). cond t (line older) (line older ++ c ∷ [])) is

  -- what was executed here begins the share: where all of it is executed, c is new, and else c is next
  pub line_after : LineAfter
  line_after = by_rest (o.executions_begin_share s).0 (o.executions_begin_share s).1
    where
      by_rest : (rest : List CommandId) → executed_here ++ rest ≡ share_here → LineAfter
      by_rest [] ends =
          let all : executed_here ≡ share_here = sym (append-nil executed_here) ∙ ends in
          let absent : IsIn c (line older) → ⊥ =
          (λ there.
          let shared = in_share script s.partition.0 (line older) c there x.is_next.is_due.accesses in
          x.is_next.is_new (subst (IsIn c) (sym all) shared)) in
          let not_there : has same_id c (line older) ≡ false =
          false_from_ne_true _ (λ is. absent (has_in same_id same_id_is c (line older) is)) in
          new_at_end all absent (line_by_test false not_there)
      by_rest (d ∷ rest) goes_on =
          let next : executed_here ++ c ∷ rest ≡ share_here =
          subst (λ (w : CommandId). executed_here ++ w ∷ rest ≡ share_here) (next_is d rest goes_on) goes_on in
          let shared : IsIn c share_here = subst (IsIn c) next (in_right executed_here (c ∷ rest) c (inl refl)) in
          let there = (share_in script s.partition.0 (line older) c shared).0 in
          next_of_share rest next (line_by_test true (in_has same_id same_id_refl c (line older) there))
