-- The order that a part of a journal keeps: what is shown of the line, the executions and the declarations together.
-- Used as what the induction over the journal carries along (EntriesKeepOrder), and read off at its end (Laws).
use Rattle.std.proofs.Common.{◌≡◌, ◌≢◌, ◌⊎◌, ℕ, true, List, [], ◌∷◌, ◌++◌, Some, map, sym, subst, ap}
use Rattle.tp_base.specs.Lists.{IsIn, IsPrefixOf, Ascends}
use Rattle.tp_base.specs.Names.{key_lt}
use Rattle.tp_base.specs.declared.names.CommandId.{CommandId}
use Rattle.tp_base.specs.declared.names.Site.{Site}
use Rattle.tp_rules.specs.Outcome.{executions, executed_by, line, share, accesses, command_of}
use Rattle.tp_rules.specs.declared.event.Entry.{Entry}
use Rattle.tp_script.specs.declared.script.Script.{Script}
use Rattle.tp_order.proofs.Declarations.{IsDeclaredIn}
use Rattle.tp_order.proofs.DeclaredOrExecuted.{IsDeclaredOrExecuted, IsDeclaredOrExecutedIn, stays_declared_or_executed}
use Rattle.tp_order.proofs.Shares.{line_share}
use Rattle.tp_order.specs.Due.{IsDue, IsNext, final_key}

-- whatever an executor has declared or executed, it has executed each due command with a smaller key
abbrev pub SmallerDueAreExecuted : Script → List Entry → List Entry → Type 0
SmallerDueAreExecuted script whole older = (x : Site) (c d : CommandId) → IsDeclaredOrExecuted script older x c →
    IsDue script whole x.partition.0 d → key_lt (final_key whole d) (final_key whole c) ≡ true →
    IsIn d (executions older x)

pub record InOrder (script : Script) (whole older : List Entry) : Type 0 where
  -- each executor's executions begin its partition's share of the line
  pub executions_begin_share : (x : Site) → IsPrefixOf (executions older x) (line_share script older x.partition.0)
  -- along each share the final keys ascend
  pub keys_ascend : (p : ℕ) → Ascends key_lt (map (final_key whole) (line_share script older p))
  -- what is in a share is due at the partition
  pub share_is_due : (p : ℕ) (d : CommandId) → IsIn d (line_share script older p) → IsDue script whole p d
  pub smaller_due_are_executed : SmallerDueAreExecuted script whole older
  -- what is in a share, some executor of that very partition has declared or executed
  pub share_is_declared_or_executed : (p : ℕ) (d : CommandId) → IsIn d (line_share script older p) →
      IsDeclaredOrExecutedIn script older p d

-- all that the line's proof knows of an execution of c at s
pub record OrderlyExecution (script : Script) (whole older : List Entry) (e : Entry) (s : Site) (c : CommandId)
    : Type 0 where
  pub is_next : IsNext script whole older s c
  -- it was declared in each other partition that it accesses
  pub is_declared_elsewhere : (q : ℕ) → accesses script q (command_of script c) ≡ true → q ≢ s.partition.0 →
      IsDeclaredIn script older q c
  pub executes_it : executed_by e.event ≡ Some c
  -- the site's executions have it at their end, all others stay
  pub is_added : executions (e ∷ older) s ≡ executions older s ++ c ∷ []
  pub others_stay : (x : Site) → x ≢ s → executions (e ∷ older) x ≡ executions older x
  -- what is declared or executed now was so before, but for this command at this site
  pub adds_only_it : (x : Site) (d : CommandId) → IsDeclaredOrExecuted script (e ∷ older) x d →
      IsDeclaredOrExecuted script older x d ⊎ ((x ≡ s) × (d ≡ c))

-- an entry that leaves the line and the executions as they are
pub same_line_keeps_order : (script : Script) (whole older : List Entry) (e : Entry) → InOrder script whole older →
    line (e ∷ older) ≡ line older → ((x : Site) → executions (e ∷ older) x ≡ executions older x) →
    SmallerDueAreExecuted script whole (e ∷ older) → InOrder script whole (e ∷ older)
same_line_keeps_order script whole older e o same stay smaller = record {
  executions_begin_share = λ x.
      subst (λ (l : List CommandId). IsPrefixOf l (line_share script (e ∷ older) x.partition.0)) (sym (stay x))
      (subst (IsPrefixOf (executions older x)) (sym (same_share x.partition.0)) (o.executions_begin_share x));
  keys_ascend = λ p.
      subst (λ (l : List CommandId). Ascends key_lt (map (final_key whole) l)) (sym (same_share p)) (o.keys_ascend p);
  share_is_due = λ p d there. o.share_is_due p d (subst (IsIn d) (same_share p) there);
  smaller_due_are_executed = smaller;
  share_is_declared_or_executed = λ p d there.
      let before = o.share_is_declared_or_executed p d (subst (IsIn d) (same_share p) there) in
      stays_declared_or_executed script older e p d before;
}
  where
    same_share : (p : ℕ) → line_share script (e ∷ older) p ≡ line_share script older p
    same_share p = ap (share script p) same
