-- Journals that the four laws refuse, each as small as can be. Their entries needn't follow any rule.
use Rattle.std.proofs.Common.{◌≡◌, ℕ, true, false, List, [], ◌∷◌, ◌++◌, inl, inr, refl, ap, arith}
use Rattle.std.specs.Prelude.{reverse}
use Rattle.tp_base.specs.Lists.{IsPrefixOf}
use Rattle.tp_base.specs.declared.names.CommandId.{CommandId}
use Rattle.tp_histories.proofs.Words.{commit_at, process_at, executor_at, session_of, partition, rank, stamp, id, command, entry, the_rules}
use Rattle.tp_ops.specs.declared.command.Command.{Command}
use Rattle.tp_ops.specs.declared.operation.Answer.{Answer}
use Rattle.tp_ops.specs.declared.operation.Answer.TheVariants.{Missing, Value}
use Rattle.tp_ops.specs.declared.operation.Op.TheVariants.{Put}
use Rattle.tp_rules.specs.Addresses.{message, site}
use Rattle.tp_rules.specs.Laws.{CommitsAgree, LineKeepsRealTime, LineOrders, RepliesAreSequential}
use Rattle.tp_rules.specs.Outcome.{Commit, sequential_answers, share}
use Rattle.tp_rules.specs.declared.event.Entry.{Entry}
use Rattle.tp_rules.specs.declared.event.Event.TheVariants.{Deliver, Inner as OfItself}
use Rattle.tp_rules.specs.declared.event.Inner.TheVariants.{Announce, Execute, Submit}
use Rattle.tp_script.specs.declared.script.Script.{Script}
use Rattle.tp_wire.specs.declared.message.Body.TheVariants.{MCommitted, MResult}

-- put a 1 by each of two sessions
abbrev put_a : ℕ → Command
put_a s = command (id s 1) 1 (Put (97 ∷ []) (49 ∷ []) ∷ [])

abbrev two_puts : Script
two_puts = record {
  topology = record { partitions = 1; replicas = 3; failures = 1 };
  homes = rank 1 ∷ rank 1 ∷ [];
  commands = put_a 1 ∷ put_a 2 ∷ [];
  plan = [];
  picks = [];
}

abbrev commits_at : ℕ → ℕ → ℕ → Entry
commits_at k s t = entry (process_at 1 k) (OfItself Announce)
    (message (process_at 1 k) (executor_at 1 k) (MCommitted (put_a s) (stamp t)) ∷ [])

abbrev executes : ℕ → ℕ → Entry
executes k s = entry (executor_at 1 k) (OfItself (Execute (id s 1))) []

abbrev answers : ℕ → Answer → Entry
answers s answer = entry (executor_at 1 1) (OfItself (Execute (id s 1)))
    (message (executor_at 1 1) (session_of s) (MResult (id s 1) (partition 1) (answer ∷ [])) ∷ [])

two_commands : ¬ (id 2 1 ≡ id 1 1)
two_commands same = let sessions : ◌≡◌ {A = ℕ} 2 1 = ap (λ (i : CommandId). i.session.0) same in omega arith

-- two processes commit the first put at stamps 1 and 2
two_stamps : ¬ CommitsAgree (reverse (commits_at 1 1 1 ∷ commits_at 2 1 2 ∷ []))
unfolding CommitsAgree
two_stamps agree =
    let first : Commit = commit_at 1 1 (id 1 1) 1 in
    let second : Commit = commit_at 1 2 (id 1 1) 2 in
    let same : first.stamp ≡ second.stamp = agree first second (inl refl) (inr (inl refl)) refl in
    omega arith

abbrev both_committed : List Entry
both_committed = commits_at 1 1 1 ∷ commits_at 1 2 2 ∷ []

-- replica 2 executes the second put, which is after the first in the line
not_a_prefix : ¬ LineOrders two_puts (reverse (both_committed ++ executes 1 1 ∷ executes 1 2 ∷ executes 2 2 ∷ []))
unfolding LineOrders share the_rules
not_a_prefix order =
    let begins : IsPrefixOf (id 2 1 ∷ []) (id 1 1 ∷ id 2 1 ∷ []) = (order 1).prefixes (site 1 2) refl refl in
    let same : id 2 1 ∷ begins.0 ≡ id 1 1 ∷ id 2 1 ∷ [] = begins.1 in
    two_commands cc

-- the put at stamp 2 is executed before the one at stamp 1
not_ascending : ¬ LineOrders two_puts (reverse (both_committed ++ executes 1 2 ∷ executes 1 1 ∷ []))
unfolding LineOrders share the_rules
not_ascending order = let before : false ≡ true = (order 1).ascending.0.0 in cc

-- nobody committed what is executed
not_committed : ¬ LineOrders two_puts (reverse (executes 1 1 ∷ []))
unfolding LineOrders share the_rules
not_committed order = let commit = (order 1).committed (id 1 1) (inl refl) in commit.1

-- the first put is answered before the second is submitted, and stands behind it in the line
late_in_line : ¬ LineKeepsRealTime two_puts (reverse (
    executes 1 2 ∷ answers 1 Missing ∷
    entry (session_of 1) (Deliver 2 1) [] ∷ entry (session_of 2) (OfItself (Submit 1)) [] ∷ []))
unfolding LineKeepsRealTime the_rules
late_in_line real_time = let before : false ≡ true = real_time (id 1 1) (id 2 1) refl refl in cc

-- a value before the first put, where there was none
other_reply : ¬ RepliesAreSequential two_puts
    (reverse (answers 1 (Value (49 ∷ [])) ∷ entry (session_of 1) (Deliver 1 1) [] ∷ []))
unfolding RepliesAreSequential sequential_answers the_rules
other_reply sequential =
    let reply : List Answer = Value (49 ∷ []) ∷ [] in
    let same : reply ≡ Missing ∷ [] = (sequential (id 1 1) reply refl).1 in
    cc
