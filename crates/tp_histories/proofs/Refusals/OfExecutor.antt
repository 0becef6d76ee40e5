-- Where an executor's rule has a condition that fails, a delivery changes nothing and sends nothing, case by case.
use Rattle.std.proofs.Common.{◌≡◌, ℕ, List, [], ◌∷◌, Some, None, refl}
use Rattle.tp_base.specs.declared.names.ActorName.{ActorName}
use Rattle.tp_ops.specs.declared.command.Command.{Command}
use Rattle.tp_ops.specs.declared.operation.Op.TheVariants.{Put}
use Rattle.tp_histories.proofs.Words.{process_at, executor_at, session_of, stamp, id, pair, command, the_rules}
use Rattle.tp_rules.specs.Acts.{Act, Took, Did, Identity, ExecutorAt}
use Rattle.tp_rules.specs.Addresses.{message, site}
use Rattle.tp_rules.specs.Executor.{ExecutorState, Step, react, state_after}
use Rattle.tp_rules.specs.Rules.{enabled}
use Rattle.tp_rules.specs.declared.event.Inner.TheVariants.{Declare, Execute}
use Rattle.tp_topology.specs.Shape.{Shape}
use Rattle.tp_topology.specs.Stability.{told_as}
use Rattle.tp_wire.specs.declared.message.Body.TheVariants.{MSubmit, MPromises, MCommitted, MStable}
use Rattle.tp_wire.specs.declared.message.Message.{Message}

-- two partitions of three replicas, of which one may fail
abbrev shape : Shape
shape = record { partitions = 2; replicas = 3; failures = 1 }

-- put b 1, on partition 1
abbrev put_b : Command
put_b = command (id 1 1) 1 (Put (98 ∷ []) (49 ∷ []) ∷ [])

-- put a 1, on partition 2
abbrev put_a : Command
put_a = command (id 1 1) 1 (Put (97 ∷ []) (49 ∷ []) ∷ [])

-- the executor of partition 1's rank 1, after its acts
abbrev after : List Act → ExecutorState
after acts = state_after shape (site 1 1) acts

abbrev me : Identity
me = ExecutorAt shape (site 1 1)

abbrev IsIgnored : List Act → Message → Type 0
IsIgnored acts m = ◌≡◌ {A = Step} (react shape (site 1 1) (Took m) (after acts)) (after acts, [])

abbrev committed : ℕ → Message
committed t = message (process_at 1 1) (executor_at 1 1) (MCommitted put_b (stamp t))

-- the process promises 1, attached to the put
abbrev attached : ℕ → Message
attached k = message (process_at 1 k) (executor_at 1 1) (MPromises 0 1 (pair (id 1 1) 1 ∷ []))

-- the process promises 1, detached
abbrev detached : ActorName → Message
detached from = message from (executor_at 1 1) (MPromises 0 1 [])

-- MPromises
promises_of_other_partition : IsIgnored [] (detached (process_at 2 1))
promises_of_other_partition = refl

promises_of_no_rank : IsIgnored [] (detached (process_at 1 4))
promises_of_no_rank = refl

-- a number told before is as before
told_before : told_as (after (Took (detached (process_at 1 2)) ∷ Took (attached 2) ∷ [])).told 2 1
    ≡ Some (Some (id 1 1))
told_before = refl

-- MCommitted
committed_again : IsIgnored (Took (committed 1) ∷ []) (committed 2)
unfolding the_rules
committed_again = refl

committed_elsewhere : IsIgnored [] (message (process_at 1 1) (executor_at 1 1) (MCommitted put_a (stamp 1)))
unfolding the_rules
committed_elsewhere = refl

-- MStable
stable_of_own_partition : IsIgnored [] (message (executor_at 1 2) (executor_at 1 1) (MStable (id 1 1)))
stable_of_own_partition = refl

stable_of_no_partition : IsIgnored [] (message (executor_at 3 1) (executor_at 1 1) (MStable (id 1 1)))
stable_of_no_partition = refl

stable_of_no_rank : IsIgnored [] (message (executor_at 2 4) (executor_at 1 1) (MStable (id 1 1)))
stable_of_no_rank = refl

-- any message
to_another : IsIgnored [] (message (process_at 1 1) (executor_at 1 2) (MCommitted put_b (stamp 1)))
unfolding the_rules
to_another = refl

to_process : IsIgnored [] (message (process_at 1 1) (process_at 1 1) (MCommitted put_b (stamp 1)))
unfolding the_rules
to_process = refl

no_rule : IsIgnored [] (message (session_of 1) (executor_at 1 1) (MSubmit put_b))
unfolding the_rules
no_rule = refl

-- Declare, Execute
nothing_committed : enabled me (Took (attached 2) ∷ Took (attached 1) ∷ []) ≡ None
unfolding the_rules
nothing_committed = refl

minority_told : enabled me (Took (attached 1) ∷ Took (committed 1) ∷ []) ≡ None
unfolding the_rules
minority_told = refl

told_too_little : enabled me (Took (attached 2) ∷ Took (attached 1) ∷ Took (committed 2) ∷ []) ≡ None
unfolding the_rules
told_too_little = refl

may_execute : enabled me (Took (attached 2) ∷ Took (attached 1) ∷ Took (committed 1) ∷ []) ≡ Some (Execute (id 1 1))
unfolding the_rules
may_execute = refl

executed_once : enabled me (Did (Execute (id 1 1)) ∷ Took (attached 2) ∷ Took (attached 1) ∷ Took (committed 1) ∷ [])
    ≡ None
unfolding the_rules
executed_once = refl

-- put b 1 on partition 1, put a 1 on partition 2
abbrev put_both : Command
put_both = command (id 1 1) 1 (Put (98 ∷ []) (49 ∷ []) ∷ Put (97 ∷ []) (49 ∷ []) ∷ [])

abbrev both_committed : Message
both_committed = message (process_at 1 1) (executor_at 1 1) (MCommitted put_both (stamp 1))

abbrev heard : ℕ → Message
heard s = message (executor_at 2 1) (executor_at 1 1) (MStable (id s 1))

heard_before_it_is_stable : enabled me (Took (heard 1) ∷ Took (attached 1) ∷ Took both_committed ∷ []) ≡ None
unfolding the_rules
heard_before_it_is_stable = refl

heard_of_another : enabled me (
    Took (heard 2) ∷ Did (Declare (id 1 1)) ∷ Took (attached 2) ∷ Took (attached 1) ∷ Took both_committed ∷ []) ≡ None
unfolding the_rules
heard_of_another = refl

-- its own partition's executors don't count for it
heard_of_its_own : enabled me (
    Took (message (executor_at 1 2) (executor_at 1 1) (MStable (id 1 1))) ∷
    Did (Declare (id 1 1)) ∷ Took (attached 2) ∷ Took (attached 1) ∷ Took both_committed ∷ []) ≡ None
unfolding the_rules
heard_of_its_own = refl
