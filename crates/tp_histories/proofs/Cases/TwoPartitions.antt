-- A command on two partitions: a partition's decision is told to all processes of both, and the command's stamp waits
-- for the other's. An executor declares it once its stamp is stable, and executes it once it heard so from the other
-- partition.
use Rattle.std.proofs.Common.{◌≡◌, ℕ, List, [], ◌∷◌, Some, None, refl}
use Rattle.tp_ops.specs.declared.command.Command.{Command}
use Rattle.tp_ops.specs.declared.operation.Op.TheVariants.{Put}
use Rattle.tp_histories.proofs.Words.{process_at, executor_at, session_of, partition, stamp, id, pair, command, the_rules}
use Rattle.tp_rules.specs.Acts.{Act, Took, Did, Identity, ProcessAt, ExecutorAt}
use Rattle.tp_rules.specs.Addresses.{message, site}
use Rattle.tp_rules.specs.Process.{state_after}
use Rattle.tp_rules.specs.Rules.{enabled, outputs_of}
use Rattle.tp_rules.specs.Sheet.{Sheet, ring_rule, final_stamp}
use Rattle.tp_ops.specs.declared.operation.Answer.TheVariants.{Missing}
use Rattle.tp_rules.specs.declared.event.Inner.TheVariants.{Declare, Execute}
use Rattle.tp_topology.specs.Shape.{Shape}
use Rattle.tp_wire.specs.declared.message.Body.TheVariants.{MSubmit, MPropose, MPayload, MProposeAck, MBump, MCommit, MRec, MPromises, MCommitted, MStable, MResult}

abbrev two : Shape
two = record { partitions = 2; replicas = 3; failures = 1 }

-- put b 1 on partition 1, put a 1 on partition 2, home rank 1
abbrev put_both : Command
put_both = command (id 1 1) 1 (Put (98 ∷ []) (49 ∷ []) ∷ Put (97 ∷ []) (49 ∷ []) ∷ [])

abbrev home : Identity
home = ProcessAt two (site 1 1)

abbrev submitted : Act
submitted = Took (message (session_of 1) (process_at 1 1) (MSubmit put_both))

abbrev acknowledged : Act
acknowledged = Took (message (process_at 1 2) (process_at 1 1) (MProposeAck (id 1 1) (stamp 1)))

-- the proposal is told to the process of the same rank in the other partition
home_proposes : outputs_of home [] submitted ≡
    message (process_at 1 1) (process_at 1 2) (MPropose put_both (stamp 1)) ∷
    message (process_at 1 1) (process_at 1 3) (MPayload put_both) ∷
    message (process_at 1 1) (process_at 2 1) (MBump (id 1 1) (stamp 1)) ∷
    []
unfolding the_rules
home_proposes = refl

home_decides : outputs_of home (submitted ∷ []) acknowledged ≡
    message (process_at 1 1) (process_at 1 2) (MCommit put_both (partition 1) (stamp 1)) ∷
    message (process_at 1 1) (process_at 1 3) (MCommit put_both (partition 1) (stamp 1)) ∷
    message (process_at 1 1) (process_at 2 1) (MCommit put_both (partition 1) (stamp 1)) ∷
    message (process_at 1 1) (process_at 2 2) (MCommit put_both (partition 1) (stamp 1)) ∷
    message (process_at 1 1) (process_at 2 3) (MCommit put_both (partition 1) (stamp 1)) ∷
    []
unfolding the_rules
home_decides = refl

abbrev sheet : Sheet
sheet = (state_after (ring_rule two) (site 1 1) (acknowledged ∷ submitted ∷ [])).sheets (id 1 1)

no_stamp_yet : final_stamp two sheet sheet.command ≡ None
unfolding the_rules
no_stamp_yet = refl

-- a recovery that asks for it then is told so, and nobody else is; the other partition's stamp is still awaited

abbrev recovery : Act
recovery = Took (message (process_at 1 3) (process_at 1 1) (MRec put_both 6))

told_alone : outputs_of home (acknowledged ∷ submitted ∷ []) recovery
    ≡ message (process_at 1 1) (process_at 1 3) (MCommit put_both (partition 1) (stamp 1)) ∷ []
unfolding the_rules
told_alone = refl

abbrev asked_sheet : Sheet
asked_sheet =
    (state_after (ring_rule two) (site 1 1) (recovery ∷ acknowledged ∷ submitted ∷ [])).sheets (id 1 1)

still_no_stamp : final_stamp two asked_sheet asked_sheet.command ≡ None
unfolding the_rules
still_no_stamp = refl

-- the executor of partition 1's rank 1
abbrev me : Identity
me = ExecutorAt two (site 1 1)

abbrev committed : Act
committed = Took (message (process_at 1 1) (executor_at 1 1) (MCommitted put_both (stamp 1)))

abbrev promised : ℕ → Act
promised k = Took (message (process_at 1 k) (executor_at 1 1) (MPromises 0 1 (pair (id 1 1) 1 ∷ [])))

abbrev heard : Act
heard = Took (message (executor_at 2 3) (executor_at 1 1) (MStable (id 1 1)))

abbrev stable : List Act
stable = promised 3 ∷ promised 1 ∷ committed ∷ []

declares : enabled me stable ≡ Some (Declare (id 1 1))
unfolding the_rules
declares = refl

-- to the executors of the other partition
declaration : outputs_of me stable (Did (Declare (id 1 1))) ≡
    message (executor_at 1 1) (executor_at 2 1) (MStable (id 1 1)) ∷
    message (executor_at 1 1) (executor_at 2 2) (MStable (id 1 1)) ∷
    message (executor_at 1 1) (executor_at 2 3) (MStable (id 1 1)) ∷
    []
unfolding the_rules
declaration = refl

waits_for_the_other : enabled me (Did (Declare (id 1 1)) ∷ stable) ≡ None
unfolding the_rules
waits_for_the_other = refl

-- it declares also where the other partition was the first
declares_though_heard : enabled me (heard ∷ stable) ≡ Some (Declare (id 1 1))
unfolding the_rules
declares_though_heard = refl

executes : enabled me (heard ∷ Did (Declare (id 1 1)) ∷ stable) ≡ Some (Execute (id 1 1))
unfolding the_rules
executes = refl

executes_heard_before : enabled me (Did (Declare (id 1 1)) ∷ heard ∷ stable) ≡ Some (Execute (id 1 1))
unfolding the_rules
executes_heard_before = refl

-- the answers of its own partition
result : outputs_of me (heard ∷ Did (Declare (id 1 1)) ∷ stable) (Did (Execute (id 1 1))) ≡
    message (executor_at 1 1) (session_of 1) (MResult (id 1 1) (partition 1) (Missing ∷ [])) ∷ []
unfolding the_rules
result = refl

nothing_more : enabled me (Did (Execute (id 1 1)) ∷ heard ∷ Did (Declare (id 1 1)) ∷ stable) ≡ None
unfolding the_rules
nothing_more = refl
