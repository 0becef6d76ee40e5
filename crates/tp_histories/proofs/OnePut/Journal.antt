-- The run of one put in one partition of three replicas: the script, and the journal that the program prints for it.
use Rattle.std.proofs.Common.{List, [], ◌∷◌}
use Rattle.tp_ops.specs.declared.command.Command.{Command}
use Rattle.tp_ops.specs.declared.operation.Answer.TheVariants.{Missing}
use Rattle.tp_ops.specs.declared.operation.Op.TheVariants.{Put}
use Rattle.tp_histories.proofs.Words.{process_at, executor_at, session_of, partition, rank, stamp, id, pair, command, entry}
use Rattle.tp_rules.specs.Addresses.{message}
use Rattle.tp_rules.specs.declared.event.Entry.{Entry}
use Rattle.tp_rules.specs.declared.event.Event.TheVariants.{Deliver, Inner as OfItself}
use Rattle.tp_rules.specs.declared.event.Inner.TheVariants.{Submit, Announce, Execute}
use Rattle.tp_script.specs.declared.script.Script.{Script}
use Rattle.tp_wire.specs.declared.message.Body.TheVariants.{MSubmit, MPropose, MPayload, MProposeAck, MCommit, MPromises, MCommitted, MResult}

-- put a 1, by the first session, whose home is rank 1
abbrev pub put_a : Command
put_a = command (id 1 1) 1 (Put (97 ∷ []) (49 ∷ []) ∷ [])

abbrev pub one_put : Script
one_put = record {
  topology = record { partitions = 1; replicas = 3; failures = 1 };
  homes = rank 1 ∷ [];
  commands = put_a ∷ [];
  plan = [];
  picks = [];
}

abbrev pub submission : Entry
submission = entry (session_of 1) (OfItself (Submit 1)) (message (session_of 1) (process_at 1 1) (MSubmit put_a) ∷ [])

abbrev pub proposal : Entry
proposal = entry (process_at 1 1) (Deliver 1 1) (
    message (process_at 1 1) (process_at 1 2) (MPropose put_a (stamp 1)) ∷
    message (process_at 1 1) (process_at 1 3) (MPayload put_a) ∷ [])

-- the whole run, in its own order
abbrev pub one_put_journal : List Entry
one_put_journal =
    submission ∷
    proposal ∷
    entry (process_at 1 2) (Deliver 2 1) (
    message (process_at 1 2) (process_at 1 1) (MProposeAck (id 1 1) (stamp 1)) ∷ []) ∷
    entry (process_at 1 3) (Deliver 2 2) [] ∷
    entry (process_at 1 1) (Deliver 3 1) (
    message (process_at 1 1) (process_at 1 2) (MCommit put_a (partition 1) (stamp 1)) ∷
    message (process_at 1 1) (process_at 1 3) (MCommit put_a (partition 1) (stamp 1)) ∷
    message (process_at 1 1) (executor_at 1 1) (MCommitted put_a (stamp 1)) ∷ []) ∷
    entry (process_at 1 2) (Deliver 5 1) (
    message (process_at 1 2) (executor_at 1 2) (MCommitted put_a (stamp 1)) ∷ []) ∷
    entry (process_at 1 3) (Deliver 5 2) (
    message (process_at 1 3) (executor_at 1 3) (MCommitted put_a (stamp 1)) ∷ []) ∷
    entry (executor_at 1 1) (Deliver 5 3) [] ∷
    entry (executor_at 1 2) (Deliver 6 1) [] ∷
    entry (executor_at 1 3) (Deliver 7 1) [] ∷
    entry (process_at 1 1) (OfItself Announce) (
    message (process_at 1 1) (executor_at 1 1) (MPromises 0 1 (pair (id 1 1) 1 ∷ [])) ∷
    message (process_at 1 1) (executor_at 1 2) (MPromises 0 1 (pair (id 1 1) 1 ∷ [])) ∷
    message (process_at 1 1) (executor_at 1 3) (MPromises 0 1 (pair (id 1 1) 1 ∷ [])) ∷ []) ∷
    entry (executor_at 1 1) (Deliver 11 1) [] ∷
    entry (executor_at 1 2) (Deliver 11 2) [] ∷
    entry (executor_at 1 3) (Deliver 11 3) [] ∷
    entry (process_at 1 2) (OfItself Announce) (
    message (process_at 1 2) (executor_at 1 1) (MPromises 0 1 (pair (id 1 1) 1 ∷ [])) ∷
    message (process_at 1 2) (executor_at 1 2) (MPromises 0 1 (pair (id 1 1) 1 ∷ [])) ∷
    message (process_at 1 2) (executor_at 1 3) (MPromises 0 1 (pair (id 1 1) 1 ∷ [])) ∷ []) ∷
    entry (executor_at 1 1) (Deliver 15 1) [] ∷
    entry (executor_at 1 2) (Deliver 15 2) [] ∷
    entry (executor_at 1 3) (Deliver 15 3) [] ∷
    entry (process_at 1 3) (OfItself Announce) (
    message (process_at 1 3) (executor_at 1 1) (MPromises 0 1 []) ∷
    message (process_at 1 3) (executor_at 1 2) (MPromises 0 1 []) ∷
    message (process_at 1 3) (executor_at 1 3) (MPromises 0 1 []) ∷ []) ∷
    entry (executor_at 1 1) (Deliver 19 1) [] ∷
    entry (executor_at 1 2) (Deliver 19 2) [] ∷
    entry (executor_at 1 3) (Deliver 19 3) [] ∷
    entry (executor_at 1 1) (OfItself (Execute (id 1 1))) (
    message (executor_at 1 1) (session_of 1) (MResult (id 1 1) (partition 1) (Missing ∷ [])) ∷ []) ∷
    entry (session_of 1) (Deliver 23 1) [] ∷
    entry (executor_at 1 2) (OfItself (Execute (id 1 1))) (
    message (executor_at 1 2) (session_of 1) (MResult (id 1 1) (partition 1) (Missing ∷ [])) ∷ []) ∷
    entry (session_of 1) (Deliver 25 1) [] ∷
    entry (executor_at 1 3) (OfItself (Execute (id 1 1))) (
    message (executor_at 1 3) (session_of 1) (MResult (id 1 1) (partition 1) (Missing ∷ [])) ∷ []) ∷
    entry (session_of 1) (Deliver 27 1) [] ∷
    []
