-- Where a message brings another command than the one that is kept under its identifier: what it asks for is tested of
-- the message's command and sent with it, and what a step does besides is that of the kept one. No run comes to this.
use Rattle.std.proofs.Common.{◌≡◌, ℕ, List, [], ◌∷◌, Some, None, refl}
use Rattle.tp_base.specs.declared.names.Made.TheVariants.{Proposal, Recovery}
use Rattle.tp_ops.specs.declared.command.Command.{Command}
use Rattle.tp_ops.specs.declared.operation.Op.TheVariants.{Put}
use Rattle.tp_histories.proofs.Words.{process_at, session_of, partition, stamp, id, command, the_rules}
use Rattle.tp_rules.specs.Acts.{Act, Took, Did, Identity, ProcessAt}
use Rattle.tp_rules.specs.Addresses.{message, site}
use Rattle.tp_rules.specs.Process.{ProcessState, state_after}
use Rattle.tp_rules.specs.Rules.{outputs_of}
use Rattle.tp_rules.specs.Sheet.{ring_rule}
use Rattle.tp_rules.specs.declared.event.Inner.TheVariants.{Recover}
use Rattle.tp_topology.specs.Shape.{Shape}
use Rattle.tp_wire.specs.declared.message.Body.TheVariants.{MSubmit, MPropose, MPayload, MBump, MCommit, MConsensus, MRec, MRecAck}

abbrev two : Shape
two = record { partitions = 2; replicas = 3; failures = 1 }

-- put b 1 on partition 1, home rank 1
abbrev put_b : Command
put_b = command (id 1 1) 1 (Put (98 ∷ []) (49 ∷ []) ∷ [])

-- put b 1 and put a 1 on both partitions under the same identifier, home rank 2
abbrev put_both : Command
put_both = command (id 1 1) 2 (Put (98 ∷ []) (49 ∷ []) ∷ Put (97 ∷ []) (49 ∷ []) ∷ [])

abbrev payload : Act
payload = Took (message (process_at 1 2) (process_at 1 1) (MPayload put_both))

abbrev submitted : Act
submitted = Took (message (session_of 1) (process_at 1 1) (MSubmit put_b))

-- proposed to the quorum of the message's command, with bumps for the partitions of the kept one
submission : outputs_of (ProcessAt two (site 1 1)) (payload ∷ []) submitted ≡
    message (process_at 1 1) (process_at 1 2) (MPropose put_b (stamp 1)) ∷
    message (process_at 1 1) (process_at 1 3) (MPayload put_b) ∷
    message (process_at 1 1) (process_at 2 1) (MBump (id 1 1) (stamp 1)) ∷
    []
unfolding the_rules
submission = refl

abbrev after : List Act → ProcessState
after acts = state_after (ring_rule two) (site 1 1) acts

-- the kept command's home is elsewhere, so the own proposal isn't acknowledged
not_acknowledged : ((after (submitted ∷ payload ∷ [])).sheets (id 1 1)).acknowledged ≡ None ∷ None ∷ None ∷ []
unfolding the_rules
not_acknowledged = refl

first_kept : ((after (submitted ∷ payload ∷ [])).sheets (id 1 1)).command ≡ Some put_both
unfolding the_rules
first_kept = refl

-- the partition is one of the message's command, and the other one's stamp is still awaited
commit_waits : outputs_of (ProcessAt two (site 1 1)) (payload ∷ [])
    (Took (message (process_at 1 2) (process_at 1 1) (MCommit put_b (partition 1) (stamp 1)))) ≡ []
unfolding the_rules
commit_waits = refl

-- rank 3 keeps the command of both partitions, and a recovery brings the other one

abbrev at_3 : Identity
at_3 = ProcessAt two (site 1 3)

abbrev payload_to_3 : Act
payload_to_3 = Took (message (process_at 1 2) (process_at 1 3) (MPayload put_both))

abbrev recovery : Act
recovery = Took (message (process_at 1 1) (process_at 1 3) (MRec put_b 4))

-- proposed late, with a bump for the other partition of the kept command
answered_late : outputs_of at_3 (payload_to_3 ∷ []) recovery ≡
    message (process_at 1 3) (process_at 1 1) (MRecAck (id 1 1) (stamp 1) Recovery 0 4) ∷
    message (process_at 1 3) (process_at 2 3) (MBump (id 1 1) (stamp 1)) ∷
    []
unfolding the_rules
answered_late = refl

first_kept_at_3 : ((state_after (ring_rule two) (site 1 3) (recovery ∷ payload_to_3 ∷ [])).sheets (id 1 1)).command
    ≡ Some put_both
unfolding the_rules
first_kept_at_3 = refl

abbrev answer : ℕ → ℕ → Act
answer from t = Took (message (process_at 1 from) (process_at 1 3) (MRecAck (id 1 1) (stamp t) Proposal 0 6))

-- what is put to the vote is the kept command, and the choice is by the kept command's home
kept_put : outputs_of at_3 (answer 2 5 ∷ Did (Recover (id 1 1)) ∷ payload_to_3 ∷ []) (answer 1 7) ≡
    message (process_at 1 3) (process_at 1 1) (MConsensus put_both (stamp 7) 6) ∷
    message (process_at 1 3) (process_at 1 2) (MConsensus put_both (stamp 7) 6) ∷
    message (process_at 1 3) (process_at 1 3) (MConsensus put_both (stamp 7) 6) ∷
    []
unfolding the_rules
kept_put = refl
