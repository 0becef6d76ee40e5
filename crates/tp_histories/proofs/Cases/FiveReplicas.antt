-- Five replicas, of which two may fail: the greatest proposal is decided at once where two made it, and put to the
-- vote where one did. What is put to the vote is decided with the third vote. A bump of another partition moves the
-- clock, and what is proposed after it lies above.
use Rattle.std.proofs.Common.{◌≡◌, ℕ, List, [], ◌∷◌, Some, refl}
use Rattle.tp_ops.specs.declared.command.Command.{Command}
use Rattle.tp_ops.specs.declared.operation.Op.TheVariants.{Put}
use Rattle.tp_histories.proofs.Words.{process_at, executor_at, session_of, partition, stamp, id, command, the_rules}
use Rattle.tp_rules.specs.Acts.{Act, Took, Identity, ProcessAt}
use Rattle.tp_rules.specs.Addresses.{message, site}
use Rattle.tp_rules.specs.Process.{ProcessState, state_after}
use Rattle.tp_rules.specs.Rules.{outputs_of}
use Rattle.tp_rules.specs.Sheet.{ring_rule}
use Rattle.tp_topology.specs.Shape.{Shape}
use Rattle.tp_wire.specs.declared.message.Body.TheVariants.{MSubmit, MPropose, MPayload, MProposeAck, MBump, MConsensus, MConsensusAck, MCommit, MCommitted}

abbrev five : Shape
five = record { partitions = 2; replicas = 5; failures = 2 }

-- put b 1, on partition 1 alone, home rank 1
abbrev put_b : Command
put_b = command (id 1 1) 1 (Put (98 ∷ []) (49 ∷ []) ∷ [])

abbrev home : Identity
home = ProcessAt five (site 1 1)

abbrev submitted : Act
submitted = Took (message (session_of 1) (process_at 1 1) (MSubmit put_b))

abbrev acknowledged : ℕ → ℕ → Act
acknowledged rank t = Took (message (process_at 1 rank) (process_at 1 1) (MProposeAck (id 1 1) (stamp t)))

-- the home's proposal is the floor of the others
home_proposes : outputs_of home [] submitted ≡
    message (process_at 1 1) (process_at 1 2) (MPropose put_b (stamp 1)) ∷
    message (process_at 1 1) (process_at 1 3) (MPropose put_b (stamp 1)) ∷
    message (process_at 1 1) (process_at 1 4) (MPropose put_b (stamp 1)) ∷
    message (process_at 1 1) (process_at 1 5) (MPayload put_b) ∷
    []
unfolding the_rules
home_proposes = refl

first_waits : outputs_of home (submitted ∷ []) (acknowledged 2 1) ≡ []
unfolding the_rules
first_waits = refl

second_waits : outputs_of home (acknowledged 2 1 ∷ submitted ∷ []) (acknowledged 3 1) ≡ []
unfolding the_rules
second_waits = refl

-- 1, 1, 1 and 2: one made the greatest
slow : outputs_of home (acknowledged 3 1 ∷ acknowledged 2 1 ∷ submitted ∷ []) (acknowledged 4 2) ≡
    message (process_at 1 1) (process_at 1 1) (MConsensus put_b (stamp 2) 1) ∷
    message (process_at 1 1) (process_at 1 2) (MConsensus put_b (stamp 2) 1) ∷
    message (process_at 1 1) (process_at 1 3) (MConsensus put_b (stamp 2) 1) ∷
    message (process_at 1 1) (process_at 1 4) (MConsensus put_b (stamp 2) 1) ∷
    message (process_at 1 1) (process_at 1 5) (MConsensus put_b (stamp 2) 1) ∷
    []
unfolding the_rules
slow = refl

-- 1, 1, 2 and 2: two made the greatest
fast : outputs_of home (acknowledged 3 2 ∷ acknowledged 2 1 ∷ submitted ∷ []) (acknowledged 4 2) ≡
    message (process_at 1 1) (process_at 1 2) (MCommit put_b (partition 1) (stamp 2)) ∷
    message (process_at 1 1) (process_at 1 3) (MCommit put_b (partition 1) (stamp 2)) ∷
    message (process_at 1 1) (process_at 1 4) (MCommit put_b (partition 1) (stamp 2)) ∷
    message (process_at 1 1) (process_at 1 5) (MCommit put_b (partition 1) (stamp 2)) ∷
    message (process_at 1 1) (executor_at 1 1) (MCommitted put_b (stamp 2)) ∷
    []
unfolding the_rules
fast = refl

-- and the home's clock goes on to the stamp
fast_clock : (state_after (ring_rule five) (site 1 1)
    (acknowledged 4 2 ∷ acknowledged 3 2 ∷ acknowledged 2 1 ∷ submitted ∷ [])).clock ≡ 2
unfolding the_rules
fast_clock = refl

-- the vote on what was chosen slowly

abbrev put_acts : List Act
put_acts = acknowledged 4 2 ∷ acknowledged 3 1 ∷ acknowledged 2 1 ∷ submitted ∷ []

abbrev put : ℕ → Act
put k = Took (message (process_at 1 1) (process_at 1 k) (MConsensus put_b (stamp 2) 1))

abbrev vote : ℕ → Act
vote k = Took (message (process_at 1 k) (process_at 1 1) (MConsensusAck (id 1 1) 1))

home_votes : outputs_of home put_acts (put 1)
    ≡ message (process_at 1 1) (process_at 1 1) (MConsensusAck (id 1 1) 1) ∷ []
unfolding the_rules
home_votes = refl

-- so does a rank that knew nothing of the command
abbrev fifth : List Act → ProcessState
fifth acts = state_after (ring_rule five) (site 1 5) acts

fifth_votes : outputs_of (ProcessAt five (site 1 5)) [] (put 5)
    ≡ message (process_at 1 5) (process_at 1 1) (MConsensusAck (id 1 1) 1) ∷ []
unfolding the_rules
fifth_votes = refl

fifth_clock : (fifth (put 5 ∷ [])).clock ≡ 2
unfolding the_rules
fifth_clock = refl

fifth_keeps : ((fifth (put 5 ∷ [])).sheets (id 1 1)).command ≡ Some put_b
unfolding the_rules
fifth_keeps = refl

two_wait : outputs_of home (vote 1 ∷ put 1 ∷ put_acts) (vote 5) ≡ []
unfolding the_rules
two_wait = refl

-- a vote that comes twice is one
again_waits : outputs_of home (vote 5 ∷ vote 1 ∷ put 1 ∷ put_acts) (vote 5) ≡ []
unfolding the_rules
again_waits = refl

third_decides : outputs_of home (vote 5 ∷ vote 1 ∷ put 1 ∷ put_acts) (vote 3) ≡
    message (process_at 1 1) (process_at 1 2) (MCommit put_b (partition 1) (stamp 2)) ∷
    message (process_at 1 1) (process_at 1 3) (MCommit put_b (partition 1) (stamp 2)) ∷
    message (process_at 1 1) (process_at 1 4) (MCommit put_b (partition 1) (stamp 2)) ∷
    message (process_at 1 1) (process_at 1 5) (MCommit put_b (partition 1) (stamp 2)) ∷
    message (process_at 1 1) (executor_at 1 1) (MCommitted put_b (stamp 2)) ∷
    []
unfolding the_rules
third_decides = refl

fourth_is_late : outputs_of home (vote 3 ∷ vote 5 ∷ vote 1 ∷ put 1 ∷ put_acts) (vote 4) ≡ []
unfolding the_rules
fourth_is_late = refl

-- another command's bump, from the same rank of the other partition

abbrev fourth : Identity
fourth = ProcessAt five (site 1 4)

abbrev bump : Act
bump = Took (message (process_at 2 4) (process_at 1 4) (MBump (id 9 1) (stamp 1)))

abbrev asked : Act
asked = Took (message (process_at 1 1) (process_at 1 4) (MPropose put_b (stamp 1)))

bump_sends_nothing : outputs_of fourth [] bump ≡ []
unfolding the_rules
bump_sends_nothing = refl

bump_clock : (state_after (ring_rule five) (site 1 4) (bump ∷ [])).clock ≡ 1
unfolding the_rules
bump_clock = refl

proposes_above : outputs_of fourth (bump ∷ []) asked
    ≡ message (process_at 1 4) (process_at 1 1) (MProposeAck (id 1 1) (stamp 2)) ∷ []
unfolding the_rules
proposes_above = refl
