-- Recoveries at three replicas: the ballot that is tried, what is told to it, and what the answers lead to.
use Rattle.std.proofs.Common.{◌≡◌, ℕ, ◌-◌, ◌^◌, List, [], ◌∷◌, refl}
use Rattle.tp_base.specs.declared.names.Made.{Made}
use Rattle.tp_base.specs.declared.names.Made.TheVariants.{Proposal, Recovery}
use Rattle.tp_ops.specs.declared.command.Command.{Command}
use Rattle.tp_ops.specs.declared.operation.Op.TheVariants.{Put}
use Rattle.tp_histories.proofs.Words.{process_at, executor_at, session_of, partition, stamp, id, pair, command, the_rules}
use Rattle.tp_rules.specs.Acts.{Act, Took, Did, Identity, ProcessAt}
use Rattle.tp_rules.specs.Addresses.{message, site}
use Rattle.tp_rules.specs.Process.{Step, react, state_after}
use Rattle.tp_rules.specs.Rules.{outputs_of}
use Rattle.tp_rules.specs.Sheet.{ring_rule}
use Rattle.tp_rules.specs.declared.event.Inner.TheVariants.{Announce, Recover}
use Rattle.tp_topology.specs.Shape.{Shape}
use Rattle.tp_wire.specs.declared.message.Body.TheVariants.{MSubmit, MPropose, MPayload, MProposeAck, MConsensus, MCommit, MRec, MRecAck, MPromises}

abbrev three : Shape
three = record { partitions = 1; replicas = 3; failures = 1 }

-- put b 1, home rank 1, whose fast quorum has ranks 1 and 2
abbrev put_b : Command
put_b = command (id 1 1) 1 (Put (98 ∷ []) (49 ∷ []) ∷ [])

abbrev at_rank : ℕ → Identity
at_rank k = ProcessAt three (site 1 k)

abbrev asked : Act
asked = Took (message (process_at 1 1) (process_at 1 2) (MPropose put_b (stamp 1)))

abbrev told : Act
told = Took (message (process_at 1 1) (process_at 1 3) (MPayload put_b))

abbrev recover : Act
recover = Did (Recover (id 1 1))

abbrev recovery : ℕ → ℕ → ℕ → Act
recovery from k b = Took (message (process_at 1 from) (process_at 1 k) (MRec put_b b))

abbrev answer : ℕ → ℕ → ℕ → Made → ℕ → ℕ → Act
answer from k t made a b = Took (message (process_at 1 from) (process_at 1 k) (MRecAck (id 1 1) (stamp t) made a b))

abbrev commit : ℕ → Act
commit k = Took (message (process_at 1 1) (process_at 1 k) (MCommit put_b (partition 1) (stamp 1)))

-- the ballots are the ranks' own ones above the first three

second_asks : outputs_of (at_rank 2) (asked ∷ []) recover ≡
    message (process_at 1 2) (process_at 1 1) (MRec put_b 5) ∷
    message (process_at 1 2) (process_at 1 2) (MRec put_b 5) ∷
    message (process_at 1 2) (process_at 1 3) (MRec put_b 5) ∷
    []
unfolding the_rules
second_asks = refl

third_asks : outputs_of (at_rank 3) (told ∷ []) recover ≡
    message (process_at 1 3) (process_at 1 1) (MRec put_b 6) ∷
    message (process_at 1 3) (process_at 1 2) (MRec put_b 6) ∷
    message (process_at 1 3) (process_at 1 3) (MRec put_b 6) ∷
    []
unfolding the_rules
third_asks = refl

-- what is told: the own proposal, one that the recovery makes, or the partition's stamp to the sender alone

proposal_told : outputs_of (at_rank 2) (asked ∷ []) (recovery 3 2 6)
    ≡ message (process_at 1 2) (process_at 1 3) (MRecAck (id 1 1) (stamp 1) Proposal 0 6) ∷ []
unfolding the_rules
proposal_told = refl

proposes_and_answers : outputs_of (at_rank 3) (told ∷ []) (recovery 2 3 5)
    ≡ message (process_at 1 3) (process_at 1 2) (MRecAck (id 1 1) (stamp 1) Recovery 0 5) ∷ []
unfolding the_rules
proposes_and_answers = refl

-- the number that a recovery proposed is attached to the command
late_announced : outputs_of (at_rank 3) (recovery 2 3 5 ∷ told ∷ []) (Did Announce) ≡
    message (process_at 1 3) (executor_at 1 1) (MPromises 0 1 (pair (id 1 1) 1 ∷ [])) ∷
    message (process_at 1 3) (executor_at 1 2) (MPromises 0 1 (pair (id 1 1) 1 ∷ [])) ∷
    message (process_at 1 3) (executor_at 1 3) (MPromises 0 1 (pair (id 1 1) 1 ∷ [])) ∷
    []
unfolding the_rules
late_announced = refl

accepted_told : outputs_of (at_rank 3)
    (Took (message (process_at 1 2) (process_at 1 3) (MConsensus put_b (stamp 4) 5)) ∷ [])
    (recovery 3 3 6)
    ≡ message (process_at 1 3) (process_at 1 3) (MRecAck (id 1 1) (stamp 4) Proposal 5 6) ∷ []
unfolding the_rules
accepted_told = refl

stamp_told : outputs_of (at_rank 2) (commit 2 ∷ []) (recovery 3 2 6)
    ≡ message (process_at 1 2) (process_at 1 3) (MCommit put_b (partition 1) (stamp 1)) ∷ []
unfolding the_rules
stamp_told = refl

-- a home that decided at once tells the stamp, and no proposal
abbrev submitted : List Act
submitted = Took (message (session_of 1) (process_at 1 1) (MSubmit put_b)) ∷ []

home_decided : outputs_of (at_rank 1)
    (Took (message (process_at 1 2) (process_at 1 1) (MProposeAck (id 1 1) (stamp 1))) ∷ submitted) (recovery 3 1 6)
    ≡ message (process_at 1 1) (process_at 1 3) (MCommit put_b (partition 1) (stamp 1)) ∷ []
unfolding the_rules
home_decided = refl

-- of two answers, that of the fast quorum counts where neither the home nor a late proposal of a member is among them

abbrev recovering : List Act
recovering = recover ∷ asked ∷ []

first_waits : outputs_of (at_rank 2) recovering (answer 2 2 2 Proposal 0 5) ≡ []
unfolding the_rules
first_waits = refl

second_puts : outputs_of (at_rank 2) (answer 2 2 2 Proposal 0 5 ∷ recovering) (answer 3 2 7 Recovery 0 5) ≡
    message (process_at 1 2) (process_at 1 1) (MConsensus put_b (stamp 2) 5) ∷
    message (process_at 1 2) (process_at 1 2) (MConsensus put_b (stamp 2) 5) ∷
    message (process_at 1 2) (process_at 1 3) (MConsensus put_b (stamp 2) 5) ∷
    []
unfolding the_rules
second_puts = refl

-- a stamp that was accepted comes first
accepted_puts : outputs_of (at_rank 2) (answer 2 2 2 Proposal 0 5 ∷ recovering) (answer 3 2 4 Proposal 1 5) ≡
    message (process_at 1 2) (process_at 1 1) (MConsensus put_b (stamp 4) 5) ∷
    message (process_at 1 2) (process_at 1 2) (MConsensus put_b (stamp 4) 5) ∷
    message (process_at 1 2) (process_at 1 3) (MConsensus put_b (stamp 4) 5) ∷
    []
unfolding the_rules
accepted_puts = refl

-- what changes nothing and sends nothing

abbrev IsIgnored : ℕ → List Act → Act → Type 0
IsIgnored k acts act =
    ◌≡◌ {A = Step} (react (ring_rule three) (site 1 k) act (state_after (ring_rule three) (site 1 k) acts))
    (state_after (ring_rule three) (site 1 k) acts, [])

recover_unknown : IsIgnored 2 [] recover
unfolding the_rules
recover_unknown = refl

recover_decided : IsIgnored 2 (commit 2 ∷ []) recover
unfolding the_rules
recover_decided = refl

recovery_at_the_ballot : IsIgnored 2 (recovery 2 2 5 ∷ asked ∷ []) (recovery 2 2 5)
unfolding the_rules
recovery_at_the_ballot = refl

recovery_ballot_without_room : IsIgnored 2 [] (recovery 3 2 (2 ^ 48))
unfolding the_rules
recovery_ballot_without_room = refl

-- the clock stands at the greatest stamp, so no late proposal has room, and the command isn't kept
late_without_room : IsIgnored 2
    (Took (message (process_at 1 1) (process_at 1 2)
    (MPropose (command (id 1 2) 1 (Put (98 ∷ []) (49 ∷ []) ∷ [])) (stamp (2 ^ 48 - 1)))) ∷ [])
    (recovery 3 2 6)
unfolding the_rules
late_without_room = refl

answer_at_another_ballot : IsIgnored 2 recovering (answer 3 2 1 Proposal 0 8)
unfolding the_rules
answer_at_another_ballot = refl

answer_again : IsIgnored 2 (answer 3 2 1 Proposal 0 5 ∷ recovering) (answer 3 2 2 Proposal 0 5)
unfolding the_rules
answer_again = refl

answer_after_the_put : IsIgnored 2 (answer 3 2 1 Proposal 0 5 ∷ answer 2 2 2 Proposal 0 5 ∷ recovering)
    (answer 1 2 9 Proposal 0 5)
unfolding the_rules
answer_after_the_put = refl

answer_of_decided : IsIgnored 2 (commit 2 ∷ recovering) (answer 3 2 1 Proposal 0 5)
unfolding the_rules
answer_of_decided = refl

-- a new recovery has none of the old answers: one is no quorum
next_waits : outputs_of (at_rank 2) (recover ∷ answer 3 2 1 Proposal 0 5 ∷ recovering) (answer 2 2 2 Proposal 0 8) ≡ []
unfolding the_rules
next_waits = refl
