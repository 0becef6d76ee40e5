-- Where a process's rule has a condition that fails, the delivery changes nothing and sends nothing. Cases of each row.
use Rattle.std.proofs.Common.{◌≡◌, ℕ, ◌-◌, ◌^◌, List, [], ◌∷◌, None, refl, ap}
use Rattle.tp_ops.specs.declared.command.Command.{Command}
use Rattle.tp_ops.specs.declared.operation.Op.TheVariants.{Put}
use Rattle.tp_histories.proofs.Words.{process_at, session_of, partition, stamp, id, command, the_rules}
use Rattle.tp_histories.proofs.Refusals.SameSheet.{same_sheet}
use Rattle.tp_rules.specs.Acts.{Act, Took, Did, ProcessAt}
use Rattle.tp_rules.specs.Addresses.{message, site}
use Rattle.tp_rules.specs.Process.{ProcessState, Step, react, state_after}
use Rattle.tp_rules.specs.Rules.{enabled}
use Rattle.tp_rules.specs.Sheet.{ring_rule}
use Rattle.tp_rules.specs.declared.event.Inner.TheVariants.{Announce}
use Rattle.tp_topology.specs.Shape.{Shape}
use Rattle.tp_wire.specs.declared.message.Body.TheVariants.{MSubmit, MPropose, MPayload, MProposeAck, MBump, MConsensus, MConsensusAck, MCommit, MPromises}
use Rattle.tp_wire.specs.declared.message.Message.{Message}

-- two partitions of five replicas, of which two may fail
abbrev shape : Shape
shape = record { partitions = 2; replicas = 5; failures = 2 }

-- put b 1, on partition 1, home rank 1
abbrev put_b : Command
put_b = command (id 1 1) 1 (Put (98 ∷ []) (49 ∷ []) ∷ [])

-- another command of that home there
abbrev put_d : Command
put_d = command (id 1 2) 1 (Put (100 ∷ []) (49 ∷ []) ∷ [])

-- put a 1, on partition 2
abbrev put_a : Command
put_a = command (id 1 1) 1 (Put (97 ∷ []) (49 ∷ []) ∷ [])

-- its home is no rank
abbrev homeless : Command
homeless = command (id 1 1) 6 (Put (98 ∷ []) (49 ∷ []) ∷ [])

-- the process of a rank of partition 1, after its acts
abbrev after : ℕ → List Act → ProcessState
after k acts = state_after (ring_rule shape) (site 1 k) acts

abbrev IsIgnored : ℕ → List Act → Message → Type 0
IsIgnored k acts m = ◌≡◌ {A = Step} (react (ring_rule shape) (site 1 k) (Took m) (after k acts)) (after k acts, [])

abbrev submit : ℕ → Command → Message
submit k c = message (session_of 1) (process_at 1 k) (MSubmit c)

abbrev propose : ℕ → Command → ℕ → Message
propose k c floor = message (process_at 1 1) (process_at 1 k) (MPropose c (stamp floor))

abbrev payload : ℕ → Command → Message
payload k c = message (process_at 1 1) (process_at 1 k) (MPayload c)

abbrev acknowledge_at : ℕ → ℕ → Message
acknowledge_at from t = message (process_at 1 from) (process_at 1 1) (MProposeAck (id 1 1) (stamp t))

abbrev acknowledge : ℕ → ℕ → Message
acknowledge from k = message (process_at 1 from) (process_at 1 k) (MProposeAck (id 1 1) (stamp 1))

abbrev bump : ℕ → ℕ → Message
bump k t = message (process_at 2 k) (process_at 1 k) (MBump (id 9 1) (stamp t))

abbrev consensus : ℕ → Command → ℕ → ℕ → Message
consensus k c t b = message (process_at 1 1) (process_at 1 k) (MConsensus c (stamp t) b)

abbrev vote : ℕ → ℕ → ℕ → Message
vote from k b = message (process_at 1 from) (process_at 1 k) (MConsensusAck (id 1 1) b)

-- the home proposed 1, and put 2 to the vote at ballot 1
abbrev put : List Act
put = Took (acknowledge_at 4 2) ∷ Took (acknowledge_at 3 1) ∷ Took (acknowledge_at 2 1) ∷ Took (submit 1 put_b) ∷ []

abbrev commit : ℕ → Command → ℕ → ℕ → Message
commit k c q t = message (process_at 1 2) (process_at 1 k) (MCommit c (partition q) (stamp t))

-- MSubmit
submit_elsewhere : IsIgnored 2 [] (submit 2 put_b)
unfolding the_rules
submit_elsewhere = refl

submit_again : IsIgnored 1 (Took (submit 1 put_b) ∷ []) (submit 1 put_b)
unfolding the_rules
submit_again = refl

submit_of_decided : IsIgnored 1 (Took (commit 1 put_b 1 1) ∷ []) (submit 1 put_b)
unfolding the_rules
submit_of_decided = refl

-- MPropose
propose_again : IsIgnored 2 (Took (propose 2 put_b 1) ∷ []) (propose 2 put_b 7)
unfolding the_rules
propose_again = refl

propose_of_decided : IsIgnored 2 (Took (commit 2 put_b 1 1) ∷ []) (propose 2 put_b 1)
unfolding the_rules
propose_of_decided = refl

-- the clock stands at the greatest stamp, so a proposal has no room
propose_without_room : IsIgnored 2 (Took (propose 2 put_d (2 ^ 48 - 1)) ∷ []) (propose 2 put_b 1)
unfolding the_rules
propose_without_room = refl

-- MPayload
payload_again : IsIgnored 2 (Took (payload 2 put_b) ∷ []) (payload 2 put_b)
unfolding the_rules
payload_again = ap (λ (state : ProcessState). let moved : Step = (state, []) in moved)
    (same_sheet (id 1 1) (after 2 (Took (payload 2 put_b) ∷ [])))

-- MProposeAck
acknowledge_unknown : IsIgnored 1 [] (acknowledge 2 1)
unfolding the_rules
acknowledge_unknown = refl

acknowledge_unproposed : IsIgnored 1 (Took (payload 1 put_b) ∷ []) (acknowledge 2 1)
unfolding the_rules
acknowledge_unproposed = refl

acknowledge_elsewhere : IsIgnored 2 (Took (propose 2 put_b 1) ∷ []) (acknowledge 3 2)
unfolding the_rules
acknowledge_elsewhere = refl

acknowledge_outside_quorum : IsIgnored 1 (Took (submit 1 put_b) ∷ []) (acknowledge 5 1)
unfolding the_rules
acknowledge_outside_quorum = refl

acknowledge_again : IsIgnored 1 (Took (acknowledge 2 1) ∷ Took (submit 1 put_b) ∷ []) (acknowledge 2 1)
unfolding the_rules
acknowledge_again = refl

acknowledge_own : IsIgnored 1 (Took (submit 1 put_b) ∷ []) (acknowledge 1 1)
unfolding the_rules
acknowledge_own = refl

acknowledge_decided : IsIgnored 1 (Took (commit 1 put_b 1 1) ∷ Took (submit 1 put_b) ∷ []) (acknowledge 2 1)
unfolding the_rules
acknowledge_decided = refl

-- MBump
bump_below_the_clock : IsIgnored 2 (Took (propose 2 put_b 7) ∷ []) (bump 2 6)
unfolding the_rules
bump_below_the_clock = refl

bump_without_room : IsIgnored 2 [] (bump 2 (2 ^ 48))
unfolding the_rules
bump_without_room = refl

-- MConsensus
consensus_below_the_ballot : IsIgnored 2 (Took (consensus 2 put_b 3 6) ∷ []) (consensus 2 put_b 2 5)
unfolding the_rules
consensus_below_the_ballot = refl

consensus_of_decided : IsIgnored 2 (Took (commit 2 put_b 1 2) ∷ []) (consensus 2 put_b 2 1)
unfolding the_rules
consensus_of_decided = refl

consensus_without_room : IsIgnored 2 [] (consensus 2 put_b (2 ^ 48) 1)
unfolding the_rules
consensus_without_room = refl

ballot_without_room : IsIgnored 2 [] (consensus 2 put_b 2 (2 ^ 48))
unfolding the_rules
ballot_without_room = refl

-- MConsensusAck
vote_for_nothing : IsIgnored 1 (Took (submit 1 put_b) ∷ []) (vote 2 1 1)
unfolding the_rules
vote_for_nothing = refl

vote_at_no_ballot : IsIgnored 1 (Took (submit 1 put_b) ∷ []) (vote 2 1 0)
unfolding the_rules
vote_at_no_ballot = refl

vote_at_another_ballot : IsIgnored 1 put (vote 2 1 2)
unfolding the_rules
vote_at_another_ballot = refl

vote_of_decided : IsIgnored 1 (Took (commit 1 put_b 1 2) ∷ put) (vote 2 1 1)
unfolding the_rules
vote_of_decided = refl

-- MCommit
commit_of_other_partition : IsIgnored 2 [] (commit 2 put_b 2 1)
unfolding the_rules
commit_of_other_partition = refl

commit_of_no_partition : IsIgnored 2 [] (commit 2 put_b 3 1)
unfolding the_rules
commit_of_no_partition = refl

commit_again : IsIgnored 2 (Took (commit 2 put_b 1 1) ∷ []) (commit 2 put_b 1 9)
unfolding the_rules
commit_again = ap (λ (state : ProcessState). let moved : Step = (state, []) in moved)
    (same_sheet (id 1 1) (after 2 (Took (commit 2 put_b 1 1) ∷ [])))

-- any message
to_another : IsIgnored 2 [] (propose 3 put_b 1)
unfolding the_rules
to_another = refl

to_executor : IsIgnored 2 [] (message (process_at 1 2) (process_at 2 2) (MPayload put_b))
unfolding the_rules
to_executor = refl

from_no_rank : IsIgnored 2 [] (message (process_at 1 6) (process_at 1 2) (MPayload put_b))
unfolding the_rules
from_no_rank = refl

from_no_partition : IsIgnored 2 [] (message (process_at 3 1) (process_at 1 2) (MPayload put_b))
unfolding the_rules
from_no_partition = refl

home_is_no_rank : IsIgnored 2 [] (payload 2 homeless)
unfolding the_rules
home_is_no_rank = refl

command_elsewhere : IsIgnored 2 [] (payload 2 put_a)
unfolding the_rules
command_elsewhere = refl

no_rule : IsIgnored 2 [] (message (process_at 1 1) (process_at 1 2) (MPromises 0 1 []))
unfolding the_rules
no_rule = refl

-- Announce
nothing_new : enabled (ProcessAt shape (site 1 2)) (Took (payload 2 put_b) ∷ []) ≡ None
unfolding the_rules
nothing_new = refl

all_announced : enabled (ProcessAt shape (site 1 2)) (Did Announce ∷ Took (propose 2 put_b 1) ∷ []) ≡ None
unfolding the_rules
all_announced = refl
