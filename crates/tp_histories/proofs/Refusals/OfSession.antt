-- Where a session's rule has a condition that fails, the delivery changes nothing and sends nothing. Cases of each row.
use Rattle.std.proofs.Common.{◌≡◌, ℕ, List, [], ◌∷◌, Some, None, refl}
use Rattle.tp_ops.specs.declared.command.Command.{Command}
use Rattle.tp_ops.specs.declared.operation.Answer.{Answer}
use Rattle.tp_ops.specs.declared.operation.Answer.TheVariants.{Missing}
use Rattle.tp_ops.specs.declared.operation.Op.TheVariants.{Put}
use Rattle.tp_base.specs.declared.names.CommandId.{CommandId}
use Rattle.tp_histories.proofs.Words.{executor_at, session_of, partition, id, command, the_rules}
use Rattle.tp_rules.specs.Acts.{Act, Took, Did, Client, Identity, SessionOf}
use Rattle.tp_rules.specs.Addresses.{message}
use Rattle.tp_rules.specs.Rules.{enabled}
use Rattle.tp_rules.specs.Session.{SessionState, Step, react, state_after}
use Rattle.tp_rules.specs.declared.event.Inner.TheVariants.{Submit}
use Rattle.tp_topology.specs.Shape.{Shape}
use Rattle.tp_wire.specs.declared.message.Body.TheVariants.{MSubmit, MResult}
use Rattle.tp_wire.specs.declared.message.Message.{Message}

-- three partitions of three replicas, of which one may fail
abbrev shape : Shape
shape = record { partitions = 3; replicas = 3; failures = 1 }

-- put a 1 and b 1 on partitions 2 and 3, put d 1 on partition 2
abbrev put_all : Command
put_all = command (id 1 1) 1 (Put (97 ∷ []) (49 ∷ []) ∷ Put (98 ∷ []) (49 ∷ []) ∷ Put (100 ∷ []) (49 ∷ []) ∷ [])

-- put a 1
abbrev put_a : Command
put_a = command (id 1 2) 1 (Put (97 ∷ []) (49 ∷ []) ∷ [])

abbrev client : Client
client = record { session = record { 0 = 1 }; home = 1; window = 1; commands = put_all ∷ put_a ∷ [] }

abbrev me : Identity
me = SessionOf shape client

abbrev after : List Act → SessionState
after acts = state_after shape client acts

abbrev IsIgnored : List Act → Message → Type 0
IsIgnored acts m = ◌≡◌ {A = Step} (react shape client (Took m) (after acts)) (after acts, [])

abbrev result : CommandId → ℕ → List Answer → Message
result i q answers = message (executor_at q 1) (session_of 1) (MResult i (partition q) answers)

abbrev whole : Message
whole = result (id 1 1) 2 (Missing ∷ Missing ∷ [])

abbrev submitted : List Act
submitted = Did (Submit 1) ∷ []

-- MResult
result_early : IsIgnored [] whole
unfolding the_rules
result_early = refl

result_of_too_few : IsIgnored submitted (result (id 1 1) 2 (Missing ∷ []))
unfolding the_rules
result_of_too_few = refl

result_of_too_many : IsIgnored submitted (result (id 1 1) 2 (Missing ∷ Missing ∷ Missing ∷ []))
unfolding the_rules
result_of_too_many = refl

result_again : IsIgnored (Took whole ∷ submitted) whole
unfolding the_rules
result_again = refl

result_of_other_partition : IsIgnored submitted (result (id 1 1) 1 (Missing ∷ []))
unfolding the_rules
result_of_other_partition = refl

result_of_no_partition : IsIgnored submitted
    (message (executor_at 1 1) (session_of 1) (MResult (id 1 1) (partition 4) (Missing ∷ [])))
unfolding the_rules
result_of_no_partition = refl

result_of_next : IsIgnored submitted (result (id 1 2) 2 (Missing ∷ []))
unfolding the_rules
result_of_next = refl

result_of_other_session : IsIgnored submitted (result (id 2 1) 2 (Missing ∷ Missing ∷ []))
unfolding the_rules
result_of_other_session = refl

-- any message
to_another : IsIgnored submitted
    (message (executor_at 2 1) (session_of 2) (MResult (id 1 1) (partition 2) (Missing ∷ Missing ∷ [])))
unfolding the_rules
to_another = refl

from_no_rank : IsIgnored submitted
    (message (executor_at 2 4) (session_of 1) (MResult (id 1 1) (partition 2) (Missing ∷ Missing ∷ [])))
unfolding the_rules
from_no_rank = refl

no_rule : IsIgnored submitted (message (session_of 1) (session_of 1) (MSubmit put_all))
unfolding the_rules
no_rule = refl

-- Submit
first_is_open : enabled me submitted ≡ None
unfolding the_rules
first_is_open = refl

half_answered : enabled me (Took whole ∷ submitted) ≡ None
unfolding the_rules
half_answered = refl

answered : enabled me (Took (result (id 1 1) 3 (Missing ∷ [])) ∷ Took whole ∷ submitted) ≡ Some (Submit 2)
unfolding the_rules
answered = refl

no_more : enabled (SessionOf shape (record client { commands = put_all ∷ [] }))
    (Took (result (id 1 1) 3 (Missing ∷ [])) ∷ Took whole ∷ submitted) ≡ None
unfolding the_rules
no_more = refl
