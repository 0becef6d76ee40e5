-- The rules of each sort of actor under one name.
use Rattle.std.specs.Prelude.{◌≡◌, List, Option, Some}
use Rattle.tp_rules.specs.Acts.{Act, Identity, ProcessAt, ExecutorAt, SessionOf}
use Rattle.tp_rules.specs.declared.event.Inner.{Inner}
use Rattle.tp_rules.specs.declared.event.Inner.TheVariants.{Recover, Crash}
use Rattle.tp_rules.specs.Executor as executor
use Rattle.tp_rules.specs.Process as process
use Rattle.tp_rules.specs.Session as session
use Rattle.tp_rules.specs.Sheet.{ring_rule}
use Rattle.tp_wire.specs.declared.message.Message.{Message}

-- what an actor sends by an act, after the acts before it, the newest first
abbrev pub outputs_of : Identity → List Act → Act → List Message
outputs_of (ProcessAt shape me) before act =
    (process.react (ring_rule shape) me act (process.state_after (ring_rule shape) me before)).1
outputs_of (ExecutorAt shape me) before act = (executor.react shape me act (executor.state_after shape me before)).1
outputs_of (SessionOf shape client) before act = (session.react shape client act (session.state_after shape client before)).1

-- the step of its own that an actor may make after its acts
abbrev pub enabled : Identity → List Act → Option Inner
enabled (ProcessAt shape me) acts = process.enabled (process.state_after (ring_rule shape) me acts)
enabled (ExecutorAt shape me) acts = executor.enabled shape me (executor.state_after shape me acts)
enabled (SessionOf shape client) acts = session.enabled shape client (session.state_after shape client acts)

abbrev pub IsOfProcess : Identity → Type 0
IsOfProcess (ProcessAt shape me) = Unit {0}
IsOfProcess (ExecutorAt shape me) = ⊥
IsOfProcess (SessionOf shape client) = ⊥

-- whether an actor may make a step of its own, but for the plan: any process may recover and crash
abbrev pub MayMake : Identity → List Act → Inner → Type 0
MayMake actor acts (Recover id) = IsOfProcess actor
MayMake actor acts Crash = IsOfProcess actor
MayMake actor acts inner = enabled actor acts ≡ Some inner
