-- Why every run ends: sixteen counts, of which each entry lowers one and raises none that stands before it.
use Rattle.std.specs.Prelude.{ℕ, ◌+◌, ◌-◌, ◌*◌, ◌^◌, ◌==◌, nat_lt, not, Bool, true, false, List, [], ◌∷◌, length, map, filter}
use Rattle.std.specs.List.{list_any}
use Rattle.tp_base.specs.Lists.{has}
use Rattle.tp_base.specs.Names.{same_id}
use Rattle.tp_base.specs.declared.names.ActorName.TheVariants.{Process, Executor}
use Rattle.tp_base.specs.declared.names.CommandId.{CommandId}
use Rattle.tp_base.specs.declared.names.Site.{Site}
use Rattle.tp_rules.specs.Executor as executor
use Rattle.tp_rules.specs.Journal.{acts, sent}
use Rattle.tp_rules.specs.Outcome.{is_submission_of}
use Rattle.tp_rules.specs.Pending.{sites_of}
use Rattle.tp_rules.specs.Plan.{deliveries_left, is_planned}
use Rattle.tp_rules.specs.Process as process
use Rattle.tp_rules.specs.Sheet.{ring_rule}
use Rattle.tp_rules.specs.declared.event.Entry.{Entry}
use Rattle.tp_script.specs.declared.script.PlanLine.{PlanLine}
use Rattle.tp_script.specs.declared.script.PlanLine.TheVariants.{Crash as CrashLine, Recover as RecoverLine}
use Rattle.tp_script.specs.declared.script.Script.{Script}
use Rattle.tp_wire.specs.declared.message.Body.{Body}
use Rattle.tp_wire.specs.declared.message.Body.TheVariants.{MSubmit, MPropose, MPayload, MProposeAck, MBump, MConsensus, MConsensusAck, MCommit, MRec, MRecAck, MPromises, MCommitted, MStable, MResult}

-- by recursion, so that it computes along the list
abbrev pub total : List ℕ → ℕ
total [] = 0
total (n ∷ ns) = n + total ns

abbrev pub unsubmitted : Script → List Entry → ℕ
unsubmitted script older = length (filter (λ c. not (list_any (is_submission_of c.id) older)) script.commands)

abbrev pub is_event_line : PlanLine → Bool
is_event_line (CrashLine site after) = true
is_event_line (RecoverLine site id after) = true
is_event_line _ = false

-- the crash and recover lines that have no entry yet
abbrev pub unentered : Script → List Entry → ℕ
unentered script older = length (filter is_event_line script.plan) - length (filter (λ e. is_planned e.event) older)

-- which of the counts a message of a kind is counted in
abbrev pub place_of : Body → ℕ
place_of (MSubmit c) = 3
place_of (MRec c b) = 3
place_of (MPropose c floor) = 4
place_of (MPayload c) = 4
place_of (MProposeAck id t) = 5
place_of (MRecAck id t made a b) = 5
place_of (MConsensus c t b) = 6
place_of (MConsensusAck id b) = 7
place_of (MCommit c q t) = 8
place_of (MCommitted c t) = 9
place_of (MBump id t) = 10
place_of (MPromises lo hi pairs) = 12
place_of (MStable id) = 14
place_of (MResult id q answers) = 16

-- the deliveries left of the kinds that are counted at a place
abbrev pub undelivered : Script → List Entry → ℕ → ℕ
undelivered script older k =
    total (map (deliveries_left script older) (filter (λ parcel. place_of parcel.message.body == k) (sent older)))

abbrev pub has_untold : Script → List Entry → Site → Bool
has_untold script older s =
    let state = process.state_after (ring_rule script.topology) s (acts older (Process s)) in nat_lt state.told state.clock

-- the processes whose clock is above what they told
abbrev pub unannounced : Script → List Entry → ℕ
unannounced script older = length (filter (has_untold script older) (sites_of script))

-- the commands of the script that aren't in a list of an executor
abbrev pub missing_at : Script → List CommandId → ℕ
missing_at script ids = length (filter (λ c. not (has same_id c.id ids)) script.commands)

-- the pairs of an executor and a command that isn't declared there
abbrev pub undeclared : Script → List Entry → ℕ
undeclared script older = total (map (λ s. missing_at script (executor.state_after script.topology s (acts older (Executor s))).declared) (sites_of script))

-- the pairs of an executor and a command that isn't executed there
abbrev pub unexecuted : Script → List Entry → ℕ
unexecuted script older = total (map (λ s. missing_at script (executor.state_after script.topology s (acts older (Executor s))).executed) (sites_of script))

unfoldable pub counts : Script → List Entry → List ℕ
counts script older =
    unsubmitted script older ∷ unentered script older
    ∷ undelivered script older 3 ∷ undelivered script older 4 ∷ undelivered script older 5 ∷ undelivered script older 6
    ∷ undelivered script older 7 ∷ undelivered script older 8 ∷ undelivered script older 9 ∷ undelivered script older 10
    ∷ unannounced script older ∷ undelivered script older 12 ∷ undeclared script older ∷ undelivered script older 14
    ∷ unexecuted script older ∷ undelivered script older 16 ∷ []

-- an entry raises the counts behind the one that it lowers by fewer than 600 together, so each counts 600 of the next
abbrev pub weight : List ℕ → ℕ
weight [] = 0
weight (c ∷ cs) = c * 600 ^ length cs + weight cs

unfoldable pub left : Script → List Entry → ℕ
left script older = weight (counts script older)
