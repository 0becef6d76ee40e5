-- Each result that is sent has the answers of one store executing the line. Used for the laws of runs.
use Rattle.std.proofs.Common.{inl, inr, List, [], ◌∷◌, subst}
use Rattle.tp_base.specs.Lists.{IsIn}
use Rattle.tp_base.specs.Names.{same_id}
use Rattle.tp_base.proofs.Members.{in_has}
use Rattle.tp_base.proofs.SameNames.{same_id_refl}
use Rattle.tp_rules.specs.Journal.{IsSent}
use Rattle.tp_rules.specs.Laws.{LineOrders, ResultsAreSequential}
use Rattle.tp_rules.specs.Outcome.{line}
use Rattle.tp_rules.specs.Runs.{IsFreeHistory}
use Rattle.tp_rules.specs.declared.event.Entry.{Entry}
use Rattle.tp_script.specs.Accepted.{IsAccepted}
use Rattle.tp_script.specs.declared.script.Script.{Script}
use Rattle.tp_wire.specs.declared.message.Message.{Message}
use Rattle.tp_replies.proofs.SentResults.{result_is}
use Rattle.tp_replies.proofs.Line.{executed_in_line}
use Rattle.tp_replies.proofs.Sequential.{execution_is_sequential}

output_sent : (older : List Entry) (e : Entry) (m : Message) → IsIn e older → IsIn m e.outputs → IsSent older m
output_sent [] e m here there = absurd here
output_sent (x ∷ older) e m (inl same) there = inl (subst (λ (y : Entry). IsIn m y.outputs) same there)
output_sent (x ∷ older) e m (inr later) there = inr (output_sent older e m later there)

-- the law of results
pub results_are_sequential : (script : Script) (older : List Entry) → IsAccepted script → IsFreeHistory script older
    → LineOrders script older → ResultsAreSequential script older
unfolding ResultsAreSequential
results_are_sequential script older accepted history ordered e m id p answers here there body =
    let sent : IsSent older m = output_sent older e m here there in
    let x = (result_is script accepted m id p answers body older history sent).executed in (
      in_has same_id same_id_refl id (line older) (executed_in_line script older id p.0 answers x),
      execution_is_sequential script older ordered id p.0 answers x,
    )
