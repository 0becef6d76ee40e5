-- All four laws of each free run of an accepted script. Used by the law functions, and by the top call.
use Rattle.std.proofs.Common.{List, reverse}
use Rattle.tp_agreement.proofs.Settles.{settled}
use Rattle.tp_facts.specs.Settled.{Settled}
use Rattle.tp_order.proofs.Laws.{line_orders}
use Rattle.tp_replies.proofs.RealTime.{real_time}
use Rattle.tp_replies.proofs.Replies.{replies_are_sequential}
use Rattle.tp_replies.proofs.Results.{results_are_sequential}
use Rattle.tp_rules.proofs.Journals.{run_is_free}
use Rattle.tp_rules.specs.Laws.{CommitsAgree, IsLawful, KeepsLaws, LineOrders, ResultsAreSequential}
use Rattle.tp_rules.specs.Runs.{IsFreeHistory, IsFreeRun, IsRun}
use Rattle.tp_rules.specs.declared.event.Entry.{Entry}
use Rattle.tp_script.specs.Accepted.{IsAccepted}
use Rattle.tp_script.specs.declared.script.Script.{Script}

module _ (script : Script) (accepted : IsAccepted script) (older : List Entry) (history : IsFreeHistory script older) where
  pub agreement : CommitsAgree older
  unfolding CommitsAgree
  agreement = (settled script accepted older history).agreed

  pub order : LineOrders script older
  order = line_orders script older accepted history (settled script accepted older history)

  pub results : ResultsAreSequential script older
  results = results_are_sequential script older accepted history order

  pub lawful : IsLawful script older
  lawful = record {
    agreement = agreement;
    order = order;
    real_time = real_time script older accepted history;
    replies = replies_are_sequential script older accepted history order;
  }

-- the newest entry first or last
pub free_history : (script : Script) (journal : List Entry) → IsFreeRun script journal → IsFreeHistory script (reverse journal)
unfolding IsFreeRun
free_history script journal run = run

-- a run of the script keeps the laws
pub run_legal : (script : Script) (journal : List Entry) → IsAccepted script → IsRun script journal → KeepsLaws script journal
run_legal script journal accepted run = lawful script accepted (reverse journal) (free_history script journal (run_is_free script journal run))
