-- In a quiet run without losses and crashes each process took, admitted and in time, all that was sent to it.
-- Used for the end of such runs.
use Rattle.std.proofs.Common.{◌≡◌, List, []}
use Rattle.tp_rules.proofs.Histories.{free_history}
use Rattle.tp_rules.specs.Pending.{pending}
use Rattle.tp_rules.specs.Runs.{IsHistory}
use Rattle.tp_rules.specs.declared.event.Entry.{Entry}
use Rattle.tp_script.specs.Accepted.{IsAccepted}
use Rattle.tp_script.specs.declared.script.Script.{Script}
use Rattle.tp_quiet.proofs.Admitted.{all_admitted}
use Rattle.tp_quiet.proofs.AtRest.{at_rest}
use Rattle.tp_quiet.proofs.Stuck.{IsTakenIn}
use Rattle.tp_quiet.proofs.TakenWell.{all_taken_well, all_to_others, are_genuine, is_here}
use Rattle.tp_quiet.specs.Finished.{IsHarmless}

module _ (script : Script) (accepted : IsAccepted script) (harmless : IsHarmless script) (older : List Entry)
    (history : IsHistory script older) (quiet : pending script older ≡ []) where
  pub taken_in : IsTakenIn script older
  taken_in =
      let free = free_history script older history in
      record {
        accepted = accepted;
        history = free;
        took = (at_rest script accepted harmless older history quiet).took;
        here = is_here script accepted;
        genuine = λ k at. are_genuine script accepted older free k;
        well = λ k at. all_taken_well script accepted older free k at (all_admitted script accepted older free k at);
        to_others = all_to_others script accepted older free;
      }
