-- The law of the line: one line orders the executions of every replica. Used for the laws of every run.
use Rattle.std.proofs.Common.{ℕ, List, subst}
use Rattle.tp_base.specs.Lists.{IsPrefixOf}
use Rattle.tp_rules.specs.Laws.{LineOrders}
use Rattle.tp_rules.specs.Outcome.{executions, line, share}
use Rattle.tp_rules.specs.Runs.{IsFreeHistory}
use Rattle.tp_rules.specs.declared.event.Entry.{Entry}
use Rattle.tp_script.specs.Accepted.{IsAccepted}
use Rattle.tp_script.specs.declared.script.Script.{Script}
use Rattle.tp_facts.specs.Settled.{Settled}
use Rattle.tp_order.proofs.EntriesKeepOrder.{is_in_order}
use Rattle.tp_order.proofs.InOrder.{InOrder}

-- where a journal is settled, its line orders what its executors execute
pub line_orders : (script : Script) (whole : List Entry) → IsAccepted script → IsFreeHistory script whole →
    Settled script whole → LineOrders script whole
unfolding LineOrders
line_orders script whole accepted history settled p =
    let o : InOrder script whole whole =
    is_in_order script accepted whole history settled whole history (λ m sent. sent) in
    record {
      prefixes = λ s within is.
          subst (λ (q : ℕ). IsPrefixOf (executions whole s) (share script q (line whole))) is
          (o.executions_begin_share s);
      committed = λ id there. let due = o.share_is_due p id there in (due.commit, due.is_committed, due.names_it);
      ascending = o.keys_ascend p;
    }
