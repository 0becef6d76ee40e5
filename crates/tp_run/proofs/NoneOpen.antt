-- Where a journal is finished, no command is open in its report.
use Rattle.std.proofs.Common.{◌≡◌, ℕ, true, false, List, length, Option, Some, None, is_some, refl, sym, ap, subst}
use Rattle.std.specs.Prelude.{is_none, reverse}
use Rattle.tp_base.proofs.Each.{each_in}
use Rattle.tp_base.proofs.Members.{in_flat, in_map}
use Rattle.tp_base.specs.Limits.{IsFrom}
use Rattle.tp_base.specs.Lists.{IsIn}
use Rattle.tp_base.specs.declared.names.CommandId.{CommandId}
use Rattle.tp_ops.specs.declared.operation.Answer.{Answer}
use Rattle.tp_rules.proofs.lists.Selections.{each_up_to}
use Rattle.tp_rules.proofs.lists.Tallies.{filter_none}
use Rattle.tp_rules.specs.Journal.{commands_of}
use Rattle.tp_rules.specs.Outcome.{reply_to}
use Rattle.tp_rules.specs.declared.event.Entry.{Entry}
use Rattle.tp_script.specs.Accepted.{IsAccepted}
use Rattle.tp_script.specs.declared.script.Script.{Script}
use Rattle.tp_topology.specs.Counting.{up_to}
use Rattle.tp_print.specs.Report.{all_ids, id_of, ids_of, open_count}
use Rattle.tp_quiet.proofs.Finishes.{all_answered}
use Rattle.tp_quiet.specs.Finished.{IsFinished}

some_not_none : (o : Option (List Answer)) → is_some o ≡ true → is_none o ≡ false
some_not_none None some = absurd cc
some_not_none (Some answers) some = refl

-- where all is answered, none is open
pub none_open : (script : Script) (journal : List Entry) → IsAccepted script → IsFinished script journal
    → open_count script (reverse journal) ≡ 0
none_open script journal accepted finished =
    ap (λ (ids : List CommandId). length ids)
    (filter_none (λ id. is_none (reply_to script (reverse journal) id)) (all_ids script) closed)
  where
    closed : (id : CommandId) → IsIn id (all_ids script) → is_none (reply_to script (reverse journal) id) ≡ false
    closed id there =
        let by = in_flat (ids_of script) (up_to (length script.homes)) id there in
        let count : ℕ = length (commands_of script (record { 0 = by.0 })) in
        let of = in_map (id_of by.0) (up_to count) id by.2 in
        let range = each_in (IsFrom 1 count) (up_to count) of.0 (each_up_to count) of.1 in
        subst (λ (i : CommandId). is_none (reply_to script (reverse journal) i) ≡ false) (sym of.2)
        (some_not_none (reply_to script (reverse journal) (id_of by.0 of.0))
        (all_answered script journal accepted finished (record { 0 = by.0 }) of.0 range))
