use Rattle.std.proofs.Common.{◌≡◌, ◌++◌, List, Option, is_some, unwrap_or, sym, ap, ◌∙◌}
use Rattle.std.specs.Option.{option_copied}
use Rattle.tp_base.specs.Tables.{kept_at}
use Rattle.tp_base.specs.declared.names.CommandId.{CommandId}
use Rattle.tp_ops.specs.declared.operation.Answer.{Answer}
use Rattle.tp_print.proofs.Rows.{reply_at, unwrap_copied}
use Rattle.tp_print.specs.Report.{reply_line}
use Rattle.tp_print.specs.Results.{AreFirst, AreKept, ByPartition, none_kept}
use Rattle.tp_rules.specs.Outcome.{first_result}
use Rattle.tp_rules.specs.declared.event.Entry.{Entry}
use Rattle.tp_print.proofs.replies.put_place.Goals as goal

-- the table that is looked up keeps the command's first results
kept : (c : goal.In_ok-told) (older : List Entry) → AreFirst older c.args.results.now
    → AreKept c.unwrap_or-first.result.now (first_result older c.in-Some.command.now.id)
kept c older first = λ p low high.
    ap (λ (table : ByPartition). kept_at table p)
    (unwrap_copied c.get.result _ c.unwrap_or-first.result none_kept c.unwrap_or-first.ensures c.new-none.ensures
    ∙ ap (λ (o : Option ByPartition). unwrap_or o none_kept) c.get.ensures.value)
    ∙ first c.in-Some.command.now.id p low high

pub returns : goal.returns
returns c = record {
  line = λ older id first is. reply_at c.args.script.now older id c.in-Some.command.now
      (sym (ap option_copied c.in-Some.is) ∙ is)
      (λ (k : CommandId) (r : Option (List Answer)). c.put_reply.new.out ≡ c.args.out.now ++ reply_line k r)
      (c.in_ok-told.ensures.line (first_result older c.in-Some.command.now.id) (kept c older first));
  told = λ older id first is. reply_at c.args.script.now older id c.in-Some.command.now
      (sym (ap option_copied c.in-Some.is) ∙ is)
      (λ (k : CommandId) (r : Option (List Answer)). c.in_ok-told.told ≡ is_some r)
      (c.in_ok-told.ensures.told (first_result older c.in-Some.command.now.id) (kept c older first));
}
