use Rattle.std.proofs.Common.{◌≡◌, ℕ, List, Option, Some, None, is_some, sym, ap, ◌++◌, ◌∙◌, arith}
use Rattle.std.proofs.lemmas.List.{append-nil}
use Rattle.tp_ops.specs.Parts.{answers_in, merged}
use Rattle.tp_ops.specs.declared.operation.Answer.{Answer}
use Rattle.tp_print.proofs.Merged.{not_replied, replied}
use Rattle.tp_print.specs.Report.{reply_line}
use Rattle.tp_print.specs.Results.{AreKept}
use Rattle.tp_rules.specs.Outcome.{reply_from}
use Rattle.tp_print.proofs.reply.put_reply.Goals as goal

pub returns-then-not-is_whole : goal.returns-then-not-is_whole
returns-then-not-is_whole c =
    let none : (parts : ℕ → Option (List Answer)) → AreKept c.args.first.now parts
    → reply_from c.args.script.now parts (Some c.args.command.now) ≡ None =
    λ parts kept. not_replied c.args.script.now c.args.command.now c.args.first.now parts
    (omega (arith, c.partitions-partitions.ensures.value, c.partitions-partitions.ensures.range.0))
    (omega (arith, c.partitions-partitions.ensures.value, c.partitions-partitions.ensures.range.1))
    kept (sym c.is_whole.ensures ∙ c.if-not-is_whole.true) in
    record {
      line = λ parts kept. sym (ap (λ (r : Option (List Answer)). c.args.out.now ++ reply_line c.args.command.now.id r)
          (none parts kept) ∙ append-nil c.args.out.now);
      told = λ parts kept. sym (ap is_some (none parts kept));
    }

pub returns : goal.returns
returns c =
    let n = c.partitions-partitions.result in
    let some : (parts : ℕ → Option (List Answer)) → AreKept c.args.first.now parts
    → reply_from c.args.script.now parts (Some c.args.command.now) ≡ Some
    (merged n c.args.command.now.ops (answers_in c.args.first.now)) =
    λ parts kept. replied c.args.script.now c.args.command.now c.args.first.now parts
    (omega (arith, c.partitions-partitions.ensures.value, c.partitions-partitions.ensures.range.0))
    (omega (arith, c.partitions-partitions.ensures.value, c.partitions-partitions.ensures.range.1))
    kept (sym c.is_whole.ensures ∙ c.if-not-is_whole.false)
    ∙ ap (λ (k : ℕ). Some (merged k c.args.command.now.ops (answers_in c.args.first.now)))
    (sym c.partitions-partitions.ensures.value) in
    record {
      line = λ parts kept. c.in_ok-put_whole.ensures
          ∙ sym (ap (λ (r : Option (List Answer)). c.args.out.now ++ reply_line c.args.command.now.id r)
          (some parts kept));
      told = λ parts kept. sym (ap is_some (some parts kept));
    }
