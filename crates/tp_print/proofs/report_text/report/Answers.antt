use Rattle.std.proofs.Common.{◌∙◌, ◌++◌, [], ◌∷◌, List, ℕ, map, subst, ap}
use Rattle.std.specs.Prelude.{codes, reverse}
use Rattle.tp_base.specs.declared.names.CommandId.{CommandId}
use Rattle.tp_print.proofs.Reporting.{report_is, site_lines_are}
use Rattle.tp_print.specs.Outcomes.{IsOutcome}
use Rattle.tp_print.specs.Report.{order_line, text_line}
use Rattle.tp_rules.specs.declared.event.Entry.{Entry}
use Rattle.tp_print.proofs.report_text.report.Goals as goal
use Rattle.tp_text.specs.Names.{id_word}

pub returns : goal.returns
returns c =
    let script = c.args.script.now in
    let older = reverse c.args.entries.now in
    let outcome : IsOutcome older c.in_ok-outcome.outcome =
    subst (λ (journal : List Entry). IsOutcome (reverse journal) c.in_ok-outcome.outcome) c.as_slice.ensures
    c.in_ok-outcome.ensures in
    c.finish.ensures
    ∙ report_is script c.args.entries.now c.in_ok-unanswered.unanswered
    c.bytes.new.self c.put_replies.new.out c.put_orders.new.out c.put_line.new.out c.bytes-2.new.self
    c.put_count.new.out c.bytes-3.new.self
    (c.in_ok-unanswered.ensures.unanswered older outcome.results)
    (c.in_ok-bytes.ensures.written ∙ ap (λ (l : List ℕ). l ++ (codes "report 1" ++ 10 ∷ [])) c.new-out.ensures)
    (c.in_ok-unanswered.ensures.lines older outcome.results)
    (c.in_ok-put_orders.ensures older outcome.sites
    ∙ ap (λ (l : List ℕ). c.put_replies.new.out ++ l) (site_lines_are script (order_line older)))
    (c.in_ok-put_line.ensures
    ∙ ap (λ (ids : List CommandId). c.put_orders.new.out ++ text_line (codes "line") (map id_word ids))
    (c.as_slice-3.ensures.keys ∙ outcome.line))
    c.in_ok-bytes-2.ensures.written c.in_ok-put_count.ensures c.in_ok-bytes-3.ensures.written
