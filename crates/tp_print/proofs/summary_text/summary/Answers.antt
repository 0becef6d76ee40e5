use Rattle.std.proofs.Common.{◌-◌, ◌∙◌, ◌++◌, List, ℕ, subst, ap}
use Rattle.std.specs.Prelude.{codes, reverse}
use Rattle.tp_print.proofs.Reporting.{site_lines_are}
use Rattle.tp_print.proofs.Summing.{others_answered, summary_is}
use Rattle.tp_print.specs.Outcomes.{IsOutcome}
use Rattle.tp_print.specs.Summary.{count_line, executed_line}
use Rattle.tp_rules.specs.declared.event.Entry.{Entry}
use Rattle.tp_print.proofs.summary_text.summary.Goals as goal

pub overflow_sub-commands : goal.overflow_sub-commands
overflow_sub-commands c =
    let older = reverse c.args.entries.now in
    let outcome : IsOutcome older c.in_ok-outcome.outcome =
    subst (λ (journal : List Entry). IsOutcome (reverse journal) c.in_ok-outcome.outcome) c.as_slice.ensures
    c.in_ok-outcome.ensures in
    (others_answered c.args.script.now older c.len-commands.result c.in_ok-unanswered.unanswered c.requires
    c.len-commands.ensures.count (c.in_ok-unanswered.ensures older outcome.results)).0

pub returns : goal.returns
returns c =
    let script = c.args.script.now in
    let older = reverse c.args.entries.now in
    let outcome : IsOutcome older c.in_ok-outcome.outcome =
    subst (λ (journal : List Entry). IsOutcome (reverse journal) c.in_ok-outcome.outcome) c.as_slice.ensures
    c.in_ok-outcome.ensures in
    let unanswered = c.in_ok-unanswered.ensures older outcome.results in
    let answered = (others_answered script older c.len-commands.result c.in_ok-unanswered.unanswered c.requires
    c.len-commands.ensures.count unanswered).1 in
    c.finish.ensures
    ∙ summary_is c.args.n script c.args.entries.now c.len-commands.result
    (c.len-commands.result - c.in_ok-unanswered.unanswered) c.in_ok-unanswered.unanswered
    c.new-out.result c.put_count_line.new.out c.put_count_line-2.new.out c.put_count_line-3.new.out
    c.put_site_counts.new.out c.put_count_line-4.new.out c.bytes.new.self
    c.len-commands.ensures.count answered unanswered c.new-out.ensures
    (c.in_ok-put_count_line.ensures
    ∙ ap (λ (n : ℕ). c.new-out.result ++ count_line (codes "load") n) c.from.ensures)
    c.in_ok-put_count_line-2.ensures c.in_ok-put_count_line-3.ensures
    (c.in_ok-put_site_counts.ensures older outcome.sites
    ∙ ap (λ (l : List ℕ). c.put_count_line-3.new.out ++ l) (site_lines_are script (executed_line older)))
    c.in_ok-put_count_line-4.ensures c.in_ok-bytes.ensures.written
