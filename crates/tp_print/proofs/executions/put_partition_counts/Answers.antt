use Rattle.std.proofs.Common.{◌≡◌, ◌+◌, ◌++◌, [], ◌∷◌, ℕ, ap, ◌∙◌, arith}
use Rattle.std.specs.Fmt.{decimal}
use Rattle.std.specs.Prelude.{codes}
use Rattle.tp_print.proofs.Lines.{count_more, count_whole}
use Rattle.tp_print.specs.Report.{text_line}
use Rattle.tp_print.specs.Summary.{executed_line}
use Rattle.tp_rules.specs.Addresses.{site}
use Rattle.tp_print.proofs.executions.put_partition_counts.Goals as goal
use Rattle.tp_text.specs.Names.{site_word}

pub loop-i-preserved : goal.loop-i-preserved
loop-i-preserved c = λ older h.
    count_more (λ k. executed_line older (site c.args.partition.0 k)) c.args.out.now c.loop-i.out
    c.put_site_count.new.out c.loop-i.i (c.loop-i.invariant older h)
    (c.in_ok-put_site_count.ensures
    ∙ ap (λ (n : ℕ). c.loop-i.out ++ text_line (codes "executed")
    (site_word (site c.args.partition.0 (c.loop-i.i + 1)) ∷ decimal n ∷ [])) (c.executed_count-executed.ensures older h))

pub returns : goal.returns
returns c = λ older h.
    let all : c.loop-i.i ≡ c.args.topology.now.replicas = omega (arith, c.replicas-i-end.ensures.value) in
    count_whole (λ k. executed_line older (site c.args.partition.0 k)) c.args.out.now c.loop-i.out c.loop-i.i
    c.args.topology.now.replicas all (c.loop-i.invariant older h)
