use Rattle.std.proofs.Common.{◌≡◌, ◌-◌, ◌∙◌, [], length, ap, arith}
use Rattle.std.proofs.lemmas.Result.{err_from_is_err_and}
use Rattle.tp_script.proofs.OpsRead.{counted, ends, goes_on, none_kept}
use Rattle.tp_script.specs.Grammar.{ops_and_count, ops_at}
use Rattle.tp_script.proofs.operations.read_ops.Goals as goal

pub loop-more-init : goal.loop-more-init
loop-more-init c =
    let all : length c.args.words.now - 0 ≡ length c.args.words.now = omega arith in
    rw c.new-ops.ensures (ap (λ n. counted [] 0 (ops_at n c.args.words.now)) all ∙ none_kept c.args.words.now, omega arith, omega arith)

pub returns-in_err-op : goal.returns-in_err-op
returns-in_err-op c =
    let passed = err_from_is_err_and c.from_residual.result c.from_residual.ensures.1 in
    let so_far = rw c.loop-more-test.true at c.loop-more.invariant.0 in
    rw (passed.1, passed.2) (ends c.in_err-op.field-0.0 c.loop-more.ops c.loop-more.count (length c.args.words.now) c.loop-more.words (ops_and_count c.args.words.now)
    c.loop-more.invariant.1 c.in_err-op.ensures.read so_far)

pub loop-more-preserved : goal.loop-more-preserved
loop-more-preserved c =
    let so_far = rw c.loop-more-test.true at c.loop-more.invariant.0 in
    let next = goes_on c.loop-more.ops c.loop-more.count (length c.args.words.now) c.loop-more.words c.read_op_and_after.new.words c.in_ok-op.op c.in_ok-op.another (ops_and_count c.args.words.now) c.loop-more.invariant.1 c.in_ok-op.ensures.read so_far in
    (rw c.in_ok-keep.ensures.kept next, omega (arith, c.in_ok-op.ensures.shorter, c.loop-more.invariant.1), c.in_ok-keep.ensures.few)
