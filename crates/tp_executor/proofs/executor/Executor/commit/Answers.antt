use Rattle.std.proofs.Common.{refl}
use Rattle.tp_base.proofs.Options.{when}
use Rattle.tp_executor.proofs.Steps.{commits, commits_again}
use Rattle.tp_executor.proofs.executor.Executor.commit.Goals as goal

pub returns-then-not-branch-clause-state : goal.returns-then-not-branch-clause-state
returns-then-not-branch-clause-state c =
    commits_again c.args.self.now _ c.args.command.now c.in_ok-copy.field-0 c.args.stamp.0 c.in_ok-put.field-0 c.if-not-branch.true refl refl refl
    c.in_ok-put.ensures.first c.in_ok-put.ensures.put

pub returns-clause-state : goal.returns-clause-state
returns-clause-state c =
    when c.committed.result
    (λ more. commits c.args.self.now _ c.args.command.now c.in_ok-copy.field-0 c.args.stamp.0 c.in_ok-put.field-0 c.if-not-branch.false c.in_ok-copy.ensures refl refl
    c.in_ok-put.ensures.first c.in_ok-put.ensures.put more)
    c.committed.ensures.committed
