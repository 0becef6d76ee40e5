use Rattle.std.proofs.Common.{◌<◌, length, subst, arith}
use Rattle.tp_promise.specs.Books.{Commits}
use Rattle.tp_promise.specs.Pages.{Page}
use Rattle.tp_promise.proofs.Ranks.{all_committed, none_committed, one_committed}
use Rattle.tp_promise.proofs.book.commit_each.Goals as goal

pub loop-i-init : goal.loop-i-init
loop-i-init c = none_committed _ _

pub loop-i-preserved : goal.loop-i-preserved
loop-i-preserved c =
    let lt : c.loop-i.i < length c.loop-i.pages.items = omega (arith, c.loop-i.invariant.ranks, c.len-i-end.ensures) in
    one_committed c.args.id c.args.pages.now.items c.loop-i.pages.items c.loop-i.i c.index_mut.result.now c.commit.new.self c.loop-i.invariant lt
    (subst (λ (p : Page). Commits c.args.id p c.commit.new.self) c.index_mut.ensures.value c.commit.ensures)

pub returns-clause-each : goal.returns-clause-each
returns-clause-each c = all_committed c.args.id c.args.pages.now.items c.loop-i.pages.items c.loop-i.i c.loop-i.invariant (omega (arith, c.loop-i.invariant.ranks, c.len-i-end.ensures))
