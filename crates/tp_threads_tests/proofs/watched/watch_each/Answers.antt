use Rattle.std.proofs.Common.{refl, rules}
use Rattle.tp_threads_tests.proofs.Watching.{all_done, none_yet, one_more}
use Rattle.tp_threads_tests.proofs.watched.watch_each.Goals as goal

pub loop-actor-init : goal.loop-actor-init
loop-actor-init c = none_yet c.args.actors.items c.new-all.result.items (search rules)

pub loop-actor-preserved : goal.loop-actor-preserved
loop-actor-preserved c =
    one_more c.args.actors.items _ _ _ _ c.in-Some.actor _ c.loop-actor.invariant c.in-Some.ensures.items (record { actor = refl; fresh = refl })
    c.in_ok-insert.ensures.items

pub returns : goal.returns
returns c = all_done c.args.actors.items _ _ c.loop-actor.invariant (search rules)
