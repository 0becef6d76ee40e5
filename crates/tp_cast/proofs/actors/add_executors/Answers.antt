use Rattle.tp_base.specs.declared.names.ActorName.TheVariants.{Executor}
use Rattle.tp_cast.proofs.Casting.{site_next}
use Rattle.tp_cast.proofs.actors.add_executors.Goals as goal

pub loop-rank-preserved : goal.loop-rank-preserved
loop-rank-preserved c = λ names h.
    site_next c.args.script.now (λ s. Executor s) c.args.partition.0 c.loop-rank.rank names c.loop-rank.actors.items c.push.new.self.items _ c.loop-rank.auto.rank
    (c.loop-rank.invariant names h) (record { identity = c.in_ok-executor.ensures.identity; unspent = c.in_ok-executor.ensures.unspent; stands = c.in_ok-executor.ensures.stands })
    c.in_ok-push.ensures.items
