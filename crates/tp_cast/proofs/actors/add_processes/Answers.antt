use Rattle.tp_base.specs.declared.names.ActorName.TheVariants.{Process}
use Rattle.tp_cast.proofs.Casting.{site_next}
use Rattle.tp_cast.proofs.actors.add_processes.Goals as goal

pub loop-rank-preserved : goal.loop-rank-preserved
loop-rank-preserved c = λ names h.
    site_next c.args.script.now (λ s. Process s) c.args.partition.0 c.loop-rank.rank names c.loop-rank.actors.items c.push.new.self.items _ c.loop-rank.auto.rank
    (c.loop-rank.invariant names h) (record { identity = c.new-process.ensures.identity; unspent = c.new-process.ensures.unspent; stands = c.new-process.ensures.stands })
    c.in_ok-push.ensures.items
