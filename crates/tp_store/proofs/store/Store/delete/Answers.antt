use Rattle.std.proofs.Common.{None}
use Rattle.tp_store.proofs.Updates.{changed}
use Rattle.tp_store.proofs.store.Store.delete.Goals as goal

pub returns : goal.returns
returns c = rw (← c.as_slice.ensures) (changed (λ k. k.items) c.as_slice.result.now c.args.self.now.values.entries c.remove.new.self.entries None c.remove.ensures.updates.1 c.remove.ensures.updates.3)
