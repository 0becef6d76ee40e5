use Rattle.std.proofs.Common.{refl}
use Rattle.tp_queue.proofs.Entries.{pop_after, pop_least}
use Rattle.tp_queue.proofs.queue.Queue.pop.Goals as goal

pub returns-clause-least : goal.returns-clause-least
returns-clause-least c = λ calls after.
    pop_least calls c.args.self.now.waiting.entries c.pop_first.new.self.entries c.pop_first.result after.waiting after.once
    c.pop_first.ensures.variant.1 c.pop_first.ensures.removal c.pop_first.ensures.all_above

pub returns-clause-taken : goal.returns-clause-taken
returns-clause-taken c = λ calls after.
    pop_after c.args.self.now _ calls c.pop_first.result after refl c.pop_first.ensures.removal c.pop_first.ensures.all_above c.pop_first.ensures.unchanged
