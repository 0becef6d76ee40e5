use Rattle.std.proofs.Common.{◌≡◌, false, sym, ◌∙◌}
use Rattle.tp_queue.specs.declared.queue.Queue.{Queue}
use Rattle.tp_queue.specs.Waiting.{Calls, IsAfter, was_put}
use Rattle.tp_queue.proofs.Entries.{on_err, one_more, put_holds, put_once, put_taken, unchanged}
use Rattle.tp_queue.proofs.queue.Queue.put.Goals as goal

pub returns-in_err-insert-clause-same : goal.returns-in_err-insert-clause-same
returns-in_err-insert-clause-same c =
    let left : Queue = record { waiting = c.insert.new.self; ids = c.reserve.new.self } in
    on_err c.from_residual-in_err-insert.result ((calls : Calls) → IsAfter c.args.self.now calls → IsAfter left calls)
    (λ calls after. unchanged c.args.self.now left calls after c.reserve.ensures.keys c.in_err-insert.ensures.err)

pub returns-clause-put : goal.returns-clause-put
returns-clause-put c = λ calls after.
    let new : was_put c.args.key.id calls ≡ false = sym (after.ids c.args.key.id) ∙ sym c.contains.ensures ∙ c.if-contains.false in
    record {
      ids = λ id. one_more c.args.key.id id c.args.self.now.ids.keys c.reserve.new.self.keys c.insert-2.new.self.keys (was_put id calls) (after.ids id) c.reserve.ensures.keys (c.in_ok-insert-2.ensures.updates.0 id);
      waiting = put_holds calls c.args.self.now.waiting.entries c.insert.new.self.entries c.args.key c.args.command after.waiting c.in_ok-insert.ensures.entries after.taken new;
      once = put_once calls c.args.key c.args.command after.once new;
      taken = put_taken calls c.args.key c.args.command after.taken;
    }
