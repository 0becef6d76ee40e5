use Rattle.std.proofs.Common.{◌≡◌, false}
use Rattle.std.specs.Ordering.{is_gt}
use Rattle.tp_base.proofs.Members.{in_get}
use Rattle.tp_queue.proofs.Entries.{of_keys, empty_when, key_cmp, least_left, none_left}
use Rattle.tp_queue.proofs.queue.Queue.head.Goals as goal

pub returns-in-Some : goal.returns-in-Some
returns-in-Some c = λ calls after.
    least_left calls _ (c.in-Some.key.now, c.in-Some.command.now) after.waiting after.once (in_get _ 0 _ c.in-Some.ensures.first)
    (λ e h. of_keys (λ k. is_gt (key_cmp c.in-Some.key.now k) ≡ false) c.args.self.now.waiting.entries e c.in-Some.ensures.all_from h)

pub returns-in-None : goal.returns-in-None
returns-in-None c = λ calls after. none_left calls _ after.waiting (empty_when c.args.self.now.waiting.entries c.in-None.ensures.variant.1)
