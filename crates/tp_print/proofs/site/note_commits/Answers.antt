use Rattle.tp_print.proofs.Commits.{stamps_noted}
use Rattle.tp_print.proofs.site.note_commits.Goals as goal

pub loop-message-preserved : goal.loop-message-preserved
loop-message-preserved c =
    stamps_noted c.args.stamps.now c.loop-message.stamps c.note_message.new.stamps c.as_slice-message-items.result.now
    c.loop-message.message-index c.message-item.result
    c.loop-message-test.true c.message-item.is c.loop-message.invariant c.in_ok-note_message.ensures
