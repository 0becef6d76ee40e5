use Rattle.std.proofs.Common.{take}
use Rattle.tp_print.specs.Recorded.{AreMore, commits_sent}
use Rattle.tp_print.proofs.site.note_commits.Given as goal

abbrev pub invariant-loop-message : goal.invariant-loop-message
invariant-loop-message l = AreMore l.initial.stamps (λ s. commits_sent s (take l.message-index l.message-items))
    l.stamps
