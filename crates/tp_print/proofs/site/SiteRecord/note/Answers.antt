use Rattle.std.proofs.Common.{sym, ◌∙◌}
use Rattle.tp_print.proofs.Recording.{executor_noted, other_noted, process_noted}
use Rattle.tp_print.proofs.site.SiteRecord.note.Goals as goal

pub returns-then-is_process : goal.returns-then-is_process
returns-then-is_process c = λ older h.
    process_noted older c.args.site c.args.entry.now c.args.self.now c.note_process.new.self h
    (sym c.is_process.ensures ∙ c.if-is_process.true)
    c.in_ok-note_process.ensures.executed c.in_ok-note_process.ensures.stamps c.in_ok-note_process.ensures.crashed

pub returns-then-is_executor : goal.returns-then-is_executor
returns-then-is_executor c = λ older h.
    executor_noted older c.args.site c.args.entry.now c.args.self.now c.note_executor.new.self h
    (sym c.is_process.ensures ∙ c.if-is_process.false) (sym c.is_executor.ensures ∙ c.if-is_executor.true)
    c.in_ok-note_executor.ensures.executed c.in_ok-note_executor.ensures.stamps c.in_ok-note_executor.ensures.crashed

pub returns : goal.returns
returns c = λ older h.
    other_noted older c.args.site c.args.entry.now c.args.self.now h (sym c.is_process.ensures ∙ c.if-is_process.false)
    (sym c.is_executor.ensures ∙ c.if-is_executor.false)
