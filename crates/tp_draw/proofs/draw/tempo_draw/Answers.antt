use Rattle.std.proofs.Common.{Err, ap, sym, ◌∙◌}
use Rattle.tp_draw.proofs.Due.{refused_due, served}
use Rattle.tp_draw.specs.Words.{view_of}
use Rattle.tp_run.proofs.TopCalls.{same_cause}
use Rattle.tp_run.specs.declared.finished.Cause.{Cause}
use Rattle.tp_draw.proofs.draw.tempo_draw.Goals as goal

pub returns-clause-complete : goal.returns-clause-complete
returns-clause-complete g c = λ input read write.
    let left = g.S.Source.left c.args.input.now in
    let told = c.refused-in-Err-read_to_check.result.cause in
    served (view_of c.args.words.now) left told input
    (refused_due (view_of c.args.words.now) c.in-Ok-Some.view left c.in-Err-read_to_check.cause told
    (sym c.in-Ok-Some.ensures ∙ c.in-Ok-Some.field-0-is) c.refused-in-Err-read_to_check.ensures.cause
    c.in-Err-read_to_check.ensures.refused
    (λ failed. read (c.in-Err-read_to_check.ensures.fault.failed
    (ap (λ (e : Cause). Err e) (same_cause (sym c.refused-in-Err-read_to_check.ensures.cause ∙ failed))))))
