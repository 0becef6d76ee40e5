use Rattle.std.proofs.Common.{Err, ap, sym, ◌∙◌}
use Rattle.tp_run.proofs.BothLaws.{both_fails, both_on}
use Rattle.tp_run.proofs.both.read_whole.Goals as goal
use Rattle.tp_run.specs.declared.finished.Cause.TheVariants.{Script as FaultyScript}
use Rattle.tp_script.specs.declared.fault.ScriptCause.{ScriptCause}
use Rattle.tp_text.specs.declared.fault.TextFault.{TextFault}

pub returns-in-Ok-clause-exact : goal.returns-in-Ok-clause-exact
returns-in-Ok-clause-exact c = rw (both_on c.args.text.now c.new-lines.result _ c.new-lines.ensures c.in-Ok.ensures.exact) c.read_behind.ensures.exact

pub returns-in-Err-Fault-clause-exact : goal.returns-in-Err-Fault-clause-exact
returns-in-Err-Fault-clause-exact c =
    both_fails c.args.text.now c.new-lines.result c.in-Err-Fault.field-0 c.in-Err-Fault.fault c.new-lines.ensures c.in-Err-Fault.field-0-is c.in-Err-Fault.ensures.exact
    ∙ ap (λ (f : TextFault ScriptCause). Err (FaultyScript f)) (sym c.in-Err-Fault.fault-is)
