use Rattle.std.proofs.Common.{sym, subst, ◌∙◌}
use Rattle.tp_driver.proofs.Turns.{none_driven}
use Rattle.tp_driver.proofs.steps.drive.Goals as goal
use Rattle.tp_netbook.specs.Netbook.{IsNetbook}

pub returns-in_err-netbook-clause-driven : goal.returns-in_err-netbook-clause-driven
returns-in_err-netbook-clause-driven g c = none_driven c.args.script.now c.args.journal.now c.requires.empty

pub returns-in_err-steps-clause-driven : goal.returns-in_err-steps-clause-driven
returns-in_err-steps-clause-driven g c = none_driven c.args.script.now c.args.journal.now c.requires.empty

pub returns-in_err-next-clause-driven : goal.returns-in_err-next-clause-driven
returns-in_err-next-clause-driven g c = none_driven c.args.script.now c.args.journal.now c.requires.empty

pub loop-next-init : goal.loop-next-init
loop-next-init g c = (
  none_driven c.args.script.now c.args.journal.now c.requires.empty,
  subst (λ j. IsNetbook c.args.script.now j c.in_ok-netbook.netbook) (sym c.requires.empty) c.in_ok-netbook.ensures,
  c.requires.cast,
  c.in_ok-next.ensures ∙ c.in_ok-steps.ensures c.args.script.now c.args.journal.now c.requires.cast,
)
