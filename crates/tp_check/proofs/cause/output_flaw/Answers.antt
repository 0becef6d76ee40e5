use Rattle.std.proofs.Common.{None, Some, sym, ap, ◌∙◌}
use Rattle.std.proofs.lemmas.Bool.{cond-false, cond-true}
use Rattle.tp_base.specs.Names.{same_name}
use Rattle.tp_check.proofs.cause.output_flaw.Goals as goal
use Rattle.tp_check.specs.Steps.{output_flaw}
use Rattle.tp_check.specs.declared.verdict.EntryCause.TheVariants.{Addressee}
use Rattle.tp_rules.proofs.Journals.{output_is}

pub returns-in_default : goal.returns-in_default
returns-in_default c = ap (output_flaw c.args.actor) (c.in_default.ensures ∙ output_is c.args.earlier.now c.args.sender c.args.place)

pub returns-then-is_to : goal.returns-then-is_to
returns-then-is_to c =
    sym (cond-true (same_name c.in-Some.message.now.to c.args.actor) None (Some Addressee) (sym c.is_to.ensures ∙ c.if-is_to.true))
    ∙ ap (output_flaw c.args.actor) (c.in-Some.ensures ∙ output_is c.args.earlier.now c.args.sender c.args.place)

pub returns-else-is_to : goal.returns-else-is_to
returns-else-is_to c =
    sym (cond-false (same_name c.in-Some.message.now.to c.args.actor) None (Some Addressee) (sym c.is_to.ensures ∙ c.if-is_to.false))
    ∙ ap (output_flaw c.args.actor) (c.in-Some.ensures ∙ output_is c.args.earlier.now c.args.sender c.args.place)
