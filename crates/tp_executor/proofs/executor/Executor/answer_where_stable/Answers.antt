use Rattle.std.proofs.Common.{◌&&◌, Bool, refl, sym, ap, ◌∙◌}
use Rattle.tp_rules.specs.Addresses.{others_accessed}
use Rattle.tp_rules.specs.Executor.{is_ready}
use Rattle.tp_executor.specs.States.{declarations_of}
use Rattle.tp_executor.proofs.Answering.{ready_is, unheard_is}
use Rattle.tp_executor.proofs.executor.Executor.answer_where_stable.Goals as goal

pub returns-then-is_undeclared : goal.returns-then-is_undeclared
returns-then-is_undeclared c = λ state st stable. (
  stable,
  sym (c.is_undeclared.ensures state st) ∙ c.if-is_undeclared.true,
)

pub returns-in-Some : goal.returns-in-Some
returns-in-Some c = λ state st stable. (
  stable,
  sym (c.is_undeclared.ensures state st) ∙ c.if-is_undeclared.false,
  sym (c.in-Some.ensures (declarations_of state) st.declared
      ∙ unheard_is state c.args.key.id (others_accessed c.args.self.now.topology c.args.command.now c.args.self.now.site.partition.0)),
)

pub returns-in-None : goal.returns-in-None
returns-in-None c = λ state st stable.
    let others = others_accessed c.args.self.now.topology c.args.command.now c.args.self.now.site.partition.0 in (
      refl,
      ap (λ (b : Bool). b && is_ready state c.args.key.id others) stable
          ∙ ready_is state c.args.key.id others (sym (c.is_undeclared.ensures state st) ∙ c.if-is_undeclared.false)
          (sym (c.in-None.ensures (declarations_of state) st.declared ∙ unheard_is state c.args.key.id others)),
    )
