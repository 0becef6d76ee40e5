use Rattle.std.proofs.Common.{is_some, map, subst, ◌∙◌}
use Rattle.std.proofs.lemmas.List.{take_all}
use Rattle.std.proofs.lemmas.Option.{slice_get-get_or}
use Rattle.tp_bits.specs.Bits.{AreBits}
use Rattle.tp_netbook.proofs.FreeSteps.{bits_next}
use Rattle.tp_netbook.proofs.own_steps.OwnSteps.new.Goals as goal

pub loop-step-init : goal.loop-step-init
loop-step-init c = c.new-able.ensures

pub loop-step-preserved : goal.loop-step-preserved
loop-step-preserved c =
    subst (λ bits. AreBits bits c.push.new.self)
    (bits_next c.deref-step-items.result.now c.loop-step.step-index c.is_some.result _ (slice_get-get_or c.deref-step-items.result.now c.loop-step.step-index _ c.loop-step-test.true) c.is_some.ensures)
    (c.in_ok-push.ensures _ c.loop-step.invariant)

pub invariant_of-result : goal.invariant_of-result
invariant_of-result c =
    subst (λ l. AreBits (map is_some l) c.loop-step.able) (take_all c.loop-step.step-index c.deref-step-items.result.now c.loop-step-test.false ∙ c.deref-step-items.ensures.value) c.loop-step.invariant
