use Rattle.std.proofs.Common.{◌≡◌, Some, set, refl, sym, ap, subst, ◌∙◌, arith}
use Rattle.std.proofs.lemmas.Option.{slice_get-get_or}
use Rattle.std.specs.Vec.{with_item}
use Rattle.tp_netbook.proofs.Marks.{marked_ready}
use Rattle.tp_netbook.proofs.Starts.{none_settled, one_settled}
use Rattle.tp_netbook.proofs.netbook.Netbook.settle.Goals as goal
use Rattle.tp_netbook.specs.Outputs.{StandsAt}
use Rattle.tp_netbook.specs.declared.output.Output.{Output}

pub returns-in_default-clause-outputs : goal.returns-in_default-clause-outputs
returns-in_default-clause-outputs c = λ are.
    none_settled c.args.self.now c.args.event c.place_in.result are (omega (arith, c.args.self.now.outputs.ok.0, c.args.self.now.outputs.ok.1, c.args.self.now.outputs.small))
    (λ place stands lt. c.place_in.ensures place (subst (λ l. StandsAt l c.args.event place) (sym c.deref.ensures.value) stands) lt)
    (λ j lt e. c.in_default.not-Some j e)

pub returns-then-place-len-clause-outputs : goal.returns-then-place-len-clause-outputs
returns-then-place-len-clause-outputs c = λ are.
    ap (λ os. os.items) c.mark.ensures.outputs ∙ ap (λ (o : Output). set c.args.self.now.outputs.items c.in-Some.place o) c.take.ensures
    ∙ one_settled c.args.self.now c.args.event c.place_in.result are (omega (arith, c.args.self.now.outputs.ok.0, c.args.self.now.outputs.ok.1, c.args.self.now.outputs.small))
    (λ place stands lt. c.place_in.ensures place (subst (λ l. StandsAt l c.args.event place) (sym c.deref.ensures.value) stands) lt)
    c.in-Some.place c.index_mut.result.now c.in-Some.is
    (slice_get-get_or c.args.self.now.outputs.items c.in-Some.place c.index_mut.result.now (omega (arith, c.if-place-len.true, c.len.ensures)) ∙ ap (λ (o : Output). Some o) (sym c.index_mut.ensures.value))

pub returns-then-place-len-clause-ready : goal.returns-then-place-len-clause-ready
returns-then-place-len-clause-ready c = λ are.
    marked_ready (record c.args.self.now { outputs = with_item c.args.self.now.outputs c.in-Some.place c.take.new.self }) c.mark.new.self c.args.self.now.outputs.items c.in-Some.place c.index_mut.result.now c.take.new.self
    (slice_get-get_or c.args.self.now.outputs.items c.in-Some.place c.index_mut.result.now (omega (arith, c.if-place-len.true, c.len.ensures)) ∙ ap (λ (o : Output). Some o) (sym c.index_mut.ensures.value))
    refl c.mark.ensures.rest.topology c.mark.ensures.rest.sites c.mark.ensures.outputs c.mark.ensures.ready are

pub returns-else-place-len-clause-outputs : goal.returns-else-place-len-clause-outputs
returns-else-place-len-clause-outputs c = λ are.
    none_settled c.args.self.now c.args.event c.place_in.result are (omega (arith, c.args.self.now.outputs.ok.0, c.args.self.now.outputs.ok.1, c.args.self.now.outputs.small))
    (λ place stands lt. c.place_in.ensures place (subst (λ l. StandsAt l c.args.event place) (sym c.deref.ensures.value) stands) lt)
    (λ j lt e.
    let both : Some c.in-Some.place ≡ Some j = sym c.in-Some.is ∙ e in
    let same : c.in-Some.place ≡ j = cc in
    absurd (omega (arith, same, lt, c.if-place-len.false, c.len.ensures)))
