use Rattle.std.proofs.Common.{◌≡◌, Some, length, sym, ap, ◌∙◌, arith}
use Rattle.std.proofs.lemmas.Bool.{ltb-false}
use Rattle.std.proofs.lemmas.Option.{get_or_from_slice_get, slice_get_within}
use Rattle.std.specs.Prelude.{slice_get}
use Rattle.tp_netbook.proofs.Marks.{kept_at, kept_no_more}
use Rattle.tp_netbook.proofs.netbook.Netbook.delivery.Goals as goal
use Rattle.tp_netbook.specs.Netbook.{is_ready, output_item}
use Rattle.tp_netbook.specs.declared.output.Output.{Output}
use Rattle.tp_rules.specs.Pending.{item}
use Rattle.tp_rules.specs.declared.event.Event.{Event}

pub returns-in_err-place : goal.returns-in_err-place
returns-in_err-place c = λ are.
    c.from_residual.ensures ∙ sym (kept_no_more (is_ready c.args.self.now) output_item c.args.self.now.outputs.items c.args.index (sym (c.in_err-place.ensures _ are)))

pub returns-in_err-kept : goal.returns-in_err-kept
returns-in_err-kept c = λ are.
    let found = kept_at (is_ready c.args.self.now) output_item c.args.self.now.outputs.items c.args.index c.in_ok-place.place (sym (c.in_ok-place.ensures _ are)) in
    let within = slice_get_within c.args.self.now.outputs.items c.in_ok-place.place found.0 found.1 in
    absurd (omega (arith, within, ap length c.deref.ensures.value, ltb-false c.in_ok-place.place (length c.deref.result.now) (sym c.in_err-kept.ensures.lookup.0)))

pub returns : goal.returns
returns c = λ are.
    let found = kept_at (is_ready c.args.self.now) output_item c.args.self.now.outputs.items c.args.index c.in_ok-place.place (sym (c.in_ok-place.ensures _ are)) in
    let there : slice_get c.deref.result.now c.in_ok-place.place ≡ Some found.0 = ap (λ os. slice_get os c.in_ok-place.place) c.deref.ensures.value ∙ found.1 in
    let same : c.in_ok-kept.kept.now ≡ found.0 = c.in_ok-kept.ensures.lookup.1 ∙ get_or_from_slice_get c.deref.result.now c.in_ok-place.place found.0 _ there in
    ap (λ (event : Event). Some (item c.output-output.result.to event)) c.event.ensures ∙ ap (λ (o : Output). Some (output_item o)) (c.output-output.ensures ∙ same) ∙ sym found.2
