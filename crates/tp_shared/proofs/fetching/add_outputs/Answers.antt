use Rattle.std.proofs.Common.{◌++◌, ◌∷◌, [], ◌+◌, ◌∙◌, List, filter, ap, sym, arith}
use Rattle.tp_rules.proofs.sent.Parcels.{parcel}
use Rattle.tp_rules.specs.declared.event.Parcel.{Parcel}
use Rattle.tp_shared.proofs.Addressed.{output_next}
use Rattle.tp_shared.proofs.fetching.add_outputs.Goals as goal
use Rattle.tp_shared.specs.Fetched.{is_for}

pub loop-place-preserved : goal.loop-place-preserved
loop-place-preserved c =
    c.in_ok-add_output.ensures
    ∙ ap (λ (l : List Parcel). l ++ filter (is_for c.args.actor) (parcel c.args.entry (c.loop-place.place + 1) c.in-Some.message.now ∷ [])) c.loop-place.invariant
    ∙ output_next c.args.actor c.args.entry c.loop-place.place c.args.outputs.now c.in-Some.message.now c.args.parcels.now
    (omega (arith, c.loop-place-test.true, c.len-place-end.ensures.count)) (sym c.in-Some.ensures.item)
