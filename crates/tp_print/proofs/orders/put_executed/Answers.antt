use Rattle.std.proofs.Common.{List, ◌++◌, ap, ◌∙◌, ℕ, unwrap_or, map}
use Rattle.indexmap.specs.IndexMap.{get}
use Rattle.std.specs.List.{flat_map}
use Rattle.tp_base.specs.Names.{same_id}
use Rattle.tp_base.specs.declared.names.CommandId.{CommandId}
use Rattle.tp_print.proofs.Lines.{text_whole, words_of}
use Rattle.tp_print.specs.Report.{spaced, stamped_word}
use Rattle.tp_print.proofs.orders.put_executed.Goals as goal

pub returns : goal.returns
returns c =
    let f : CommandId → List ℕ = λ id. stamped_word id (unwrap_or (get same_id c.args.noted.now.stamps id) 0) in
    text_whole (λ id. spaced (f id)) c.args.out.now c.loop-id.out c.as_slice-id-items.result.now c.loop-id.id-index
    c.loop-id-test.false c.loop-id.invariant
    ∙ words_of f c.args.out.now c.as_slice-id-items.result.now
    ∙ ap (λ (ids : List CommandId). c.args.out.now ++ flat_map spaced (map f ids)) c.as_slice-id-items.ensures.value
