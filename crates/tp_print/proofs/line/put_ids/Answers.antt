use Rattle.std.proofs.Common.{◌∙◌}
use Rattle.tp_print.proofs.Lines.{text_whole, words_of}
use Rattle.tp_print.specs.Report.{spaced}
use Rattle.tp_print.proofs.line.put_ids.Goals as goal
use Rattle.tp_text.specs.Names.{id_word}

pub returns : goal.returns
returns c =
    text_whole (λ id. spaced (id_word id)) c.args.out.now c.loop-id.out c.args.ids.now c.loop-id.id-index
    c.loop-id-test.false c.loop-id.invariant
    ∙ words_of id_word c.args.out.now c.args.ids.now
