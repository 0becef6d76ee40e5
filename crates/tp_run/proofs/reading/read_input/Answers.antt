use Rattle.tp_run.proofs.TopCalls.{all_refused_by_whole, said_by_whole, unrefused_by_whole}
use Rattle.tp_run.proofs.reading.read_input.Goals as goal

pub returns-clause-script : goal.returns-clause-script
returns-clause-script g c =
    said_by_whole 67108864 _ _ _ _ c.as_slice.ensures c.in_ok-bytes.ensures.first c.read_text.ensures.script c.read_text.ensures.short

pub returns-clause-unrefused : goal.returns-clause-unrefused
returns-clause-unrefused g c =
    unrefused_by_whole _ _ _ c.read_text.result c.as_slice.ensures c.in_ok-bytes.ensures.first c.read_text.ensures.unrefused

pub returns-clause-refused : goal.returns-clause-refused
returns-clause-refused g c =
    all_refused_by_whole _ _ _ c.read_text.result c.as_slice.ensures c.in_ok-bytes.ensures.first c.read_text.ensures.refused
