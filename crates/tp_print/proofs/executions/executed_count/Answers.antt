use Rattle.std.proofs.Common.{Option, length, unwrap_or, refl, ap, ◌∙◌}
use Rattle.tp_print.proofs.Records.{kept_or_new}
use Rattle.tp_print.proofs.Rows.{unwrap_copied}
use Rattle.tp_print.specs.declared.site.SiteRecord.{SiteRecord}
use Rattle.tp_print.proofs.executions.executed_count.Goals as goal

pub returns : goal.returns
returns c = λ older h.
    let noted = unwrap_copied c.get.result _ c.unwrap_or-noted.result c.new-none.result c.unwrap_or-noted.ensures refl
    ∙ ap (λ (o : Option SiteRecord). unwrap_or o c.new-none.result) c.get.ensures.value in
    ap length (c.as_slice.ensures.value
    ∙ (kept_or_new older c.args.site _ c.new-none.result c.unwrap_or-noted.result.now noted c.new-none.ensures
    (h c.args.site)).executed)
