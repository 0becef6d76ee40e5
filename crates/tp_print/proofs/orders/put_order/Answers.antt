use Rattle.std.proofs.Common.{List, Option, ℕ, ◌++◌, unwrap_or, refl, ap, ◌∙◌}
use Rattle.tp_print.proofs.Recording.{order_line_is}
use Rattle.tp_print.proofs.Records.{kept_or_new}
use Rattle.tp_print.proofs.Rows.{unwrap_copied}
use Rattle.tp_print.specs.declared.site.SiteRecord.{SiteRecord}
use Rattle.tp_print.proofs.orders.put_order.Goals as goal

pub returns : goal.returns
returns c = λ older h.
    let noted = unwrap_copied c.get.result _ c.unwrap_or-noted.result c.new-none.result c.unwrap_or-noted.ensures refl
    ∙ ap (λ (o : Option SiteRecord). unwrap_or o c.new-none.result) c.get.ensures.value in
    c.in_ok-put_record.ensures
    ∙ ap (λ (text : List ℕ). c.args.out.now ++ text) (order_line_is older c.args.site c.unwrap_or-noted.result.now
    (kept_or_new older c.args.site _ c.new-none.result c.unwrap_or-noted.result.now noted c.new-none.ensures
    (h c.args.site)))
