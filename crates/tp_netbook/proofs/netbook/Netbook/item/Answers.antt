use Rattle.std.proofs.Common.{◌≤◌, ◌-◌, ℕ, length, sym, ap, ◌∙◌}
use Rattle.tp_netbook.proofs.Steps.{all_free, beyond, many_roster, delivery_step, line_step, own_step}
use Rattle.tp_netbook.specs.Netbook.{deliveries, lines}
use Rattle.tp_netbook.proofs.netbook.Netbook.item.Goals as goal

pub returns-in-Some : goal.returns-in-Some
returns-in-Some c = λ script journal is accepted run are.
    line_step script journal c.args.self.now is accepted run c.args.next.now are c.args.index c.in-Some.line (sym c.in-Some.is ∙ c.line.ensures is.due)

pub returns-in-Some-delivery : goal.returns-in-Some-delivery
returns-in-Some-delivery c = λ script journal is accepted run are.
    let past : length (lines c.args.self.now) ≤ c.args.index = beyond (lines c.args.self.now) c.args.index c.line.result (c.line.ensures is.due) c.in_default.not-Some in
    delivery_step script journal c.args.self.now is accepted run c.args.next.now are c.args.index c.saturating_sub-index.result c.in-Some-delivery.delivery past
    (c.saturating_sub-index.ensures ∙ ap (λ (n : ℕ). c.args.index - n) is.due) (sym c.in-Some-delivery.is ∙ c.delivery.ensures is.ready)

pub returns : goal.returns
returns c = λ script journal is accepted run are.
    let past : length (lines c.args.self.now) ≤ c.args.index = beyond (lines c.args.self.now) c.args.index c.line.result (c.line.ensures is.due) c.in_default.not-Some in
    let past' : length (deliveries c.args.self.now) ≤ c.saturating_sub-index.result =
    beyond (deliveries c.args.self.now) c.saturating_sub-index.result c.delivery.result (c.delivery.ensures is.ready) c.in_default-delivery.not-Some in
    own_step script journal c.args.self.now is accepted run c.args.next.now are c.args.index c.saturating_sub-index.result c.saturating_sub-index-2.result c.own.result past
    (c.saturating_sub-index.ensures ∙ ap (λ (n : ℕ). c.args.index - n) is.due) past'
    (c.saturating_sub-index-2.ensures ∙ ap (λ (n : ℕ). c.saturating_sub-index.result - n) (c.count_deliveries.ensures.count is.ready))
    (c.own.ensures (all_free script journal c.args.self.now is accepted run) (many_roster script journal c.args.self.now is accepted run c.args.next.now are))
