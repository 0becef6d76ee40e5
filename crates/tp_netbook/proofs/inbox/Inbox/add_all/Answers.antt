use Rattle.std.proofs.Common.{List, Some, sym, ap, subst, ◌∙◌, arith}
use Rattle.std.proofs.lemmas.List.{take_all}
use Rattle.std.proofs.lemmas.Option.{slice_get-get_or}
use Rattle.tp_netbook.proofs.Inboxes.{takes_more, takes_none}
use Rattle.tp_netbook.proofs.inbox.Inbox.add_all.Goals as goal
use Rattle.tp_netbook.specs.Inbox.{Takes}
use Rattle.tp_rules.specs.declared.event.Parcel.{Parcel}

pub loop-k-init : goal.loop-k-init
loop-k-init c = takes_none c.args.self.now

pub loop-k-preserved : goal.loop-k-preserved
loop-k-preserved c =
    let item : Parcel = c.index-parcels-k.result in
    takes_more c.args.parcels.now c.loop-k.k item c.args.self.now c.loop-k.self c.add.new.self
    (slice_get-get_or c.args.parcels.now c.loop-k.k item (omega (arith, c.loop-k-test.true, c.loop-k.auto.k-end)) ∙ ap (λ (p : Parcel). Some p) (sym c.index-parcels-k.is))
    c.loop-k.invariant c.in_ok-add.ensures

pub returns : goal.returns
returns c =
    subst (λ (ps : List Parcel). Takes ps c.args.self.now c.loop-k.self)
    (take_all c.loop-k.k c.args.parcels.now (omega (arith, c.loop-k-test.false))) c.loop-k.invariant
