use Rattle.tp_driver.proofs.Turns.{first_chosen, none_of, pick_chosen}
use Rattle.tp_driver.proofs.choice.choose.Goals as goal

pub returns-then-pick-eq0-clause-chosen : goal.returns-then-pick-eq0-clause-chosen
returns-then-pick-eq0-clause-chosen c =
    first_chosen c.args.script.now c.args.journal.now c.next_pick-pick.result c.item.result c.next_pick-pick.ensures.pick c.if-pick-eq0.true
    (c.item.ensures c.args.script.now c.args.journal.now c.requires.netbook c.requires.accepted c.requires.run c.requires.next)

pub returns-then-all-eq0-clause-chosen : goal.returns-then-all-eq0-clause-chosen
returns-then-all-eq0-clause-chosen c =
    none_of c.args.script.now c.args.journal.now c.pending-all.result (c.pending-all.ensures c.args.script.now c.args.journal.now c.requires.netbook c.requires.accepted c.requires.run c.requires.next) c.if-all-eq0.true

pub returns-clause-chosen : goal.returns-clause-chosen
returns-clause-chosen c =
    pick_chosen c.args.script.now c.args.journal.now c.next_pick-pick.result c.pending-all.result c.item-2.result c.next_pick-pick.ensures.pick
    (c.pending-all.ensures c.args.script.now c.args.journal.now c.requires.netbook c.requires.accepted c.requires.run c.requires.next) c.if-all-eq0.false
    (c.item-2.ensures c.args.script.now c.args.journal.now c.requires.netbook c.requires.accepted c.requires.run c.requires.next)
