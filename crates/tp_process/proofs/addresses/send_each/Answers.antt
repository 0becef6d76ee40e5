use Rattle.std.proofs.Common.{◌≡◌}
use Rattle.std.proofs.lemmas.Grind.{take_at_read}
use Rattle.tp_base.specs.declared.names.ActorName.TheVariants.{Process}
use Rattle.tp_process.proofs.Rows.{taken-next}
use Rattle.tp_rules.specs.Addresses.{message, site}
use Rattle.tp_process.proofs.addresses.send_each.Goals as goal

pub loop-name-preserved : goal.loop-name-preserved
loop-name-preserved c =
    let body : c.in_ok-copy.field-0 ≡ c.args.body.now = c.in_ok-copy.ensures in
    let next = take_at_read c.args.names.now c.loop-name.name-index (Process (site 0 0)) c.loop-name-test.true in
    taken-next (λ to. message c.args.from to c.args.body.now) _ c.args.names.now c.loop-name.name-index _ _ _ next.1 c.loop-name.invariant
    (rw body at c.in_ok-add.ensures.added)
