use Rattle.std.proofs.Common.{refl, ap, ◌∙◌, arith}
use Rattle.tp_shared.specs.Known.{entry_of, released}
use Rattle.tp_worker.proofs.Holding.{entered_as, has_entered, legal_held, made_fits, post_made, worked_refused}
use Rattle.tp_worker.proofs.post.Post.offer.Goals as goal

pub enter-entered-requires-clause-legal : goal.enter-entered-requires-clause-legal
enter-entered-requires-clause-legal g c =
    legal_held c.args.self.now c.args.self.now c.hold.new.self c.requires.post c.hold.ensures.held c.hold.ensures.grows c.args.event c.args.outputs c.told.ensures c.requires.legal

pub returns-in_err-number-clause-worked : goal.returns-in_err-number-clause-worked
returns-in_err-number-clause-worked g c =
    worked_refused c.args.self.now _ c.hold.new.self c.requires.post c.hold.ensures.held c.hold.ensures.grows refl (c.release.ensures ∙ ap released c.in_err-number.ensures.same) refl

pub overflow_add-self : goal.overflow_add-self
overflow_add-self g c =
    let fits =
    made_fits c.args.self.now (record { desk = c.release.new.self; inbox = c.args.self.now.inbox; fetched = c.args.self.now.fetched; made = c.args.self.now.made; alloc = c.args.self.now.alloc })
    c.hold.new.self c.enter-entered.new.self (entry_of c.args.self.now.desk c.args.event c.args.outputs) c.requires.post c.hold.ensures.held c.hold.ensures.grows c.told.ensures
    (entered_as c.args.self.now.desk c.hold.new.self c.enter-entered.new.self c.args.event c.args.outputs c.hold.ensures.held c.in_ok-number.ensures.entered)
    refl c.release.ensures (omega (arith, c.length.ensures, c.length.type_inv)) in
    omega (arith, fits)

pub take-requires-clause-post : goal.take-requires-clause-post
take-requires-clause-post g c =
    post_made c.args.self.now _ c.hold.new.self c.enter-entered.new.self (entry_of c.args.self.now.desk c.args.event c.args.outputs) c.requires.post c.hold.ensures.held c.hold.ensures.grows c.told.ensures
    (entered_as c.args.self.now.desk c.hold.new.self c.enter-entered.new.self c.args.event c.args.outputs c.hold.ensures.held c.in_ok-number.ensures.entered)
    refl c.release.ensures refl c.told-2.ensures refl (omega (arith, c.length.ensures, c.length.type_inv)) c.requires.all c.requires.next c.done.ensures

pub returns-in-Ok-take-clause-entered : goal.returns-in-Ok-take-clause-entered
returns-in-Ok-take-clause-entered g c =
    has_entered c.args.self.now c.take.new.self c.hold.new.self c.enter-entered.new.self (entry_of c.args.self.now.desk c.args.event c.args.outputs) c.requires.post c.hold.ensures.held c.hold.ensures.grows c.told.ensures
    (entered_as c.args.self.now.desk c.hold.new.self c.enter-entered.new.self c.args.event c.args.outputs c.hold.ensures.held c.in_ok-number.ensures.entered)
    refl (c.in-Ok-take.ensures.desk ∙ c.release.ensures) c.in_ok-number.ensures.crashed
