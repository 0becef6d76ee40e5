use Rattle.std.proofs.Common.{◌≡◌, ◌++◌, ◌∷◌, [], ℕ, suc, length, refl, ap, ◌∙◌, arith}
use Rattle.tp_netbook.proofs.Steps.{are_placed, netbook_more}
use Rattle.tp_netbook.specs.declared.netbook.Netbook.{Netbook}
use Rattle.tp_netbook.proofs.netbook.Netbook.entered.Goals as goal

pub returns : goal.returns
returns c = λ script journal is accepted run short.
    let begun : Netbook = record c.refresh.new.self { entries = c.saturating_add-self.result; starts = c.push.new.self } in
    let many : begun.entries ≡ suc (length journal) =
    omega (arith, c.saturating_add-self.ensures, c.refresh.ensures.rest.entries, c.count-turned.ensures.entries, c.settle.ensures.rest.entries, is.entries, short) in
    let start : c.len.result ≡ length c.refresh.new.self.outputs.items = omega (arith, c.len.ensures) in
    netbook_more script journal c.args.entry.now c.args.self.now is accepted run short c.settle.new.self c.count-turned.new.self c.refresh.new.self begun c.add.new.self c.count-turned.result
    (c.settle.ensures.outputs (are_placed script journal c.args.entry.now c.args.self.now is accepted run short)) (c.settle.ensures.ready is.ready) c.settle.ensures.rest c.settle.ensures.routes
    c.settle.ensures.inboxes c.count-turned.ensures.sites c.count-turned.ensures.turned c.count-turned.ensures.plan c.count-turned.ensures.due c.count-turned.ensures.free c.count-turned.ensures.topology c.count-turned.ensures.outputs c.count-turned.ensures.starts
    c.count-turned.ensures.inboxes c.count-turned.ensures.ready c.count-turned.ensures.roster c.count-turned.ensures.fates c.count-turned.ensures.routes
    c.refresh.ensures.ready c.refresh.ensures.rest c.refresh.ensures.outputs c.refresh.ensures.routes c.refresh.ensures.inboxes
    refl refl refl refl refl refl refl refl refl (c.in_ok-push.ensures.items ∙ ap (λ (n : ℕ). c.refresh.new.self.starts.items ++ n ∷ []) start) many (λ are. are)
    c.in_ok-add.ensures.adds c.in_ok-add.ensures.marks c.in_ok-add.ensures.rest
