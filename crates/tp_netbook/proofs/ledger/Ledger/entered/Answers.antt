use Rattle.std.proofs.Common.{◌≡◌, suc, length, arith}
use Rattle.tp_netbook.proofs.Ledgers.{ledger_more}
use Rattle.tp_netbook.specs.declared.ledger.Ledger.{Ledger}
use Rattle.tp_netbook.proofs.ledger.Ledger.entered.Goals as goal

pub returns : goal.returns
returns c = λ script journal is accepted run short.
    let counted : Ledger = record c.count.new.self { entries = c.saturating_add-self.result } in
    let many : counted.entries ≡ suc (length journal) = omega (arith, c.saturating_add-self.ensures, c.count.ensures.entries, c.take.ensures.rest.entries, is.entries, short) in
    ledger_more script journal c.args.entry.now c.args.self.now is accepted run short c.take.new.self counted c.send.new.self
    c.take.ensures.left c.take.ensures.rest c.take.ensures.routes
    c.count.ensures.sites c.count.ensures.topology c.count.ensures.fates c.count.ensures.routes c.count.ensures.deliveries
    many c.in_ok-send.ensures.sends c.in_ok-send.ensures.rest
