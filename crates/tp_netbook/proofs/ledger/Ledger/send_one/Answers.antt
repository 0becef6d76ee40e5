use Rattle.tp_netbook.proofs.Ledgers.{sends_one}
use Rattle.tp_netbook.proofs.ledger.Ledger.send_one.Goals as goal

pub returns-clause-sends : goal.returns-clause-sends
returns-clause-sends c = sends_one (record { entry = c.args.self.now.entries; place = c.args.place; message = c.args.message.now })
    c.args.self.now (record c.args.self.now { routes = c.of_next.new.routes; deliveries = c.add.new.self }) c.in_ok-fate.fate
    c.in_ok-fate.ensures c.in_ok-add.ensures
