use Rattle.std.proofs.Common.{Bool, refl, subst, sym}
use Rattle.std.specs.Prelude.{◌&&◌, ◌↔◌, IsTrue, reverse}
use Rattle.tp_netbook.proofs.Ledgers.{follows_is}
use Rattle.tp_netbook.specs.Ledger.{is_left}
use Rattle.tp_netbook.proofs.ledger.Ledger.follows_plan.Goals as goal
use Rattle.tp_rules.specs.Runs.{FollowsPlan}

pub returns-then-follows_line : goal.returns-then-follows_line
returns-then-follows_line c = λ script journal is known.
    subst (λ (line : Bool). IsTrue (line && c.follows_fate.result) ↔ FollowsPlan script (reverse journal) c.args.entry.now) c.if-follows_line.true
    (follows_is script journal c.args.self.now is c.args.entry.now known c.follows_line.result c.follows_fate.result c.follows_line.ensures c.follows_fate.ensures)

pub returns-else-follows_line : goal.returns-else-follows_line
returns-else-follows_line c = λ script journal is known.
    subst (λ (line : Bool). IsTrue line ↔ FollowsPlan script (reverse journal) c.args.entry.now) (sym c.if-follows_line.false)
    (subst (λ (line : Bool). IsTrue (line && is_left c.args.self.now c.args.entry.now.event) ↔ FollowsPlan script (reverse journal) c.args.entry.now) c.if-follows_line.false
    (follows_is script journal c.args.self.now is c.args.entry.now known c.follows_line.result (is_left c.args.self.now c.args.entry.now.event) c.follows_line.ensures refl))
