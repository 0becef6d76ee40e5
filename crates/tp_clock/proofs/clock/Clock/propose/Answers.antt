use Rattle.std.proofs.Common.{ap, ◌≡◌, ◌≤◌, ◌<◌, ◌↔◌, ℕ, Option, subst, arith}
use Rattle.tp_base.specs.Promises.{proposed_stamp, IsMadeByProposal}
use Rattle.tp_base.specs.declared.names.CommandId.{CommandId}
use Rattle.tp_clock.specs.Clocks.{Promised}
use Rattle.tp_clock.proofs.Proposals.{passed_made}
use Rattle.tp_clock.proofs.clock.Clock.propose.Goals as goal

pub returns-clause-promised : goal.returns-clause-promised
returns-clause-promised c = λ id n.
    let same : c.self.inside.clock ≡ c.args.self.now.clock = ap (λ (p : Promised). p.clock) c.self.view_is in
    let last : proposed_stamp c.args.floor c.args.self.now.clock ≡ c.max-self-inside.result = omega arith in
    subst (λ (top : ℕ). ((c.args.self.now.clock < n) × (n ≤ top)) ↔ ((owner : Option CommandId) × IsMadeByProposal c.args.floor c.args.self.now.clock id n owner))
    last (passed_made c.args.floor c.args.self.now.clock id n)
