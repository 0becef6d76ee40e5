use Rattle.std.proofs.Common.{◌≡◌, true, refl, ap, ◌∙◌, arith}
use Rattle.std.specs.Prelude.{◌==◌}
use Rattle.tp_base.proofs.Tables.{take-set_nth}
use Rattle.tp_paxos.specs.Votes.{Proposal, decision, is_put_at}
use Rattle.tp_paxos.proofs.proposer.Proposer.vote.Goals as goal

pub returns-clause-voted : goal.returns-clause-voted
returns-clause-voted c =
    let here : (c.in-Some.put.ballot == c.args.ballot) ≡ true = grind (arith, c.if-put-ballot.false) in
    let written = take-set_nth c.self.inside.topology.replicas c.in-Some.put.votes c.args.rank.0 true c.requires.from in
    rw (← c.self.view_is, c.in-Some.is, c.from.ensures) (rw here (rw written))

pub returns-clause-decided : goal.returns-clause-decided
returns-clause-decided c =
    let here : (c.in-Some.put.ballot == c.args.ballot) ≡ true = grind (arith, c.if-put-ballot.false) in
    let at : is_put_at c.args.ballot c.args.self.now.put ≡ true = rw (← c.self.view_is, c.in-Some.is) here in
    c.decision.ensures
    ∙ ap (λ (p : Proposal). decision p.shape p.put) (returns-clause-voted c)
    ∙ rw at refl
