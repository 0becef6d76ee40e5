use Rattle.std.proofs.Common.{false}
use Rattle.std.proofs.lemmas.List.{take-replicate}
use Rattle.tp_paxos.proofs.proposer.Proposer.put.Goals as goal

pub returns : goal.returns
returns c =
    let votes = take-replicate c.self.inside.topology.replicas 7 false c.self.invariant in
    rw (← c.self.view_is) (rw votes)
