use Rattle.std.proofs.Common.{◌≡◌, ◌+◌, ◌≤◌, ◌∙◌, arith}
use Rattle.tp_paxos.proofs.Dealing.{first_least, first_owner}
use Rattle.tp_paxos.proofs.ballot.next_ballot.Goals as goal

pub returns-clause-owner : goal.returns-clause-owner
returns-clause-owner c =
    let replicas : c.from-replicas.result ≡ c.args.topology.now.replicas = c.from-replicas.ensures ∙ c.replicas.ensures.value in
    rw (c.from.ensures, replicas) (first_owner c.args.topology.now c.args.rank.0 (c.max-from.result + 1) c.requires.some c.requires.few (omega arith))

pub returns-clause-least : goal.returns-clause-least
returns-clause-least c = λ b replicas own tried owned.
    let same : c.from-replicas.result ≡ c.args.topology.now.replicas = c.from-replicas.ensures ∙ c.replicas.ensures.value in
    let later : c.max-from.result + 1 ≤ b = omega arith in
    rw (c.from.ensures, same) (first_least c.args.topology.now c.args.rank.0 (c.max-from.result + 1) b c.requires.some c.requires.few (omega arith) later owned)
