-- What a contract sees of the code's proposer.
use Rattle.std.specs.Prelude.{take}
use Rattle.std.specs.Option.{option_map}
use Rattle.tp_paxos.specs.Votes.{Proposal}
use Rattle.tp_paxos.specs.declared.proposer.Proposer.TheInside.{Inside}

-- the votes of as many ranks as there are
abbrev pub view_of : Inside → Proposal
view_of p = record {
  shape = p.topology;
  tried = p.tried;
  put = option_map (λ put. record { ballot = put.ballot; stamp = put.stamp.0; votes = take p.topology.replicas put.votes }) p.put;
}
