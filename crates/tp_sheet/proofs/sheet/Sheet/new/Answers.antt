use Rattle.std.proofs.Common.{◌≤◌, ℕ, None, Option, ap, arith}
use Rattle.std.proofs.lemmas.List.{take-replicate}
use Rattle.tp_paxos.specs.Votes.{Proposal}
use Rattle.tp_rules.specs.Sheet.{blank}
use Rattle.tp_sheet.proofs.Tables.{empty_answers, none_past}
use Rattle.tp_sheet.proofs.sheet.Sheet.new.Goals as goal

pub invariant_of-result : goal.invariant_of-result
invariant_of-result c = record {
  few_partitions = omega arith;
  few_replicas = omega arith;
  site = c.requires;
  gathered = rw (c.new-3.ensures) (none_past c.args.topology.now.replicas);
  answers = (tt, (tt, (tt, (tt, (tt, (tt, (tt, tt)))))));
  proposer = ap (λ (proposal : Proposal). proposal.shape) c.new-4.ensures;
}

pub returns : goal.returns
unfolding blank
returns c =
    let few : c.args.topology.now.partitions ≤ 4 = omega arith in
    let ranks : c.args.topology.now.replicas ≤ 7 = omega arith in
    let known = take-replicate c.args.topology.now.partitions 4 (let none : Option ℕ = None in none) few in
    let stamps = take-replicate c.args.topology.now.replicas 7 (let none : Option ℕ = None in none) ranks in
    let answers = empty_answers c.args.topology.now.replicas ranks in
    rw (c.new.ensures, c.new-2.ensures, c.new-3.ensures, c.new-4.ensures) (rw (known, stamps, answers))
