-- What a contract sees of the code's sheet.
use Rattle.std.specs.Prelude.{◌≡◌, ◌≤◌, ℕ, [], Option, Some, None, drop, take}
use Rattle.std.specs.Option.{option_map}
use Rattle.tp_base.specs.Lists.{Each}
use Rattle.tp_choice.specs.declared.answer.RecoveryAnswer.{RecoveryAnswer}
use Rattle.tp_quorum.specs.Choice.{present}
use Rattle.tp_sheet.specs.SiteSheet.{SiteSheet}
use Rattle.tp_sheet.specs.declared.sheet.Sheet.TheInside.{Inside}
use Rattle.tp_topology.specs.Shape.{IsSiteOf}

-- of the tables as many places as there are partitions or replicas
abbrev pub view_of : Inside → SiteSheet
view_of s = record {
  shape = s.topology;
  site = s.site;
  sheet = record {
    command = s.command;
    proposal = option_map (λ p. record { stamp = p.stamp; made = p.made }) s.proposal;
    ballot = s.acceptor.ballot;
    accepted_ballot = s.acceptor.accepted_ballot;
    accepted_stamp = s.acceptor.accepted_stamp.0;
    known = take s.topology.partitions s.known;
    acknowledged = take s.topology.replicas s.gathered;
    tried = s.proposer.tried;
    answers = take s.topology.replicas s.answers;
    put = s.proposer.put;
  };
}

-- of a rank up to so many, if any
abbrev pub IsRanked : ℕ → Option RecoveryAnswer → Type 0
IsRanked replicas None = Unit {0}
IsRanked replicas (Some a) = (1 ≤ a.rank.0) × (a.rank.0 ≤ replicas)

-- the tables have room for each partition and each replica, the site is one of them, and so are the ranks that proposed
-- and answered, and the proposer's shape is this one
pub record IsSheet (s : Inside) : Type 0 where
  pub few_partitions : s.topology.partitions ≤ 4
  pub few_replicas : s.topology.replicas ≤ 7
  pub site : IsSiteOf s.topology s.site
  pub gathered : present (drop s.topology.replicas s.gathered) ≡ []
  pub answers : Each (IsRanked s.topology.replicas) s.answers
  pub proposer : s.proposer.shape ≡ s.topology
