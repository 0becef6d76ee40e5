-- The votes for a stamp that is put at a ballot.
use Rattle.std.specs.Prelude.{ℕ, ◌+◌, ◌==◌, nat_le, true, false, Bool, cond, List, [], ◌∷◌, Option, Some, None, replicate}
use Rattle.tp_base.specs.Tables.{with_nth}
use Rattle.tp_topology.specs.Shape.{Shape, slow_size}

-- a stamp that is put to the vote at a ballot, and whether each rank of the shape, from 1, voted for it
pub record PutStamp : Type 0 where
  pub ballot : ℕ
  pub stamp : ℕ
  pub votes : List Bool

-- the ballot that was tried, and what is put
pub record Proposal : Type 0 where
  pub shape : Shape
  pub tried : ℕ
  pub put : Option PutStamp

-- a stamp put at a ballot, without votes
abbrev pub unvoted : Shape → ℕ → ℕ → PutStamp
unvoted shape b t = record { ballot = b; stamp = t; votes = replicate shape.replicas false }

-- how many ranks voted
abbrev pub count_votes : List Bool → ℕ
count_votes [] = 0
count_votes (vote ∷ votes) = cond vote (1 + count_votes votes) (count_votes votes)

-- whether a stamp is put at this ballot
abbrev pub is_put_at : ℕ → Option PutStamp → Bool
is_put_at b None = false
is_put_at b (Some put) = put.ballot == b

-- with the vote of a rank
abbrev pub voted_too : ℕ → PutStamp → PutStamp
voted_too rank put = record { ballot = put.ballot; stamp = put.stamp; votes = with_nth put.votes rank true }

abbrev pub voted_by : ℕ → Option PutStamp → Option PutStamp
voted_by rank None = None
voted_by rank (Some put) = Some (voted_too rank put)

-- the stamp that is put, where as many ranks voted for it as a consensus quorum has
abbrev pub decision : Shape → Option PutStamp → Option ℕ
decision shape None = None
decision shape (Some put) = cond (nat_le (slow_size shape) (count_votes put.votes)) (Some put.stamp) None

-- with nothing tried and nothing put
abbrev pub nothing : Shape → Proposal
nothing shape = record { shape = shape; tried = 0; put = None }

abbrev pub trying : ℕ → Proposal → Proposal
trying ballot p = record { shape = p.shape; tried = ballot; put = p.put }

abbrev pub putting : ℕ → ℕ → Proposal → Proposal
putting ballot stamp p = record { shape = p.shape; tried = p.tried; put = Some (unvoted p.shape ballot stamp) }

-- a vote counts where it is at the ballot that is put
abbrev pub voted : ℕ → ℕ → Proposal → Proposal
voted rank ballot p =
    record { shape = p.shape; tried = p.tried; put = cond (is_put_at ballot p.put) (voted_by rank p.put) p.put }

-- the decision that a rank's vote leads to, where it counts
abbrev pub decision_with : ℕ → ℕ → Proposal → Option ℕ
decision_with rank ballot p = cond (is_put_at ballot p.put) (decision p.shape (voted_by rank p.put)) None
