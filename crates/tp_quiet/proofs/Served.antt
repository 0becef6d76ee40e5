-- What a process keeps of a command once it took a message about it, and that each later step keeps that.
-- Used for all messages of a run in which nothing is pending.
use Rattle.std.proofs.Common.{◌≡◌, ◌⊎◌, ℕ, ◌<◌, ◌≤◌, inl, inr, true, false, List, Some, is_some, ◌∙◌, arith}
use Rattle.std.specs.Prelude.{is_none}
use Rattle.tp_base.specs.Lists.{IsIn}
use Rattle.tp_base.specs.Tables.{kept_at, nth}
use Rattle.tp_base.specs.declared.names.ActorName.{ActorName}
use Rattle.tp_base.specs.declared.names.ActorName.TheVariants.{Process}
use Rattle.tp_base.specs.declared.names.CommandId.{CommandId}
use Rattle.tp_base.specs.declared.names.Site.{Site}
use Rattle.tp_facts.proofs.RuleTests.{ballot_put}
use Rattle.tp_ops.specs.Parts.{is_accessed}
use Rattle.tp_ops.specs.declared.command.Command.{Command}
use Rattle.tp_rules.specs.Addresses.{message, rank_of}
use Rattle.tp_rules.specs.Sheet.{QuorumRule, Sheet, stamp_of}
use Rattle.tp_wire.specs.declared.message.Body.{Body}
use Rattle.tp_wire.specs.declared.message.Body.TheVariants.{MSubmit, MPropose, MProposeAck, MConsensus, MConsensusAck, MCommit, MRec, MRecAck}
use Rattle.tp_wire.specs.declared.message.Message.{Message}
use Rattle.tp_quiet.proofs.Gains.{votes_put}

-- the partition's stamp is known
abbrev pub Knows : ℕ → Sheet → Type 0
Knows p sheet = is_some (stamp_of sheet p) ≡ true

-- a later sheet of the same command has all that the older one had: a rank's vote and answer until another stamp is put
-- or another ballot tried
pub record Onward (old new : Sheet) : Type 0 where
  pub knows : (q : ℕ) → Knows q old → Knows q new
  pub proposed : is_none old.proposal ≡ false → is_none new.proposal ≡ false
  pub ballot : old.ballot ≤ new.ballot
  pub put : (ballot_put old.put < ballot_put new.put) ⊎ ((ballot_put new.put ≡ ballot_put old.put)
      × ((j : ℕ) → nth (votes_put old.put) j ≡ Some true → nth (votes_put new.put) j ≡ Some true))
  pub tried : (old.tried < new.tried) ⊎ ((new.tried ≡ old.tried)
      × ((j : ℕ) → is_some (kept_at old.answers j) ≡ true → is_some (kept_at new.answers j) ≡ true))
  pub acknowledged : (j : ℕ) → is_some (kept_at old.acknowledged j) ≡ true → is_some (kept_at new.acknowledged j) ≡ true

module _ (s : QuorumRule) (me : Site) (of : CommandId → Command) where
  -- it has proposed, joined a ballot, or knows the stamp
  abbrev pub IsTouched : Sheet → Type 0
  IsTouched sheet = Knows me.partition.0 sheet ⊎ ((0 < sheet.ballot) ⊎ (is_none sheet.proposal ≡ false))

  -- the acknowledgement is counted, or no longer matters
  abbrev pub IsAcknowledged : ActorName → Sheet → Type 0
  IsAcknowledged from sheet = Knows me.partition.0 sheet ⊎ ((0 < sheet.ballot) ⊎ ((0 < ballot_put sheet.put)
      ⊎ (is_some (kept_at sheet.acknowledged (rank_of from)) ≡ true)))

  -- the vote was given, or a higher ballot joined
  abbrev pub IsVoted : List Message → ActorName → CommandId → ℕ → Sheet → Type 0
  IsVoted sent from id b sheet = Knows me.partition.0 sheet ⊎ ((b < sheet.ballot)
      ⊎ IsIn (message (Process me) from (MConsensusAck id b)) sent)

  -- the vote is counted, or another stamp was put
  abbrev pub IsVoteCounted : ActorName → ℕ → Sheet → Type 0
  IsVoteCounted from b sheet = Knows me.partition.0 sheet ⊎ ((b < ballot_put sheet.put)
      ⊎ ((ballot_put sheet.put ≡ b) × (nth (votes_put sheet.put) (rank_of from) ≡ Some true)))

  abbrev pub IsJoined : ℕ → Sheet → Type 0
  IsJoined b sheet = Knows me.partition.0 sheet ⊎ (b ≤ sheet.ballot)

  -- the answer is counted, a stamp put at its ballot, or a higher ballot tried
  abbrev pub IsAnswerCounted : ActorName → ℕ → Sheet → Type 0
  IsAnswerCounted from b sheet = Knows me.partition.0 sheet ⊎ ((b < sheet.tried) ⊎ ((b ≤ ballot_put sheet.put)
      ⊎ ((sheet.tried ≡ b) × (is_some (kept_at sheet.answers (rank_of from)) ≡ true))))

  -- what holds of the sheets once a message was taken
  abbrev pub IsServed : List Message → ActorName → (CommandId → Sheet) → Body → Type 0
  IsServed sent from sheets (MSubmit c) = c.home.0 ≡ me.rank.0 → IsTouched (sheets c.id)
  IsServed sent from sheets (MPropose c floor) = IsTouched (sheets c.id)
  IsServed sent from sheets (MProposeAck id t) =
      s.in_quorum (of id) (rank_of from) ≡ true → IsAcknowledged from (sheets id)
  IsServed sent from sheets (MConsensus c t b) = IsVoted sent from c.id b (sheets c.id)
  IsServed sent from sheets (MConsensusAck id b) = IsVoteCounted from b (sheets id)
  IsServed sent from sheets (MCommit c q t) = is_accessed s.shape.partitions c q.0 ≡ true → Knows q.0 (sheets c.id)
  IsServed sent from sheets (MRec c b) = IsJoined b (sheets c.id)
  IsServed sent from sheets (MRecAck id t made a b) = IsAnswerCounted from b (sheets id)
  IsServed sent from sheets _ = Unit {0}

  touched_stays : (old new : Sheet) → Onward old new → IsTouched old → IsTouched new
  touched_stays old new goes (inl known) = inl (goes.knows me.partition.0 known)
  touched_stays old new goes (inr (inl joined)) = inr (inl (omega (arith, goes.ballot)))
  touched_stays old new goes (inr (inr some)) = inr (inr (goes.proposed some))

  pub acknowledged_stays : (from : ActorName) (old new : Sheet) → Onward old new → IsAcknowledged from old
      → IsAcknowledged from new
  acknowledged_stays from old new goes (inl known) = inl (goes.knows me.partition.0 known)
  acknowledged_stays from old new goes (inr (inl joined)) = inr (inl (omega (arith, goes.ballot)))
  acknowledged_stays from old new goes (inr (inr (inl put))) = elim goes.put [
    | inl rises ↦ inr (inr (inl (omega arith)))
    | inr same ↦ inr (inr (inl (omega (arith, same.0))))
  ]
  acknowledged_stays from old new goes (inr (inr (inr there))) =
      inr (inr (inr (goes.acknowledged (rank_of from) there)))

  voted_stays : (sent more : List Message) (from : ActorName) (id : CommandId) (b : ℕ) (old new : Sheet)
      → Onward old new → ((m : Message) → IsIn m sent → IsIn m more)
      → IsVoted sent from id b old → IsVoted more from id b new
  voted_stays sent more from id b old new goes grows (inl known) = inl (goes.knows me.partition.0 known)
  voted_stays sent more from id b old new goes grows (inr (inl beyond)) = inr (inl (omega (arith, goes.ballot)))
  voted_stays sent more from id b old new goes grows (inr (inr said)) = inr (inr (grows _ said))

  vote_counted_stays : (from : ActorName) (b : ℕ) (old new : Sheet) → Onward old new → IsVoteCounted from b old
      → IsVoteCounted from b new
  vote_counted_stays from b old new goes (inl known) = inl (goes.knows me.partition.0 known)
  vote_counted_stays from b old new goes (inr (inl beyond)) = elim goes.put [
    | inl rises ↦ inr (inl (omega arith))
    | inr same ↦ inr (inl (omega (arith, same.0)))
  ]
  vote_counted_stays from b old new goes (inr (inr voted)) = elim goes.put [
    | inl rises ↦ inr (inl (omega (arith, voted.0)))
    | inr same ↦ inr (inr (same.0 ∙ voted.0, same.1 (rank_of from) voted.1))
  ]

  joined_stays : (b : ℕ) (old new : Sheet) → Onward old new → IsJoined b old → IsJoined b new
  joined_stays b old new goes (inl known) = inl (goes.knows me.partition.0 known)
  joined_stays b old new goes (inr low) = inr (omega (arith, goes.ballot))

  answer_counted_stays : (from : ActorName) (b : ℕ) (old new : Sheet) → Onward old new → IsAnswerCounted from b old
      → IsAnswerCounted from b new
  answer_counted_stays from b old new goes (inl known) = inl (goes.knows me.partition.0 known)
  answer_counted_stays from b old new goes (inr (inl beyond)) = elim goes.tried [
    | inl rises ↦ inr (inl (omega arith))
    | inr same ↦ inr (inl (omega (arith, same.0)))
  ]
  answer_counted_stays from b old new goes (inr (inr (inl put))) = elim goes.put [
    | inl rises ↦ inr (inr (inl (omega arith)))
    | inr same ↦ inr (inr (inl (omega (arith, same.0))))
  ]
  answer_counted_stays from b old new goes (inr (inr (inr there))) = elim goes.tried [
    | inl rises ↦ inr (inl (omega (arith, there.0)))
    | inr same ↦ inr (inr (inr (same.0 ∙ there.0, same.1 (rank_of from) there.1)))
  ]

  -- it stays
  pub served_stays : (sent more : List Message) (from : ActorName) (old new : CommandId → Sheet) (body : Body)
      → ((id : CommandId) → Onward (old id) (new id)) → ((m : Message) → IsIn m sent → IsIn m more)
      → IsServed sent from old body → IsServed more from new body
  served_stays sent more from old new (MSubmit c) goes grows h =
      λ home. touched_stays (old c.id) (new c.id) (goes c.id) (h home)
  served_stays sent more from old new (MPropose c floor) goes grows h =
      touched_stays (old c.id) (new c.id) (goes c.id) h
  served_stays sent more from old new (MProposeAck id t) goes grows h =
      λ member. acknowledged_stays from (old id) (new id) (goes id) (h member)
  served_stays sent more from old new (MConsensus c t b) goes grows h =
      voted_stays sent more from c.id b (old c.id) (new c.id) (goes c.id) grows h
  served_stays sent more from old new (MConsensusAck id b) goes grows h =
      vote_counted_stays from b (old id) (new id) (goes id) h
  served_stays sent more from old new (MCommit c q t) goes grows h = λ on. (goes c.id).knows q.0 (h on)
  served_stays sent more from old new (MRec c b) goes grows h = joined_stays b (old c.id) (new c.id) (goes c.id) h
  served_stays sent more from old new (MRecAck id t made a b) goes grows h =
      answer_counted_stays from b (old id) (new id) (goes id) h
  served_stays sent more from old new _ goes grows h = tt
