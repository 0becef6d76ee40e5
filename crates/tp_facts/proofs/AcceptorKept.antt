-- A step keeps the facts about the command, the proposal, what was accepted, and the length of the tables.
-- Used for the invariant of a process.
use Rattle.std.proofs.lemmas.List.{length-replicate}
use Rattle.std.proofs.Common.{replicate, ◌≡◌, ℕ, ◌≤◌, inl, inr, Bool, true, false, List, ◌∷◌, Option, Some, None, refl, ap, ◌∙◌, subst, arith}
use Rattle.std.proofs.lemmas.Bool.{cases_eq}
use Rattle.std.specs.Prelude.{unwrap_or}
use Rattle.tp_base.proofs.Tables.{length_with}
use Rattle.tp_base.specs.Tables.{with_nth}
use Rattle.tp_base.specs.declared.names.CommandId.{CommandId}
use Rattle.tp_base.specs.declared.names.Site.{Site}
use Rattle.tp_ops.specs.declared.command.Command.{Command}
use Rattle.tp_paxos.specs.Votes.{PutStamp, unvoted, voted_too}
use Rattle.tp_rules.proofs.sent.CarriedCommands.{Carries}
use Rattle.tp_rules.proofs.sent.SendsOfProcess.{stamp}
use Rattle.tp_rules.specs.Acts.{Act, Took}
use Rattle.tp_rules.specs.Addresses.{rank_of}
use Rattle.tp_rules.specs.Sheet.{Proposed, QuorumRule, Sheet}
use Rattle.tp_wire.specs.declared.message.Body.{Body}
use Rattle.tp_wire.specs.declared.message.Body.TheVariants.{MPropose, MConsensus}
use Rattle.tp_wire.specs.declared.message.Message.{Message}
use Rattle.tp_facts.proofs.Facts.{HasBallot, IsGenuine, KeepsCommand, HasFloor, IsAcceptor, IsSized}
use Rattle.tp_facts.proofs.Growing.{acceptor_more, floor_more, taken_more}
use Rattle.tp_facts.proofs.StepCases.{SheetStep, submits, submits_and_acknowledges, proposes, keeps_payload, counts_acknowledgement, decides_fast, puts_slow, accepts, counts_vote, decides_by_votes, knows_already, learns, proposes_and_answers_recovery, answers_recovery, counts_answer, puts_recovered, starts_recovery}
use Rattle.tp_choice.specs.declared.answer.RecoveryAnswer.{RecoveryAnswer}

-- what is asked of a message's body holds of the body that it is
pub carried : (of : CommandId → Command) (m : Message) (body : Body) → m.body ≡ body → IsGenuine of (Took m)
    → Carries (λ c. c ≡ of c.id) body × HasBallot body
carried of m body e g = subst (λ (b : Body). Carries (λ c. c ≡ of c.id) b × HasBallot b) e g

pub at_home : (c d : Command) (k : ℕ) → c ≡ d → c.home.0 ≡ k → d.home.0 ≡ k
at_home c d k e h = subst (λ (x : Command). x.home.0 ≡ k) e h

module _ (s : QuorumRule) (me : Site) (of : CommandId → Command) (acts : List Act) where
  -- a proposal on the fast path is at least the home's
  pub floor_kept : {act : Act} {id : CommandId} {old new : Sheet} {out : List Message}
      → SheetStep s me act id old new out → IsGenuine of act → HasFloor me of acts id old.proposal
      → HasFloor me of (act ∷ acts) id new.proposal
  floor_kept (submits {m} c t e home fresh) g h = λ made. inl (at_home c (of c.id) _ (carried of m _ e g).0 home)
  floor_kept (submits_and_acknowledges {m} c t e home fresh can) g h =
      λ made. inl (at_home c (of c.id) _ (carried of m _ e g).0 home)
  floor_kept (proposes {m} c floor t e le fresh) g h = λ made. inr (
    floor,
    record {
      message = m;
      there = inl refl;
      is = e ∙ ap (λ (d : Command). MPropose d (stamp floor)) (carried of m _ e g).0;
    },
    le,
  )
  floor_kept (proposes_and_answers_recovery c b t e none low nothing zero) g h = λ made. absurd cc
  floor_kept {act = act} {id = id} {old = old} _ g h = floor_more s me of acts id act old.proposal h

  -- where a proposal is new, what was accepted stays
  proposing : {id : CommandId} {old ballot accepted t : ℕ} {proposal : Option Proposed} (act : Act) (q : Proposed)
      → old ≤ ballot
      → IsAcceptor of acts id old accepted t proposal → IsAcceptor of (act ∷ acts) id ballot accepted t (Some q)
  proposing act q le h = record {
    below = omega (arith, le, h.below);
    taken = λ some. taken_more act (h.taken some);
    proposed = λ _ _. refl;
  }

  -- what was accepted was put, and a ballot is joined only after that or with a proposal
  pub acceptor_kept : {act : Act} {id : CommandId} {old new : Sheet} {out : List Message}
      → SheetStep s me act id old new out → IsGenuine of act
      → IsAcceptor of acts id old.ballot old.accepted_ballot old.accepted_stamp old.proposal
      → IsAcceptor of (act ∷ acts) id new.ballot new.accepted_ballot new.accepted_stamp new.proposal
  acceptor_kept {act = act} (submits c t e home fresh) g h = proposing act _ (omega arith) h
  acceptor_kept {act = act} (submits_and_acknowledges c t e home fresh can) g h = proposing act _ (omega arith) h
  acceptor_kept {act = act} (proposes c floor t e le fresh) g h = proposing act _ (omega arith) h
  acceptor_kept {act = act} (proposes_and_answers_recovery c b t e none low nothing zero) g h =
      proposing act _ (omega arith) h
  acceptor_kept {act = act} {old = old} (answers_recovery c b e none low first) g h = record {
    below = omega (arith, h.below);
    taken = λ some. taken_more act (h.taken some);
    proposed = λ _ zero. elim (cases_eq old.ballot 0) [
      | inl untouched ↦ first untouched
      | inr touched ↦ h.proposed (omega arith) zero
    ];
  }
  acceptor_kept (accepts {m} c t b e none le) g h =
      let both = carried of m _ e g in
      record {
        below = omega arith;
        taken = λ some. record {
          message = m;
          there = inl refl;
          is = e ∙ ap (λ (d : Command). MConsensus d (stamp t) b) both.0;
        };
        proposed = λ _ zero. absurd (omega (arith, zero, both.1));
      }
  acceptor_kept {act = act} _ g h = acceptor_more s me of acts act h

  pub command_carried : (c : Command) (o : Option Command) → c ≡ of c.id → KeepsCommand of c.id o
      → (unwrap_or o c ≡ of c.id) × ((unwrap_or o c).id ≡ c.id)
  command_carried c None e h = (e, refl)
  command_carried c (Some d) e h = h

  -- the command stays the one of the identifier
  pub command_kept : {act : Act} {id : CommandId} {old new : Sheet} {out : List Message}
      → SheetStep s me act id old new out → IsGenuine of act → KeepsCommand of id old.command
      → KeepsCommand of id new.command
  command_kept {old = old} (submits {m} c t e home fresh) g h = command_carried c old.command (carried of m _ e g).0 h
  command_kept {old = old} (submits_and_acknowledges {m} c t e home fresh can) g h =
      command_carried c old.command (carried of m _ e g).0 h
  command_kept {old = old} (proposes {m} c floor t e le fresh) g h =
      command_carried c old.command (carried of m _ e g).0 h
  command_kept {old = old} (keeps_payload {m} c e) g h = command_carried c old.command (carried of m _ e g).0 h
  command_kept {old = old} (accepts {m} c t b e none le) g h = command_carried c old.command (carried of m _ e g).0 h
  command_kept {old = old} (knows_already {m} c q t e) g h = command_carried c old.command (carried of m _ e g).0 h
  command_kept {old = old} (learns {m} c q t e none last) g h = command_carried c old.command (carried of m _ e g).0 h
  command_kept {old = old} (proposes_and_answers_recovery {m} c b t e none low nothing zero) g h =
      command_carried c old.command (carried of m _ e g).0 h
  command_kept {old = old} (answers_recovery {m} c b e none low first) g h =
      command_carried c old.command (carried of m _ e g).0 h
  command_kept _ g h = h

  acknowledgement_placed : (old : Sheet) (place x : ℕ)
      → IsSized s.shape old.known old.acknowledged old.answers old.put
      → IsSized s.shape old.known (with_nth old.acknowledged place (Some x)) old.answers old.put
  acknowledgement_placed old place x h = record {
    stamps = h.stamps;
    acknowledgements = length_with old.acknowledged place (Some x) ∙ h.acknowledgements;
    answered = h.answered;
    voted = h.voted;
  }

  vote_placed : (old : Sheet) (put : PutStamp) (rank : ℕ)
      → IsSized s.shape old.known old.acknowledged old.answers (Some put)
      → IsSized s.shape old.known old.acknowledged old.answers (Some (voted_too rank put))
  vote_placed old put rank h = record {
    stamps = h.stamps;
    acknowledgements = h.acknowledgements;
    answered = h.answered;
    voted = length_with put.votes rank true ∙ h.voted;
  }

  answer_placed : (old : Sheet) (place : ℕ) (a : RecoveryAnswer)
      → IsSized s.shape old.known old.acknowledged old.answers old.put
      → IsSized s.shape old.known old.acknowledged (with_nth old.answers place (Some a)) old.put
  answer_placed old place a h = record {
    stamps = h.stamps;
    acknowledgements = h.acknowledgements;
    answered = length_with old.answers place (Some a) ∙ h.answered;
    voted = h.voted;
  }

  no_votes : (known acknowledged : List (Option ℕ)) (answers : List (Option RecoveryAnswer)) (o : Option PutStamp)
      (b t : ℕ) → IsSized s.shape known acknowledged answers o
      → IsSized s.shape known acknowledged answers (Some (unvoted s.shape b t))
  no_votes known acknowledged answers o b t h = record {
    stamps = h.stamps;
    acknowledgements = h.acknowledgements;
    answered = h.answered;
    voted = length-replicate s.shape.replicas false;
  }

  stamp_placed : (old : Sheet) (place x : ℕ) (table : List (Option ℕ)) (put : Option PutStamp)
      → IsSized s.shape old.known table old.answers put
      → IsSized s.shape (with_nth old.known place (Some x)) table old.answers put
  stamp_placed old place x table put h = record {
    stamps = length_with old.known place (Some x) ∙ h.stamps;
    acknowledgements = h.acknowledgements;
    answered = h.answered;
    voted = h.voted;
  }

  -- the tables keep their length
  pub places_kept : {act : Act} {id : CommandId} {old new : Sheet} {out : List Message}
      → SheetStep s me act id old new out
      → IsSized s.shape old.known old.acknowledged old.answers old.put
      → IsSized s.shape new.known new.acknowledged new.answers new.put
  places_kept {old = old} (submits_and_acknowledges c t e home fresh can) h = acknowledgement_placed old me.rank.0 t h
  places_kept {old = old} (counts_acknowledgement {m} id t e can few) h =
      acknowledgement_placed old (rank_of m.from) t h
  places_kept {old = old} (decides_fast {m} id t e can full fast last) h =
      stamp_placed old me.partition.0 _ _ _ (acknowledgement_placed old (rank_of m.from) t h)
  places_kept {old = old} (puts_slow {m} id t e can full slow) h =
      no_votes _ _ _ _ _ _ (acknowledgement_placed old (rank_of m.from) t h)
  places_kept {old = old} (counts_vote {m} base id put e none) h = vote_placed old put (rank_of m.from) h
  places_kept {old = old} (decides_by_votes {m} base id put e none enough last) h =
      stamp_placed old me.partition.0 _ _ _ (vote_placed old put (rank_of m.from) h)
  places_kept {old = old} (learns c q t e none last) h = stamp_placed old q t _ _ h
  places_kept {old = old} (counts_answer {m} id t made a b e can) h = answer_placed old (rank_of m.from) _ h
  places_kept {old = old} (puts_recovered {m} id t made a b c e can is enough) h =
      no_votes _ _ _ _ _ _ (answer_placed old (rank_of m.from) _ h)
  places_kept (starts_recovery id kept none) h = record {
    stamps = h.stamps;
    acknowledgements = h.acknowledgements;
    answered = length-replicate s.shape.replicas None;
    voted = h.voted;
  }
  places_kept _ h = h
