-- An answer to a recovery is true: what it says was accepted or proposed, and no vote is between.
-- Used for what a step sends.
use Rattle.std.proofs.Common.{◌≡◌, ℕ, ◌<◌, ◌≤◌, inl, Bool, false, List, ◌∷◌, ◌++◌, cond, Option, Some, None, is_some, refl, sym, ap, ◌∙◌, subst, arith}
use Rattle.std.proofs.lemmas.Bool.{both_ways, lt-ltb}
use Rattle.std.specs.Prelude.{is_none, nat_lt}
use Rattle.tp_base.proofs.Each.{each_append}
use Rattle.tp_base.specs.Lists.{Each}
use Rattle.tp_base.specs.declared.names.CommandId.{CommandId}
use Rattle.tp_base.specs.declared.names.Site.{Site}
use Rattle.tp_ops.specs.declared.command.Command.{Command}
use Rattle.tp_rules.proofs.sent.SendsOfProcess.{bumps_send, stamp}
use Rattle.tp_rules.specs.Acts.{Act}
use Rattle.tp_rules.specs.Process.{bumps}
use Rattle.tp_rules.specs.Sheet.{Proposed, QuorumRule, Sheet, made_of, stamp_of, stamp_proposed, stamp_told}
use Rattle.tp_wire.specs.declared.message.Body.{Body}
use Rattle.tp_wire.specs.declared.message.Body.TheVariants.{MConsensus, MConsensusAck}
use Rattle.tp_wire.specs.declared.message.Message.{Message}
use Rattle.tp_facts.proofs.RuleTests.{ballot_put}
use Rattle.tp_facts.proofs.Facts.{SheetFacts, WasTaken, IsFast, VotesOutside, IsAnswer}
use Rattle.tp_facts.proofs.Growing.{taken_more}
use Rattle.tp_facts.proofs.Later.{each_body}

-- what was sent before a step is no newer than the sheet
abbrev pub IsOld : CommandId → Sheet → Body → Type 0
IsOld id old (MConsensusAck i n) = i ≡ id → n ≤ old.accepted_ballot
IsOld id old (MConsensus c x n) = c.id ≡ id → n ≤ ballot_put old.put
IsOld id old _ = Unit {0}

-- the stamp of an answer is the accepted one, or the proposed one where none was accepted
told_accepted : (sheet : Sheet) → 0 < sheet.accepted_ballot → stamp_told sheet ≡ sheet.accepted_stamp
told_accepted sheet h =
    ap (λ (b : Bool). cond b sheet.accepted_stamp (stamp_proposed sheet.proposal)) (lt-ltb 0 sheet.accepted_ballot h)

told_proposed : (sheet : Sheet) → sheet.accepted_ballot ≡ 0 → is_none sheet.proposal ≡ false
    → sheet.proposal ≡ Some (record { stamp = stamp_told sheet; made = made_of sheet.proposal })
told_proposed sheet h some =
    let with : ℕ → Option Proposed = λ n. Some (record { stamp = n; made = made_of sheet.proposal }) in
    go sheet.proposal some ∙ ap with (sym of_proposal)
  where
    go : (o : Option Proposed) → is_none o ≡ false → o ≡ Some (record { stamp = stamp_proposed o; made = made_of o })
    go None some = absurd cc
    go (Some q) some = refl

    of_proposal : stamp_told sheet ≡ stamp_proposed sheet.proposal
    of_proposal = ap (λ (n : ℕ). cond (nat_lt 0 n) sheet.accepted_stamp (stamp_proposed sheet.proposal)) h

-- no vote that was sent before is between
pub old_outside : (sent : List Message) (id : CommandId) (old : Sheet) (b : ℕ) → Each (λ m. IsOld id old m.body) sent
    → Each (λ m. VotesOutside id old.accepted_ballot b m.body) sent
old_outside sent id old b h =
    each_body (IsOld id old) (VotesOutside id old.accepted_ballot b) go sent h
  where
    go : (body : Body) → IsOld id old body → VotesOutside id old.accepted_ballot b body
    go (MConsensusAck i n) k = λ same. inl (k same)
    go _ k = tt

pub bumps_outside : (s : QuorumRule) (me : Site) (sent : List Message) (id : CommandId) (a b : ℕ) (c : Command) (t : ℕ)
    → Each (λ m. VotesOutside id a b m.body) sent
    → Each (λ m. VotesOutside id a b m.body) (bumps s.shape me c t ++ sent)
bumps_outside s me sent id a b c t h =
    each_append (λ (m : Message). VotesOutside id a b m.body) (bumps s.shape me c t) sent
    (bumps_send (λ (m : Message). VotesOutside id a b m.body) me s.shape c t (λ to. tt)) h

module _ (s : QuorumRule) (me : Site) (of : CommandId → Command) (acts : List Act) (sent : List Message) where
  -- an answer to a recovery
  pub answer_true : {id : CommandId} {old : Sheet} (act : Act) (all : List Message) (new : Sheet) (b : ℕ)
      → SheetFacts s me of acts sent id old → new.accepted_ballot ≡ old.accepted_ballot
      → new.accepted_stamp ≡ old.accepted_stamp → new.ballot ≡ b → new.acknowledged ≡ old.acknowledged
      → stamp_of old me.partition.0 ≡ None → old.ballot < b → (new.accepted_ballot ≡ 0 → is_none new.proposal ≡ false)
      → Each (λ m. VotesOutside id new.accepted_ballot b m.body) all
      → IsAnswer s of (act ∷ acts) all id new (stamp_told new) (made_of new.proposal) new.accepted_ballot b
  answer_true {id} {old} act all new b h same stamps joined table none low touched outside = record {
    above = omega (arith, same, h.acceptor.below);
    ballot = omega (arith, joined);
    accepted = λ some.
        let g : WasTaken acts (MConsensus (of id) (stamp old.accepted_stamp) old.accepted_ballot) =
        h.acceptor.taken (omega (arith, some, same)) in
        subst (λ (x : ℕ). WasTaken (act ∷ acts) (MConsensus (of id) (stamp x) new.accepted_ballot))
        (sym (told_accepted new some ∙ stamps))
        (subst (λ (x : ℕ). WasTaken (act ∷ acts) (MConsensus (of id) (stamp old.accepted_stamp) x)) (sym same)
        (taken_more act g));
    proposed = λ zero. told_proposed new zero (touched zero);
    gap = outside;
    slow = λ fast. absurd (both_ways _ (ap (λ (o : Option _). is_some o) none) (h.fast (subst (IsFast s) table fast)));
  }
