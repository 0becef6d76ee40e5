-- A step keeps all facts about the sheet that it changes, and those about the sheets that it leaves alone.
-- Used for the invariant of a process.
use Rattle.std.proofs.Common.{Bool, ◌≡◌, ℕ, inl, inr, true, false, List, [], ◌∷◌, ◌++◌, length, Option, Some, None, refl, sym, ap, ◌∙◌, subst, arith}
use Rattle.std.proofs.lemmas.Bool.{eqb-true}
use Rattle.std.proofs.lemmas.List.{length-replicate}
use Rattle.tp_base.proofs.Tables.{kept_replicate, kept_with, length_with}
use Rattle.tp_base.specs.Tables.{kept_at}
use Rattle.tp_base.specs.declared.names.CommandId.{CommandId}
use Rattle.tp_base.specs.declared.names.Site.{Site}
use Rattle.tp_choice.specs.declared.answer.RecoveryAnswer.{RecoveryAnswer}
use Rattle.tp_ops.specs.declared.command.Command.{Command}
use Rattle.tp_paxos.specs.Votes.{voted_too}
use Rattle.tp_quorum.specs.Choice.{present, greatest}
use Rattle.tp_rules.proofs.sent.SendsOfProcess.{stamp}
use Rattle.tp_rules.specs.Acts.{Act}
use Rattle.tp_rules.specs.Addresses.{rank_of}
use Rattle.tp_rules.specs.Sheet.{QuorumRule, Sheet, blank}
use Rattle.tp_wire.specs.declared.message.Body.TheVariants.{MConsensus, MCommit}
use Rattle.tp_wire.specs.declared.message.Message.{Message}
use Rattle.tp_facts.proofs.AcceptorKept.{acceptor_kept, carried, command_kept, floor_kept, places_kept}
use Rattle.tp_facts.proofs.Facts.{IsHere, IsGenuine, IsLearned, SheetFacts, WasSent}
use Rattle.tp_facts.proofs.FastPathKept.{fast_kept, gathered_kept}
use Rattle.tp_facts.proofs.Growing.{acceptor_more, floor_more, gathered_more, proposer_more, putter_more}
use Rattle.tp_facts.proofs.Later.{Later, later_self, learned_more}
use Rattle.tp_facts.proofs.RecoveryKept.{proposer_kept, putter_kept}
use Rattle.tp_facts.proofs.StepCases.{SheetStep, decides_fast, decides_by_votes, learns}
use Rattle.tp_facts.proofs.Tables.{present_none}

module _ (s : QuorumRule) (me : Site) (of : CommandId → Command) (here : IsHere s me) where
  -- each stamp that is known was decided here, or taken from a commit
  known_kept : {act : Act} {id : CommandId} {old new : Sheet} {out : List Message} (acts : List Act)
      (sent : List Message) → SheetStep s me act id old new out → IsGenuine of act → Later s old new
      → SheetFacts s me of acts sent id old → (q t : ℕ) → kept_at new.known q ≡ Some t
      → IsLearned s me of (act ∷ acts) (out ++ sent) id new.acknowledged q t
  known_kept {act} {id} {old} {new} {out} acts sent (decides_fast {m} i t e can full fast last) g goes h q x kept =
      elim (kept_with old.known me.partition.0 q (greatest (present new.acknowledged)) x kept) [
        | inl now ↦ inr (now.0, inl ((eqb-true _ _ full, fast), now.1))
        | inr before ↦ learned_more s me of acts sent act out id old new goes q x (h.known q x before)
      ]
  known_kept {act} {id} {old} {new} {out} acts sent (decides_by_votes {m} base i put e none enough last) g goes h q x
      kept =
      let putter =
      putter_kept s me of acts sent (decides_by_votes {m = m} base i put e none enough last) here h.command h.putter
      in
      elim (kept_with old.known me.partition.0 q put.stamp x kept) [
        | inl now ↦ inr (
          now.0,
          inr (
            put.ballot,
            subst (λ (n : ℕ). WasSent (out ++ sent) (MConsensus (of id) (stamp n) put.ballot)) now.1 putter.was_put,
            (
              (voted_too (rank_of m.from) put).votes,
              enough,
              length_with put.votes (rank_of m.from) true ∙ h.places.voted,
              putter.voters,
            ),
          ),
        )
        | inr before ↦ learned_more s me of acts sent act out id old new goes q x (h.known q x before)
      ]
  known_kept {act} {id} {old} {new} {out} acts sent (learns {m} c p t e none last) g goes h q x kept =
      elim (kept_with old.known p q t x kept) [
        | inl now ↦ inl (record {
          message = m;
          there = inl refl;
          is = e ∙ ap (λ (d : Command). MCommit d (record { 0 = p }) (stamp t)) (carried of m _ e g).0
              ∙ ap (λ (n : ℕ). MCommit (of c.id) (record { 0 = n }) (stamp t)) (sym now.0)
              ∙ ap (λ (n : ℕ). MCommit (of c.id) (record { 0 = q }) (stamp n)) now.1;
        })
        | inr before ↦ learned_more s me of acts sent act out id old new goes q x (h.known q x before)
      ]
  known_kept {act} {id} {old} {new} {out} acts sent _ g goes h q x kept =
      learned_more s me of acts sent act out id old new goes q x (h.known q x kept)

  -- the sheet that a step changes
  pub facts_kept : {act : Act} {id : CommandId} {old new : Sheet} {out : List Message} (acts : List Act)
      (sent : List Message) → SheetStep s me act id old new out → IsGenuine of act → Later s old new
      → SheetFacts s me of acts sent id old → SheetFacts s me of (act ∷ acts) (out ++ sent) id new
  facts_kept acts sent step g goes h = record {
    command = command_kept s me of acts step g h.command;
    proposal = floor_kept s me of acts step g h.proposal;
    acceptor = acceptor_kept s me of acts step g h.acceptor;
    gathered = gathered_kept s me of acts step g h.command h.gathered;
    fast = fast_kept s me of acts step here h.places.stamps h.gathered h.fast;
    proposer = proposer_kept s me of acts step here h.proposer;
    putter = putter_kept s me of acts sent step here h.command h.putter;
    places = places_kept s me of acts step h.places;
    known = known_kept acts sent step g goes h;
  }

  -- a sheet that a step leaves alone
  pub facts_more : {acts : List Act} {sent : List Message} {id : CommandId} {sheet : Sheet} (act : Act)
      (out : List Message) → SheetFacts s me of acts sent id sheet
      → SheetFacts s me of (act ∷ acts) (out ++ sent) id sheet
  facts_more {acts} {sent} {id} {sheet} act out h = record {
    command = h.command;
    proposal = floor_more s me of acts id act sheet.proposal h.proposal;
    acceptor = acceptor_more s me of acts act h.acceptor;
    gathered = gathered_more s me of acts act h.gathered;
    fast = h.fast;
    proposer = proposer_more s me of acts act h.proposer;
    putter = putter_more s me of acts sent id act out sheet.put h.putter;
    places = h.places;
    known = λ q t kept. learned_more s me of acts sent act out id sheet sheet (later_self sheet) q t (h.known q t kept);
  }

  -- the sheet of a command of which nothing was taken yet
  pub blank_facts : (id : CommandId) → SheetFacts s me of [] [] id (blank s.shape)
  unfolding blank
  blank_facts id =
      let empty = present_none {X = ℕ} s.shape.replicas in
      record {
        command = tt;
        proposal = tt;
        acceptor = record {
          below = omega arith;
          taken = λ some. absurd (omega (arith, some));
          proposed = λ some zero. absurd (omega (arith, some));
        };
        gathered = record { each = λ j t kept. absurd (kept_replicate s.shape.replicas j t kept); none = λ f. empty };
        fast = λ fast. absurd (omega (arith, ap (λ (xs : List ℕ). length xs) empty, fast.0, here.two));
        proposer = record {
          own = inl refl;
          answers = λ j a kept. absurd (kept_replicate s.shape.replicas j a kept);
          below = omega arith;
        };
        putter = tt;
        places = record {
          stamps = length-replicate {A = Option ℕ} s.shape.partitions None;
          acknowledgements = length-replicate {A = Option ℕ} s.shape.replicas None;
          answered = length-replicate {A = Option RecoveryAnswer} s.shape.replicas None;
          voted = tt;
        };
        known = λ q t kept. absurd (kept_replicate s.shape.partitions q t kept);
      }
