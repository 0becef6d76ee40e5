-- A step keeps the facts about the fast path: which acknowledgements count, and that what they decide is known.
-- Used for the invariant of a process.
use Rattle.std.proofs.Common.{◌≡◌, ℕ, inl, inr, true, false, List, [], ◌∷◌, length, Option, Some, None, is_some, refl, sym, ap, ◌∙◌, subst, arith}
use Rattle.std.proofs.lemmas.Bool.{and_parts, eqb-false, eqb-true, both_ways}
use Rattle.std.specs.Prelude.{unwrap_or, ◌==◌}
use Rattle.tp_base.proofs.Tables.{kept_here, kept_with, some_stays}
use Rattle.tp_base.specs.Tables.{kept_at, with_nth}
use Rattle.tp_base.specs.declared.names.CommandId.{CommandId}
use Rattle.tp_base.specs.declared.names.Site.{Site}
use Rattle.tp_ops.specs.declared.command.Command.{Command}
use Rattle.tp_quorum.specs.Choice.{present, is_fast}
use Rattle.tp_rules.proofs.sent.SendsOfProcess.{stamp}
use Rattle.tp_rules.specs.Acts.{Act, Took}
use Rattle.tp_rules.specs.Addresses.{rank_of}
use Rattle.tp_rules.specs.Sheet.{Proposed, QuorumRule, Sheet, is_made_by_proposal, is_member}
use Rattle.tp_wire.specs.declared.message.Body.TheVariants.{MProposeAck}
use Rattle.tp_wire.specs.declared.message.Message.{Message}
use Rattle.tp_facts.proofs.AcceptorKept.{carried, command_carried}
use Rattle.tp_facts.proofs.Facts.{IsHere, IsGenuine, IsFast, IsGathered, KeepsCommand}
use Rattle.tp_facts.proofs.Growing.{acknowledgement_more, gathered_more}
use Rattle.tp_facts.proofs.StepCases.{SheetStep, submits, submits_and_acknowledges, proposes, counts_acknowledgement, decides_fast, puts_slow, decides_by_votes, learns, proposes_and_answers_recovery}
use Rattle.tp_facts.proofs.Tables.{present_with}
use Rattle.tp_facts.proofs.RuleTests.{CanAcknowledge}

module _ (s : QuorumRule) (me : Site) (of : CommandId → Command) (acts : List Act) where
  -- a member of the kept command's fast quorum is one of the identifier's command, and its home is here
  pub member_is : (k j : ℕ) (id : CommandId) (o : Option Command) → KeepsCommand of id o → is_member s k j o ≡ true
      → ((of id).home.0 ≡ k) × (s.in_quorum (of id) j ≡ true)
  member_is k j id None h e = absurd cc
  member_is k j id (Some c) h e =
      let both = and_parts (c.home.0 == k) (s.in_quorum c j) e in
      subst (λ (d : Command). (d.home.0 ≡ k) × (s.in_quorum d j ≡ true)) h.0 (eqb-true c.home.0 k both.0, both.1)

  not_made : (o : Option Proposed) → o ≡ None → is_made_by_proposal o ≡ false
  not_made o none = ap (λ (p : Option _). is_made_by_proposal p) none

  -- one acknowledgement more
  gathered_with : {id : CommandId} {old : Sheet} (m : Message) (t : ℕ) → m.body ≡ MProposeAck id (stamp t)
      → CanAcknowledge s me.partition.0 me.rank.0 (rank_of m.from) old → KeepsCommand of id old.command
      → IsGathered s me of acts id old.proposal old.acknowledged
      → IsGathered s me of (Took m ∷ acts) id old.proposal (with_nth old.acknowledged (rank_of m.from) (Some t))
  gathered_with {id} {old} m t e can command h = record {
    each = λ j x kept. elim (kept_with old.acknowledged (rank_of m.from) j t x kept) [
      | inl new ↦ let member = member_is me.rank.0 (rank_of m.from) id old.command command can.member in record {
        home = member.0;
        member = ap (λ (k : ℕ). s.in_quorum (of id) k) new.0 ∙ member.1;
        made = can.made;
        source = inr (record {
          message = m;
          there = inl refl;
          from = sym new.0;
          is = e ∙ ap (λ (y : ℕ). MProposeAck id (stamp y)) new.1;
        });
      }
      | inr before ↦ acknowledgement_more s me of acts (Took m) (h.each j x before)
    ];
    none = λ f. absurd (both_ways _ f can.made);
  }

  -- where nothing was proposed, no acknowledgement was counted
  gathered_first : (more : List Act) {id : CommandId} {old new : Option Proposed} {table : List (Option ℕ)}
      → old ≡ None → IsGathered s me of acts id old table → IsGathered s me of more id new table
  gathered_first more {old = old} none h = record {
    each = λ j t kept. absurd (both_ways _ (not_made old none) (h.each j t kept).made);
    none = λ f. h.none (not_made old none);
  }

  -- the acknowledgements that were counted are of the fast quorum
  pub gathered_kept : {act : Act} {id : CommandId} {old new : Sheet} {out : List Message}
      → SheetStep s me act id old new out → IsGenuine of act → KeepsCommand of id old.command
      → IsGathered s me of acts id old.proposal old.acknowledged
      → IsGathered s me of (act ∷ acts) id new.proposal new.acknowledged
  gathered_kept (submits c t e home fresh) g command h = gathered_first _ fresh h
  gathered_kept (proposes c floor t e le fresh) g command h = gathered_first _ fresh h
  gathered_kept (proposes_and_answers_recovery c b t e none low nothing zero) g command h = gathered_first _ nothing h
  gathered_kept {old = old} (submits_and_acknowledges {m} c t e home fresh can) g command h = record {
    each = λ j x kept. elim (kept_with old.acknowledged me.rank.0 j t x kept) [
      | inl new ↦
          let itself = command_carried s me of acts c old.command (carried of m _ e g).0 command in
          let member = member_is me.rank.0 me.rank.0 c.id (Some (unwrap_or old.command c)) itself can.member in
          record {
            home = member.0;
            member = ap (λ (k : ℕ). s.in_quorum (of c.id) k) new.0 ∙ member.1;
            made = refl;
            source = inl (new.0, new.1);
          }
      | inr before ↦ absurd (both_ways _ (not_made old.proposal fresh) (h.each j x before).made)
    ];
    none = λ f. absurd cc;
  }
  gathered_kept (counts_acknowledgement {m} id t e can few) g command h = gathered_with m t e can command h
  gathered_kept (decides_fast {m} id t e can full fast last) g command h = gathered_with m t e can command h
  gathered_kept (puts_slow {m} id t e can full slow) g command h = gathered_with m t e can command h
  gathered_kept {act = act} _ g command h = gathered_more s me of acts act h

  -- where the fast path decides, the stamp is known at once
  pub fast_kept : {act : Act} {id : CommandId} {old new : Sheet} {out : List Message}
      → SheetStep s me act id old new out → IsHere s me
      → length old.known ≡ s.shape.partitions → IsGathered s me of acts id old.proposal old.acknowledged
      → (IsFast s old.acknowledged → is_some (kept_at old.known me.partition.0) ≡ true)
      → IsFast s new.acknowledged → is_some (kept_at new.known me.partition.0) ≡ true
  fast_kept {old = old} (submits_and_acknowledges c t e home fresh can) here places table h fast =
      let none : present old.acknowledged ≡ [] = table.none (not_made old.proposal fresh) in
      let length : length (present old.acknowledged) ≡ 0 = ap (λ (xs : List ℕ). length xs) none in
      let few = present_with old.acknowledged me.rank.0 t in
      absurd (omega (arith, few, length, fast.0, here.two))
  fast_kept (counts_acknowledgement id t e can few) here places table h fast = absurd (eqb-false _ _ few fast.0)
  fast_kept (puts_slow id t e can full slow) here places table h fast = absurd (both_ways _ slow fast.1)
  fast_kept {old = old} (decides_fast id t e can full is_fast last) here places table h fast =
      let known = kept_here old.known me.partition.0 _ here.partition.0 (omega (arith, here.partition.1, places)) in
      ap (λ (o : Option ℕ). is_some o) known
  fast_kept {old = old} (decides_by_votes base id put e none enough last) here places table h fast =
      some_stays old.known me.partition.0 me.partition.0 _ none (h fast)
  fast_kept {old = old} (learns c q t e none last) here places table h fast =
      some_stays old.known q me.partition.0 t none (h fast)
  fast_kept _ here places table h fast = h fast
