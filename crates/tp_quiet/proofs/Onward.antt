-- Each step only adds to what a process keeps of a command.
-- Used for what the messages that it took leave behind (AllServed).
use Rattle.std.proofs.Common.{◌≡◌, ◌⊎◌, ℕ, ◌<◌, ◌≤◌, inl, inr, true, false, List, Option, Some, None, is_some, refl, sym, ap, arith}
use Rattle.std.specs.Prelude.{is_none}
use Rattle.tp_base.specs.Tables.{kept_at, nth}
use Rattle.tp_base.specs.declared.names.CommandId.{CommandId}
use Rattle.tp_base.specs.declared.names.Site.{Site}
use Rattle.tp_facts.proofs.Facts.{IsGenuine, IsHere, SheetFacts}
use Rattle.tp_facts.proofs.Later.{Later, later}
use Rattle.tp_facts.proofs.RuleTests.{ballot_put}
use Rattle.tp_facts.proofs.StepCases.{SheetStep, submits_and_acknowledges, counts_acknowledgement, decides_fast, puts_slow, counts_vote, decides_by_votes, counts_answer, puts_recovered, starts_recovery, ProcessStep}
use Rattle.tp_ops.specs.declared.command.Command.{Command}
use Rattle.tp_rules.specs.Acts.{Act}
use Rattle.tp_rules.specs.Addresses.{rank_of}
use Rattle.tp_rules.specs.Process.{Step, ProcessState}
use Rattle.tp_rules.specs.Sheet.{Proposed, QuorumRule, Sheet, stamp_of}
use Rattle.tp_topology.specs.Ballots.{next_ballot}
use Rattle.tp_wire.specs.declared.message.Message.{Message}
use Rattle.tp_quiet.proofs.EachSheet.{each_sheet}
use Rattle.tp_quiet.proofs.Gains.{kept_more, vote_stays, votes_put}
use Rattle.tp_quiet.proofs.Served.{Knows, Onward}

pub onward_itself : (sheet : Sheet) → Onward sheet sheet
onward_itself sheet = record {
  knows = λ q known. known;
  proposed = λ some. some;
  ballot = omega arith;
  put = inr (refl, λ j voted. voted);
  tried = inr (refl, λ j there. there);
  acknowledged = λ j there. there;
}

module _ (s : QuorumRule) (me : Site) where
  put_onward : {act : Act} {id : CommandId} {old new : Sheet} {out : List Message} → SheetStep s me act id old new out
      → Later s old new → 1 ≤ me.rank.0
      → (ballot_put old.put < ballot_put new.put) ⊎ ((ballot_put new.put ≡ ballot_put old.put)
      × ((j : ℕ) → nth (votes_put old.put) j ≡ Some true → nth (votes_put new.put) j ≡ Some true))
  put_onward (puts_slow id t e can full slow) goes low = inl (omega (arith, can.putting))
  put_onward (puts_recovered id t made a b c e can is enough) goes low = elim goes.putting [
    | inl same ↦ absurd (can.putting (sym same.0))
    | inr rises ↦ inl rises
  ]
  put_onward (counts_vote {m} old id put e none) goes low =
      inr (refl, λ j voted. vote_stays put.votes (rank_of m.from) j voted)
  put_onward (decides_by_votes {m} old id put e none enough last) goes low =
      inr (refl, λ j voted. vote_stays put.votes (rank_of m.from) j voted)
  put_onward _ goes low = inr (refl, λ j voted. voted)

  next_above : (own tried : ℕ) → tried < next_ballot s.shape me.rank.0 own tried
  next_above own tried = omega arith

  tried_onward : {act : Act} {id : CommandId} {old new : Sheet} {out : List Message} → SheetStep s me act id old new out
      → (old.tried < new.tried) ⊎ ((new.tried ≡ old.tried)
      × ((j : ℕ) → is_some (kept_at old.answers j) ≡ true → is_some (kept_at new.answers j) ≡ true))
  tried_onward {old = old} (starts_recovery id some none) = inl (next_above old.ballot old.tried)
  tried_onward {old = old} (counts_answer {m} id t made a b e can) =
      inr (refl, λ j there. kept_more old.answers (rank_of m.from) j _ there)
  tried_onward {old = old} (puts_recovered {m} id t made a b c e can is enough) =
      inr (refl, λ j there. kept_more old.answers (rank_of m.from) j _ there)
  tried_onward _ = inr (refl, λ j there. there)

  acknowledged_onward : {act : Act} {id : CommandId} {old new : Sheet} {out : List Message}
      → SheetStep s me act id old new out → (j : ℕ) → is_some (kept_at old.acknowledged j) ≡ true
      → is_some (kept_at new.acknowledged j) ≡ true
  acknowledged_onward {old = old} (submits_and_acknowledges c t e home fresh can) j there =
      kept_more old.acknowledged me.rank.0 j t there
  acknowledged_onward {old = old} (counts_acknowledgement {m} id t e can few) j there =
      kept_more old.acknowledged (rank_of m.from) j t there
  acknowledged_onward {old = old} (decides_fast {m} id t e can full fast last) j there =
      kept_more old.acknowledged (rank_of m.from) j t there
  acknowledged_onward {old = old} (puts_slow {m} id t e can full slow) j there =
      kept_more old.acknowledged (rank_of m.from) j t there
  acknowledged_onward _ j there = there

  sheet_onward : {act : Act} {id : CommandId} {old new : Sheet} {out : List Message} → SheetStep s me act id old new out
      → Later s old new → 1 ≤ me.rank.0 → Onward old new
  sheet_onward {old = old} {new = new} step goes low = record {
    knows = λ q known. by_known q (stamp_of old q) refl known;
    proposed = λ some. by_proposal old.proposal refl some;
    ballot = goes.ballot;
    put = put_onward step goes low;
    tried = tried_onward step;
    acknowledged = acknowledged_onward step;
  }
    where
      by_known : (q : ℕ) (o : Option ℕ) → stamp_of old q ≡ o → is_some o ≡ true → Knows q new
      by_known q None is some = absurd cc
      by_known q (Some t) is some = ap (λ (o : Option ℕ). is_some o) (goes.known q t is)

      by_proposal : (o : Option Proposed) → old.proposal ≡ o → is_none o ≡ false → is_none new.proposal ≡ false
      by_proposal None is some = absurd cc
      by_proposal (Some q) is some = ap (λ (o : Option Proposed). is_none o) (goes.proposal q is)

  -- each sheet of a process goes on, by each of its acts
  module _ (of : CommandId → Command) (here : IsHere s me) (acts : List Act) (sent : List Message) where
    pub step_onward : {act : Act} {id : CommandId} {old new : Sheet} {out : List Message}
        → SheetStep s me act id old new out → IsGenuine of act → SheetFacts s me of acts sent id old → Onward old new
    step_onward step genuine facts =
        sheet_onward step (later s me of acts step genuine here facts.acceptor.below facts.proposer) here.rank.0

    pub act_onward : {act : Act} {state : ProcessState} {moved : Step} → ProcessStep s me act state moved
        → IsGenuine of act → ((i : CommandId) → SheetFacts s me of acts sent i (state.sheets i)) → (id : CommandId)
        → Onward (state.sheets id) (moved.0.sheets id)
    act_onward {act} {state} {moved} step genuine facts id =
        each_sheet (λ out i sheet. Onward (state.sheets i) sheet) s me act state moved step
        (λ i new out change. step_onward change genuine (facts i)) (λ out i. onward_itself (state.sheets i)) id
