-- Stamps that a process keeps are at most a number, where those that it took are, and its proposal is.
use Rattle.std.proofs.Common.{◌≡◌, ℕ, zero, suc, ◌≤◌, Bool, List, [], ◌∷◌, Option, Some, None, subst, arith}
use Rattle.std.specs.Prelude.{nat_lt, replicate}
use Rattle.std.specs.List.{list_any}
use Rattle.std.proofs.lemmas.Bool.{cond_both}
use Rattle.tp_base.specs.Lists.{Each}
use Rattle.tp_base.specs.declared.names.CommandId.{CommandId}
use Rattle.tp_base.specs.declared.names.Site.{Site}
use Rattle.tp_choice.specs.Choosing.{recovery_choice, chosen_with, chosen_of_proposals, best_from, better, is_over, greatest_by, member_stamp, tells_slow}
use Rattle.tp_choice.specs.declared.answer.RecoveryAnswer.{RecoveryAnswer}
use Rattle.tp_facts.proofs.RuleTests.{stamp_put}
use Rattle.tp_facts.proofs.StepCases.{SheetStep, submits_and_acknowledges, counts_acknowledgement, decides_fast, puts_slow, accepts, decides_by_votes, learns, counts_answer, puts_recovered, starts_recovery}
use Rattle.tp_quorum.specs.Choice.{greatest}
use Rattle.tp_rules.proofs.fit.Stamps.{with_fit, present_fit}
use Rattle.tp_rules.proofs.lists.Selections.{IfAny}
use Rattle.tp_rules.specs.Acts.{Act, Took, Did}
use Rattle.tp_rules.specs.Sheet.{Proposed, QuorumRule, Sheet}
use Rattle.tp_wire.specs.declared.message.Body.{Body}
use Rattle.tp_wire.specs.declared.message.Body.TheVariants.{MPropose, MProposeAck, MBump, MConsensus, MCommit, MRecAck, MCommitted}
use Rattle.tp_wire.specs.declared.message.Message.{Message}

module _ (n : ℕ) where
  abbrev pub IsLowAnswer : RecoveryAnswer → Type 0
  IsLowAnswer a = a.stamp.0 ≤ n

  abbrev pub IsLowBody : Body → Type 0
  IsLowBody (MPropose c t) = t.0 ≤ n
  IsLowBody (MProposeAck id t) = t.0 ≤ n
  IsLowBody (MBump id t) = t.0 ≤ n
  IsLowBody (MConsensus c t b) = t.0 ≤ n
  IsLowBody (MCommit c q t) = t.0 ≤ n
  IsLowBody (MRecAck id t made a b) = t.0 ≤ n
  IsLowBody (MCommitted c t) = t.0 ≤ n
  IsLowBody _ = Unit {0}

  abbrev pub IsLowAct : Act → Type 0
  IsLowAct (Took m) = IsLowBody m.body
  IsLowAct (Did inner) = Unit {0}

  pub record IsLow (accepted putting : ℕ) (known acknowledged : List (Option ℕ))
      (table : List (Option RecoveryAnswer)) : Type 0 where
    pub accepted_low : accepted ≤ n
    pub putting_low : putting ≤ n
    pub known_low : Each (IfAny (λ t. t ≤ n)) known
    pub acknowledged_low : Each (IfAny (λ t. t ≤ n)) acknowledged
    pub answers_low : Each (IfAny IsLowAnswer) table

  abbrev pub IsLowSheet : Sheet → Type 0
  IsLowSheet sheet = IsLow sheet.accepted_stamp (stamp_put sheet.put) sheet.known sheet.acknowledged sheet.answers

  pub greatest_low : (ns : List ℕ) → Each (λ t. t ≤ n) ns → greatest ns ≤ n
  greatest_low [] h = omega arith
  greatest_low (t ∷ ns) h = let rest : greatest ns ≤ n = greatest_low ns h.1 in omega (arith, h.0)

  by_low : (f : RecoveryAnswer → ℕ) (xs : List RecoveryAnswer) → ((a : RecoveryAnswer) → IsLowAnswer a → f a ≤ n)
      → Each IsLowAnswer xs → greatest_by f xs ≤ n
  by_low f [] low h = omega arith
  by_low f (a ∷ xs) low h = let rest : greatest_by f xs ≤ n = by_low f xs low h.1 in omega (arith, low a h.0)

  proposals_low : (in_quorum : ℕ → Bool) (home : ℕ) (xs : List RecoveryAnswer) → Each IsLowAnswer xs
      → chosen_of_proposals in_quorum home xs ≤ n
  proposals_low in_quorum home xs h =
      cond_both (list_any (tells_slow in_quorum home) xs) (greatest_by (λ a. a.stamp.0) xs)
      (greatest_by (member_stamp in_quorum) xs) (λ (t : ℕ). t ≤ n)
      (λ t. by_low (λ a. a.stamp.0) xs (λ a low. low) h)
      (λ f. by_low (member_stamp in_quorum) xs (λ a low. cond_both (in_quorum a.rank.0) a.stamp.0 0 (λ
      (t : ℕ). t ≤ n) (λ t. low) (λ f. omega arith)) h)

  best_low : (found : Option RecoveryAnswer) (xs : List RecoveryAnswer) → IfAny IsLowAnswer found
      → Each IsLowAnswer xs → IfAny IsLowAnswer (best_from found xs)
  best_low found [] h k = h
  best_low None (a ∷ xs) h k = best_low (Some a) xs k.0 k.1
  best_low (Some b) (a ∷ xs) h k =
      best_low (Some (better a (Some b))) xs (cond_both (is_over a b) a b IsLowAnswer (λ t. k.0) (λ f. h)) k.1

  with_low : (in_quorum : ℕ → Bool) (home : ℕ) (xs : List RecoveryAnswer) (o : Option RecoveryAnswer)
      → Each IsLowAnswer xs → IfAny IsLowAnswer o → chosen_with in_quorum home xs o ≤ n
  with_low in_quorum home xs None h k = proposals_low in_quorum home xs h
  with_low in_quorum home xs (Some best) h k =
      cond_both (nat_lt 0 best.accepted) best.stamp.0 (chosen_of_proposals in_quorum home xs) (λ (t : ℕ). t ≤ n)
      (λ t. k) (λ f. proposals_low in_quorum home xs h)

  choice_low : (in_quorum : ℕ → Bool) (home : ℕ) (xs : List RecoveryAnswer) → Each IsLowAnswer xs
      → recovery_choice in_quorum home xs ≤ n
  unfolding recovery_choice
  choice_low in_quorum home xs h = with_low in_quorum home xs (best_from None xs) h (best_low None xs tt h)

  took_low : (m : Message) (body : Body) → m.body ≡ body → IsLowBody m.body → IsLowBody body
  took_low m body e h = subst IsLowBody e h

  pub low_kept : {s : QuorumRule} {me : Site} {act : Act} {id : CommandId} {old new : Sheet} {out : List Message}
      → SheetStep s me act id old new out → IsLowAct act →
      IfAny (λ (q : Proposed). q.stamp ≤ n) new.proposal → IsLowSheet old → IsLowSheet new
  low_kept {old = old} (submits_and_acknowledges c t e home fresh can) took proposal h = record {
    accepted_low = h.accepted_low;
    putting_low = h.putting_low;
    known_low = h.known_low;
    answers_low = h.answers_low;
    acknowledged_low = with_fit (IfAny (λ (t : ℕ). t ≤ n)) old.acknowledged _ (Some t) h.acknowledged_low proposal;
  }
  low_kept {old = old} (counts_acknowledgement {m} id t e can few) took proposal h = record {
    accepted_low = h.accepted_low;
    putting_low = h.putting_low;
    known_low = h.known_low;
    answers_low = h.answers_low;
    acknowledged_low =
        with_fit (IfAny (λ (t : ℕ). t ≤ n)) old.acknowledged _ (Some t) h.acknowledged_low (took_low m _ e took);
  }
  low_kept {old = old} (decides_fast {m} id t e can full fast last) took proposal h =
      let table = with_fit (IfAny (λ (t : ℕ). t ≤ n)) old.acknowledged _ (Some t) h.acknowledged_low
      (took_low m _ e took) in
      record {
        accepted_low = h.accepted_low;
        putting_low = h.putting_low;
        answers_low = h.answers_low;
        acknowledged_low = table;
        known_low =
            with_fit (IfAny (λ (t : ℕ). t ≤ n)) old.known _ (Some _) h.known_low
            (greatest_low _ (present_fit (λ (t : ℕ). t ≤ n) _ table));
      }
  low_kept {old = old} (puts_slow {m} id t e can full slow) took proposal h =
      let table = with_fit (IfAny (λ (t : ℕ). t ≤ n)) old.acknowledged _ (Some t) h.acknowledged_low
      (took_low m _ e took) in
      record {
        accepted_low = h.accepted_low;
        known_low = h.known_low;
        answers_low = h.answers_low;
        acknowledged_low = table;
        putting_low = greatest_low _ (present_fit (λ (t : ℕ). t ≤ n) _ table);
      }
  low_kept (accepts {m} c t b e none le) took proposal h = record {
    accepted_low = took_low m _ e took;
    putting_low = h.putting_low;
    known_low = h.known_low;
    answers_low = h.answers_low;
    acknowledged_low = h.acknowledged_low;
  }
  low_kept (decides_by_votes old id put e none enough last) took proposal h = record {
    accepted_low = h.accepted_low;
    putting_low = h.putting_low;
    answers_low = h.answers_low;
    acknowledged_low = h.acknowledged_low;
    known_low = with_fit (IfAny (λ (t : ℕ). t ≤ n)) old.known _ (Some put.stamp) h.known_low h.putting_low;
  }
  low_kept {old = old} (learns {m} c q t e none last) took proposal h = record {
    accepted_low = h.accepted_low;
    putting_low = h.putting_low;
    answers_low = h.answers_low;
    acknowledged_low = h.acknowledged_low;
    known_low = with_fit (IfAny (λ (t : ℕ). t ≤ n)) old.known _ (Some t) h.known_low (took_low m _ e took);
  }
  low_kept {old = old} (counts_answer {m} id t made a b e can) took proposal h = record {
    accepted_low = h.accepted_low;
    putting_low = h.putting_low;
    known_low = h.known_low;
    acknowledged_low = h.acknowledged_low;
    answers_low = with_fit (IfAny IsLowAnswer) old.answers _ (Some _) h.answers_low (took_low m _ e took);
  }
  low_kept {s = s} {old = old} (puts_recovered {m} id t made a b c e can is enough) took proposal h =
      let table = with_fit (IfAny IsLowAnswer) old.answers _ (Some _) h.answers_low (took_low m _ e took) in
      record {
        accepted_low = h.accepted_low;
        known_low = h.known_low;
        acknowledged_low = h.acknowledged_low;
        answers_low = table;
        putting_low = choice_low (s.in_quorum c) c.home.0 _ (present_fit IsLowAnswer _ table);
      }
  low_kept {s = s} (starts_recovery id some none) took proposal h = record {
    accepted_low = h.accepted_low;
    putting_low = h.putting_low;
    known_low = h.known_low;
    acknowledged_low = h.acknowledged_low;
    answers_low = no_answers s.shape.replicas;
  }
    where
      no_answers : (k : ℕ) → Each (IfAny IsLowAnswer) (replicate k None)
      no_answers zero = tt
      no_answers (suc k) = (tt, no_answers k)
  low_kept _ took proposal h = record {
    accepted_low = h.accepted_low;
    putting_low = h.putting_low;
    known_low = h.known_low;
    acknowledged_low = h.acknowledged_low;
    answers_low = h.answers_low;
  }
