-- Stamps that a process sends are at most a number, where those that it keeps are, and its proposal is.
use Rattle.std.proofs.Common.{◌≡◌, ℕ, ◌≤◌, List, Option, Some, None, is_some, subst, arith}
use Rattle.std.specs.Prelude.{nat_lt}
use Rattle.std.specs.List.{list_all}
use Rattle.std.proofs.lemmas.Bool.{cond_both}
use Rattle.tp_base.proofs.Each.{each_append}
use Rattle.tp_base.specs.Lists.{Each}
use Rattle.tp_base.specs.declared.names.ActorName.TheVariants.{Process}
use Rattle.tp_base.specs.declared.names.CommandId.{CommandId}
use Rattle.tp_base.specs.declared.names.Site.{Site}
use Rattle.tp_facts.proofs.StepCases.{IsFinal, untold, final, chosen_stamp, with_recovery_answer, SheetStep, submits, submits_and_acknowledges, proposes, decides_fast, puts_slow, accepts, decides_by_votes, learns, proposes_and_answers_recovery, answers_recovery, puts_recovered, starts_recovery}
use Rattle.tp_ops.specs.declared.command.Command.{Command}
use Rattle.tp_quorum.specs.Choice.{greatest, present}
use Rattle.tp_rules.proofs.fit.Stamps.{kept_fit, present_fit}
use Rattle.tp_rules.proofs.lists.Selections.{IfAny, each_image, each_of_all}
use Rattle.tp_rules.proofs.sent.SendsOfProcess.{bumps_send, commit_messages_send, each_to, proposals_send, put_to_vote_sends, stamp}
use Rattle.tp_rules.specs.Acts.{Act}
use Rattle.tp_rules.specs.Addresses.{accessed, processes_of}
use Rattle.tp_rules.specs.Process.{asked, bumps, commit_messages}
use Rattle.tp_rules.specs.Sheet.{Proposed, QuorumRule, Sheet, final_stamp, stamp_of, stamp_proposed, stamp_told, stamps_of}
use Rattle.tp_topology.specs.Shape.{Shape}
use Rattle.tp_wire.specs.declared.message.Body.TheVariants.{MConsensus, MRec}
use Rattle.tp_wire.specs.declared.message.Message.{Message}
use Rattle.tp_quiet.proofs.LowStamps.{IsLowBody, IsLowSheet, greatest_low}

module _ (n : ℕ) (s : QuorumRule) (me : Site) where
  abbrev IsLow : ℕ → Type 0
  IsLow t = t ≤ n

  abbrev Low : Message → Type 0
  Low m = IsLowBody n m.body

  pub final_stamp_low : (shape : Shape) (sheet : Sheet) (c : Command) (t : ℕ) → Each (IfAny IsLow) sheet.known
      → final_stamp shape sheet (Some c) ≡ Some t → t ≤ n
  final_stamp_low shape sheet c t known is =
      let stamps : List (Option ℕ) = stamps_of shape sheet c in
      let each_one : Each (IfAny IsLow) stamps = each_image (IfAny IsLow) (stamp_of sheet) (accessed shape c)
      (each_of_all (λ q. IfAny IsLow (stamp_of sheet q)) (accessed shape c)
      (λ q. kept_fit IsLow sheet.known q known)) in
      subst (IfAny IsLow) is
      (cond_both (list_all is_some stamps) (Some (greatest (present stamps))) None (IfAny IsLow)
      (λ y. greatest_low n (present stamps) (present_fit IsLow stamps each_one)) (λ n. tt))

  final_low : {shape : Shape} {sheet : Sheet} {out : List Message} → Each (IfAny IsLow) sheet.known
      → IsFinal shape me sheet out → Each Low out
  final_low known untold = tt
  final_low {shape} {sheet} known (final c t e f) = (final_stamp_low shape sheet c t known f, tt)

  bumps_low : (c : Command) (t : ℕ) → t ≤ n → Each Low (bumps s.shape me c t)
  bumps_low c t low = bumps_send Low me s.shape c t (λ to. low)

  commits_low : (o : Option Command) (t : ℕ) → t ≤ n → Each Low (commit_messages s.shape me o t)
  commits_low o t low = commit_messages_send Low me s.shape o t (λ c to e. low)

  asked_low : (b : ℕ) (o : Option Command) → Each Low (asked s.shape me b o)
  asked_low b None = tt
  asked_low b (Some c) = each_to Low (Process me) (processes_of s.shape me.partition.0) (MRec c b) (λ to. tt)

  told_low : (sheet : Sheet) → sheet.accepted_stamp ≤ n → IfAny (λ (q : Proposed). q.stamp ≤ n) sheet.proposal
      → stamp_told sheet ≤ n
  told_low sheet low proposal =
      cond_both (nat_lt 0 sheet.accepted_ballot) sheet.accepted_stamp (stamp_proposed sheet.proposal) IsLow (λ y. low)
      (λ m. proposed_low sheet.proposal proposal)
    where
      proposed_low : (o : Option Proposed) → IfAny (λ (q : Proposed). q.stamp ≤ n) o → stamp_proposed o ≤ n
      proposed_low None h = omega arith
      proposed_low (Some q) h = h

  -- what a step sends
  pub low_said : {act : Act} {id : CommandId} {old new : Sheet} {out : List Message} → SheetStep s me act id old new out
      → IfAny (λ (q : Proposed). q.stamp ≤ n) new.proposal → IsLowSheet n old → IsLowSheet n new → Each Low out
  low_said (submits c t e home fresh) proposal h k =
      each_append Low _ _ (proposals_send Low me s c t (λ to. proposal) (λ to. tt)) (bumps_low _ t proposal)
  low_said (submits_and_acknowledges c t e home fresh can) proposal h k =
      each_append Low _ _ (proposals_send Low me s c t (λ to. proposal) (λ to. tt)) (bumps_low _ t proposal)
  low_said (proposes c floor t e le fresh) proposal h k = (proposal, bumps_low _ t proposal)
  low_said (decides_fast id t e can full fast last) proposal h k =
      each_append Low _ _ (commits_low _ _ (greatest_low n _ (present_fit IsLow _ k.acknowledged_low)))
      (final_low k.known_low last)
  low_said (puts_slow id t e can full slow) proposal h k =
      put_to_vote_sends Low me s.shape _ _ _ (λ c to is. k.putting_low)
  low_said (accepts c t b e none le) proposal h k = (tt, tt)
  low_said (decides_by_votes old id put e none enough last) proposal h k =
      each_append Low _ _ (commits_low _ _ h.putting_low) (final_low k.known_low last)
  low_said (learns c q t e none last) proposal h k = final_low k.known_low last
  low_said {new = new} (proposes_and_answers_recovery c b t e none low nothing unjoined) proposal h k =
      (told_low new k.accepted_low proposal, bumps_low _ t proposal)
  low_said {new = new} (answers_recovery c b e none low first) proposal h k =
      (told_low new k.accepted_low proposal, tt)
  low_said {old = old} (puts_recovered {m} id t made a b c e can is enough) proposal h k =
      let chosen : ℕ = chosen_stamp s c (with_recovery_answer m t made a old) in
      each_to Low (Process me) (processes_of s.shape me.partition.0) (MConsensus c (stamp chosen) b)
      (λ to. k.putting_low)
  low_said (starts_recovery id is none) proposal h k = asked_low _ _
  low_said _ proposal h k = tt
