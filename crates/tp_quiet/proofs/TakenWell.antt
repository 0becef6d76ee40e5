-- In a run each message that is admitted comes in time: a reply is to what was asked, and its question was asked
-- before.
-- Used for each process of a run in which nothing is pending.
use Rattle.std.proofs.Common.{◌≡◌, ℕ, ◌≤◌, inl, true, false, List, [], ◌∷◌, Option, Some, None, is_none, is_some, refl, sym, ap, subst, ◌∙◌, arith}
use Rattle.tp_base.proofs.Each.{each_in, each_of, each_weaker}
use Rattle.tp_base.specs.Lists.{Each, IsIn}
use Rattle.tp_base.specs.declared.names.ActorName.{ActorName}
use Rattle.tp_base.specs.declared.names.ActorName.TheVariants.{Process}
use Rattle.tp_base.specs.declared.names.CommandId.{CommandId}
use Rattle.tp_base.specs.declared.names.Site.{Site}
use Rattle.tp_facts.proofs.Commands.{command_in, command_in_names}
use Rattle.tp_facts.proofs.Consequences.{put_of, said_of}
use Rattle.tp_facts.proofs.Deliveries.{sent_before, took_sent}
use Rattle.tp_facts.proofs.Facts.{IsGenuine, IsHere, KeepsCommand, sent_by}
use Rattle.tp_facts.proofs.RuleTests.{ballot_put}
use Rattle.tp_facts.proofs.RunFacts.{FactsAt, act_genuine, run_holds, site_here}
use Rattle.tp_facts.proofs.SamePartition.{IsPeer, from_own_partition}
use Rattle.tp_facts.proofs.Senders.{sent_by_process}
use Rattle.tp_ops.specs.declared.command.Command.{Command}
use Rattle.tp_rules.proofs.ActsMore.{acts_step, acts_then}
use Rattle.tp_rules.proofs.sent.EachSent.{acts_pass, history_passes}
use Rattle.tp_rules.proofs.fit.Messages.{IsBodyOf, IsFit, IsFitAct, site_is}
use Rattle.tp_rules.proofs.fit.InRange.{fit_handed_on}
use Rattle.tp_rules.specs.Acts.{Act, Took, Did}
use Rattle.tp_rules.specs.Addresses.{rank_of, site}
use Rattle.tp_rules.specs.Journal.{IsSent, act_of, acts}
use Rattle.tp_rules.specs.Process.{state_after}
use Rattle.tp_rules.specs.Runs.{IsFreeHistory}
use Rattle.tp_rules.specs.Sheet.{QuorumRule, Sheet, is_made_by_proposal, ring_rule}
use Rattle.tp_rules.specs.declared.event.Entry.{Entry}
use Rattle.tp_script.specs.Accepted.{IsAccepted}
use Rattle.tp_script.specs.declared.script.Script.{Script}
use Rattle.tp_wire.specs.Ranges.{IsBody}
use Rattle.tp_wire.specs.declared.message.Body.{Body}
use Rattle.tp_wire.specs.declared.message.Body.TheVariants.{MPropose, MProposeAck, MConsensus, MConsensusAck, MRec, MRecAck}
use Rattle.tp_wire.specs.declared.message.Message.{Message}
use Rattle.tp_quiet.proofs.AllServed.{AreTakenWell, IsTakenWell}
use Rattle.tp_quiet.proofs.AllStanding.{IsStanding, all_standing}
use Rattle.tp_quiet.proofs.Counts.{IsActWith}
use Rattle.tp_quiet.proofs.OwnCounted.{IsToAnother}
use Rattle.tp_quiet.proofs.Questions.{AsksFairly, IsFair, all_fair}
use Rattle.tp_quiet.proofs.Replies.{CameFrom, IsRepliedTo, IsReply, all_replied}
use Rattle.tp_quiet.proofs.Serving.{HasProposed, IsAdmitted, IsTimely}
use Rattle.tp_topology.specs.Shape.{is_site_of}

-- each message that was taken was admitted
abbrev pub AreAdmitted : QuorumRule → Site → List Act → Type 0
AreAdmitted s me [] = Unit {0}
AreAdmitted s me (Took m ∷ before) = AreAdmitted s me before × IsAdmitted s me (state_after s me before) m
AreAdmitted s me (Did inner ∷ before) = AreAdmitted s me before

module _ (script : Script) (accepted : IsAccepted script) where
  abbrev of : CommandId → Command
  of = command_in script.commands

  abbrev rule : QuorumRule
  rule = ring_rule script.topology

  pub is_here : (k : Site) → is_site_of script.topology k ≡ true → IsHere rule k
  is_here k is = site_here script k accepted.shape is

  pub fits : (older : List Entry) → IsFreeHistory script older → (a : ActorName)
      → Each (IsFitAct script) (acts older a)
  fits older history a =
      acts_pass script (IsFit script) older a
      (history_passes script (IsFit script) (fit_handed_on script accepted) older history)

  pub are_genuine : (older : List Entry) → IsFreeHistory script older → (k : Site)
      → Each (IsGenuine of) (acts older (Process k))
  are_genuine older history k =
      each_weaker (IsFitAct script) (IsGenuine of)
      (act_genuine script of (command_in_names script accepted)) (acts older (Process k)) (fits older history (Process k))

  -- a moment at which a process takes a message that was sent before
  module _ (older : List Entry) (history : IsFreeHistory script older) (k : Site)
      (at : is_site_of script.topology k ≡ true) (m : Message) (sent : IsSent older m) (to : m.to ≡ Process k)
      (from : IsPeer m.body → (m.from ≡ Process (site k.partition.0 (rank_of m.from)))
      × (is_site_of script.topology (site k.partition.0 (rank_of m.from)) ≡ true)) where
    facts : FactsAt script of older k
    facts = run_holds script of accepted (command_in_names script accepted) older history k at

    standing : (id : CommandId)
        → IsStanding rule k of (acts older (Process k)) (sent_by rule k (acts older (Process k))) id
        ((state_after rule k (acts older (Process k))).sheets id)
    standing id = all_standing rule k of (is_here k at) accepted.shape (acts older (Process k))
        (are_genuine older history k) id

    -- the question of a reply was the process's own
    asked_here : (j : Site) (body : Body) → CameFrom (acts older (Process j)) m.to body
        → (q : Message) × IsIn q (sent_by rule k (acts older (Process k))) × (q.body ≡ body)
    asked_here j body came = (
      came.message,
      sent_by_process script older history k came.message
          (took_sent older (Process j) came.message came.taken) (came.from_it ∙ to),
      came.is,
    )

    reply : (body : Body) → m.body ≡ body → IsPeer body
        → IsReply (acts older (Process (site k.partition.0 (rank_of m.from)))) m.to body
    reply body e peer =
        let by = from (subst IsPeer (sym e) peer) in
        let j = site k.partition.0 (rank_of m.from) in
        subst (IsReply (acts older (Process j)) m.to) e
        (each_in (IsRepliedTo (acts older (Process j))) (sent_by rule j (acts older (Process j))) m
        (all_replied rule j (acts older (Process j))) (sent_by_process script older history j m sent by.0))

    timely : (body : Body) → m.body ≡ body → IsBody m.from m.to body
        → IsTimely rule k of (state_after rule k (acts older (Process k))).sheets body
    timely (MProposeAck id t) e range =
        let r = reply (MProposeAck id t) e tt in
        let q = asked_here (site k.partition.0 (rank_of m.from)) (MPropose r.0 r.1) r.3 in
        let said = said_of facts q.0 (MPropose r.0 r.1) q.1 q.2 in
        let same : said.0 ≡ id = sym said.1.0 ∙ r.2 in
        proposed id (subst (λ (i : CommandId). (of i).home.0 ≡ k.rank.0) same said.1.1)
        (subst
        (λ (i : CommandId). is_made_by_proposal
        ((state_after rule k (acts older (Process k))).sheets i).proposal ≡ true) same
        (ap is_made_by_proposal said.1.2))
      where
        proposed : (id : CommandId) → (of id).home.0 ≡ k.rank.0
            → is_made_by_proposal ((state_after rule k (acts older (Process k))).sheets id).proposal ≡ true
            → HasProposed rule k of id ((state_after rule k (acts older (Process k))).sheets id)
        proposed id home made = record {
          command = kept ((state_after rule k (acts older (Process k))).sheets id).command refl
              (facts.sheets id).command ((standing id).kept (some _ made));
          home = home;
          made = made;
          heeded = (standing id).heeded;
        }
          where
            some : (o : Option _) → is_made_by_proposal o ≡ true → is_none o ≡ false
            some None e = absurd cc
            some (Some q) e = refl

            kept : (o : Option Command) → ((state_after rule k (acts older (Process k))).sheets id).command ≡ o
                → KeepsCommand of id ((state_after rule k (acts older (Process k))).sheets id).command
                → is_some ((state_after rule k (acts older (Process k))).sheets id).command ≡ true
                → ((state_after rule k (acts older (Process k))).sheets id).command ≡ Some (of id)
            kept None is keeps there =
                absurd (let wrong : is_some ((state_after rule k (acts older (Process k))).sheets id).command ≡ false =
                ap (λ (o : Option Command). is_some o) is in cc)
            kept (Some c) is keeps there =
                is ∙ ap (λ (d : Command). Some d) (subst (KeepsCommand of id) is keeps).0
    timely (MConsensus c t b) e range = omega (arith, range.4.1)
    timely (MConsensusAck id b) e range =
        let r = reply (MConsensusAck id b) e tt in
        let q = asked_here (site k.partition.0 (rank_of m.from)) (MConsensus r.0 r.1 b) r.3 in
        let put = put_of facts q.0 r.0 r.1 b q.1 q.2 in (
          omega (arith, range.3.0),
          subst
              (λ (i : CommandId). b ≤ ballot_put
              ((state_after rule k (acts older (Process k))).sheets i).put) r.2 put.below,
        )
    timely (MRec c b) e range = omega (arith, range.3.1)
    timely (MRecAck id t made a b) e range =
        let r = reply (MRecAck id t made a b) e tt in
        let q = asked_here (site k.partition.0 (rank_of m.from)) (MRec r.0 b) r.2 in
        let sheets : CommandId → Sheet = (state_after rule k (acts older (Process k))).sheets in
        let fair = each_in (AsksFairly k sheets) (sent_by rule k (acts older (Process k))) q.0
        (all_fair rule k of (is_here k at) (acts older (Process k)) (are_genuine older history k)) q.1 in (
          omega (arith, range.5.0),
          subst (λ (i : CommandId). b ≤ (sheets i).tried) r.1 (subst (IsFair k sheets q.0.to) q.2 fair),
        )
    timely _ e range = tt

    well : IsFit script m → IsAdmitted rule k (state_after rule k (acts older (Process k))) m
        → IsTakenWell rule k of (is_here k at) (acts older (Process k)) m
    well fit admitted = record {
      admitted = admitted;
      timely = timely m.body refl fit.range;
      rank = λ peer. (site_is script.topology (site k.partition.0 (rank_of m.from)) (from peer).1).1;
    }

    -- no home takes a proposal of its own
    to_another : (body : Body) → m.body ≡ body → IsBodyOf script body → IsToAnother k body
    to_another (MPropose c floor) e ours = λ home.
        let by = from (subst IsPeer (sym e) tt) in
        let j = site k.partition.0 (rank_of m.from) in
        let facts_j : FactsAt script of older j =
        run_holds script of accepted (command_in_names script accepted) older history j by.1 in
        let there = sent_by_process script older history j m sent by.0 in
        let said = said_of facts_j m (MPropose c floor) there e in
        let named : c ≡ of said.0 =
        subst (λ (i : CommandId). c ≡ of i) said.1.0 (command_in_names script accepted c ours) in
        let rank : rank_of m.from ≡ k.rank.0 = sym said.1.1 ∙ ap (λ (x : Command). x.home.0) (sym named) ∙ home in
        let same : j ≡ k = ap (λ (r : ℕ). site k.partition.0 r) rank in
        let fair = each_in (AsksFairly j (state_after rule j (acts older (Process j))).sheets)
        (sent_by rule j (acts older (Process j))) m
        (all_fair rule j of (is_here j by.1) (acts older (Process j)) (are_genuine older history j)) there in
        subst (IsFair j (state_after rule j (acts older (Process j))).sheets m.to) e fair
        (to ∙ ap (λ (x : Site). Process x) (sym same))
    to_another _ e ours = tt

  -- each moment of a journal
  pub all_taken_well : (older : List Entry) → IsFreeHistory script older → (k : Site)
      → (at : is_site_of script.topology k ≡ true) → AreAdmitted rule k (acts older (Process k))
      → AreTakenWell rule k of (is_here k at) (acts older (Process k))
  all_taken_well [] history k at admitted = tt
  all_taken_well (e ∷ older) history k at admitted =
      let rest = all_taken_well older history.0 k at in
      acts_step
      (λ (list : List Act). AreAdmitted rule k list → AreTakenWell rule k of (is_here k at) list) older e (Process k)
      rest (λ act same is. by_act act same is rest) admitted
    where
      by_act : (act : Act) → e.actor ≡ Process k → act_of older e.event ≡ Some act
          → (AreAdmitted rule k (acts older (Process k))
          → AreTakenWell rule k of (is_here k at) (acts older (Process k)))
          → AreAdmitted rule k (act ∷ acts older (Process k))
          → AreTakenWell rule k of (is_here k at) (act ∷ acts older (Process k))
      by_act (Did inner) same is rest h = rest h
      by_act (Took m) same is rest h =
          let there : IsIn (Took m) (acts (e ∷ older) (Process k)) =
          subst (IsIn (Took m)) (sym (acts_then older e (Process k) (Took m) same is)) (inl refl) in
          let before = sent_before script (e ∷ older) history (Process k) m there in (
            rest h.0,
            well older history.0 k at m before.0 before.1
                (λ peer. from_own_partition script (e ∷ older) history k.partition.0 k m refl there peer)
                (each_in (IsFitAct script) (acts (e ∷ older) (Process k)) (Took m)
                (fits (e ∷ older) history (Process k)) there)
                h.1,
          )

  pub all_to_others : (older : List Entry) → IsFreeHistory script older → (k : Site)
      → is_site_of script.topology k ≡ true → Each (IsActWith (IsToAnother k)) (acts older (Process k))
  all_to_others older history k at = each_of (IsActWith (IsToAnother k)) (acts older (Process k)) by_act
    where
      by_act : (act : Act) → IsIn act (acts older (Process k)) → IsActWith (IsToAnother k) act
      by_act (Did inner) there = tt
      by_act (Took m) there =
          let before = sent_before script older history (Process k) m there in
          let fit : IsFit script m =
          each_in (IsFitAct script) (acts older (Process k)) (Took m) (fits older history (Process k)) there in
          to_another older history k at m (took_sent older (Process k) m there) before.1
          (λ peer. from_own_partition script older history k.partition.0 k m refl there peer) m.body refl fit.ours
