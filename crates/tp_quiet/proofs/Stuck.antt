-- Where each message was taken, admitted and in time, and a full fast quorum acknowledged, some process of a partition
-- knows the stamp of a command.
-- Used for each command and each of its partitions in a run in which nothing is pending.
use Rattle.std.proofs.Common.{◌≡◌, ◌≢◌, ◌⊎◌, ℕ, ◌<◌, ◌≤◌, inl, inr, true, false, List, length, Option, Some, None, is_some, refl, sym, ap, subst, ◌∙◌, arith}
use Rattle.std.specs.Prelude.{is_none}
use Rattle.std.proofs.lemmas.Bool.{and_from, both_ways, cases_eq, cases_lt}
use Rattle.tp_base.proofs.Each.{each_in}
use Rattle.tp_base.specs.Limits.{IsFrom, is_from}
use Rattle.tp_base.specs.Lists.{Each, IsIn}
use Rattle.tp_base.specs.Tables.{kept_at, nth}
use Rattle.tp_base.specs.declared.names.ActorName.{ActorName}
use Rattle.tp_base.specs.declared.names.ActorName.TheVariants.{Process}
use Rattle.tp_base.specs.declared.names.CommandId.{CommandId}
use Rattle.tp_base.specs.declared.names.Made.{Made}
use Rattle.tp_base.specs.declared.names.Made.TheVariants.{Proposal, Recovery}
use Rattle.tp_base.specs.declared.names.Site.{Site}
use Rattle.tp_agreement.proofs.KnownStamps.{acts_are_sent}
use Rattle.tp_base.proofs.Ranges.{range_in}
use Rattle.tp_facts.proofs.Commands.{command_in, command_in_names}
use Rattle.tp_facts.proofs.Consequences.{put_of, said_of}
use Rattle.tp_facts.proofs.Deliveries.{took_sent}
use Rattle.tp_facts.proofs.Facts.{IsGenuine, IsHere, IsPutter, WasTaken, sent_by}
use Rattle.tp_facts.proofs.RuleTests.{ballot_put}
use Rattle.tp_facts.proofs.RunFacts.{FactsAt, run_holds}
use Rattle.tp_facts.proofs.SamePartition.{IsPeer, from_own_partition}
use Rattle.tp_facts.proofs.Senders.{sent_by_process}
use Rattle.tp_facts.specs.Settled.{sheet_at}
use Rattle.tp_ops.specs.declared.command.Command.{Command}
use Rattle.tp_paxos.specs.Votes.{PutStamp}
use Rattle.tp_rules.proofs.fit.Messages.{site_is}
use Rattle.tp_rules.proofs.fit.Choices.{ring_has_fast_size}
use Rattle.tp_rules.proofs.lists.Selections.{IfAny}
use Rattle.tp_rules.proofs.sent.SendsOfProcess.{stamp}
use Rattle.tp_rules.specs.Acts.{Act, Took}
use Rattle.tp_rules.specs.Addresses.{message, rank_of, site}
use Rattle.tp_rules.specs.Journal.{IsSent, acts}
use Rattle.tp_rules.specs.Process.{state_after}
use Rattle.tp_rules.specs.Runs.{IsFreeHistory}
use Rattle.tp_rules.specs.Sheet.{Proposed, QuorumRule, Sheet, is_made_by_proposal, is_proposal, ring_rule, stamp_of}
use Rattle.tp_rules.specs.declared.event.Entry.{Entry}
use Rattle.tp_script.specs.Accepted.{IsAccepted}
use Rattle.tp_script.specs.declared.script.Script.{Script}
use Rattle.tp_topology.specs.Ballots.{owner}
use Rattle.tp_wire.specs.declared.message.Body.{Body}
use Rattle.tp_wire.specs.declared.message.Body.TheVariants.{MConsensus, MConsensusAck, MPropose, MProposeAck, MRec, MRecAck, MSubmit}
use Rattle.tp_wire.specs.declared.message.Message.{Message}
use Rattle.tp_quiet.proofs.AllServed.{AreTakenWell, all_served}
use Rattle.tp_quiet.proofs.AllStanding.{IsStanding, all_standing}
use Rattle.tp_quiet.proofs.Counts.{IsActWith}
use Rattle.tp_quiet.proofs.Gains.{votes_put}
use Rattle.tp_quiet.proofs.NotStuck.{AskedBy, IsStuck, PutBy, find_rank, not_stuck}
use Rattle.tp_quiet.proofs.OwnCounted.{IsToAnother, all_own}
use Rattle.tp_quiet.proofs.Proposals.{HasAcknowledged, HasReason, IsReasoned}
use Rattle.tp_quiet.proofs.Served.{IsAcknowledged, IsServed, Knows}
use Rattle.tp_quiet.proofs.Standing.{HasAnswered, IsSpread}
use Rattle.tp_topology.specs.Shape.{is_site_of}

-- a journal in which each process took well all that was sent to it
pub record IsTakenIn (script : Script) (older : List Entry) : Type 0 where
  pub accepted : IsAccepted script
  pub history : IsFreeHistory script older
  pub took : (m : Message) → IsSent older m → IsIn (Took m) (acts older m.to)
  pub here : (k : Site) → is_site_of script.topology k ≡ true → IsHere (ring_rule script.topology) k
  pub genuine : (k : Site) → is_site_of script.topology k ≡ true
      → Each (IsGenuine (command_in script.commands)) (acts older (Process k))
  pub well : (k : Site) (is : is_site_of script.topology k ≡ true)
      → AreTakenWell (ring_rule script.topology) k (command_in script.commands) (here k is) (acts older (Process k))
  pub to_others : (k : Site) → is_site_of script.topology k ≡ true
      → Each (IsActWith (IsToAnother k)) (acts older (Process k))

module _ (script : Script) (older : List Entry) (run : IsTakenIn script older) (p : ℕ)
    (part : IsFrom 1 script.topology.partitions p) (c : Command) (ours : c ≡ command_in script.commands c.id) where
  abbrev of : CommandId → Command
  of = command_in script.commands

  abbrev rule : QuorumRule
  rule = ring_rule script.topology

  abbrev IsRank : ℕ → Type 0
  IsRank k = IsFrom 1 script.topology.replicas k

  abbrev acts_of : ℕ → List Act
  acts_of k = acts older (Process (site p k))

  abbrev sent_of : ℕ → List Message
  sent_of k = sent_by rule (site p k) (acts_of k)

  abbrev sheet : ℕ → Sheet
  sheet k = sheet_at script older p k c.id

  is_here : (k : ℕ) → IsRank k → is_site_of script.topology (site p k) ≡ true
  is_here k range = and_from (is_from 1 script.topology.partitions p) (is_from 1 script.topology.replicas k)
      (range_in 1 script.topology.partitions p part) (range_in 1 script.topology.replicas k range)

  facts : (k : ℕ) → IsRank k → FactsAt script of older (site p k)
  facts k range = run_holds script of run.accepted (command_in_names script run.accepted) older run.history (site p k)
      (is_here k range)

  standing : (k : ℕ) → IsRank k → IsStanding rule (site p k) of (acts_of k) (sent_of k) c.id (sheet k)
  standing k range = all_standing rule (site p k) of (run.here (site p k) (is_here k range)) run.accepted.shape
      (acts_of k) (run.genuine (site p k) (is_here k range)) c.id

  -- what a process of the partition sent to another was taken, and is served
  served : (j k : ℕ) → IsRank k → (body : Body)
      → IsIn (message (Process (site p j)) (Process (site p k)) body) (sent_of j)
      → IsServed rule (site p k) of (sent_of k) (Process (site p j))
      (state_after rule (site p k) (acts_of k)).sheets body
  served j k range body there =
      let m : Message = message (Process (site p j)) (Process (site p k)) body in
      all_served rule (site p k) of (run.here (site p k) (is_here k range)) (acts_of k)
      (run.genuine (site p k) (is_here k range)) (run.well (site p k) (is_here k range)) m
      (run.took m (acts_are_sent script older run.history (site p j) m there))

  -- who sent what was taken of these kinds
  record From (k : ℕ) (m : Message) : Type 0 where
    rank : ℕ
    in_range : IsRank rank
    is : m.from ≡ Process (site p rank)
    sent : IsIn m (sent_of rank)

  from_rank : (k : ℕ) (m : Message) → IsIn (Took m) (acts_of k) → IsPeer m.body → From k m
  from_rank k m there peer =
      let by = from_own_partition script older run.history p (site p k) m refl there peer in
      record {
        rank = rank_of m.from;
        in_range = (site_is script.topology (site p (rank_of m.from)) by.1).1;
        is = by.0;
        sent = sent_by_process script older run.history (site p (rank_of m.from)) m
            (took_sent older (Process (site p k)) m there) by.0;
      }

  module _ (unknown : (k : ℕ) → IsRank k → Knows p (sheet k) → ⊥) where
    but_known : {X : Type 0} (k : ℕ) → IsRank k → Knows p (sheet k) ⊎ X → X
    but_known k range h = elim h [ inl known ↦ absurd (unknown k range known) | inr rest ↦ rest ]

    tried : (j : ℕ) → IsRank j → ((sheet j).tried ≡ 0)
        ⊎ ((script.topology.replicas < (sheet j).tried) × (owner script.topology (sheet j).tried ≡ j))
    tried j range = ((facts j range).sheets c.id).proposer.own

    -- what is put, with the message that put it
    record Put (j : ℕ) : Type 0 where
      put : PutStamp
      is : (sheet j).put ≡ Some put
      spread : IsSpread rule (site p j) of (sent_of j) c.id put
      same_size : length put.votes ≡ script.topology.replicas

    put_of_rank : (j : ℕ) → IsRank j → 0 < ballot_put (sheet j).put → Put j
    put_of_rank j range some = by_put (sheet j).put refl some
      where
        by_put : (o : Option PutStamp) → (sheet j).put ≡ o → 0 < ballot_put o → Put j
        by_put None is positive = absurd (omega (arith, positive))
        by_put (Some put) is positive = record {
          put = put;
          is = is;
          spread = subst (IfAny (IsSpread rule (site p j) of (sent_of j) c.id)) is (standing j range).spread;
          same_size = subst (IfAny (λ (x : PutStamp). length x.votes ≡ script.topology.replicas)) is
              ((facts j range).sheets c.id).places.voted;
        }

    first : (j : ℕ) → IsRank j → 0 < ballot_put (sheet j).put → ballot_put (sheet j).put ≤ script.topology.replicas
        → j ≡ c.home.0
    first j range some low =
        let x = put_of_rank j range some in
        let putter : IsPutter of (acts_of j) (sent_of j) c.id x.put =
        subst (IfAny (IsPutter of (acts_of j) (sent_of j) c.id)) x.is ((facts j range).sheets c.id).putter in
        let w = putter.was_put in
        let is_c : w.message.body ≡ MConsensus c (stamp x.put.stamp) x.put.ballot =
        w.is ∙ ap (λ (d : Command). MConsensus d (stamp x.put.stamp) x.put.ballot) (sym ours) in
        let was = put_of (facts j range) w.message c (stamp x.put.stamp) x.put.ballot w.there is_c in
        let at : ballot_put (sheet j).put ≡ x.put.ballot = ap ballot_put x.is in
        sym (ap (λ (d : Command). d.home.0) ours ∙ (was.first (omega (arith, at, low))).1)

    asked : (j k : ℕ) → IsRank j → IsRank k → 0 < (sheet j).tried → (sheet j).tried ≤ (sheet k).ballot
    asked j k range_j range_k some =
        let question = subst
        (λ (d : Command). IsIn (message (Process (site p j)) (Process (site p k)) (MRec d (sheet j).tried)) (sent_of j))
        (sym ours) (((standing j range_j).asked some).question k range_k) in
        but_known k range_k (served j k range_k (MRec c (sheet j).tried) question)

    source : (k : ℕ) → IsRank k → 0 < (sheet k).ballot
        → PutBy rule sheet (sheet k).ballot ⊎ AskedBy rule sheet k (sheet k).ballot
    source k range some = elim ((standing k range).joined some) [
      | inl put ↦ inl (by_put put.0 put.1)
      | inr answered ↦ by_answer answered
    ]
      where
        by_put : (t : ℕ) → WasTaken (acts_of k) (MConsensus (of c.id) (stamp t) (sheet k).ballot)
            → PutBy rule sheet (sheet k).ballot
        by_put t w =
            let is_c : w.message.body ≡ MConsensus c (stamp t) (sheet k).ballot =
            w.is ∙ ap (λ (d : Command). MConsensus d (stamp t) (sheet k).ballot) (sym ours) in
            let from = from_rank k w.message w.there (subst IsPeer (sym is_c) tt) in
            record {
              by = from.rank;
              in_range = from.in_range;
              low = (put_of (facts from.rank from.in_range) w.message c (stamp t)
                  (sheet k).ballot from.sent is_c).below;
            }

        by_answer : HasAnswered (site p k) (acts_of k) (sent_of k) (of c.id) (sheet k).ballot
            → PutBy rule sheet (sheet k).ballot ⊎ AskedBy rule sheet k (sheet k).ballot
        by_answer h =
            let from = from_rank k h.question h.taken (subst IsPeer (sym h.asks) tt) in
            let back = subst
            (λ (a : ActorName). IsIn
            (message (Process (site p k)) a (MRecAck (of c.id).id h.stamp h.made h.accepted (sheet k).ballot))
            (sent_of k))
            from.is h.answered in
            let back_c = subst
            (λ (d : Command). IsIn
            (message (Process (site p k)) (Process (site p from.rank))
            (MRecAck d.id h.stamp h.made h.accepted (sheet k).ballot))
            (sent_of k)) (sym ours) back in
            counted from.rank from.in_range
            (but_known from.rank from.in_range (served k from.rank from.in_range
            (MRecAck c.id h.stamp h.made h.accepted (sheet k).ballot) back_c))
          where
            counted : (j : ℕ) → IsRank j
                → ((sheet k).ballot < (sheet j).tried) ⊎ (((sheet k).ballot ≤ ballot_put (sheet j).put)
                ⊎ (((sheet j).tried ≡ (sheet k).ballot) × (is_some (kept_at (sheet j).answers k) ≡ true)))
                → PutBy rule sheet (sheet k).ballot ⊎ AskedBy rule sheet k (sheet k).ballot
            counted j range (inl beyond) = inr (record {
              by = j;
              in_range = range;
              low = omega (arith, beyond);
              answered = λ same. absurd (omega (arith, beyond, same));
            })
            counted j range (inr (inl put)) = inl (record { by = j; in_range = range; low = put })
            counted j range (inr (inr there)) = inr (record {
              by = j;
              in_range = range;
              low = omega (arith, there.0);
              answered = λ same. inr there.1;
            })

    voted : (j k : ℕ) → IsRank j → IsRank k → 0 < ballot_put (sheet j).put
        → (ballot_put (sheet j).put < (sheet k).ballot) ⊎ (nth (votes_put (sheet j).put) k ≡ Some true)
    voted j k range_j range_k some =
        let x = put_of_rank j range_j some in
        let at : ballot_put (sheet j).put ≡ x.put.ballot = ap ballot_put x.is in
        let sent_c = subst
        (λ (d : Command). IsIn
        (message (Process (site p j)) (Process (site p k)) (MConsensus d (stamp x.put.stamp) x.put.ballot)) (sent_of j))
        (sym ours) (x.spread k range_k) in
        elim (but_known k range_k (served j k range_k (MConsensus c (stamp x.put.stamp) x.put.ballot) sent_c)) [
          | inl beyond ↦ inl (omega (arith, at, beyond))
          | inr vote ↦ elim (but_known j range_j (served k j range_j (MConsensusAck c.id x.put.ballot) vote)) [
            | inl above ↦ absurd (omega (arith, at, above))
            | inr counted ↦ inr counted.1
          ]
        ]

  -- the command was submitted to the process of its home
  pub record IsSubmitted : Type 0 where
    pub message : Message
    pub sent : IsSent older message
    pub to : message.to ≡ Process (site p c.home.0)
    pub is : message.body ≡ MSubmit c

  module _ (unknown : (k : ℕ) → IsRank k → Knows p (sheet k) → ⊥) (home : IsRank c.home.0)
      (submitted : IsSubmitted) where
    but_known_by : {X : Type 0} (k : ℕ) → IsRank k → Knows p (sheet k) ⊎ X → X
    but_known_by k range h = but_known unknown k range h

    home_touched : (0 < (sheet c.home.0).ballot) ⊎ (is_none (sheet c.home.0).proposal ≡ false)
    home_touched =
        let there = subst (λ (a : ActorName). IsIn (Took submitted.message) (acts older a)) submitted.to
        (run.took submitted.message submitted.sent) in
        let at = is_here c.home.0 home in
        let serves = all_served rule (site p c.home.0) of (run.here (site p c.home.0) at) (acts_of c.home.0)
        (run.genuine (site p c.home.0) at) (run.well (site p c.home.0) at) submitted.message there in
        but_known_by c.home.0 home
        (subst
        (λ (body : Body). IsServed rule (site p c.home.0) of (sent_of c.home.0) submitted.message.from
        (state_after rule (site p c.home.0) (acts_of c.home.0)).sheets body)
        submitted.is serves refl)

    -- the acknowledgement of a member is counted, or no longer matters
    abbrev IsCounted : ℕ → Type 0
    IsCounted j = (0 < (sheet c.home.0).ballot) ⊎ ((0 < ballot_put (sheet c.home.0).put)
        ⊎ ((0 < (sheet j).ballot) ⊎ (is_some (kept_at (sheet c.home.0).acknowledged j) ≡ true)))

    counted_from : (j : ℕ) → IsAcknowledged rule (site p c.home.0) of (Process (site p j)) (sheet c.home.0)
        → IsCounted j
    counted_from j h = elim (but_known_by c.home.0 home h) [
      | inl joined ↦ inl joined
      | inr (inl put) ↦ inr (inl put)
      | inr (inr there) ↦ inr (inr (inr there))
    ]

    -- what a member did with the home's proposal
    member_counted : (j : ℕ) → IsRank j → (j ≡ c.home.0 → ⊥) → rule.in_quorum c j ≡ true → (t : ℕ)
        → IsIn (message (Process (site p c.home.0)) (Process (site p j)) (MPropose c (stamp t))) (sent_of c.home.0)
        → IsCounted j
    member_counted j range other member t sent =
        elim (but_known_by j range (served c.home.0 j range (MPropose c (stamp t)) sent)) [
          | inl joined ↦ inr (inr (inl joined))
          | inr some ↦ by_proposal (sheet j).proposal some (standing j range).reasoned
        ]
      where
        same_named : (i : CommandId) → c.id ≡ i → c ≡ of i
        same_named i same = subst (λ (x : CommandId). c ≡ of x) same ours

        back : HasAcknowledged (site p j) (acts_of j) (sent_of j) (of c.id) → IsCounted j
        back h =
            let asks_c : h.question.body ≡ MPropose c (stamp h.floor) =
            h.asks ∙ ap (λ (d : Command). MPropose d (stamp h.floor)) (sym ours) in
            let from = from_rank j h.question h.taken (subst IsPeer (sym asks_c) tt) in
            let said = said_of (facts from.rank from.in_range) h.question
            (MPropose c (stamp h.floor)) from.sent asks_c in
            let at_home : from.rank ≡ c.home.0 =
            sym (ap (λ (d : Command). d.home.0) (same_named said.0 said.1.0) ∙ said.1.1) in
            let answer = subst
            (λ (a : ActorName). IsIn (message (Process (site p j)) a (MProposeAck (of c.id).id (stamp h.proposed)))
            (sent_of j))
            (from.is ∙ ap (λ (k : ℕ). Process (site p k)) at_home) h.answered in
            let answer_c = subst
            (λ (d : Command). IsIn (message (Process (site p j)) (Process (site p c.home.0))
            (MProposeAck d.id (stamp h.proposed))) (sent_of j))
            (sym ours) answer in
            counted_from j (served j c.home.0 home (MProposeAck c.id (stamp h.proposed)) answer_c
            (subst (λ (d : Command). rule.in_quorum d j ≡ true) ours member))

        by_made : (made : Made) → HasReason rule (site p j) of (acts_of j) (sent_of j) c.id (sheet j).ballot made
            → IsCounted j
        by_made Recovery h = inr (inr (inl h))
        by_made Proposal (inl h) = absurd (other (sym (ap (λ (d : Command). d.home.0) ours ∙ h.0)))
        by_made Proposal (inr h) = back h

        by_proposal : (o : Option Proposed) → is_none o ≡ false
            → IsReasoned rule (site p j) of (acts_of j) (sent_of j) c.id (sheet j).ballot o → IsCounted j
        by_proposal None some h = absurd cc
        by_proposal (Some q) some h = by_made q.made h

    own_counted : is_made_by_proposal (sheet c.home.0).proposal ≡ true → rule.in_quorum c c.home.0 ≡ true
        → IsCounted c.home.0
    own_counted made member =
        let at = is_here c.home.0 home in
        let own = all_own rule (site p c.home.0) of (run.here (site p c.home.0) at) (acts_of c.home.0)
        (run.genuine (site p c.home.0) at) (run.to_others (site p c.home.0) at) c.id in
        counted_from c.home.0 (own (ap (λ (d : Command). d.home.0) (sym ours))
        (subst (λ (d : Command). rule.in_quorum d c.home.0 ≡ true) ours member) made)

    all_counted : ((0 < (sheet c.home.0).ballot) → ⊥) → (j : ℕ) → IsRank j → rule.in_quorum c j ≡ true → IsCounted j
    all_counted unjoined j range member = elim home_touched [
      | inl joined ↦ absurd (unjoined joined)
      | inr some ↦ by_proposal (sheet c.home.0).proposal refl some (standing c.home.0 home).reasoned
    ]
      where
        by_place : ((k : ℕ) → IsRank k → k ≢ c.home.0 → rule.in_quorum c k ≡ true → (t : ℕ)
            × IsIn (message (Process (site p c.home.0)) (Process (site p k)) (MPropose c (stamp t))) (sent_of c.home.0))
            → is_made_by_proposal (sheet c.home.0).proposal ≡ true → IsCounted j
        by_place to_members made = elim (cases_eq j c.home.0) [
          | inl same ↦ subst IsCounted (sym same)
              (own_counted made (subst (λ (k : ℕ). rule.in_quorum c k ≡ true) same member))
          | inr apart ↦
              let x = to_members j range apart member in
              member_counted j range apart member x.0 x.1
        ]

        by_made : (made : Made) → is_proposal made ≡ is_made_by_proposal (sheet c.home.0).proposal
            → HasReason rule (site p c.home.0) of (acts_of c.home.0) (sent_of c.home.0) c.id
            (sheet c.home.0).ballot made
            → IsCounted j
        by_made Recovery e h = absurd (unjoined h)
        by_made Proposal e (inl h) = by_place
            (subst
            (λ (d : Command). (k : ℕ) → IsRank k → k ≢ c.home.0 → rule.in_quorum d k ≡ true → (t : ℕ)
            × IsIn (message (Process (site p c.home.0)) (Process (site p k)) (MPropose d (stamp t))) (sent_of c.home.0))
            (sym ours) h.1) (sym e)
        by_made Proposal e (inr h) =
            let another = each_in (IsActWith (IsToAnother (site p c.home.0))) (acts_of c.home.0) (Took h.question)
            (run.to_others (site p c.home.0) (is_here c.home.0 home)) h.taken in
            absurd (subst (IsToAnother (site p c.home.0)) h.asks another (ap (λ (d : Command). d.home.0) (sym ours)))

        by_proposal : (o : Option Proposed) → (sheet c.home.0).proposal ≡ o → is_none o ≡ false
            → IsReasoned rule (site p c.home.0) of (acts_of c.home.0) (sent_of c.home.0) c.id (sheet c.home.0).ballot o
            → IsCounted j
        by_proposal None is some h = absurd cc
        by_proposal (Some q) is some h =
            by_made q.made (sym (ap (λ (o : Option Proposed). is_made_by_proposal o) is)) h

    acknowledged : (0 < (sheet c.home.0).ballot) ⊎ ((0 < ballot_put (sheet c.home.0).put)
        ⊎ ((j : ℕ) → IsRank j → rule.in_quorum c j ≡ true
        → (0 < (sheet j).ballot) ⊎ (is_some (kept_at (sheet c.home.0).acknowledged j) ≡ true)))
    acknowledged = elim (cases_lt 0 (sheet c.home.0).ballot) [
      | inl joined ↦ inl joined
      | inr unjoined ↦ elim (cases_lt 0 (ballot_put (sheet c.home.0).put)) [
        | inl put ↦ inr (inl put)
        | inr unput ↦ inr (inr (λ j range member.
            elim (all_counted (λ joined. omega (arith, joined, unjoined)) j range member) [
              | inl joined ↦ absurd (omega (arith, joined, unjoined))
              | inr (inl put) ↦ absurd (omega (arith, put, unput))
              | inr (inr rest) ↦ rest
            ]))
      ]
    ]

    stuck : IsStuck rule sheet c
    stuck = record {
      tried = tried unknown;
      put = λ j range. ((facts j range).sheets c.id).proposer.below;
      first = first unknown;
      asked = asked unknown;
      source = source unknown;
      voted = voted unknown;
      undecided = λ j range. but_known_by j range (standing j range).undecided;
      unrecovered = λ j range. but_known_by j range (standing j range).unanswered;
      home = home;
      ungathered = but_known_by c.home.0 home (standing c.home.0 home).heeded;
      acknowledged = acknowledged;
      votes = λ j range some.
          let x = put_of_rank unknown j range some in ap (λ (o : Option PutStamp). length (votes_put o)) x.is
          ∙ x.same_size;
      answers = λ j range. ((facts j range).sheets c.id).places.answered;
      acknowledgements = ((facts c.home.0 home).sheets c.id).places.acknowledgements;
    }

  -- some process of the partition knows the stamp
  pub someone_knows : IsRank c.home.0 → IsSubmitted → (k : ℕ) × IsRank k × Knows p (sheet k)
  someone_knows home submitted =
      elim (find_rank (λ k. is_some (stamp_of (sheet k) p)) script.topology.replicas) [
        | inl found ↦ (found.rank, found.in_range, found.is)
        | inr none ↦
            let unknown : (k : ℕ) → IsRank k → Knows p (sheet k) → ⊥ =
            (λ k range known. both_ways (is_some (stamp_of (sheet k) p)) (none k range) known) in
            let whole = ring_has_fast_size script.topology run.accepted.shape c home.0 home.1 in
            absurd (not_stuck rule c sheet run.accepted.shape (omega (arith, whole)) (stuck unknown home submitted))
      ]
