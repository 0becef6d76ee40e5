-- Each message that a process took left behind what it asks for, where each was admitted and came in time.
-- Used for each process of a run in which nothing is pending.
use Rattle.std.proofs.Common.{◌≡◌, ℕ, ◌<◌, inl, inr, List, [], ◌∷◌, length, Some, sym, subst, arith}
use Rattle.std.proofs.lemmas.Bool.{cases_lt}
use Rattle.tp_base.proofs.Members.{in_left, in_right}
use Rattle.tp_base.specs.Limits.{IsFrom}
use Rattle.tp_base.specs.Lists.{Each, IsIn}
use Rattle.tp_base.specs.declared.names.CommandId.{CommandId}
use Rattle.tp_base.specs.declared.names.Site.{Site}
use Rattle.tp_facts.proofs.ActSteps.{step_of_act}
use Rattle.tp_facts.proofs.Consequences.{put_of}
use Rattle.tp_facts.proofs.Facts.{IsHere, IsGenuine, IsPutter, ProcessFacts, sent_by}
use Rattle.tp_facts.proofs.Invariant.{facts_hold}
use Rattle.tp_facts.proofs.SamePartition.{IsPeer}
use Rattle.tp_ops.specs.declared.command.Command.{Command}
use Rattle.tp_paxos.specs.Votes.{PutStamp}
use Rattle.tp_rules.proofs.lists.Selections.{IfAny}
use Rattle.tp_rules.specs.Acts.{Act, Took, Did}
use Rattle.tp_rules.specs.Addresses.{rank_of}
use Rattle.tp_rules.specs.Process.{react, state_after}
use Rattle.tp_rules.specs.Sheet.{QuorumRule}
use Rattle.tp_wire.specs.declared.message.Message.{Message}
use Rattle.tp_quiet.proofs.Onward.{act_onward, onward_itself}
use Rattle.tp_quiet.proofs.Served.{IsServed, served_stays}
use Rattle.tp_quiet.proofs.Serving.{HasPlaces, IsAdmitted, IsTimely, message_serves}

module _ (s : QuorumRule) (me : Site) (of : CommandId → Command) (here : IsHere s me) where
  -- what is known of a message at the moment when it is taken
  pub record IsTakenWell (before : List Act) (m : Message) : Type 0 where
    pub admitted : IsAdmitted s me (state_after s me before) m
    pub timely : IsTimely s me of (state_after s me before).sheets m.body
    pub rank : IsPeer m.body → IsFrom 1 s.shape.replicas (rank_of m.from)

  abbrev pub AreTakenWell : List Act → Type 0
  AreTakenWell [] = Unit {0}
  AreTakenWell (Took m ∷ before) = AreTakenWell before × IsTakenWell before m
  AreTakenWell (Did inner ∷ before) = AreTakenWell before

  taken_before : (act : Act) (before : List Act) → AreTakenWell (act ∷ before) → AreTakenWell before
  taken_before (Took n) before h = h.0
  taken_before (Did inner) before h = h

  -- what is put has a ballot
  pub put_ballot : (acts : List Act) → ProcessFacts s me of acts (sent_by s me acts) (state_after s me acts)
      → (id : CommandId) (put : PutStamp) → ((state_after s me acts).sheets id).put ≡ Some put → 0 < put.ballot
  put_ballot acts h id put is =
      let putter : IsPutter of acts (sent_by s me acts) id put =
      subst (IfAny (IsPutter of acts (sent_by s me acts) id)) is (h.sheets id).putter in
      let w = putter.was_put in
      let p = put_of h w.message (of id) (record { 0 = put.stamp }) put.ballot w.there w.is in
      elim (cases_lt s.shape.replicas put.ballot) [
        | inl above ↦ omega (arith, above)
        | inr within ↦ omega (arith, (p.first within).0, here.rank.0)
      ]

  places : (acts : List Act) (rank : ℕ) → IsFrom 1 s.shape.replicas rank
      → ProcessFacts s me of acts (sent_by s me acts) (state_after s me acts)
      → HasPlaces me.partition.0 rank (state_after s me acts).sheets
  places acts rank range h = record {
    partition = here.partition.0;
    rank_low = range.0;
    stamps = λ id. let size = (h.sheets id).places.stamps in omega (arith, here.partition.1, size);
    acknowledgements = λ id. let size = (h.sheets id).places.acknowledgements in omega (arith, range.1, size);
    answered = λ id. let size = (h.sheets id).places.answered in omega (arith, range.1, size);
    voters = λ id put is.
        let size : length put.votes ≡ s.shape.replicas =
        subst (IfAny (λ (p : PutStamp). length p.votes ≡ s.shape.replicas)) is (h.sheets id).places.voted in
        omega (arith, range.1, size);
    ballots = put_ballot acts h;
  }

  pub all_served : (acts : List Act) → Each (IsGenuine of) acts → AreTakenWell acts → (m : Message)
      → IsIn (Took m) acts
      → IsServed s me of (sent_by s me acts) m.from (state_after s me acts).sheets m.body
  all_served [] genuine taken m there = absurd there
  all_served (act ∷ before) genuine taken m (inr older) =
      let state = state_after s me before in
      let h = facts_hold s me of here before genuine.1 in
      served_stays s me of (sent_by s me before) (sent_by s me (act ∷ before)) m.from state.sheets
      (state_after s me (act ∷ before)).sheets m.body
      (λ id. act_onward s me of here before (sent_by s me before) (step_of_act s me act state) genuine.0 h.sheets id)
      (λ x there. in_right (react s me act state).1 (sent_by s me before) x there)
      (all_served before genuine.1 (taken_before act before taken) m older)
  all_served (Took n ∷ before) genuine taken m (inl same) =
      let state = state_after s me before in
      let h = facts_hold s me of here before genuine.1 in
      let is : m ≡ n = cc in
      subst
      (λ (x : Message). IsServed s me of (sent_by s me (Took n ∷ before)) x.from
      (state_after s me (Took n ∷ before)).sheets x.body) (sym is)
      (served_stays s me of (react s me (Took n) state).1 (sent_by s me (Took n ∷ before)) n.from
      (state_after s me (Took n ∷ before)).sheets (state_after s me (Took n ∷ before)).sheets n.body
      (λ id. onward_itself _) (λ x there. in_left (react s me (Took n) state).1 (sent_by s me before) x there)
      (message_serves s me of n state
      (λ peer. places before (rank_of n.from) (taken.1.rank peer) h) taken.1.admitted taken.1.timely
      (λ c. (h.sheets c).places.stamps)))
  all_served (Did inner ∷ before) genuine taken m (inl same) = absurd cc
