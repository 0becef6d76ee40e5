-- A step keeps the facts about recoveries and votes: which answers and votes count, and that what is put was sent.
-- Used for the invariant of a process.
use Rattle.std.proofs.Common.{◌≡◌, ℕ, ◌+◌, ◌<◌, inl, inr, Bool, true, false, List, ◌∷◌, ◌++◌, max, Option, Some, None, is_some, refl, sym, ap, ◌∙◌, subst, arith}
use Rattle.tp_base.proofs.Members.{in_left, map_in}
use Rattle.tp_base.proofs.Tables.{kept_replicate, kept_with, nth_replicate}
use Rattle.tp_base.specs.Lists.{IsIn}
use Rattle.tp_base.specs.Tables.{with_nth}
use Rattle.tp_base.specs.declared.names.ActorName.{ActorName}
use Rattle.tp_base.specs.declared.names.ActorName.TheVariants.{Process}
use Rattle.tp_base.specs.declared.names.CommandId.{CommandId}
use Rattle.tp_base.specs.declared.names.Made.{Made}
use Rattle.tp_base.specs.declared.names.Site.{Site}
use Rattle.tp_choice.specs.declared.answer.RecoveryAnswer.{RecoveryAnswer}
use Rattle.tp_ops.specs.declared.command.Command.{Command}
use Rattle.tp_paxos.proofs.Dealing.{first_owner}
use Rattle.tp_paxos.specs.Votes.{PutStamp, voted_too}
use Rattle.tp_rules.proofs.lists.Selections.{IfAny}
use Rattle.tp_rules.proofs.sent.SendsOfProcess.{stamp}
use Rattle.tp_rules.proofs.lists.UpTo.{in_up_to}
use Rattle.tp_rules.specs.Acts.{Act, Took}
use Rattle.tp_rules.specs.Addresses.{message, processes_of, rank_of, site}
use Rattle.tp_rules.specs.Process.{put_to_vote}
use Rattle.tp_rules.specs.Sheet.{QuorumRule, Sheet, is_member}
use Rattle.tp_topology.specs.Ballots.{next_ballot}
use Rattle.tp_topology.specs.Counting.{up_to}
use Rattle.tp_wire.specs.declared.message.Body.TheVariants.{MConsensus, MConsensusAck, MRecAck}
use Rattle.tp_wire.specs.declared.message.Message.{Message}
use Rattle.tp_facts.proofs.RuleTests.{ballot_put}
use Rattle.tp_facts.proofs.Facts.{IsHere, IsAnswerOf, IsProposer, IsPutter, KeepsCommand, WasSent}
use Rattle.tp_facts.proofs.Growing.{answer_more, proposer_more, putter_more, taken_from_more, was_sent_more}
use Rattle.tp_facts.proofs.StepCases.{SheetStep, puts_slow, counts_vote, decides_by_votes, counts_answer, puts_recovered, starts_recovery, recovery_answer}
use Rattle.tp_facts.proofs.Tables.{nth_voted}

module _ (s : QuorumRule) (me : Site) (of : CommandId → Command) (acts : List Act) where
  next_above : (own tried : ℕ) → max s.shape.replicas (max own tried) < next_ballot s.shape me.rank.0 own tried
  next_above own tried = omega arith

  -- one answer more
  proposer_with : {id : CommandId} {tried putting : ℕ} {table : List (Option RecoveryAnswer)} (m : Message) (t : ℕ)
      (made : Made) (a b : ℕ)
      → m.body ≡ MRecAck id (stamp t) made a b → tried ≡ b → IsProposer s me acts id tried table putting
      → IsProposer s me (Took m ∷ acts) id tried (with_nth table (rank_of m.from) (Some (recovery_answer m t made a)))
      putting
  proposer_with {id} {tried} {putting} {table} m t made a b e same h = record {
    own = h.own;
    answers = λ j x kept. elim (kept_with table (rank_of m.from) j (recovery_answer m t made a) x kept) [
      | inl new ↦ subst (λ (y : RecoveryAnswer). IsAnswerOf (Took m ∷ acts) id tried j y) new.1 (
        sym new.0,
        record {
          message = m;
          there = inl refl;
          from = sym new.0;
          is = e ∙ ap (λ (n : ℕ). MRecAck id (stamp t) made a n) (sym same);
        },
      )
      | inr before ↦ answer_more (Took m) x (h.answers j x before)
    ];
    below = h.below;
  }

  -- the ballot that is tried is an own one, and the answers that were counted are to it
  pub proposer_kept : {act : Act} {id : CommandId} {old new : Sheet} {out : List Message}
      → SheetStep s me act id old new out → IsHere s me
      → IsProposer s me acts id old.tried old.answers (ballot_put old.put)
      → IsProposer s me (act ∷ acts) id new.tried new.answers (ballot_put new.put)
  proposer_kept (counts_answer {m} id t made a b e can) here h = proposer_with m t made a b e can.tried h
  proposer_kept (puts_recovered {m} id t made a b c e can is enough) here h =
      let more = proposer_with m t made a b e can.tried h in
      record { own = more.own; answers = more.answers; below = omega (arith, can.tried) }
  proposer_kept {act = act} (puts_slow id t e can full slow) here h =
      let more = proposer_more s me of acts act h in
      record { own = more.own; answers = more.answers; below = omega (arith, here.rank.1) }
  proposer_kept {old = old} (starts_recovery id kept none) here h =
      let above = next_above old.ballot old.tried in
      let top : ℕ = max s.shape.replicas (max old.ballot old.tried) + 1 in
      record {
        own = inr (omega (arith, above), first_owner s.shape me.rank.0 top here.rank.0 here.rank.1 (omega arith));
        answers = λ j a kept. absurd (kept_replicate s.shape.replicas j a kept);
        below = omega (arith, above, h.below);
      }
  proposer_kept {act = act} _ here h = proposer_more s me of acts act h

  -- what is put to the vote was sent, since there is a first rank
  put_was_sent : (id : CommandId) (b t : ℕ) (o : Option Command) (sent : List Message) → IsHere s me
      → KeepsCommand of id o → is_some o ≡ true
      → WasSent (put_to_vote s.shape me b t o ++ sent) (MConsensus (of id) (stamp t) b)
  put_was_sent id b t None sent here command some = absurd cc
  put_was_sent id b t (Some c) sent here command some =
      let to : ℕ → ActorName = λ rank. Process (site me.partition.0 rank) in
      let first : IsIn (to 1) (processes_of s.shape me.partition.0) =
      map_in to (up_to s.shape.replicas) 1
      (in_up_to s.shape.replicas 1 (omega arith) (omega (arith, here.rank.0, here.rank.1))) in
      record {
        message = message (Process me) (to 1) (MConsensus c (stamp t) b);
        there = in_left (put_to_vote s.shape me b t (Some c)) sent _
            (map_in (λ to. message (Process me) to (MConsensus c (stamp t) b)) (processes_of s.shape me.partition.0)
            (to 1) first);
        is = ap (λ (d : Command). MConsensus d (stamp t) b) command.0;
      }

  member_some : (k j : ℕ) (o : Option Command) → is_member s k j o ≡ true → is_some o ≡ true
  member_some k j None e = e
  member_some k j (Some c) e = refl

  -- one vote more
  voter : {sent : List Message} {id : CommandId} (put : PutStamp) (m : Message)
      → m.body ≡ MConsensusAck id put.ballot → IsPutter of acts sent id put
      → IsPutter of (Took m ∷ acts) sent id (voted_too (rank_of m.from) put)
  voter put m e h = record {
    was_put = h.was_put;
    voters = λ j voted. elim (nth_voted put.votes (rank_of m.from) j voted) [
      | inl new ↦ record { message = m; there = inl refl; from = sym new; is = e }
      | inr before ↦ taken_from_more (Took m) (h.voters j before)
    ];
  }

  -- what is being put was sent, and the votes that were counted are for it
  pub putter_kept : {act : Act} {id : CommandId} {old new : Sheet} {out : List Message} (sent : List Message)
      → SheetStep s me act id old new out → IsHere s me
      → KeepsCommand of id old.command
      → IfAny (IsPutter of acts sent id) old.put → IfAny (IsPutter of (act ∷ acts) (out ++ sent) id) new.put
  putter_kept {old = old} sent (puts_slow {m} id t e can full slow) here command h =
      let some = member_some me.rank.0 (rank_of m.from) old.command can.member in
      record {
        was_put = put_was_sent id me.rank.0 _ old.command sent here command some;
        voters = λ j voted. let no = nth_replicate s.shape.replicas j false true voted in absurd cc;
      }
  putter_kept {old = old} sent (puts_recovered id t made a b c e can is enough) here command h = record {
    was_put = put_was_sent id b _ (Some c) sent here (subst (λ (o : Option _). KeepsCommand of id o) is command) refl;
    voters = λ j voted. let no = nth_replicate s.shape.replicas j false true voted in absurd cc;
  }
  putter_kept sent (counts_vote {m} base id put e none) here command h = voter put m e h
  putter_kept {out = out} sent (decides_by_votes {m} base id put e none enough last) here command h =
      record { was_put = was_sent_more out h.was_put; voters = (voter put m e h).voters }
  putter_kept {act = act} {id = id} {old = old} {out = out} sent _ here command h =
      putter_more s me of acts sent id act out old.put h
