-- What a step sends is true of the new sheet, is the process's own, and is new.
-- Used for the invariant of a process.
use Rattle.std.proofs.Common.{◌≡◌, ℕ, ◌<◌, inl, inr, List, ◌∷◌, ◌++◌, Option, Some, None, refl, sym, ap, ◌∙◌, subst, arith}
use Rattle.std.proofs.lemmas.Bool.{eqb-true}
use Rattle.tp_base.proofs.Each.{each_append}
use Rattle.tp_base.specs.Lists.{Each}
use Rattle.tp_base.specs.declared.names.ActorName.TheVariants.{Process}
use Rattle.tp_base.specs.declared.names.CommandId.{CommandId}
use Rattle.tp_base.specs.declared.names.Site.{Site}
use Rattle.tp_base.specs.declared.names.Made.TheVariants.{Proposal}
use Rattle.tp_choice.specs.Choosing.{recovery_choice}
use Rattle.tp_ops.specs.declared.command.Command.{Command}
use Rattle.tp_paxos.specs.Votes.{voted_too}
use Rattle.tp_quorum.specs.Choice.{present, greatest}
use Rattle.tp_rules.proofs.sent.SendsOfProcess.{bumps_send, commit_messages_send, each_to, proposals_send, put_to_vote_sends, stamp}
use Rattle.tp_rules.specs.Acts.{Act, Took}
use Rattle.tp_rules.specs.Addresses.{rank_of}
use Rattle.tp_rules.specs.Process.{asked, bumps, commit_messages, proposals, put_to_vote}
use Rattle.tp_rules.specs.Sheet.{QuorumRule, Sheet, command_or}
use Rattle.tp_topology.specs.Ballots.{next_ballot}
use Rattle.tp_wire.specs.declared.message.Body.{Body}
use Rattle.tp_wire.specs.declared.message.Body.TheVariants.{MSubmit, MConsensus, MConsensusAck, MRec, MPromises}
use Rattle.tp_wire.specs.declared.message.Message.{Message}
use Rattle.tp_facts.proofs.RuleTests.{ballot_put}
use Rattle.tp_facts.proofs.AcceptorKept.{at_home, carried}
use Rattle.tp_facts.proofs.Facts.{IsHere, SheetFacts, IsCommandOf, KeepsCommand, IsAnswerOf, IsGenuine, PutsSame, IsTrue}
use Rattle.tp_facts.proofs.FastPathKept.{member_is}
use Rattle.tp_facts.proofs.Later.{IsNew, Later, each_body, recovers_above}
use Rattle.tp_facts.proofs.StepCases.{IsFinal, untold, final, SheetStep, submits, submits_and_acknowledges, proposes, decides_fast, puts_slow, accepts, decides_by_votes, learns, proposes_and_answers_recovery, answers_recovery, puts_recovered, starts_recovery}
use Rattle.tp_facts.proofs.AnswersTrue.{IsOld, answer_true, bumps_outside, old_outside}
use Rattle.tp_facts.proofs.Facts.{TellsPromises}
use Rattle.tp_base.specs.declared.names.Pair.{Pair}

-- what a step does to a sheet announces no promises, and is new
abbrev pub IsNewHere : CommandId → Sheet → Body → Type 0
IsNewHere id old (MPromises lo hi pairs) = ⊥
IsNewHere id old body = IsNew id old body

-- so it is new
pub new_body : (id : CommandId) (old : Sheet) (body : Body) → IsNewHere id old body → IsNew id old body
new_body id old (MPromises lo hi pairs) h = absurd h
new_body id old (MConsensusAck i n) h = h
new_body id old (MConsensus c x n) h = h
new_body id old _ h = tt

-- and right as an announcement
pub no_announcement : (id : CommandId) (old : Sheet) (told : ℕ) (attached : List Pair) (body : Body)
    → IsNewHere id old body
    → TellsPromises told attached body
no_announcement id old told attached (MPromises lo hi pairs) h = absurd h
no_announcement id old told attached _ h = tt

-- a message of the process that is true and new
pub record IsSound (s : QuorumRule) (me : Site) (of : CommandId → Command) (acts : List Act) (all : List Message)
    (id : CommandId) (old new : Sheet) (m : Message) : Type 0 where
  pub true : IsTrue s me of acts all id new m.body
  pub from : m.from ≡ Process me
  pub new_here : IsNewHere id old m.body

-- a command that is kept is the one of the identifier
kept_is : (of : CommandId → Command) (id : CommandId) (o : Option Command) (c : Command) → KeepsCommand of id o
    → o ≡ Some c → IsCommandOf of id c
kept_is of id o c h e = subst (λ (x : Option _). KeepsCommand of id x) e h

module _ (s : QuorumRule) (me : Site) (of : CommandId → Command) (acts : List Act) (sent : List Message)
    (here : IsHere s me) where
  abbrev Sound : Act → List Message → CommandId → Sheet → Sheet → Message → Type 0
  Sound act out id old new m = IsSound s me of (act ∷ acts) (out ++ sent) id old new m

  -- what is told to the site's executor
  final_sound : (act : Act) (all : List Message) (id : CommandId) (old sheet : Sheet) (out : List Message)
      → IsFinal s.shape me sheet out
      → KeepsCommand of id sheet.command → Each (Sound act all id old sheet) out
  final_sound act all id old sheet _ untold command = tt
  final_sound act all id old sheet _ (final c t some is) command =
      (record { true = ((kept_is of id sheet.command c command some).1, is); from = refl; new_here = tt }, tt)

  -- what is put to the vote now is alone at its ballot, which is above what was put
  puts_alone : (id : CommandId) (old : Sheet) (t b : ℕ) (o : Option Command) → ballot_put old.put < b
      → Each (λ m. IsOld id old m.body) sent
      → Each (λ m. PutsSame id t b m.body) (put_to_vote s.shape me b t o ++ sent)
  puts_alone id old t b o above before =
      each_append (λ (m : Message). PutsSame id t b m.body) (put_to_vote s.shape me b t o) sent
      (put_to_vote_sends (λ (m : Message). PutsSame id t b m.body) me s.shape b t o (λ d to some same at. refl))
      (each_body (IsOld id old) (PutsSame id t b) go sent before)
    where
      go : (body : Body) → IsOld id old body → PutsSame id t b body
      go (MConsensus c x n) k = λ same at. let low = k same in absurd (omega arith)
      go _ k = tt

  -- a bump says nothing of the command
  bumps_sound : (act : Act) (all : List Message) (id : CommandId) (old new : Sheet) (c : Command) (t : ℕ)
      → Each (Sound act all id old new) (bumps s.shape me c t)
  bumps_sound act all id old new c t =
      bumps_send (Sound act all id old new) me s.shape c t (λ to. record { true = tt; from = refl; new_here = tt })

  -- the home's proposal
  submits_sound : (m : Message) (old : Sheet) (all : List Message) (new : Sheet) (c : Command) (t : ℕ)
      → m.body ≡ MSubmit c → c.home.0 ≡ me.rank.0 → IsGenuine of (Took m)
      → new.proposal ≡ Some (record { stamp = t; made = Proposal })
      → Each (Sound (Took m) all c.id old new) (proposals s me c t ++ bumps s.shape me (command_or c old) t)
  submits_sound m old all new c t e home g is =
      each_append (Sound (Took m) all c.id old new) (proposals s me c t) (bumps s.shape me (command_or c old) t)
      (proposals_send (Sound (Took m) all c.id old new) me s c t
      (λ to. record {
        true = (refl, at_home c (of c.id) _ (carried of m _ e g).0 home, is);
        from = refl;
        new_here = tt;
      })
      (λ to. record { true = tt; from = refl; new_here = tt }))
      (bumps_sound (Took m) all c.id old new (command_or c old) t)

  -- what each step sends
  pub sent_sound : {act : Act} {id : CommandId} {old new : Sheet} {out : List Message}
      → SheetStep s me act id old new out → IsGenuine of act → SheetFacts s me of acts sent id old
      → SheetFacts s me of (act ∷ acts) (out ++ sent) id new → Later s old new → Each (λ m. IsOld id old m.body) sent
      → Each (Sound act out id old new) out
  sent_sound {old = old} {new = new} {out = out} (submits {m} c t e home fresh) g h k goes before =
      submits_sound m old out new c t e home g refl
  sent_sound {old = old} {new = new} {out = out} (submits_and_acknowledges {m} c t e home fresh can) g h k goes before =
      submits_sound m old out new c t e home g refl
  sent_sound {act = act} {old = old} {new = new} {out = out} (proposes c floor t e le fresh) g h k goes before = (
    record {
      true = (refl, refl);
      from = refl;
      new_here = tt;
    },
    bumps_sound act out c.id old new (command_or c old) t,
  )
  sent_sound {act = act} {old = old} {new = new} {out = out}
      (decides_fast {m = m} {out = rest} id t e can full fast last) g h k goes before =
      let top : ℕ = greatest (present new.acknowledged) in
      each_append (Sound act out id old new) (commit_messages s.shape me old.command top) rest
      (commit_messages_send (Sound act out id old new) me s.shape old.command top (λ c to some. record {
        true = (
          (kept_is of id old.command c h.command some).1,
          refl,
          inr (refl, inl ((eqb-true _ _ full, fast), refl)),
        );
        from = refl;
        new_here = tt;
      }))
      (final_sound act out id old new rest last h.command)
  sent_sound {act = act} {old = old} {new = new} {out = out} (puts_slow {m} id t e can full slow) g h k goes before =
      let top : ℕ = greatest (present new.acknowledged) in
      let above : ballot_put old.put < me.rank.0 = omega (arith, can.putting, here.rank.0) in
      put_to_vote_sends (Sound act out id old new) me s.shape me.rank.0 top old.command (λ c to some. record {
        true = (
          (kept_is of id old.command c h.command some).1,
          record {
            below = omega arith;
            same = λ at. refl;
            alone = puts_alone id old top me.rank.0 old.command above before;
            first = λ low. (
              refl,
              (member_is s me of acts me.rank.0 (rank_of m.from) id old.command h.command can.member).0,
              eqb-true _ _ full,
              refl,
            );
            later = λ high. absurd (omega (arith, high, here.rank.1));
          },
        );
        from = refl;
        new_here = λ same. above;
      })
  sent_sound (accepts {m} c t b e none le) g h k goes before =
      let both = carried of m _ e g in (
        record {
          true = (
            refl,
            omega (arith, both.1),
            omega arith,
            (
              t,
              record {
                message = m;
                there = inl refl;
                is = e ∙ ap (λ (d : Command). MConsensus d (stamp t) b) both.0;
              },
            ),
          );
          from = refl;
          new_here = λ same. le;
        },
        tt,
      )
  sent_sound {act = act} {old = old} {new = new} {out = out}
      (decides_by_votes {m = m} {out = rest} base id put e none enough last) g h k goes before =
      each_append (Sound act out id old new) (commit_messages s.shape me old.command put.stamp) rest
      (commit_messages_send (Sound act out id old new) me s.shape old.command put.stamp (λ c to is. record {
        true = (
          (kept_is of id old.command c h.command is).1,
          refl,
          inr (
            refl,
            inr (
              put.ballot,
              k.putter.was_put,
              ((voted_too (rank_of m.from) put).votes, enough, k.places.voted, k.putter.voters),
            ),
          ),
        );
        from = refl;
        new_here = tt;
      }))
      (final_sound act out id old new rest last h.command)
  sent_sound {act = act} {old = old} {new = new} {out = out} (learns c q t e none last) g h k goes before =
      final_sound act out c.id old new out last k.command
  sent_sound {act = act} {old = old} {new = new} {out = out}
      (proposes_and_answers_recovery {m} c b t e none low nothing zero) g h k goes before = (
        record {
          true = (
            refl,
            answer_true s me of acts sent act (out ++ sent) new b h refl refl refl refl none low (λ _. refl) (
              tt,
              bumps_outside s me sent c.id new.accepted_ballot b (command_or c old) t
                  (old_outside sent c.id old b before),
            ),
          );
          from = refl;
          new_here = tt;
        },
        bumps_sound act out c.id old new (command_or c old) t,
      )
  sent_sound {act = act} {old = old} {new = new} {out = out} (answers_recovery {m} c b e none low first) g h k goes
      before = (
        record {
          true = (
            refl,
            answer_true s me of acts sent act (out ++ sent) new b h refl refl refl refl none low
                (λ zero. k.acceptor.proposed (omega (arith, low)) zero) (tt, old_outside sent c.id old b before),
          );
          from = refl;
          new_here = tt;
        },
        tt,
      )
  sent_sound {act = act} {old = old} {new = new} {out = out} (puts_recovered {m} id t made a b c e can is enough) g h k
      goes before =
      let top : ℕ = recovery_choice (s.in_quorum c) c.home.0 (present new.answers) in
      let command : IsCommandOf of id c = kept_is of id old.command c h.command is in
      let own = recovers_above s me of acts h.proposer can.tried (carried of m _ e g).1 in
      let above : ballot_put old.put < b =
      elim goes.putting [ inl same ↦ absurd (omega (arith, same.0, can.putting)) | inr above ↦ above ] in
      put_to_vote_sends (Sound act out id old new) me s.shape b top (Some c) (λ d to some. record {
        true = (
          let same : c ≡ d = cc in ap (λ (x : Command). x.id) (sym same) ∙ command.1,
          record {
            below = omega arith;
            same = λ at. refl;
            alone = puts_alone id old top b (Some c) above before;
            first = λ low. absurd (omega (arith, own.0, low));
            later = λ _. (
              own.1,
              record {
                table = new.answers;
                places = k.places.answered;
                enough = enough;
                answers =
                    λ j x kept. subst (λ (n : ℕ). IsAnswerOf (act ∷ acts) id n j x) can.tried
                    (k.proposer.answers j x kept);
                choice = ap (λ (x : Command). recovery_choice (s.in_quorum x) x.home.0 (present new.answers)) command.0;
              },
            );
          },
        );
        from = refl;
        new_here = λ same. above;
      })
  sent_sound {act = act} {old = old} {new = new} {out = out} (starts_recovery id kept none) g h k goes before =
      go old.command
    where
      go : (o : Option Command)
          → Each (Sound act out id old new) (asked s.shape me (next_ballot s.shape me.rank.0 old.ballot old.tried) o)
      go None = tt
      go (Some c) =
          each_to (Sound act out id old new) (Process me) _
          (MRec c (next_ballot s.shape me.rank.0 old.ballot old.tried))
          (λ to. record { true = tt; from = refl; new_here = tt })
  sent_sound _ g h k goes before = tt
