-- What a process keeps of a command is not left half done: what it puts and asks was sent to all ranks, a full fast
-- quorum was heeded, and each ballot that it joined was put or asked for. Each step keeps this.
-- Used for each process of a run in which nothing is pending.
use Rattle.std.proofs.Common.{◌≡◌, ◌⊎◌, ℕ, ◌<◌, ◌≤◌, inl, inr, true, false, List, [], ◌∷◌, ◌++◌, length, Option, Some, None, is_none, is_some, refl, sym, ap, subst, ◌∙◌, arith}
use Rattle.std.proofs.lemmas.Bool.{eqb-false}
use Rattle.tp_base.proofs.Members.{in_left, in_right, map_in}
use Rattle.tp_base.proofs.Tables.{kept_here}
use Rattle.tp_base.specs.Limits.{IsFrom}
use Rattle.tp_base.specs.Lists.{IsIn}
use Rattle.tp_base.specs.Tables.{with_nth}
use Rattle.tp_base.specs.declared.names.ActorName.{ActorName}
use Rattle.tp_base.specs.declared.names.ActorName.TheVariants.{Process}
use Rattle.tp_base.specs.declared.names.CommandId.{CommandId}
use Rattle.tp_base.specs.declared.names.Made.{Made}
use Rattle.tp_base.specs.declared.names.Site.{Site}
use Rattle.tp_base.specs.declared.names.Stamp.{Stamp}
use Rattle.tp_facts.proofs.AcceptorKept.{carried}
use Rattle.tp_facts.proofs.Facts.{IsGenuine, IsHere, KeepsCommand, WasTaken}
use Rattle.tp_facts.proofs.Growing.{taken_more}
use Rattle.tp_facts.proofs.StepCases.{SheetStep, submits, submits_and_acknowledges, proposes, keeps_payload, counts_acknowledgement, decides_fast, puts_slow, accepts, counts_vote, decides_by_votes, knows_already, learns, proposes_and_answers_recovery, answers_recovery, puts_recovered, starts_recovery}
use Rattle.tp_facts.proofs.Tables.{present_with}
use Rattle.tp_ops.specs.declared.command.Command.{Command}
use Rattle.tp_paxos.specs.Votes.{PutStamp}
use Rattle.tp_quorum.specs.Choice.{present}
use Rattle.tp_rules.proofs.lists.Selections.{IfAny}
use Rattle.tp_rules.proofs.sent.SendsOfProcess.{stamp}
use Rattle.tp_rules.proofs.lists.UpTo.{in_up_to}
use Rattle.tp_rules.specs.Acts.{Act, Took}
use Rattle.tp_rules.specs.Addresses.{message, processes_of, rank_of, site, to_each}
use Rattle.tp_rules.specs.Process.{asked, put_to_vote}
use Rattle.tp_rules.specs.Sheet.{QuorumRule, Sheet, is_made_by_proposal, is_member}
use Rattle.tp_topology.specs.Counting.{up_to}
use Rattle.tp_topology.specs.Shape.{fast_size}
use Rattle.tp_wire.specs.declared.message.Body.{Body}
use Rattle.tp_wire.specs.declared.message.Body.TheVariants.{MConsensus, MRec, MRecAck}
use Rattle.tp_wire.specs.declared.message.Message.{Message}
use Rattle.tp_quiet.proofs.Served.{Onward}
use Rattle.tp_quiet.proofs.Serving.{IsHeeded}

-- a recovery's question was taken, and answered
pub record HasAnswered (me : Site) (acts : List Act) (sent : List Message) (c : Command) (b : ℕ) : Type 0 where
  pub question : Message
  pub taken : IsIn (Took question) acts
  pub asks : question.body ≡ MRec c b
  pub stamp : Stamp
  pub made : Made
  pub accepted : ℕ
  pub answered : IsIn (message (Process me) question.from (MRecAck c.id stamp made accepted b)) sent

pub has_command_of_member : (s : QuorumRule) (own rank : ℕ) (o : Option Command) → is_member s own rank o ≡ true
    → is_some o ≡ true
has_command_of_member s own rank None e = absurd cc
has_command_of_member s own rank (Some c) e = refl

module _ (s : QuorumRule) (me : Site) (of : CommandId → Command) where
  -- sent to all ranks of the partition
  abbrev pub ToRanks : List Message → Body → Type 0
  ToRanks sent body = (j : ℕ) → IsFrom 1 s.shape.replicas j
      → IsIn (message (Process me) (Process (site me.partition.0 j)) body) sent

  ranks_more : (sent out : List Message) (body : Body) → ToRanks sent body → ToRanks (out ++ sent) body
  ranks_more sent out body h j range = in_right out sent _ (h j range)

  -- what is sent to each process of the partition
  ranks_here : (sent : List Message) (body : Body)
      → ToRanks (to_each (Process me) (processes_of s.shape me.partition.0) body ++ sent) body
  ranks_here sent body j range =
      in_left (to_each (Process me) (processes_of s.shape me.partition.0) body) sent
      (message (Process me) (Process (site me.partition.0 j)) body)
      (map_in (λ (to : ActorName). message (Process me) to body) (processes_of s.shape me.partition.0)
      (Process (site me.partition.0 j))
      (map_in (λ (rank : ℕ). Process (site me.partition.0 rank)) (up_to s.shape.replicas) j
      (in_up_to s.shape.replicas j range.0 range.1)))

  -- what is put was sent to all ranks

  abbrev pub IsSpread : List Message → CommandId → PutStamp → Type 0
  IsSpread sent id put = ToRanks sent (MConsensus (of id) (stamp put.stamp) put.ballot)

  pub spread_more : (sent out : List Message) (id : CommandId) (o : Option PutStamp) → IfAny (IsSpread sent id) o
      → IfAny (IsSpread (out ++ sent) id) o
  spread_more sent out id None h = tt
  spread_more sent out id (Some put) h = ranks_more sent out _ h

  put_spreads : (id : CommandId) (b t : ℕ) (o : Option Command) (sent : List Message) → KeepsCommand of id o
      → is_some o ≡ true → ToRanks (put_to_vote s.shape me b t o ++ sent) (MConsensus (of id) (stamp t) b)
  put_spreads id b t None sent h some = absurd cc
  put_spreads id b t (Some c) sent h some =
      subst (λ (d : Command). ToRanks (put_to_vote s.shape me b t (Some c) ++ sent) (MConsensus d (stamp t) b)) h.0
      (ranks_here sent (MConsensus c (stamp t) b))

  pub spread_kept : {act : Act} {id : CommandId} {old new : Sheet} {out : List Message} (sent : List Message)
      → SheetStep s me act id old new out → KeepsCommand of id old.command → IfAny (IsSpread sent id) old.put
      → IfAny (IsSpread (out ++ sent) id) new.put
  spread_kept {old = old} sent (puts_slow {m} id t e can full slow) command h =
      put_spreads id _ _ old.command sent command
      (has_command_of_member s me.rank.0 (rank_of m.from) old.command can.member)
  spread_kept {old = old} sent (puts_recovered id t made a b c e can is enough) command h =
      put_spreads id _ _ (Some c) sent (subst (KeepsCommand of id) is command) refl
  spread_kept {out = out} sent (counts_vote old id put e none) command h = ranks_more sent [] _ h
  spread_kept {out = out} sent (decides_by_votes old id put e none enough last) command h = ranks_more sent _ _ h
  spread_kept {id = id} {old = old} {out = out} sent _ command h = spread_more sent out id old.put h

  -- the ballot that is tried was asked of all ranks

  pub record IsAsked (sent : List Message) (id : CommandId) (tried : ℕ) (kept : Option Command) : Type 0 where
    pub command : is_some kept ≡ true
    pub question : ToRanks sent (MRec (of id) tried)

  abbrev pub IsTryAsked : List Message → CommandId → ℕ → Option Command → Type 0
  IsTryAsked sent id tried kept = 0 < tried → IsAsked sent id tried kept

  asks_ranks : (id : CommandId) (b : ℕ) (o : Option Command) (sent : List Message) → KeepsCommand of id o
      → is_some o ≡ true → ToRanks (asked s.shape me b o ++ sent) (MRec (of id) b)
  asks_ranks id b None sent h some = absurd cc
  asks_ranks id b (Some c) sent h some =
      subst (λ (d : Command). ToRanks (asked s.shape me b (Some c) ++ sent) (MRec d b)) h.0
      (ranks_here sent (MRec c b))

  pub asked_more : (sent out : List Message) (id : CommandId) (tried : ℕ) (o p : Option Command)
      → (is_some o ≡ true → is_some p ≡ true) → IsTryAsked sent id tried o → IsTryAsked (out ++ sent) id tried p
  asked_more sent out id tried o p keeps h = λ some.
      let x = h some in record { command = keeps x.command; question = ranks_more sent out _ x.question }

  -- a command that is kept stays
  command_stays : {act : Act} {id : CommandId} {old new : Sheet} {out : List Message}
      → SheetStep s me act id old new out
      → is_some old.command ≡ true → is_some new.command ≡ true
  command_stays (submits c t e home fresh) some = refl
  command_stays (submits_and_acknowledges c t e home fresh can) some = refl
  command_stays (proposes c floor t e le fresh) some = refl
  command_stays (keeps_payload c e) some = refl
  command_stays (accepts c t b e none le) some = refl
  command_stays (knows_already c q t e) some = refl
  command_stays (learns c q t e none last) some = refl
  command_stays (proposes_and_answers_recovery c b t e none low nothing unjoined) some = refl
  command_stays (answers_recovery c b e none low first) some = refl
  command_stays _ some = some

  -- a command that was proposed is kept
  abbrev pub IsProposedKept : Sheet → Type 0
  IsProposedKept sheet = is_none sheet.proposal ≡ false → is_some sheet.command ≡ true

  pub proposed_kept : {act : Act} {id : CommandId} {old new : Sheet} {out : List Message}
      → SheetStep s me act id old new out → IsProposedKept old → IsProposedKept new
  proposed_kept (submits c t e home fresh) h = λ some. refl
  proposed_kept (submits_and_acknowledges c t e home fresh can) h = λ some. refl
  proposed_kept (proposes c floor t e le fresh) h = λ some. refl
  proposed_kept (proposes_and_answers_recovery c b t e none low nothing unjoined) h = λ some. refl
  proposed_kept {old = old} {new = new} (keeps_payload c e) h = λ some. refl
  proposed_kept {old = old} {new = new} (accepts c t b e none le) h = λ some. refl
  proposed_kept {old = old} {new = new} (knows_already c q t e) h = λ some. refl
  proposed_kept {old = old} {new = new} (learns c q t e none last) h = λ some. refl
  proposed_kept {old = old} {new = new} (answers_recovery c b e none low first) h = λ some. refl
  proposed_kept _ h = h

  -- the command of what is put is kept
  abbrev pub IsPutKept : Sheet → Type 0
  IsPutKept sheet = is_none sheet.put ≡ false → is_some sheet.command ≡ true

  pub put_kept : {act : Act} {id : CommandId} {old new : Sheet} {out : List Message} → SheetStep s me act id old new out
      → IsPutKept old → IsPutKept new
  put_kept {old = old} (puts_slow {m} id t e can full slow) h =
      λ some. has_command_of_member s me.rank.0 (rank_of m.from) old.command can.member
  put_kept (puts_recovered id t made a b c e can is enough) h = λ some. ap (λ (o : Option Command). is_some o) is
  put_kept (counts_vote old id put e none) h = λ some. h refl
  put_kept (decides_by_votes old id put e none enough last) h = λ some. h refl
  put_kept step h = λ some. command_stays step (h some)

  pub asked_kept : {act : Act} {id : CommandId} {old new : Sheet} {out : List Message} (sent : List Message)
      → SheetStep s me act id old new out → KeepsCommand of id old.command → IsTryAsked sent id old.tried old.command
      → IsTryAsked (out ++ sent) id new.tried new.command
  asked_kept {old = old} sent (starts_recovery id some none) command h =
      λ positive. record { command = some; question = asks_ranks id _ old.command sent command some }
  asked_kept {id = id} {old = old} {new = new} {out = out} sent step command h =
      asked_more sent out id old.tried old.command new.command (command_stays step) h

  -- a full fast quorum was heeded

  few_more : (old : Sheet) (rank t : ℕ) → length (present old.acknowledged) < fast_size s.shape
      → ((length (present (with_nth old.acknowledged rank (Some t))) ≡ fast_size s.shape) → ⊥)
      → length (present (with_nth old.acknowledged rank (Some t))) < fast_size s.shape
  few_more old rank t few apart = omega (arith, present_with old.acknowledged rank t, few, apart)

  heeded_onward : (old new : Sheet) → Onward old new → new.acknowledged ≡ old.acknowledged
      → IsHeeded s me.partition.0 old → IsHeeded s me.partition.0 new
  heeded_onward old new goes same (inl known) = inl (goes.knows me.partition.0 known)
  heeded_onward old new goes same (inr (inl some)) = elim goes.put [
    | inl rises ↦ inr (inl (omega arith))
    | inr stays ↦ inr (inl (omega (arith, stays.0)))
  ]
  heeded_onward old new goes same (inr (inr few)) =
      inr (inr (subst (λ (table : List (Option ℕ)). length (present table) < fast_size s.shape) (sym same) few))

  pub heeded_kept : {act : Act} {id : CommandId} {old new : Sheet} {out : List Message}
      → SheetStep s me act id old new out → Onward old new → IsHere s me
      → me.partition.0 ≤ length old.known
      → (is_made_by_proposal old.proposal ≡ false → present old.acknowledged ≡ [])
      → IsHeeded s me.partition.0 old → IsHeeded s me.partition.0 new
  heeded_kept {old = old} (submits_and_acknowledges c t e home fresh can) goes here size none h =
      let empty : present old.acknowledged ≡ [] = none (ap is_made_by_proposal fresh) in
      let count : length (present old.acknowledged) ≡ 0 = ap (λ (xs : List ℕ). length xs) empty in
      inr (inr (omega (arith, present_with old.acknowledged me.rank.0 t, count, here.two)))
  heeded_kept {old = old} (counts_acknowledgement {m} id t e can few) goes here size none h =
      inr (inr (few_more old (rank_of m.from) t can.few (eqb-false _ (fast_size s.shape) few)))
  heeded_kept {old = old} (decides_fast {m} id t e can full fast last) goes here size none h =
      inl (ap (λ (o : Option ℕ). is_some o) (kept_here old.known me.partition.0 _ here.partition.0 size))
  heeded_kept {old = old} (puts_slow {m} id t e can full slow) goes here size none h =
      inr (inl (omega (arith, here.rank.0)))
  heeded_kept {old = old} {new = new} _ goes here size none h = heeded_onward old new goes refl h

  -- the ballot that was joined was put, or asked for

  abbrev pub IsJoinedFor : List Act → List Message → CommandId → ℕ → Type 0
  IsJoinedFor acts sent id b = ((t : ℕ) × WasTaken acts (MConsensus (of id) (stamp t) b))
      ⊎ HasAnswered me acts sent (of id) b

  pub joined_more : (act : Act) (acts : List Act) (sent out : List Message) (id : CommandId) (b : ℕ)
      → IsJoinedFor acts sent id b → IsJoinedFor (act ∷ acts) (out ++ sent) id b
  joined_more act acts sent out id b (inl put) = inl (put.0, taken_more act put.1)
  joined_more act acts sent out id b (inr by) = inr (record {
    question = by.question;
    taken = inr by.taken;
    asks = by.asks;
    stamp = by.stamp;
    made = by.made;
    accepted = by.accepted;
    answered = in_right out sent _ by.answered;
  })

  answers_question : (m : Message) (acts : List Act) (sent rest : List Message) (c : Command) (b : ℕ) (x : Stamp)
      (made : Made) (a : ℕ) → m.body ≡ MRec c b → c ≡ of c.id
      → HasAnswered me (Took m ∷ acts) (message (Process me) m.from (MRecAck c.id x made a b) ∷ rest ++ sent)
      (of c.id) b
  answers_question m acts sent rest c b x made a e ours =
      subst
      (λ (d : Command). HasAnswered me (Took m ∷ acts)
      (message (Process me) m.from (MRecAck c.id x made a b) ∷ rest ++ sent) d b) ours
      (record {
        question = m;
        taken = inl refl;
        asks = e;
        stamp = x;
        made = made;
        accepted = a;
        answered = inl refl;
      })

  pub joined_kept : {act : Act} {id : CommandId} {old new : Sheet} {out : List Message} (acts : List Act)
      (sent : List Message) → SheetStep s me act id old new out → IsGenuine of act
      → (0 < old.ballot → IsJoinedFor acts sent id old.ballot)
      → 0 < new.ballot → IsJoinedFor (act ∷ acts) (out ++ sent) id new.ballot
  joined_kept acts sent (accepts {m} c t b e none le) genuine h = λ some. inl (
    t,
    record {
      message = m;
      there = inl refl;
      is = e ∙ ap (λ (d : Command). MConsensus d (stamp t) b) (carried of m _ e genuine).0;
    },
  )
  joined_kept acts sent (proposes_and_answers_recovery {m} c b t e none low nothing unjoined) genuine h =
      λ some. inr (answers_question m acts sent _ c b _ _ _ e (carried of m _ e genuine).0)
  joined_kept acts sent (answers_recovery {m} c b e none low first) genuine h =
      λ some. inr (answers_question m acts sent [] c b _ _ _ e (carried of m _ e genuine).0)
  joined_kept {act = act} {id = id} {old = old} {out = out} acts sent _ genuine h =
      λ some. joined_more act acts sent out id old.ballot (h some)
