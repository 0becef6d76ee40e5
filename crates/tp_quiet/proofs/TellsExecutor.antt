-- A process that knows the stamps of all partitions that a command accesses has told its executor the command's stamp,
-- and its clock is there. Each act keeps this.
-- Used for what executors know in a run in which nothing is pending.
use Rattle.std.proofs.Common.{◌≡◌, ℕ, ◌≤◌, inl, inr, true, false, List, [], ◌∷◌, ◌++◌, map, max, Option, Some, None, is_some, refl, sym, ap, subst, ◌∙◌, arith}
use Rattle.std.specs.Prelude.{◌&&◌, is_none, nat_lt, replicate, unwrap_or}
use Rattle.std.specs.List.{list_all}
use Rattle.std.proofs.lemmas.Bool.{and_from, and_parts, cond_both, cond-true}
use Rattle.tp_base.proofs.Members.{in_either, in_left, in_right}
use Rattle.tp_base.proofs.SameNames.{same_id_is}
use Rattle.tp_base.specs.Limits.{STAMP_LIMIT}
use Rattle.tp_base.specs.Lists.{Each, IsIn}
use Rattle.tp_base.specs.Names.{same_id, same_name}
use Rattle.tp_base.specs.declared.names.ActorName.{ActorName}
use Rattle.tp_base.specs.declared.names.ActorName.TheVariants.{Executor, Process}
use Rattle.tp_base.specs.declared.names.CommandId.{CommandId}
use Rattle.tp_base.specs.declared.names.Site.{Site}
use Rattle.tp_facts.proofs.AcceptorKept.{carried}
use Rattle.tp_facts.proofs.ActSteps.{step_of_act}
use Rattle.tp_facts.proofs.Facts.{IsGenuine, IsHere, KeepsCommand, sent_by}
use Rattle.tp_facts.proofs.Invariant.{facts_hold}
use Rattle.tp_facts.proofs.RuleTests.{can_acknowledge_is}
use Rattle.tp_facts.proofs.StepCases.{SheetStep, decides_fast, decides_by_votes, learns, ProcessStep, does_nothing, bumps_clock, announces, passes_commit_on, changes_sheet, attaches_proposal}
use Rattle.tp_base.proofs.Tables.{kept_replicate}
use Rattle.tp_ops.specs.Parts.{is_accessed}
use Rattle.tp_ops.specs.declared.command.Command.{Command}
use Rattle.tp_paxos.specs.Votes.{PutStamp, is_put_at}
use Rattle.tp_quorum.specs.Choice.{fast_choice, greatest, is_fast, present}
use Rattle.tp_quorum.specs.declared.choice.FastChoice.{FastChoice}
use Rattle.tp_quorum.specs.declared.choice.FastChoice.TheVariants.{Fast, Slow}
use Rattle.tp_rules.proofs.sent.SendsOfProcess.{stamp}
use Rattle.tp_rules.specs.Acts.{Act, Took, Did}
use Rattle.tp_rules.specs.Addresses.{accessed, is_body_at, is_name_of, message, rank_of}
use Rattle.tp_rules.specs.Process.{ProcessState, Step, commit_messages, conclude_fast_path, decided, finished, follow_choice, learned, on_body, on_commit, on_consensus_ack, on_propose_ack, react, state_after, voted, with_room, with_sheet}
use Rattle.tp_rules.specs.Sheet.{QuorumRule, Sheet, acknowledged, blank, can_acknowledge, can_vote, final_stamp, greatest_known, is_full, putting, stamp_decided, stamp_of, stamps_of, with_command, with_stamp, with_vote}
use Rattle.tp_base.specs.Tables.{kept_at}
use Rattle.tp_wire.specs.declared.message.Body.{Body}
use Rattle.tp_wire.specs.declared.message.Body.TheVariants.{MCommit, MCommitted, MConsensusAck, MProposeAck}
use Rattle.tp_wire.specs.declared.message.Message.{Message}
use Rattle.tp_quiet.proofs.AllStanding.{all_standing}
use Rattle.tp_quiet.proofs.Counts.{IsActWith}
use Rattle.tp_quiet.proofs.EachSheet.{each_sheet}
use Rattle.tp_quiet.proofs.Served.{Knows}
use Rattle.tp_quiet.proofs.Standing.{has_command_of_member}
use Rattle.tp_topology.specs.Shape.{IsShape}

-- a message by which no stamp is learned
abbrev IsNoLearning : Body → Type 0
IsNoLearning (MProposeAck id t) = ⊥
IsNoLearning (MConsensusAck id b) = ⊥
IsNoLearning (MCommit c q t) = ⊥
IsNoLearning _ = Unit {0}

all_known_some : (sheet : Sheet) (qs : List ℕ) → ((q : ℕ) → IsIn q qs → Knows q sheet)
    → list_all is_some (map (stamp_of sheet) qs) ≡ true
all_known_some sheet [] h = refl
all_known_some sheet (q ∷ qs) h = and_from (is_some (stamp_of sheet q)) (list_all is_some (map (stamp_of sheet) qs))
    (h q (inl refl)) (all_known_some sheet qs (λ x there. h x (inr there)))

-- the clock goes on
pub clock_grows : {s : QuorumRule} {me : Site} {act : Act} {state : ProcessState} {moved : Step}
    → ProcessStep s me act state moved → state.clock ≤ moved.0.clock
clock_grows does_nothing = omega arith
clock_grows (bumps_clock clock le) = le
clock_grows announces = omega arith
clock_grows (passes_commit_on c b t by e known) = omega arith
clock_grows (changes_sheet clock le step same) = le
clock_grows (attaches_proposal t made lt step none is) = omega (arith, lt)

module _ (s : QuorumRule) (me : Site) (of : CommandId → Command) where
  -- the stamp was told to the executor, and the clock is there
  pub record IsFinalTold (sent : List Message) (clock : ℕ) (id : CommandId) : Type 0 where
    pub final : ℕ
    pub told : IsIn (message (Process me) (Executor me) (MCommitted (of id) (stamp final))) sent
    pub low : final ≤ clock

  -- where all stamps of a command that accesses this partition are known
  abbrev pub TellsFinal : List Message → ℕ → CommandId → Sheet → Type 0
  TellsFinal sent clock id sheet = IsIn me.partition.0 (accessed s.shape (of id))
      → ((q : ℕ) → IsIn q (accessed s.shape (of id)) → Knows q sheet) → IsFinalTold sent clock id

  module _ (state : ProcessState) (sent : List Message)
      (h : (id : CommandId) → TellsFinal sent state.clock id (state.sheets id)) where
    abbrev TellsAfter : Step → Type 0
    TellsAfter moved = (id : CommandId) → TellsFinal (moved.1 ++ sent) moved.0.clock id (moved.0.sheets id)

    -- where no more is known
    tells_later : (out : List Message) (clock : ℕ) (id : CommandId) (sheet : Sheet)
        → sheet.known ≡ (state.sheets id).known → state.clock ≤ clock → TellsFinal (out ++ sent) clock id sheet
    tells_later out clock id sheet same le = λ here all.
        let old = h id here (λ q among.
        subst (λ (table : List (Option ℕ)). is_some (kept_at table q) ≡ true) same (all q among)) in
        record { final = old.final; told = in_right out sent _ old.told; low = omega (arith, le, old.low) }

    with_sheet_tells : (id : CommandId) (sheet : Sheet) (out : List Message) → sheet.known ≡ (state.sheets id).known
        → TellsAfter (with_sheet id sheet state, out)
    with_sheet_tells id sheet out same = λ other.
        cond_both (same_id id other) sheet (state.sheets other) (TellsFinal (out ++ sent) state.clock other)
        (λ y. tells_later out state.clock other sheet
        (subst (λ (i : CommandId). sheet.known ≡ (state.sheets i).known) (same_id_is id other y) same) (omega arith))
        (λ n. tells_later out state.clock other (state.sheets other) refl (omega arith))

    -- a stamp that isn't final misses one
    not_final : (id : CommandId) (c : Command) (sheet : Sheet) → c ≡ of id → final_stamp s.shape sheet (Some c) ≡ None
        → ((q : ℕ) → IsIn q (accessed s.shape (of id)) → Knows q sheet) → ⊥
    not_final id c sheet ours none all =
        let stamps : List (Option ℕ) = stamps_of s.shape sheet c in
        let whole : list_all is_some stamps ≡ true = all_known_some sheet (accessed s.shape c) (λ q among.
        all q (subst (λ (d : Command). IsIn q (accessed s.shape d)) ours among)) in
        let some : greatest_known stamps ≡ Some (greatest (present stamps)) =
        cond-true (list_all is_some stamps) (Some (greatest (present stamps))) None whole in
        absurd (let wrong : None ≡ Some (greatest (present stamps)) = sym none ∙ some in cc)

    finished_tells : (id : CommandId) (sheet : Sheet) (o : Option Command) (last : Option ℕ)
        → final_stamp s.shape sheet o ≡ last → KeepsCommand of id o → is_some o ≡ true
        → TellsAfter (finished me id sheet o last state)
    finished_tells id sheet None last is keeps some = absurd cc
    finished_tells id sheet (Some c) None is keeps some = λ other.
        cond_both (same_id id other) sheet (state.sheets other) (TellsFinal sent state.clock other)
        (λ y here all. absurd (not_final other c sheet
        (keeps.0 ∙ ap (λ (i : CommandId). of i) (same_id_is id other y)) is all))
        (λ n. tells_later [] state.clock other (state.sheets other) refl (omega arith))
    finished_tells id sheet (Some c) (Some t) is keeps some = λ other.
        let out : List Message = message (Process me) (Executor me) (MCommitted c (stamp t)) ∷ [] in
        cond_both (same_id id other) sheet (state.sheets other) (TellsFinal (out ++ sent) (max t state.clock) other)
        (λ y here all. record {
          final = t;
          told =
              inl (ap (λ (d : Command). message (Process me) (Executor me) (MCommitted d (stamp t)))
              (sym (keeps.0 ∙ ap (λ (i : CommandId). of i) (same_id_is id other y))));
          low = omega arith;
        })
        (λ n. tells_later out (max t state.clock) other (state.sheets other) refl (omega arith))

    learned_tells : (id : CommandId) (q t : ℕ) (sheet : Sheet) → KeepsCommand of id sheet.command
        → is_some sheet.command ≡ true → sheet.known ≡ (state.sheets id).known
        → TellsAfter (learned s.shape me id q t sheet state)
    learned_tells id q t sheet keeps some same =
        let next : Sheet = with_stamp q t sheet in
        cond_both (is_some (stamp_of sheet q)) (with_sheet id sheet state, [])
        (finished me id next next.command (final_stamp s.shape next next.command) state) TellsAfter
        (λ y. with_sheet_tells id sheet [] same)
        (λ n. finished_tells id next next.command (final_stamp s.shape next next.command) refl keeps some)

    decided_tells : (id : CommandId) (t : ℕ) (sheet : Sheet) → KeepsCommand of id sheet.command
        → is_some sheet.command ≡ true → sheet.known ≡ (state.sheets id).known
        → TellsAfter (decided s.shape me id t sheet state)
    decided_tells id t sheet keeps some same = λ other here all.
        let moved : Step = learned s.shape me id me.partition.0 t sheet state in
        let commits : List Message = commit_messages s.shape me sheet.command t in
        let new = learned_tells id me.partition.0 t sheet keeps some same other here all in
        record {
          final = new.final;
          told = elim (in_either moved.1 sent _ new.told) [
            | inl now ↦ in_left (commits ++ moved.1) sent _ (in_right commits moved.1 _ now)
            | inr before ↦ in_right (commits ++ moved.1) sent _ before
          ];
          low = new.low;
        }

    -- the rules by which stamps are learned

    choice_tells : (id : CommandId) (sheet : Sheet) → KeepsCommand of id sheet.command → is_some sheet.command ≡ true
        → sheet.known ≡ (state.sheets id).known
        → TellsAfter (follow_choice s me id (fast_choice s.shape (present sheet.acknowledged)) sheet state)
    unfolding fast_choice
    choice_tells id sheet keeps some same =
        let t : ℕ = greatest (present sheet.acknowledged) in
        cond_both (is_fast s.shape (present sheet.acknowledged)) (Fast (record { 0 = t })) (Slow (record { 0 = t }))
        (λ (choice : FastChoice). TellsAfter (follow_choice s me id choice sheet state))
        (λ y. decided_tells id t sheet keeps some same)
        (λ n. with_sheet_tells id (putting s.shape me.rank.0 t sheet) _ same)

    propose_ack_tells : (from : ActorName) (id : CommandId) (t : ℕ) → KeepsCommand of id (state.sheets id).command
        → TellsAfter (on_propose_ack s me from id t state)
    propose_ack_tells from id t keeps =
        let old : Sheet = state.sheets id in
        let new : Sheet = acknowledged (rank_of from) t old in
        cond_both (can_acknowledge s me.partition.0 me.rank.0 (rank_of from) old) (conclude_fast_path s me id new state)
        (state, []) TellsAfter
        (λ y. cond_both (is_full s.shape new)
        (follow_choice s me id (fast_choice s.shape (present new.acknowledged)) new state) (with_sheet id new state, [])
        TellsAfter
        (λ full. choice_tells id new keeps (has_command_of_member s me.rank.0 (rank_of from) old.command
        (can_acknowledge_is s me.partition.0 me.rank.0 (rank_of from) old y).member) refl)
        (λ few. with_sheet_tells id new [] refl))
        (λ n. h)

    put_some : (b : ℕ) (o : Option PutStamp) → is_put_at b o ≡ true → is_none o ≡ false
    put_some b None e = absurd cc
    put_some b (Some put) e = refl

    voted_tells : (id : CommandId) (o : Option ℕ) (sheet : Sheet) → KeepsCommand of id sheet.command
        → is_some sheet.command ≡ true → sheet.known ≡ (state.sheets id).known
        → TellsAfter (voted s me id o sheet state)
    voted_tells id None sheet keeps some same = with_sheet_tells id sheet [] same
    voted_tells id (Some t) sheet keeps some same = decided_tells id t sheet keeps some same

    vote_tells : (from : ActorName) (id : CommandId) (b : ℕ) → KeepsCommand of id (state.sheets id).command
        → (is_none (state.sheets id).put ≡ false → is_some (state.sheets id).command ≡ true)
        → TellsAfter (on_consensus_ack s me from id b state)
    vote_tells from id b keeps put =
        let old : Sheet = state.sheets id in
        let new : Sheet = with_vote (rank_of from) old in
        cond_both (can_vote me.partition.0 b old) (voted s me id (stamp_decided s.shape new) new state)
        (state, []) TellsAfter
        (λ y. voted_tells id (stamp_decided s.shape new) new keeps
        (put (put_some b old.put (and_parts (is_none (stamp_of old me.partition.0)) (is_put_at b old.put) y).1)) refl)
        (λ n. h)

    kept_or : (c : Command) (o : Option Command) → c ≡ of c.id → KeepsCommand of c.id o
        → KeepsCommand of c.id (Some (unwrap_or o c))
    kept_or c None ours keeps = (ours, refl)
    kept_or c (Some d) ours keeps = keeps

    commit_tells : (c : Command) (q t : ℕ) → c ≡ of c.id → KeepsCommand of c.id (state.sheets c.id).command
        → TellsAfter (on_commit s me c q t state)
    commit_tells c q t ours keeps =
        let old : Sheet = state.sheets c.id in
        cond_both (is_accessed s.shape.partitions c q) (learned s.shape me c.id q t (with_command c old) state)
        (state, [])
        TellsAfter
        (λ y. learned_tells c.id q t (with_command c old) (kept_or c old.command ours keeps) refl refl)
        (λ n. h)

    admitted_tells : (m : Message) → TellsAfter (on_body s me m.from m.body state)
        → TellsAfter (react s me (Took m) state)
    admitted_tells m goes =
        let moved : Step = on_body s me m.from m.body state in
        cond_both (same_name m.to (Process me) && is_name_of s.shape m.from && is_body_at s.shape me.partition.0 m.body)
        (with_room state moved) (state, []) TellsAfter
        (λ y. cond_both (nat_lt moved.0.clock STAMP_LIMIT) moved (state, []) TellsAfter (λ room. goes) (λ none. h))
        (λ n. h)

    known_same : {act : Act} {id : CommandId} {old new : Sheet} {out : List Message} → SheetStep s me act id old new out
        → IsActWith IsNoLearning act → new.known ≡ old.known
    known_same (decides_fast {m} id t e can full fast last) other = absurd (subst IsNoLearning e other)
    known_same (decides_by_votes {m} base id put e none enough last) other = absurd (subst IsNoLearning e other)
    known_same (learns {m} c q t e none last) other = absurd (subst IsNoLearning e other)
    known_same _ other = refl

    other_tells : (act : Act) → IsActWith IsNoLearning act → TellsAfter (react s me act state)
    other_tells act other =
        let moved : Step = react s me act state in
        let step = step_of_act s me act state in
        let same : (id : CommandId) → (moved.0.sheets id).known ≡ (state.sheets id).known =
        each_sheet (λ out i sheet. sheet.known ≡ (state.sheets i).known) s me act state moved step
        (λ i new out change. known_same change other) (λ out i. refl) in
        λ id. tells_later moved.1 moved.0.clock id (moved.0.sheets id) (same id) (clock_grows step)

    pub act_tells_final : (act : Act) → IsGenuine of act
        → ((id : CommandId) → KeepsCommand of id (state.sheets id).command)
        → ((id : CommandId) → is_none (state.sheets id).put ≡ false → is_some (state.sheets id).command ≡ true)
        → TellsAfter (react s me act state)
    act_tells_final (Did inner) genuine keeps put = other_tells (Did inner) tt
    act_tells_final (Took m) genuine keeps put = by_body m.body refl
      where
        goes_on : (body : Body) → m.body ≡ body → TellsAfter (on_body s me m.from body state)
            → TellsAfter (react s me (Took m) state)
        goes_on body e goes =
            admitted_tells m (subst (λ (b : Body). TellsAfter (on_body s me m.from b state)) (sym e) goes)

        by_body : (body : Body) → m.body ≡ body → TellsAfter (react s me (Took m) state)
        by_body (MProposeAck id t) e = goes_on (MProposeAck id t) e (propose_ack_tells m.from id t.0 (keeps id))
        by_body (MConsensusAck id b) e = goes_on (MConsensusAck id b) e (vote_tells m.from id b (keeps id) (put id))
        by_body (MCommit c q t) e =
            goes_on (MCommit c q t) e (commit_tells c q.0 t.0 (carried of m _ e genuine).0 (keeps c.id))
        by_body body e = other_tells (Took m) (subst IsNoLearning (sym e) tt)

  blank_tells : (id : CommandId) → TellsFinal [] 0 id (blank s.shape)
  unfolding blank
  blank_tells id = λ here all. absurd (unknown (kept_at (replicate s.shape.partitions None) me.partition.0) refl
      (all me.partition.0 here))
    where
      unknown : (o : Option ℕ) → kept_at (replicate s.shape.partitions None) me.partition.0 ≡ o → is_some o ≡ true → ⊥
      unknown None is some = absurd cc
      unknown (Some t) is some = kept_replicate s.shape.partitions me.partition.0 t is

  pub all_tell_final : (here : IsHere s me) → IsShape s.shape → (acts : List Act) → Each (IsGenuine of) acts
      → (id : CommandId) → TellsFinal (sent_by s me acts) (state_after s me acts).clock id
      ((state_after s me acts).sheets id)
  all_tell_final here shape [] genuine id = blank_tells id
  all_tell_final here shape (act ∷ before) genuine id =
      let facts = facts_hold s me of here before genuine.1 in
      act_tells_final (state_after s me before) (sent_by s me before) (all_tell_final here shape before genuine.1) act
      genuine.0 (λ i. (facts.sheets i).command)
      (λ i. (all_standing s me of here shape before genuine.1 i).put_kept) id
