-- No process proposes to itself, each question of a recovery names a ballot that its sender tried, and each commit
-- tells of a partition whose stamp its sender knows.
-- Used for each message of a run: when it is taken, it is to what was asked.
use Rattle.std.proofs.Common.{◌≡◌, ℕ, ◌≤◌, Bool, inl, inr, true, cond, List, [], ◌∷◌, length, map, Option, Some, None, is_some, sym, ap, subst, ◌∙◌, arith}
use Rattle.std.specs.Prelude.{◌==◌, filter, not}
use Rattle.std.proofs.lemmas.Bool.{both_ways, cond_both, cond-true, eq-eqb, not-true}
use Rattle.tp_base.proofs.Each.{each_append, each_weaker}
use Rattle.tp_base.proofs.SameNames.{same_id_refl}
use Rattle.tp_base.specs.Limits.{IsFrom}
use Rattle.tp_base.specs.Lists.{Each}
use Rattle.tp_base.specs.Names.{same_id}
use Rattle.tp_base.specs.declared.names.ActorName.{ActorName}
use Rattle.tp_base.specs.declared.names.ActorName.TheVariants.{Process}
use Rattle.tp_base.specs.declared.names.CommandId.{CommandId}
use Rattle.tp_base.specs.declared.names.Site.{Site}
use Rattle.tp_facts.proofs.ActSteps.{step_of_act}
use Rattle.tp_facts.proofs.Facts.{IsGenuine, IsHere, KeepsCommand, sent_by}
use Rattle.tp_facts.proofs.Invariant.{facts_hold}
use Rattle.tp_facts.proofs.StepCases.{IsFinal, untold, final, chosen_stamp, with_recovery_answer, SheetStep, submits, submits_and_acknowledges, proposes, decides_fast, puts_slow, accepts, decides_by_votes, learns, proposes_and_answers_recovery, answers_recovery, puts_recovered, starts_recovery, ProcessStep, does_nothing, bumps_clock, announces, passes_commit_on, changes_sheet, attaches_proposal}
use Rattle.tp_base.proofs.Tables.{kept_here}
use Rattle.tp_ops.specs.declared.command.Command.{Command}
use Rattle.tp_rules.proofs.sent.SendsOfProcess.{bumps_send, commit_messages_send, each_to, put_to_vote_sends, stamp}
use Rattle.tp_rules.specs.Acts.{Act}
use Rattle.tp_rules.specs.Addresses.{executors_of, message, processes_of, site}
use Rattle.tp_rules.specs.Process.{ProcessState, Step, announced, asked, bumps, commit_messages, commit_reply, proposals, react, state_after, untold as untold_pairs}
use Rattle.tp_rules.specs.Sheet.{QuorumRule, Sheet, stamp_of}
use Rattle.tp_topology.specs.Ballots.{next_ballot}
use Rattle.tp_topology.specs.Counting.{up_to}
use Rattle.tp_wire.specs.declared.message.Body.{Body}
use Rattle.tp_wire.specs.declared.message.Body.TheVariants.{MCommit, MConsensus, MPayload, MPromises, MPropose, MRec}
use Rattle.tp_wire.specs.declared.message.Message.{Message}
use Rattle.tp_quiet.proofs.Onward.{act_onward}
use Rattle.tp_quiet.proofs.Served.{Knows, Onward}

-- what a message says is fair: a proposal goes to another, a recovery tries the ballot, and a commit's stamp is known
abbrev pub IsFair : Site → (CommandId → Sheet) → ActorName → Body → Type 0
IsFair me sheets to (MPropose c t) = to ≡ Process me → ⊥
IsFair me sheets to (MRec c b) = b ≤ (sheets c.id).tried
IsFair me sheets to (MCommit c q t) = Knows q.0 (sheets c.id)
IsFair me sheets to _ = Unit {0}

abbrev pub AsksFairly : Site → (CommandId → Sheet) → Message → Type 0
AsksFairly me sheets m = IsFair me sheets m.to m.body

each_passing : {X Y : Type 0} (P : Y → Type 0) (f : X → Y) (test : X → Bool) (xs : List X)
    → ((x : X) → test x ≡ true → P (f x)) → Each P (map f (filter test xs))
each_passing P f test [] h = tt
each_passing P f test (x ∷ xs) h =
    cond_both (test x) (x ∷ filter test xs) (filter test xs) (λ (ys : List _). Each P (map f ys))
    (λ passes. (h x passes, each_passing P f test xs h)) (λ fails. each_passing P f test xs h)

fair_more : (me : Site) (old new : CommandId → Sheet) (to : ActorName) (body : Body)
    → ((id : CommandId) → Onward (old id) (new id)) → IsFair me old to body → IsFair me new to body
fair_more me old new to (MPropose c t) goes h = h
fair_more me old new to (MRec c b) goes h = elim (goes c.id).tried [
  | inl rises ↦ omega (arith, h)
  | inr same ↦ omega (arith, h, same.0)
]
fair_more me old new to (MCommit c q t) goes h = (goes c.id).knows q.0 h
fair_more me old new to _ goes h = tt

module _ (s : QuorumRule) (me : Site) (of : CommandId → Command) where
  module _ (sheets : CommandId → Sheet) where
    abbrev Fair : Message → Type 0
    Fair m = AsksFairly me sheets m

    final_fair : {shape : _} {sheet : Sheet} {out : List Message} → IsFinal shape me sheet out → Each Fair out
    final_fair untold = tt
    final_fair (final c t e f) = (tt, tt)

    asked_fair : (id : CommandId) (b : ℕ) (o : Option Command) → KeepsCommand of id o → b ≤ (sheets id).tried
        → Each Fair (asked s.shape me b o)
    asked_fair id b None keeps h = tt
    asked_fair id b (Some c) keeps h =
        each_to Fair (Process me) (processes_of s.shape me.partition.0) (MRec c b)
        (λ to. subst (λ (i : CommandId). b ≤ (sheets i).tried) (sym keeps.1) h)

    passed_fair : (to : ActorName) (id : CommandId) (o : Option Command) (t : ℕ) → KeepsCommand of id o
        → Knows me.partition.0 (sheets id) → Each Fair (commit_reply me to o t)
    passed_fair to id None t keeps known = tt
    passed_fair to id (Some c) t keeps known =
        (subst (λ (i : CommandId). Knows me.partition.0 (sheets i)) (sym keeps.1) known, tt)

    bumps_fair : (c : Command) (t : ℕ) → Each Fair (bumps s.shape me c t)
    bumps_fair c t = bumps_send Fair me s.shape c t (λ to. tt)

    commits_fair : (id : CommandId) (o : Option Command) (t : ℕ) → KeepsCommand of id o
        → Knows me.partition.0 (sheets id) → Each Fair (commit_messages s.shape me o t)
    commits_fair id o t keeps known = commit_messages_send Fair me s.shape o t (λ c to e.
        subst (λ (i : CommandId). Knows me.partition.0 (sheets i)) (sym (subst (KeepsCommand of id) e keeps).1) known)

    announced_fair : (state : ProcessState) → Each Fair (announced s.shape me state)
    unfolding announced
    announced_fair state = each_to Fair (Process me) (executors_of s.shape me.partition.0)
        (MPromises state.told state.clock (untold_pairs state)) (λ to. tt)

    other_rank : (rank : ℕ) → not (rank == me.rank.0) ≡ true → Process (site me.partition.0 rank) ≡ Process me → ⊥
    other_rank rank other same =
        let is : rank ≡ me.rank.0 = rank_is (site me.partition.0 rank) same in
        both_ways (rank == me.rank.0) (not-true (rank == me.rank.0) other) (eq-eqb rank me.rank.0 is)
      where
        rank_is : (x : Site) → Process x ≡ Process me → x.rank.0 ≡ me.rank.0
        rank_is x e = cc

    proposals_fair : (c : Command) (t : ℕ) → Each Fair (proposals s me c t)
    unfolding proposals
    proposals_fair c t = each_passing Fair
        (λ rank. message (Process me) (Process (site me.partition.0 rank))
        (cond (s.in_quorum c rank) (MPropose c (stamp t)) (MPayload c)))
        (λ rank. not (rank == me.rank.0)) (up_to s.shape.replicas)
        (λ rank other. cond_both (s.in_quorum c rank) (MPropose c (stamp t)) (MPayload c)
        (λ (body : Body). IsFair me sheets (Process (site me.partition.0 rank)) body) (λ y. other_rank rank other)
        (λ n. tt))

    known_now : {id : CommandId} {new : Sheet} {t : ℕ} → sheets id ≡ new → stamp_of new me.partition.0 ≡ Some t
        → Knows me.partition.0 (sheets id)
    known_now at is = ap (λ (x : Sheet). is_some (stamp_of x me.partition.0)) at ∙ ap (λ (o : Option ℕ). is_some o) is

    sheet_step_fair : {act : Act} {id : CommandId} {old new : Sheet} {out : List Message}
        → SheetStep s me act id old new out → KeepsCommand of id old.command
        → IsFrom 1 (length old.known) me.partition.0
        → sheets id ≡ new → Each Fair out
    sheet_step_fair (submits c t e home fresh) keeps place at = each_append Fair _ _ (proposals_fair c t)
        (bumps_fair _ t)
    sheet_step_fair (submits_and_acknowledges c t e home fresh can) keeps place at =
        each_append Fair _ _ (proposals_fair c t) (bumps_fair _ t)
    sheet_step_fair (proposes c floor t e le fresh) keeps place at = (tt, bumps_fair _ t)
    sheet_step_fair {old = old} (decides_fast id t e can full fast last) keeps place at =
        each_append Fair _ _ (commits_fair id old.command _ keeps
        (known_now at (kept_here old.known me.partition.0 _ place.0 place.1)))
        (final_fair last)
    sheet_step_fair (puts_slow id t e can full slow) keeps place at =
        put_to_vote_sends Fair me s.shape _ _ _ (λ c to is. tt)
    sheet_step_fair (accepts c t b e none le) keeps place at = (tt, tt)
    sheet_step_fair (decides_by_votes base id put e none enough last) keeps place at =
        each_append Fair _ _ (commits_fair id base.command _ keeps
        (known_now at (kept_here base.known me.partition.0 _ place.0 place.1)))
        (final_fair last)
    sheet_step_fair (learns c q t e none last) keeps place at = final_fair last
    sheet_step_fair
        (proposes_and_answers_recovery c b t e none low nothing unjoined) keeps place at = (tt, bumps_fair _ t)
    sheet_step_fair (answers_recovery c b e none low first) keeps place at = (tt, tt)
    sheet_step_fair {old = old} (puts_recovered {m} id t made a b c e can is enough) keeps place at =
        let chosen : ℕ = chosen_stamp s c (with_recovery_answer m t made a old) in
        each_to Fair (Process me) (processes_of s.shape me.partition.0) (MConsensus c (stamp chosen) b) (λ to. tt)
    sheet_step_fair {old = old} (starts_recovery id is none) keeps place at =
        let b : ℕ = next_ballot s.shape me.rank.0 old.ballot old.tried in
        let tried : (sheets id).tried ≡ b = ap (λ (x : Sheet). x.tried) at in
        asked_fair id b old.command keeps (omega (arith, tried))
    sheet_step_fair _ keeps place at = tt

  step_fair : {act : Act} {state : ProcessState} {moved : Step} → ProcessStep s me act state moved
      → ((id : CommandId) → KeepsCommand of id (state.sheets id).command)
      → ((id : CommandId) → IsFrom 1 (length (state.sheets id).known) me.partition.0)
      → Each (AsksFairly me moved.0.sheets) moved.1
  step_fair does_nothing keeps place = tt
  step_fair (bumps_clock clock le) keeps place = tt
  step_fair {act} {state} announces keeps place = announced_fair state.sheets state
  step_fair {act} {state} (passes_commit_on {m} c b t is e known) keeps place =
      passed_fair state.sheets m.from c.id (state.sheets c.id).command t (keeps c.id)
      (ap (λ (o : Option ℕ). is_some o) known)
  step_fair {act} {state} (changes_sheet {id = i} {new = new} clock le step same) keeps place =
      sheet_step_fair (λ other. cond (same_id i other) new (state.sheets other)) step (keeps i) (place i)
      (cond-true (same_id i i) new (state.sheets i) (same_id_refl i))
  step_fair {act} {state} (attaches_proposal {id = i} {new = new} t made lt step none is) keeps place =
      sheet_step_fair (λ other. cond (same_id i other) new (state.sheets other)) step (keeps i) (place i)
      (cond-true (same_id i i) new (state.sheets i) (same_id_refl i))

  pub all_fair : IsHere s me → (acts : List Act) → Each (IsGenuine of) acts
      → Each (AsksFairly me (state_after s me acts).sheets) (sent_by s me acts)
  all_fair here [] genuine = tt
  all_fair here (act ∷ before) genuine =
      let state = state_after s me before in
      let facts = facts_hold s me of here before genuine.1 in
      let goes = act_onward s me of here before (sent_by s me before)
      (step_of_act s me act state) genuine.0 facts.sheets in
      each_append (AsksFairly me (react s me act state).0.sheets) (react s me act state).1 (sent_by s me before)
      (step_fair (step_of_act s me act state) (λ id. (facts.sheets id).command)
      (λ id. (here.partition.0, omega (arith, here.partition.1, (facts.sheets id).places.stamps))))
      (each_weaker (AsksFairly me state.sheets) (AsksFairly me (react s me act state).0.sheets)
      (λ m h. fair_more me state.sheets (react s me act state).0.sheets m.to m.body goes h) (sent_by s me before)
      (all_fair here before genuine.1))
