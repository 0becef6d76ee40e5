-- All facts about a process are kept by each act, and so hold after any acts.
-- Used for each process of a run.
use Rattle.std.proofs.Common.{◌≡◌, ℕ, ◌-◌, ◌≤◌, inl, inr, true, false, List, [], ◌∷◌, ◌++◌, cond, Option, Some, None, refl, sym, ap, ◌∙◌, subst, arith}
use Rattle.std.proofs.lemmas.Bool.{both_ways, cond-true, cond_both}
use Rattle.tp_base.proofs.Each.{each_append, each_weaker}
use Rattle.tp_base.proofs.SameNames.{same_id_is, same_id_refl}
use Rattle.tp_base.specs.Lists.{Each, IsIn}
use Rattle.tp_base.specs.Names.{same_id}
use Rattle.tp_base.specs.declared.names.ActorName.TheVariants.{Process}
use Rattle.tp_base.specs.declared.names.CommandId.{CommandId}
use Rattle.tp_base.specs.declared.names.Pair.{Pair}
use Rattle.tp_base.specs.declared.names.Site.{Site}
use Rattle.tp_ops.specs.declared.command.Command.{Command}
use Rattle.tp_rules.proofs.fit.Promises.{descends_higher}
use Rattle.tp_rules.proofs.sent.SendsOfProcess.{each_to}
use Rattle.tp_rules.specs.Acts.{Act}
use Rattle.tp_rules.specs.Addresses.{executors_of}
use Rattle.tp_rules.specs.Process.{Step, ProcessState, announced, start, state_after, commit_reply, untold}
use Rattle.tp_rules.specs.Sheet.{QuorumRule, Sheet, blank, stamp_of}
use Rattle.tp_wire.specs.declared.message.Body.{Body}
use Rattle.tp_wire.specs.declared.message.Body.TheVariants.{MConsensus, MConsensusAck, MPromises}
use Rattle.tp_wire.specs.declared.message.Message.{Message}
use Rattle.tp_facts.proofs.RuleTests.{ballot_put}
use Rattle.tp_facts.proofs.ActSteps.{step_of_act}
use Rattle.tp_facts.proofs.Announcements.{own_announced, own_attached, own_passed}
use Rattle.tp_facts.proofs.Facts.{IsHere, SheetFacts, IsGenuine, IsOwn, IsTrue, IsTrueNow, KeepsCommand, ProcessFacts, sent_by}
use Rattle.tp_facts.proofs.Later.{IsNew, Later, later, later_self, learned_more, stays_true}
use Rattle.tp_facts.proofs.SentByStep.{IsSound, new_body, no_announcement, sent_sound}
use Rattle.tp_facts.proofs.SheetKept.{blank_facts, facts_kept, facts_more}
use Rattle.tp_facts.proofs.StepCases.{SheetStep, ProcessStep, does_nothing, bumps_clock, announces, passes_commit_on, changes_sheet, attaches_proposal}
use Rattle.tp_facts.proofs.AnswersTrue.{IsOld}
use Rattle.tp_base.specs.declared.names.Made.{Made}
use Rattle.tp_rules.specs.Sheet.{Proposed}

abbrev promise : CommandId → ℕ → Pair
promise id n = record { id = id; stamp = record { 0 = n } }

-- the sheets after one was changed
abbrev changed : (CommandId → Sheet) → CommandId → Sheet → CommandId → Sheet
changed sheets id new other = cond (same_id id other) new (sheets other)

-- what holds of the changed sheet and of the others holds of each
each_sheet : (P : CommandId → Sheet → Type 0) (sheets : CommandId → Sheet) (id : CommandId) (new : Sheet) → P id new
    → ((other : CommandId) → P other (sheets other)) → (other : CommandId) → P other (changed sheets id new other)
each_sheet P sheets id new here others other = cond_both (same_id id other) new (sheets other) (P other)
    (λ y. subst (λ (i : CommandId). P i new) (same_id_is id other y) here) (λ n. others other)

module _ (s : QuorumRule) (me : Site) (of : CommandId → Command) (here : IsHere s me) where
  abbrev True : List Act → List Message → (CommandId → Sheet) → Message → Type 0
  True acts sent sheets m = IsTrueNow s me of acts sent sheets m

  -- what was said before is no newer than the sheet
  said_old : (acts : List Act) (sent : List Message) (sheets : CommandId → Sheet) (id : CommandId)
      → Each (True acts sent sheets) sent → Each (λ m. IsOld id (sheets id) m.body) sent
  said_old acts sent sheets id h =
      each_weaker (True acts sent sheets) (λ (m : Message). IsOld id (sheets id) m.body) (λ m k. go m.body k.0 k.1) sent
      h
    where
      go : (body : Body) (i : CommandId) → IsTrue s me of acts sent i (sheets i) body → IsOld id (sheets id) body
      go (MConsensusAck j n) i k =
          λ same. subst (λ (x : CommandId). n ≤ (sheets x).accepted_ballot) (sym k.0 ∙ same) k.2
      go (MConsensus c x n) i k =
          λ same. subst (λ (x : CommandId). n ≤ ballot_put (sheets x).put) (sym k.0 ∙ same) k.1.below
      go _ i k = tt

  -- what is said of one command says nothing of another
  new_elsewhere : (acts : List Act) (sent : List Message) (id i : CommandId) (new old : Sheet) → same_id id i ≡ false
      → (body : Body) → IsTrue s me of acts sent id new body → IsNew i old body
  new_elsewhere acts sent id i new old apart body = go body
    where
      other : (j : CommandId) → j ≡ id → j ≡ i → ⊥
      other j is same =
          both_ways _ apart (subst (λ (x : CommandId). same_id id x ≡ true) (sym is ∙ same) (same_id_refl id))

      go : (body : Body) → IsTrue s me of acts sent id new body → IsNew i old body
      go (MConsensusAck j n) h = λ same. absurd (other j h.0 same)
      go (MConsensus c x n) h = λ same. absurd (other c.id h.0 same)
      go _ h = tt

  module _ (acts : List Act) (sent : List Message) (act : Act) (genuine : IsGenuine of act) where
    -- what holds of the sheets and of the messages after a step that sent `out`
    record After (out : List Message) (sheets : CommandId → Sheet) : Type 0 where
      facts : (id : CommandId) → SheetFacts s me of (act ∷ acts) (out ++ sent) id (sheets id)
      said : Each (True (act ∷ acts) (out ++ sent) sheets) (out ++ sent)

    -- given what held before it
    module _ (sheets : CommandId → Sheet) (facts : (id : CommandId) → SheetFacts s me of acts sent id (sheets id))
        (said : Each (True acts sent sheets) sent) where
      -- a step that changes no sheet
      unchanged : (out : List Message) → Each (True (act ∷ acts) (out ++ sent) sheets) out
          → ((id : CommandId) → Each (λ m. IsNew id (sheets id) m.body) out)
          → After out sheets
      unchanged out new fresh = record {
        facts = λ id. facts_more s me of here act out (facts id);
        said = each_append (True (act ∷ acts) (out ++ sent) sheets) out sent new
            (each_weaker (True acts sent sheets) (True (act ∷ acts) (out ++ sent) sheets)
            (λ m k. (
              k.0,
              stays_true s me of acts sent act out k.0 (sheets k.0) (sheets k.0) (later_self (sheets k.0))
                  (fresh k.0) m.body k.1,
            )) sent said);
      }

      abbrev Sound : (id : CommandId) → Sheet → List Message → Message → Type 0
      Sound id new out m = IsSound s me of (act ∷ acts) (out ++ sent) id (sheets id) new m

      -- what was said before stays true where a sheet changes
      said_stays : {id : CommandId} {new : Sheet} (out : List Message) → Later s (sheets id) new
          → Each (Sound id new out) out
          → (m : Message) → True acts sent sheets m → True (act ∷ acts) (out ++ sent) (changed sheets id new) m
      said_stays {id} {new} out goes sound m k = (
        k.0,
        cond_both (same_id id k.0) new (sheets k.0)
            (λ (sheet : Sheet). IsTrue s me of (act ∷ acts) (out ++ sent) k.0 sheet m.body)
            (λ y. let same : id ≡ k.0 = same_id_is id k.0 y in
            subst (λ (i : CommandId). IsTrue s me of (act ∷ acts) (out ++ sent) i new m.body) same
            (stays_true s me of acts sent act out id (sheets id) new goes
            (each_weaker (Sound id new out) (λ (n : Message). IsNew id (sheets id) n.body)
            (λ n x. new_body id (sheets id) n.body x.new_here) out sound) m.body
            (subst (λ (i : CommandId). IsTrue s me of acts sent i (sheets i) m.body) (sym same) k.1)))
            (λ apart. stays_true s me of acts sent act out k.0 (sheets k.0) (sheets k.0) (later_self (sheets k.0))
            (each_weaker (Sound id new out) (λ (n : Message). IsNew k.0 (sheets k.0) n.body)
            (λ n x. new_elsewhere (act ∷ acts) (out ++ sent) id k.0 new (sheets k.0) apart n.body x.true) out sound)
            m.body k.1),
      )

      -- a step that changes one
      module _ {id : CommandId} {new : Sheet} {out : List Message} (step : SheetStep s me act id (sheets id) new out)
        where
          goes : Later s (sheets id) new
          goes = later s me of acts step genuine here (facts id).acceptor.below (facts id).proposer

          kept : SheetFacts s me of (act ∷ acts) (out ++ sent) id new
          kept = facts_kept s me of here acts sent step genuine goes (facts id)

          sound : Each (Sound id new out) out
          sound = sent_sound s me of acts sent here step genuine (facts id) kept goes
              (said_old acts sent sheets id said)

          self : changed sheets id new id ≡ new
          self = cond-true (same_id id id) new (sheets id) (same_id_refl id)

          sheet_changed : After out (changed sheets id new)
          sheet_changed = record {
            facts = each_sheet
                (λ (i : CommandId) (sheet : Sheet). SheetFacts s me of (act ∷ acts) (out ++ sent) i sheet)
                sheets id new kept
                (λ other. facts_more s me of here act out (facts other));
            said = each_append (True (act ∷ acts) (out ++ sent) (changed sheets id new)) out sent
                (each_weaker (Sound id new out) (True (act ∷ acts) (out ++ sent) (changed sheets id new))
                (λ m k. (
                  id,
                  subst (λ (sheet : Sheet). IsTrue s me of (act ∷ acts) (out ++ sent) id sheet m.body)
                      (sym self) k.true,
                )) out sound)
                (each_weaker (True acts sent sheets) (True (act ∷ acts) (out ++ sent) (changed sheets id new))
                (said_stays out goes sound) sent said);
          }

          -- what it sends is the process's own
          own_sent : (told : ℕ) (attached : List Pair) → Each (IsOwn me told attached) sent
              → Each (IsOwn me told attached) (out ++ sent)
          own_sent told attached h = each_append (IsOwn me told attached) out sent
              (each_weaker (Sound id new out) (IsOwn me told attached)
              (λ m k. (k.from, no_announcement id (sheets id) told attached m.body k.new_here)) out sound) h

    -- a commit that is passed on is true
    passed_on : (sheets : CommandId → Sheet) → ((id : CommandId) → SheetFacts s me of acts sent id (sheets id))
        → (m : Message) (id : CommandId) (o : Option Command) (t : ℕ) → (sheets id).command ≡ o
        → stamp_of (sheets id) me.partition.0 ≡ Some t
        → Each (True (act ∷ acts) (commit_reply me m.from o t ++ sent) sheets) (commit_reply me m.from o t)
        × ((i : CommandId) → Each (λ n. IsNew i (sheets i) n.body) (commit_reply me m.from o t))
    passed_on sheets facts m id None t is known = (tt, λ i. tt)
    passed_on sheets facts m id (Some c) t is known =
        let command = subst (λ (o : Option _). KeepsCommand of id o) is (facts id).command in
        let learned =
        learned_more s me of acts sent act (commit_reply me m.from (Some c) t) id (sheets id) (sheets id)
        (later_self (sheets id)) me.partition.0 t ((facts id).known me.partition.0 t known) in
        (((id, (command.1, refl, learned)), tt), λ i. (tt, tt))

    -- an announcement says nothing of a command
    announced_true : (sheets : CommandId → Sheet) (state : ProcessState) (id : CommandId)
        → Each (True (act ∷ acts) (announced s.shape me state ++ sent) sheets) (announced s.shape me state)
        × ((i : CommandId) → Each (λ n. IsNew i (sheets i) n.body) (announced s.shape me state))
    unfolding announced
    announced_true sheets state id = (
      each_to (True (act ∷ acts) (announced s.shape me state ++ sent) sheets) (Process me)
          (executors_of s.shape me.partition.0) (MPromises state.told state.clock (untold state)) (λ to. (id, tt)),
      λ i. each_to (λ (n : Message). IsNew i (sheets i) n.body) (Process me) (executors_of s.shape me.partition.0)
          (MPromises state.told state.clock (untold state)) (λ to. tt),
    )

    same_proposal : (state : ProcessState) (id : CommandId) (new : Sheet) → new.proposal ≡ (state.sheets id).proposal
        → (other : CommandId)
        → (changed state.sheets id new other).proposal ≡ (state.sheets other).proposal
    same_proposal state id new same =
        each_sheet (λ (i : CommandId) (sheet : Sheet). sheet.proposal ≡ (state.sheets i).proposal) state.sheets id new
        same (λ other. refl)

    -- the promise of a new proposal is attached
    proposal_attached : (state : ProcessState) (id : CommandId) (new : Sheet) (t : ℕ) (made : Made)
        → ((other : CommandId) (q : Proposed) → (state.sheets other).proposal ≡ Some q
        → IsIn (promise other q.stamp) state.attached)
        → new.proposal ≡ Some (record { stamp = t; made = made })
        → (other : CommandId) (q : Proposed) → (changed state.sheets id new other).proposal ≡ Some q
        → IsIn (promise other q.stamp) (promise id t ∷ state.attached)
    proposal_attached state id new t made before is other q =
        each_sheet
        (λ (i : CommandId) (sheet : Sheet). sheet.proposal ≡ Some q
        → IsIn (promise i q.stamp) (promise id t ∷ state.attached)) state.sheets id new
        (λ some. inl (let x : t ≡ q.stamp = cc in ap (promise id) (sym x)))
        (λ other some. inr (before other q some)) other

    -- each step keeps all facts
    facts_after : {state : ProcessState} {moved : Step} → ProcessStep s me act state moved
        → ProcessFacts s me of acts sent state → ProcessFacts s me of (act ∷ acts) (moved.1 ++ sent) moved.0
    facts_after {state} does_nothing h =
        let after = unchanged state.sheets h.sheets h.said [] tt (λ id. tt) in
        record {
          promises = h.promises;
          attached = h.attached;
          told = h.told;
          own = h.own;
          sheets = after.facts;
          said = after.said;
        }
    facts_after {state} (bumps_clock clock le) h =
        let after = unchanged state.sheets h.sheets h.said [] tt (λ id. tt) in
        record {
          promises = descends_higher state.clock clock state.attached le h.promises;
          attached = h.attached;
          told = omega (arith, le, h.told);
          own = h.own;
          sheets = after.facts;
          said = after.said;
        }
    facts_after {state} announces h =
        let out = announced_true state.sheets state (record { session = record { 0 = 0 }; number = 0 }) in
        let after = unchanged state.sheets h.sheets h.said (announced s.shape me state) out.0 out.1 in
        record {
          promises = h.promises;
          attached = h.attached;
          told = omega arith;
          own = own_announced s me sent state h.promises h.told h.own;
          sheets = after.facts;
          said = after.said;
        }
    facts_after {state} (passes_commit_on {m} c b t is e known) h =
        let out = passed_on state.sheets h.sheets m c.id (state.sheets c.id).command t refl known in
        let after = unchanged state.sheets h.sheets h.said (commit_reply me m.from (state.sheets c.id).command t) out.0 out.1 in
        record {
          promises = h.promises;
          attached = h.attached;
          told = h.told;
          own = own_passed s me state.told state.attached sent m (state.sheets c.id).command t h.own;
          sheets = after.facts;
          said = after.said;
        }
    facts_after {state} (changes_sheet {id} {new} {out} clock le step same) h =
        let after = sheet_changed state.sheets h.sheets h.said step in
        record {
          promises = descends_higher state.clock clock state.attached le h.promises;
          attached = λ other q some. h.attached other q (sym (same_proposal state id new same other) ∙ some);
          told = omega (arith, le, h.told);
          own = own_sent state.sheets h.sheets h.said step state.told state.attached h.own;
          sheets = after.facts;
          said = after.said;
        }
    facts_after {state} (attaches_proposal {id} {new} {out} t made lt step none is) h =
        let after = sheet_changed state.sheets h.sheets h.said step in
        let attached : List Pair = promise id t ∷ state.attached in
        record {
          promises =
              ((omega arith, omega arith), descends_higher state.clock (t - 1) state.attached (omega arith) h.promises);
          attached = λ other q some. proposal_attached state id new t made h.attached is other q some;
          told = omega (arith, lt, h.told);
          own = own_sent state.sheets h.sheets h.said step state.told attached
              (each_weaker (IsOwn me state.told state.attached) (IsOwn me state.told attached)
              (own_attached s me state.told state.clock t id state.attached h.told lt) sent h.own);
          sheets = after.facts;
          said = after.said;
        }

  blank_proposal : (blank s.shape).proposal ≡ None
  unfolding blank
  blank_proposal = refl

  at_start : ProcessFacts s me of [] [] (start s.shape)
  at_start = record {
    promises = tt;
    attached = λ id q some. absurd (let none = blank_proposal in cc);
    told = omega arith;
    own = tt;
    sheets = blank_facts s me of here;
    said = tt;
  }

  -- the facts hold after any acts
  pub facts_hold : (acts : List Act) → Each (IsGenuine of) acts
      → ProcessFacts s me of acts (sent_by s me acts) (state_after s me acts)
  facts_hold [] h = at_start
  facts_hold (act ∷ before) h =
      facts_after before (sent_by s me before) act h.0 (step_of_act s me act (state_after s me before))
      (facts_hold before h.1)
