-- A home that proposed a command counts its own acknowledgement, or needs none. Each act keeps this.
-- Used for the fast quorum of a command in a run in which nothing is pending.
use Rattle.std.proofs.Common.{◌≡◌, ◌⊎◌, ℕ, ◌<◌, ◌≤◌, inl, inr, true, false, List, [], ◌∷◌, length, Option, Some, None, is_some, refl, sym, ap, subst, ◌∙◌, arith}
use Rattle.std.specs.Prelude.{◌&&◌, ◌==◌, is_none, nat_lt}
use Rattle.std.proofs.lemmas.Bool.{and_from, and_parts, both_ways, cases_Bool, cond_both, eq-eqb, lt-ltb}
use Rattle.tp_base.proofs.Options.{none_of}
use Rattle.tp_base.proofs.SameNames.{same_id_is}
use Rattle.tp_base.proofs.Tables.{kept_here}
use Rattle.tp_base.specs.Lists.{Each}
use Rattle.tp_base.specs.Names.{same_id}
use Rattle.tp_base.specs.Tables.{kept_at}
use Rattle.tp_base.specs.declared.names.ActorName.TheVariants.{Process}
use Rattle.tp_base.specs.declared.names.CommandId.{CommandId}
use Rattle.tp_base.specs.declared.names.Made.TheVariants.{Proposal}
use Rattle.tp_base.specs.declared.names.Site.{Site}
use Rattle.tp_facts.proofs.AcceptorKept.{carried}
use Rattle.tp_facts.proofs.ActSteps.{step_of_act}
use Rattle.tp_facts.proofs.Facts.{IsGenuine, IsHere, KeepsCommand, ProcessFacts, sent_by}
use Rattle.tp_facts.proofs.Invariant.{facts_hold}
use Rattle.tp_facts.proofs.RuleTests.{ballot_put}
use Rattle.tp_facts.proofs.StepCases.{SheetStep, submits, submits_and_acknowledges, proposes, proposes_and_answers_recovery}
use Rattle.tp_ops.specs.declared.command.Command.{Command}
use Rattle.tp_paxos.specs.Votes.{PutStamp}
use Rattle.tp_quorum.specs.Choice.{present}
use Rattle.tp_rules.specs.Acts.{Act, Took, Did}
use Rattle.tp_rules.specs.Process.{Step, ProcessState, next_stamp, on_body, on_submit, react, state_after, submitted}
use Rattle.tp_rules.specs.Sheet.{Proposed, QuorumRule, Sheet, acknowledged, acknowledged_own, blank, can_acknowledge, command_or, is_fresh, is_made_by_proposal, is_member, stamp_of, with_command, with_proposal}
use Rattle.tp_topology.specs.Shape.{Shape, fast_size}
use Rattle.tp_wire.specs.declared.message.Body.{Body}
use Rattle.tp_wire.specs.declared.message.Body.TheVariants.{MPropose, MSubmit}
use Rattle.tp_wire.specs.declared.message.Message.{Message}
use Rattle.tp_quiet.proofs.AllServed.{put_ballot}
use Rattle.tp_quiet.proofs.Counts.{IsActWith, admitted}
use Rattle.tp_quiet.proofs.EachSheet.{each_sheet}
use Rattle.tp_quiet.proofs.Onward.{step_onward}
use Rattle.tp_quiet.proofs.Served.{IsAcknowledged, Onward, acknowledged_stays}

abbrev IsNoSubmit : Body → Type 0
IsNoSubmit (MSubmit c) = ⊥
IsNoSubmit _ = Unit {0}

-- a home takes no proposal of its own
abbrev pub IsToAnother : Site → Body → Type 0
IsToAnother me (MPropose c floor) = c.home.0 ≡ me.rank.0 → ⊥
IsToAnother me _ = Unit {0}

blank_unmade : (shape : Shape) → is_made_by_proposal (blank shape).proposal ≡ false
unfolding blank
blank_unmade shape = refl

module _ (s : QuorumRule) (me : Site) (of : CommandId → Command) where
  abbrev pub IsOwnCounted : CommandId → Sheet → Type 0
  IsOwnCounted id sheet = (of id).home.0 ≡ me.rank.0 → s.in_quorum (of id) me.rank.0 ≡ true
      → is_made_by_proposal sheet.proposal ≡ true → IsAcknowledged s me of (Process me) sheet

  own_onward : (id : CommandId) (old new : Sheet) → Onward old new → new.proposal ≡ old.proposal → IsOwnCounted id old
      → IsOwnCounted id new
  own_onward id old new goes same h = λ home member made.
      acknowledged_stays s me of (Process me) old new goes
      (h home member (subst (λ (o : Option Proposed). is_made_by_proposal o ≡ true) same made))

  own_kept : {act : Act} {id : CommandId} {old new : Sheet} {out : List Message} → SheetStep s me act id old new out
      → IsGenuine of act → IsActWith IsNoSubmit act → IsActWith (IsToAnother me) act → Onward old new
      → IsOwnCounted id old → IsOwnCounted id new
  own_kept (submits {m} c t e home fresh) genuine other another goes h = absurd (subst IsNoSubmit e other)
  own_kept (submits_and_acknowledges {m} c t e home fresh can) genuine other another goes h =
      absurd (subst IsNoSubmit e other)
  own_kept (proposes {m} c floor t e le fresh) genuine other another goes h = λ home member made.
      absurd (subst (IsToAnother me) e another (ap (λ (d : Command). d.home.0) (carried of m _ e genuine).0 ∙ home))
  own_kept (proposes_and_answers_recovery c b t e none low nothing unjoined) genuine other another goes h =
      λ home member made. absurd cc
  own_kept {id = id} {old = old} {new = new} _ genuine other another goes h = own_onward id old new goes refl h

  submit_owns : (c : Command) (state : ProcessState) → c ≡ of c.id → KeepsCommand of c.id (state.sheets c.id).command
      → 1 ≤ me.rank.0 → me.rank.0 ≤ length (state.sheets c.id).acknowledged → 2 ≤ fast_size s.shape
      → (is_made_by_proposal (state.sheets c.id).proposal ≡ false → present (state.sheets c.id).acknowledged ≡ [])
      → ((put : PutStamp) → (state.sheets c.id).put ≡ Some put → 0 < put.ballot)
      → ((i : CommandId) → IsOwnCounted i (state.sheets i)) → (other : CommandId)
      → IsOwnCounted other ((on_submit s me c state).0.sheets other)
  submit_owns c state ours keeps low high two none put_high h other =
      let old : Sheet = state.sheets c.id in
      let t : ℕ = next_stamp 0 state in
      let new : Sheet = with_proposal t Proposal (with_command c old) in
      cond_both ((c.home.0 == me.rank.0) && is_fresh me.partition.0 old) (submitted s me c t old state) (state, [])
      (λ (moved : Step). IsOwnCounted other (moved.0.sheets other))
      (λ y. cond_both (same_id c.id other) (acknowledged_own s me.partition.0 me.rank.0 t new) (state.sheets other)
      (IsOwnCounted other)
      (λ same. subst
      (λ (i : CommandId). IsOwnCounted i (acknowledged_own s me.partition.0 me.rank.0 t new))
      (same_id_is c.id other same)
      (λ home member made. cond_both (can_acknowledge s me.partition.0 me.rank.0 me.rank.0 new)
      (acknowledged me.rank.0 t new) new (IsAcknowledged s me of (Process me))
      (λ can. inr (inr (inr (ap (λ (o : Option ℕ). is_some o) (kept_here old.acknowledged me.rank.0 t low high)))))
      (λ cannot. refused t home member (and_parts (c.home.0 == me.rank.0) (is_fresh me.partition.0 old) y).1
      old.put refl (cases_Bool (is_some (kept_at old.acknowledged me.rank.0))) cannot)))
      (λ apart. h other))
      (λ n. h other)
    where
      kept_is : (o : Option Command) → KeepsCommand of c.id o → (state.sheets c.id).command ≡ o
          → command_or c (state.sheets c.id) ≡ of c.id
      kept_is None keeps is =
          subst (λ (o : Option Command). command_or c (record (state.sheets c.id) { command = o }) ≡ of c.id)
          (sym is) ours
      kept_is (Some d) keeps is =
          subst (λ (o : Option Command). command_or c (record (state.sheets c.id) { command = o }) ≡ of c.id)
          (sym is) keeps.0

      refused : (t : ℕ) → (of c.id).home.0 ≡ me.rank.0 → s.in_quorum (of c.id) me.rank.0 ≡ true
          → is_fresh me.partition.0 (state.sheets c.id) ≡ true
          → (put : Option PutStamp) → (state.sheets c.id).put ≡ put
          → (is_some (kept_at (state.sheets c.id).acknowledged me.rank.0) ≡ true)
          ⊎ (is_some (kept_at (state.sheets c.id).acknowledged me.rank.0) ≡ false)
          → can_acknowledge s me.partition.0 me.rank.0 me.rank.0
          (with_proposal t Proposal (with_command c (state.sheets c.id))) ≡ false
          → IsAcknowledged s me of (Process me) (with_proposal t Proposal (with_command c (state.sheets c.id)))
      refused t home member fresh put has (inl there) cannot = inr (inr (inr there))
      refused t home member fresh (Some put) has (inr absent) cannot =
          inr (inr (inl (omega (arith, ap ballot_put has, put_high put has))))
      refused t home member fresh None has (inr absent) cannot =
          let a = and_parts (is_none (state.sheets c.id).proposal && ((state.sheets c.id).ballot == 0))
          (is_none (stamp_of (state.sheets c.id) me.partition.0)) fresh in
          let b = and_parts (is_none (state.sheets c.id).proposal) ((state.sheets c.id).ballot == 0) a.0 in
          let empty : present (state.sheets c.id).acknowledged ≡ [] =
          none (ap is_made_by_proposal (none_of (state.sheets c.id).proposal b.0)) in
          let few : nat_lt (length (present (state.sheets c.id).acknowledged)) (fast_size s.shape) ≡ true =
          lt-ltb (length (present (state.sheets c.id).acknowledged)) (fast_size s.shape)
          (omega (arith, two, ap (λ (xs : List ℕ). length xs) empty)) in
          let member_here : is_member s me.rank.0 me.rank.0 (Some (command_or c (state.sheets c.id))) ≡ true =
          subst (λ (d : Command). is_member s me.rank.0 me.rank.0 (Some d) ≡ true)
          (sym (kept_is (state.sheets c.id).command keeps refl))
          (and_from ((of c.id).home.0 == me.rank.0) (s.in_quorum (of c.id) me.rank.0)
          (eq-eqb (of c.id).home.0 me.rank.0 home) member) in
          absurd (grind (arith, cannot, member_here, b.1, a.1, has, absent, few))

  module _ (here : IsHere s me) where
    abbrev pub AreToOthers : List Act → Type 0
    AreToOthers acts = Each (IsActWith (IsToAnother me)) acts

    own_by_step : (act : Act) (before : List Act) → IsActWith IsNoSubmit act → IsGenuine of act
        → IsActWith (IsToAnother me) act
        → ProcessFacts s me of before (sent_by s me before) (state_after s me before)
        → ((i : CommandId) → IsOwnCounted i ((state_after s me before).sheets i)) → (id : CommandId)
        → IsOwnCounted id ((state_after s me (act ∷ before)).sheets id)
    own_by_step act before other genuine another facts h id =
        let state = state_after s me before in
        each_sheet (λ out i sheet. IsOwnCounted i sheet) s me act state (react s me act state)
        (step_of_act s me act state)
        (λ i new out change. own_kept change genuine other another
        (step_onward s me of here before (sent_by s me before) change genuine (facts.sheets i)) (h i)) (λ out i. h i) id

    own_by_act : (act : Act) (before : List Act) → IsGenuine of act → IsActWith (IsToAnother me) act
        → ProcessFacts s me of before (sent_by s me before) (state_after s me before)
        → ((i : CommandId) → IsOwnCounted i ((state_after s me before).sheets i)) → (id : CommandId)
        → IsOwnCounted id ((state_after s me (act ∷ before)).sheets id)
    own_by_act (Did inner) before genuine another facts h id = own_by_step
        (Did inner) before tt genuine another facts h id
    own_by_act (Took m) before genuine another facts h id = by_body m.body refl
      where
        by_body : (body : Body) → m.body ≡ body → IsOwnCounted id ((state_after s me (Took m ∷ before)).sheets id)
        by_body (MSubmit c) e =
            let state = state_after s me before in
            let f = facts.sheets c.id in
            admitted s me (λ (x : ProcessState). IsOwnCounted id (x.sheets id)) m state (h id)
            (subst (λ (body : Body). IsOwnCounted id ((on_body s me m.from body state).0.sheets id)) (sym e)
            (submit_owns c state (carried of m _ e genuine).0 f.command here.rank.0
            (let size = f.places.acknowledgements in omega (arith, here.rank.1, size)) here.two f.gathered.none
            (put_ballot s me of here before facts c.id) h id))
        by_body body e = own_by_step (Took m) before (subst IsNoSubmit (sym e) tt) genuine another facts h id

    pub all_own : (acts : List Act) → Each (IsGenuine of) acts → AreToOthers acts → (id : CommandId)
        → IsOwnCounted id ((state_after s me acts).sheets id)
    all_own [] genuine others id = λ home member made. absurd (both_ways _ (blank_unmade s.shape) made)
    all_own (act ∷ before) genuine others id =
        own_by_act act before genuine.0 others.0 (facts_hold s me of here before genuine.1)
        (all_own before genuine.1 others.1) id
