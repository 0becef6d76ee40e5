-- Stamps that a process keeps and sends are at most a number, where those that it takes are, and its clock after the
-- step.
-- Used for the room of clocks.
use Rattle.std.proofs.Common.{ℕ, ◌≤◌, Option, Some, None, sym, subst, arith}
use Rattle.std.proofs.lemmas.Bool.{cond_both}
use Rattle.tp_base.proofs.Each.{each_weaker}
use Rattle.tp_base.specs.Lists.{Each}
use Rattle.tp_base.specs.Names.{same_id}
use Rattle.tp_base.specs.declared.names.ActorName.{ActorName}
use Rattle.tp_base.specs.declared.names.ActorName.TheVariants.{Process}
use Rattle.tp_base.specs.declared.names.CommandId.{CommandId}
use Rattle.tp_base.specs.declared.names.Site.{Site}
use Rattle.tp_choice.specs.declared.answer.RecoveryAnswer.{RecoveryAnswer}
use Rattle.tp_facts.proofs.StepCases.{ProcessStep, does_nothing, bumps_clock, announces, passes_commit_on, changes_sheet, attaches_proposal}
use Rattle.tp_ops.specs.declared.command.Command.{Command}
use Rattle.tp_rules.proofs.fit.Stamps.{kept_fit}
use Rattle.tp_rules.proofs.lists.Selections.{IfAny, each_replicate}
use Rattle.tp_rules.proofs.sent.SendsOfProcess.{each_to}
use Rattle.tp_rules.specs.Acts.{Act, Took, Did}
use Rattle.tp_rules.specs.Addresses.{executors_of}
use Rattle.tp_rules.specs.Process.{ProcessState, Step, announced, commit_reply, start, untold}
use Rattle.tp_rules.specs.Sheet.{Proposed, QuorumRule, Sheet, blank}
use Rattle.tp_topology.specs.Shape.{Shape}
use Rattle.tp_wire.specs.declared.message.Body.{Body}
use Rattle.tp_wire.specs.declared.message.Body.TheVariants.{MPropose, MProposeAck, MBump, MConsensus, MCommit, MPromises, MRecAck, MCommitted}
use Rattle.tp_wire.specs.declared.message.Message.{Message}
use Rattle.tp_quiet.proofs.LowSaid.{low_said}
use Rattle.tp_quiet.proofs.LowStamps.{IsLowAct, IsLowAnswer, IsLowBody, IsLowSheet, low_kept}

-- the stamps of a state
pub record IsLowState (n : ℕ) (state : ProcessState) : Type 0 where
  pub clock : state.clock ≤ n
  pub proposals : (id : CommandId) → IfAny (λ (q : Proposed). q.stamp ≤ n) (state.sheets id).proposal
  pub sheets : (id : CommandId) → IsLowSheet n (state.sheets id)

-- a greater number serves too

module _ (n m : ℕ) (le : n ≤ m) where
  table_more : (o : Option ℕ) → IfAny (λ t. t ≤ n) o → IfAny (λ t. t ≤ m) o
  table_more None h = tt
  table_more (Some t) h = omega (arith, le, h)

  answers_more : (o : Option RecoveryAnswer) → IfAny (IsLowAnswer n) o → IfAny (IsLowAnswer m) o
  answers_more None h = tt
  answers_more (Some a) h = omega (arith, le, h)

  proposal_more : (o : Option Proposed) → IfAny (λ (q : Proposed). q.stamp ≤ n) o
      → IfAny (λ (q : Proposed). q.stamp ≤ m) o
  proposal_more None h = tt
  proposal_more (Some q) h = omega (arith, le, h)

  sheet_more : (sheet : Sheet) → IsLowSheet n sheet → IsLowSheet m sheet
  sheet_more sheet h = record {
    accepted_low = omega (arith, le, h.accepted_low);
    putting_low = omega (arith, le, h.putting_low);
    known_low = each_weaker (IfAny (λ (t : ℕ). t ≤ n)) (IfAny (λ (t : ℕ). t ≤ m)) table_more sheet.known h.known_low;
    acknowledged_low =
        each_weaker (IfAny (λ (t : ℕ). t ≤ n))
        (IfAny (λ (t : ℕ). t ≤ m)) table_more sheet.acknowledged h.acknowledged_low;
    answers_low = each_weaker (IfAny (IsLowAnswer n)) (IfAny (IsLowAnswer m)) answers_more sheet.answers h.answers_low;
  }

  pub state_more : (state : ProcessState) → IsLowState n state → IsLowState m state
  state_more state h = record {
    clock = omega (arith, le, h.clock);
    proposals = λ id. proposal_more (state.sheets id).proposal (h.proposals id);
    sheets = λ id. sheet_more (state.sheets id) (h.sheets id);
  }

  pub body_more : (body : Body) → IsLowBody n body → IsLowBody m body
  body_more (MPropose c t) h = omega (arith, le, h)
  body_more (MProposeAck id t) h = omega (arith, le, h)
  body_more (MBump id t) h = omega (arith, le, h)
  body_more (MConsensus c t b) h = omega (arith, le, h)
  body_more (MCommit c q t) h = omega (arith, le, h)
  body_more (MRecAck id t made a b) h = omega (arith, le, h)
  body_more (MCommitted c t) h = omega (arith, le, h)
  body_more _ h = tt

  pub act_more : (act : Act) → IsLowAct n act → IsLowAct m act
  act_more (Took x) h = body_more x.body h
  act_more (Did inner) h = tt

module _ (m : ℕ) where
  pub start_low : (shape : Shape) → IsLowState m (start shape)
  unfolding blank
  start_low shape = record {
    clock = omega arith;
    proposals = λ id. tt;
    sheets = λ id. record {
      accepted_low = omega arith;
      putting_low = omega arith;
      known_low = each_replicate (IfAny (λ (t : ℕ). t ≤ m)) shape.partitions None tt;
      acknowledged_low = each_replicate (IfAny (λ (t : ℕ). t ≤ m)) shape.replicas None tt;
      answers_low = each_replicate (IfAny (IsLowAnswer m)) shape.replicas None tt;
    };
  }

  module _ (s : QuorumRule) (me : Site) where
    abbrev Low : Message → Type 0
    Low x = IsLowBody m x.body

    reply_low : (from : ActorName) (o : Option Command) (t : ℕ) → t ≤ m → Each Low (commit_reply me from o t)
    reply_low from None t le = tt
    reply_low from (Some c) t le = (le, tt)

    announced_low : (state : ProcessState) → Each Low (announced s.shape me state)
    unfolding announced
    announced_low state = each_to Low (Process me) (executors_of s.shape me.partition.0)
        (MPromises state.told state.clock (untold state)) (λ to. tt)

    pub low_state : {act : Act} {state : ProcessState} {moved : Step} → ProcessStep s me act state moved
        → IsLowAct m act
        → moved.0.clock ≤ m → IsLowState m state → IsLowState m moved.0 × Each Low moved.1
    low_state does_nothing took high h = (h, tt)
    low_state (bumps_clock clock le) took high h =
        (record { clock = high; proposals = h.proposals; sheets = h.sheets }, tt)
    low_state {state = state} announces took high h =
        (record { clock = high; proposals = h.proposals; sheets = h.sheets }, announced_low state)
    low_state {state = state} (passes_commit_on {m = x} c b t by e known) took high h = (
      h,
      reply_low x.from (state.sheets c.id).command t
          (subst (IfAny (λ (y : ℕ). y ≤ m)) known
          (kept_fit (λ (y : ℕ). y ≤ m) (state.sheets c.id).known me.partition.0 (h.sheets c.id).known_low)),
    )
    low_state {state = state} (changes_sheet {id = i} {new = new} clock le step same) took high h =
        let proposal : IfAny (λ (q : Proposed). q.stamp ≤ m) new.proposal =
        subst (IfAny (λ (q : Proposed). q.stamp ≤ m)) (sym same) (h.proposals i) in
        let kept : IsLowSheet m new = low_kept m step took proposal (h.sheets i) in (
          record {
            clock = high;
            proposals = λ other. cond_both (same_id i other) new (state.sheets other)
                (λ (sheet : Sheet). IfAny (λ (q : Proposed). q.stamp ≤ m) sheet.proposal) (λ y. proposal)
                (λ no. h.proposals other);
            sheets = λ other. cond_both (same_id i other) new (state.sheets other) (IsLowSheet m) (λ y. kept)
                (λ no. h.sheets other);
          },
          low_said m s me step proposal (h.sheets i) kept,
        )
    low_state {state = state} (attaches_proposal {id = i} {new = new} t made lt step none is) took high h =
        let proposal : IfAny (λ (q : Proposed). q.stamp ≤ m) new.proposal =
        subst (IfAny (λ (q : Proposed). q.stamp ≤ m)) (sym is) high in
        let kept : IsLowSheet m new = low_kept m step took proposal (h.sheets i) in (
          record {
            clock = high;
            proposals = λ other. cond_both (same_id i other) new (state.sheets other)
                (λ (sheet : Sheet). IfAny (λ (q : Proposed). q.stamp ≤ m) sheet.proposal) (λ y. proposal)
                (λ no. h.proposals other);
            sheets = λ other. cond_both (same_id i other) new (state.sheets other) (IsLowSheet m) (λ y. kept)
                (λ no. h.sheets other);
          },
          low_said m s me step proposal (h.sheets i) kept,
        )
