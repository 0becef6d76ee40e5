-- What an executor declared it told the executors of the other partitions, and what it executed it told the session.
-- Each act keeps this.
-- Used for the executors and sessions in a run in which nothing is pending.
use Rattle.std.proofs.Common.{◌≡◌, ℕ, inl, inr, true, List, [], ◌∷◌, ◌++◌, Option, Some, None, refl, sym, subst}
use Rattle.std.specs.Prelude.{not}
use Rattle.std.specs.List.{flat_map}
use Rattle.tp_base.proofs.Members.{flat_in, has_in, in_has, in_left, in_right, in_either, map_in}
use Rattle.tp_base.proofs.SameNames.{same_id_is, same_id_refl}
use Rattle.tp_base.specs.Limits.{IsFrom}
use Rattle.tp_base.specs.Lists.{IsIn, has}
use Rattle.tp_base.specs.Names.{same_id}
use Rattle.tp_base.specs.declared.names.ActorName.{ActorName}
use Rattle.tp_base.specs.declared.names.ActorName.TheVariants.{Executor, Session}
use Rattle.tp_base.specs.declared.names.CommandId.{CommandId}
use Rattle.tp_base.specs.declared.names.Site.{Site}
use Rattle.tp_facts.proofs.Senders.{acts_send}
use Rattle.tp_ops.specs.declared.operation.Answer.{Answer}
use Rattle.tp_order.proofs.EntryKinds.{IsQuiet, message_is_quiet}
use Rattle.tp_rules.proofs.lists.Tallies.{filter_in}
use Rattle.tp_rules.proofs.ends.Unexecuted.{least_in}
use Rattle.tp_rules.proofs.lists.UpTo.{in_up_to}
use Rattle.tp_rules.specs.Acts.{Act, Took, Did}
use Rattle.tp_rules.specs.Addresses.{executors_of, message, others_accessed, site}
use Rattle.tp_rules.specs.Executor.{Committed, ExecutorState, Step, declarations, declare_least, execute_least, least, react, state_after, waiting}
use Rattle.tp_rules.specs.Journal.{IsSent, acts}
use Rattle.tp_rules.specs.Runs.{IsFreeHistory, outputs_by}
use Rattle.tp_rules.specs.declared.event.Entry.{Entry}
use Rattle.tp_rules.specs.declared.event.Inner.TheVariants.{Declare, Execute}
use Rattle.tp_script.specs.declared.script.Script.{Script}
use Rattle.tp_topology.specs.Counting.{up_to}
use Rattle.tp_topology.specs.Shape.{Shape}
use Rattle.tp_wire.specs.declared.message.Body.TheVariants.{MResult, MStable}
use Rattle.tp_wire.specs.declared.message.Message.{Message}
use Rattle.tp_quiet.proofs.ExecutorsHear.{KnowsMore, act_grows}

-- what an executor has sent by its acts
abbrev pub executor_sent : Shape → Site → List Act → List Message
executor_sent shape me [] = []
executor_sent shape me (act ∷ before) = (react shape me act
    (state_after shape me before)).1 ++ executor_sent shape me before

-- it was sent
pub executor_acts_are_sent : (script : Script) (older : List Entry) → IsFreeHistory script older
    → (k : Site) (n : Message)
    → IsIn n (executor_sent script.topology k (acts older (Executor k))) → IsSent older n
executor_acts_are_sent script older history k =
    acts_send script (Executor k) (executor_sent script.topology k) (λ n there. there)
    (λ before act n there. in_either (outputs_by script before (Executor k) (Some act))
    (executor_sent script.topology k (acts before (Executor k))) n there) older history

module _ (shape : Shape) (me : Site) where
  -- a declared command is a committed one, and each executor of the others was told
  pub record IsDeclaredTold (sent : List Message) (state : ExecutorState) (id : CommandId) : Type 0 where
    pub committed : Committed
    pub there : IsIn committed state.committed
    pub named : committed.command.id ≡ id
    pub told : (q r : ℕ) → IsIn q (others_accessed shape committed.command me.partition.0) → IsFrom 1 shape.replicas r
        → IsIn (message (Executor me) (Executor (site q r)) (MStable id)) sent

  -- an executed command is a committed one, and its session was told
  pub record IsExecutedTold (sent : List Message) (state : ExecutorState) (id : CommandId) : Type 0 where
    pub committed : Committed
    pub there : IsIn committed state.committed
    pub named : committed.command.id ≡ id
    pub answers : List Answer
    pub told : IsIn (message (Executor me) (Session id.session) (MResult id me.partition answers)) sent

  pub record AreTold (sent : List Message) (state : ExecutorState) : Type 0 where
    pub declared : (id : CommandId) → has same_id id state.declared ≡ true → IsDeclaredTold sent state id
    pub executed : (id : CommandId) → has same_id id state.executed ≡ true → IsExecutedTold sent state id

  abbrev ToldAfter : List Message → Step → Type 0
  ToldAfter sent moved = AreTold (moved.1 ++ sent) moved.0

  declared_later : (sent out : List Message) (old new : ExecutorState) (id : CommandId) → KnowsMore old new
      → IsDeclaredTold sent old id → IsDeclaredTold (out ++ sent) new id
  declared_later sent out old new id grows h = record {
    committed = h.committed;
    there = grows.committed h.committed h.there;
    named = h.named;
    told = λ q r among range. in_right out sent _ (h.told q r among range);
  }

  executed_later : (sent out : List Message) (old new : ExecutorState) (id : CommandId) → KnowsMore old new
      → IsExecutedTold sent old id → IsExecutedTold (out ++ sent) new id
  executed_later sent out old new id grows h = record {
    committed = h.committed;
    there = grows.committed h.committed h.there;
    named = h.named;
    answers = h.answers;
    told = in_right out sent _ h.told;
  }

  -- where nothing is declared or executed
  quiet_told : (sent : List Message) (old : ExecutorState) (moved : Step) → KnowsMore old moved.0 → IsQuiet old moved.0
      → AreTold sent old → ToldAfter sent moved
  quiet_told sent old moved grows quiet h = record {
    declared = λ id there. declared_later sent moved.1 old moved.0 id grows
        (h.declared id (subst (λ (l : List CommandId). has same_id id l ≡ true) quiet.declared there));
    executed = λ id there. executed_later sent moved.1 old moved.0 id grows
        (h.executed id (subst (λ (l : List CommandId). has same_id id l ≡ true) quiet.executed there));
  }

  waiting_committed : (state : ExecutorState) (c : Committed) → least (waiting state) ≡ Some c → IsIn c state.committed
  waiting_committed state c is =
      (filter_in (λ (d : Committed). not (has same_id d.key.id state.executed)) state.committed c
      (least_in (waiting state) c is)).0

  tells_others : (sent : List Message) (c : Committed) (q r : ℕ)
      → IsIn q (others_accessed shape c.command me.partition.0) → IsFrom 1 shape.replicas r
      → IsIn (message (Executor me) (Executor (site q r)) (MStable c.command.id))
      (declarations shape me c.command ++ sent)
  unfolding declarations
  tells_others sent c q r among range =
      in_left (declarations shape me c.command) sent
      (message (Executor me) (Executor (site q r)) (MStable c.command.id))
      (map_in (λ (to : ActorName). message (Executor me) to (MStable c.command.id))
      (flat_map (executors_of shape) (others_accessed shape c.command me.partition.0)) (Executor (site q r))
      (flat_in (executors_of shape) (others_accessed shape c.command me.partition.0) q (Executor (site q r)) among
      (map_in (λ (rank : ℕ). Executor (site q rank)) (up_to shape.replicas) r
      (in_up_to shape.replicas r range.0 range.1))))

  declare_told : (sent : List Message) (state : ExecutorState) (o : Option Committed) → least (waiting state) ≡ o
      → AreTold sent state → ToldAfter sent (declare_least shape me o state)
  declare_told sent state None is h = h
  declare_told sent state (Some c) is h =
      let out : List Message = declarations shape me c.command in
      let new : ExecutorState = record state { declared = c.command.id ∷ state.declared } in
      let grows : KnowsMore state new =
      record { told = λ t there. there; committed = λ d there. there; heard = λ x there. there } in
      record {
        declared = λ id there. elim (has_in same_id same_id_is id (c.command.id ∷ state.declared) there) [
          | inl now ↦ subst (IsDeclaredTold (out ++ sent) new) (sym now) (record {
            committed = c;
            there = waiting_committed state c is;
            named = refl;
            told = tells_others sent c;
          })
          | inr before ↦ declared_later sent out state new id grows
              (h.declared id (in_has same_id same_id_refl id state.declared before))
        ];
        executed = λ id there. executed_later sent out state new id grows (h.executed id there);
      }

  execute_told : (sent : List Message) (state : ExecutorState) (o : Option Committed) → least (waiting state) ≡ o
      → AreTold sent state → ToldAfter sent (execute_least shape me o state)
  execute_told sent state None is h = h
  execute_told sent state (Some c) is h =
      let moved : Step = execute_least shape me (Some c) state in
      let grows : KnowsMore state moved.0 =
      record { told = λ t there. there; committed = λ d there. there; heard = λ x there. there } in
      record {
        declared = λ id there. declared_later sent moved.1 state moved.0 id grows (h.declared id there);
        executed = λ id there. elim (has_in same_id same_id_is id (c.command.id ∷ state.executed) there) [
          | inl now ↦ subst (IsExecutedTold (moved.1 ++ sent) moved.0) (sym now) (record {
            committed = c;
            there = waiting_committed state c is;
            named = refl;
            answers = _;
            told = inl refl;
          })
          | inr before ↦ executed_later sent moved.1 state moved.0 id grows
              (h.executed id (in_has same_id same_id_refl id state.executed before))
        ];
      }

  act_told : (act : Act) (sent : List Message) (state : ExecutorState) → AreTold sent state
      → ToldAfter sent (react shape me act state)
  act_told (Took m) sent state h = quiet_told sent state (react shape me (Took m) state)
      (act_grows shape me (Took m) state)
      (message_is_quiet shape me m state) h
  act_told (Did (Declare id)) sent state h = declare_told sent state (least (waiting state)) refl h
  act_told (Did (Execute id)) sent state h = execute_told sent state (least (waiting state)) refl h
  act_told (Did _) sent state h = h

  pub all_told : (acts : List Act) → AreTold (executor_sent shape me acts) (state_after shape me acts)
  all_told [] = record { declared = λ id there. absurd cc; executed = λ id there. absurd cc }
  all_told (act ∷ before) = act_told act (executor_sent shape me before) (state_after shape me before) (all_told before)
