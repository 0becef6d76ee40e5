-- What an executor knows comes of the messages that it took.
-- Used for its promises and commits (CommittedAndDue), and for what it heard from other partitions (Declarations).
use Rattle.std.proofs.Common.{◌≡◌, List, [], ◌∷◌, Option, Some, None, refl}
use Rattle.std.specs.Prelude.{◌==◌, ◌&&◌, not, true}
use Rattle.std.proofs.lemmas.Bool.{cond_both, and_parts, eqb-true}
use Rattle.tp_base.specs.Limits.{is_from}
use Rattle.tp_base.specs.Lists.{Each, has}
use Rattle.tp_base.specs.Names.{same_id, same_name}
use Rattle.tp_base.specs.declared.names.ActorName.TheVariants.{Executor}
use Rattle.tp_base.specs.declared.names.Site.{Site}
use Rattle.tp_base.specs.declared.names.Stamp.{Stamp}
use Rattle.tp_ops.specs.Parts.{is_accessed}
use Rattle.tp_rules.specs.Acts.{Act, Took, Did}
use Rattle.tp_rules.specs.Addresses.{rank_of, partition_of, is_name_of, is_body_at}
use Rattle.tp_rules.specs.declared.event.Inner.TheVariants.{Declare, Execute}
use Rattle.tp_topology.specs.Shape.{Shape}
use Rattle.tp_topology.specs.Stability.{Telling}
use Rattle.tp_wire.specs.declared.message.Body.{Body}
use Rattle.tp_wire.specs.declared.message.Body.TheVariants.{MPromises, MCommitted, MStable}
use Rattle.tp_wire.specs.declared.message.Message.{Message}
use Rattle.tp_facts.proofs.Deliveries.{Takes}
use Rattle.tp_rules.specs.Executor as executor

-- P is what holds of each message that the executor took
module _ (P : Message → Type 0) (shape : Shape) (me : Site) where
  -- promises were told by a process of this partition
  pub record PromisesMessage (t : Telling) : Type 0 where
    pub message : Message
    pub taken : P message
    pub body : message.body ≡ MPromises t.lo t.hi t.attached
    pub partition : partition_of message.from ≡ me.partition.0
    pub rank : rank_of message.from ≡ t.rank

  -- a committed command was told with its stamp, and accesses this partition
  pub record CommittedMessage (c : executor.Committed) : Type 0 where
    pub message : Message
    pub taken : P message
    pub stamp : Stamp
    pub body : message.body ≡ MCommitted c.command stamp
    pub key : c.key ≡ record { stamp = record { 0 = stamp.0 }; id = c.command.id }
    pub accesses : is_accessed shape.partitions c.command me.partition.0 ≡ true

  -- a declaration was heard from the partition that it is noted for
  pub record StableMessage (h : executor.Heard) : Type 0 where
    pub message : Message
    pub taken : P message
    pub body : message.body ≡ MStable h.id
    pub partition : partition_of message.from ≡ h.partition

  -- all that a state knows was told by messages
  pub record KnowsByMessages (state : executor.ExecutorState) : Type 0 where
    pub told : Each PromisesMessage state.told
    pub committed : Each CommittedMessage state.committed
    pub heard : Each StableMessage state.heard

  abbrev KnowsAfter : executor.Step → Type 0
  KnowsAfter moved = KnowsByMessages moved.0

  -- a message adds what it tells
  rule_keeps : (m : Message) (body : Body) (state : executor.ExecutorState) → m.body ≡ body → P m →
      is_body_at shape me.partition.0 body ≡ true → KnowsByMessages state →
      KnowsAfter (executor.on_body me m.from body state)
  rule_keeps m (MPromises lo hi pairs) state is taken fits knows =
      let telling : Telling = record { rank = rank_of m.from; lo = lo; hi = hi; attached = pairs } in
      let next : executor.ExecutorState = record state { told = telling ∷ state.told } in
      cond_both (partition_of m.from == me.partition.0) (next, []) (state, []) KnowsAfter
      (λ own. record {
        told = (
          record { message = m; taken = taken; body = is; partition = eqb-true _ _ own; rank = refl },
          knows.told,
        );
        committed = knows.committed;
        heard = knows.heard;
      })
      (λ foreign. knows)
  rule_keeps m (MCommitted c t) state is taken fits knows =
      let new : executor.Committed = record { key = record { stamp = record { 0 = t.0 }; id = c.id }; command = c } in
      let next : executor.ExecutorState = record state { committed = new ∷ state.committed } in
      cond_both (has same_id c.id (executor.committed_ids state)) (state, []) (next, []) KnowsAfter
      (λ known. knows)
      (λ unknown. record {
        told = knows.told;
        committed = (
          record {
            message = m;
            taken = taken;
            stamp = t;
            body = is;
            key = refl;
            accesses =
                (and_parts (is_from 1 shape.replicas c.home.0) (is_accessed shape.partitions c me.partition.0) fits).1;
          },
          knows.committed,
        );
        heard = knows.heard;
      })
  rule_keeps m (MStable id) state is taken fits knows =
      let new : executor.Heard = record { id = id; partition = partition_of m.from } in
      let next : executor.ExecutorState = record state { heard = new ∷ state.heard } in
      cond_both (not (partition_of m.from == me.partition.0)) (next, []) (state, []) KnowsAfter
      (λ foreign. record {
        told = knows.told;
        committed = knows.committed;
        heard = (record { message = m; taken = taken; body = is; partition = refl }, knows.heard);
      })
      (λ own. knows)
  rule_keeps m _ state is taken fits knows = knows

  declaration_keeps : (o : Option executor.Committed) (state : executor.ExecutorState) → KnowsByMessages state →
      KnowsAfter (executor.declare_least shape me o state)
  declaration_keeps None state knows = knows
  declaration_keeps (Some c) state knows =
      record { told = knows.told; committed = knows.committed; heard = knows.heard }

  execution_keeps : (o : Option executor.Committed) (state : executor.ExecutorState) → KnowsByMessages state →
      KnowsAfter (executor.execute_least shape me o state)
  execution_keeps None state knows = knows
  execution_keeps (Some c) state knows =
      record { told = knows.told; committed = knows.committed; heard = knows.heard }

  act_keeps : (act : Act) (state : executor.ExecutorState) → Takes P act → KnowsByMessages state →
      KnowsAfter (executor.react shape me act state)
  act_keeps (Took m) state taken knows =
      let mine = same_name m.to (Executor me) in
      let named = is_name_of shape m.from in
      let fits = is_body_at shape me.partition.0 m.body in
      cond_both (mine && named && fits) (executor.on_body me m.from m.body state) (state, []) KnowsAfter
      (λ passes. rule_keeps m m.body state refl taken (and_parts (mine && named) fits passes).1 knows) (λ fails. knows)
  act_keeps (Did (Declare id)) state did knows = declaration_keeps (executor.least (executor.waiting state)) state knows
  act_keeps (Did (Execute id)) state did knows = execution_keeps (executor.least (executor.waiting state)) state knows
  act_keeps (Did _) state did knows = knows

  -- whatever acts an executor makes, it knows what messages told it
  pub knows_by_messages : (acts : List Act) → Each (Takes P) acts → KnowsByMessages (executor.state_after shape me acts)
  knows_by_messages [] took = record { told = tt; committed = tt; heard = tt }
  knows_by_messages (act ∷ before) took =
      act_keeps act (executor.state_after shape me before) took.0 (knows_by_messages before took.1)
