-- What an executor took it keeps: promises that were told, commands that are committed, and declarations of other
-- partitions.
-- Used for the executors in a run in which nothing is pending.
use Rattle.std.proofs.Common.{◌≡◌, Bool, inl, inr, true, false, List, [], ◌∷◌, Option, Some, None, refl, sym, subst}
use Rattle.std.specs.Prelude.{◌==◌, ◌&&◌, not}
use Rattle.std.proofs.lemmas.Bool.{both_ways, cond_both, eq-eqb, eqb-true}
use Rattle.tp_base.proofs.Members.{has_in, in_map}
use Rattle.tp_base.proofs.SameNames.{same_id_is}
use Rattle.tp_base.specs.Lists.{IsIn, has}
use Rattle.tp_base.specs.Names.{same_id, same_name}
use Rattle.tp_base.specs.declared.names.ActorName.{ActorName}
use Rattle.tp_base.specs.declared.names.ActorName.TheVariants.{Executor}
use Rattle.tp_base.specs.declared.names.CommandId.{CommandId}
use Rattle.tp_base.specs.declared.names.Site.{Site}
use Rattle.tp_rules.specs.Acts.{Act, Took, Did}
use Rattle.tp_rules.specs.Addresses.{is_body_at, is_name_of, partition_of, rank_of}
use Rattle.tp_rules.specs.Executor.{Committed, ExecutorState, Heard, Step, committed_ids, declare_least, execute_least, least, on_body, react, state_after, waiting}
use Rattle.tp_rules.specs.declared.event.Inner.TheVariants.{Declare, Execute}
use Rattle.tp_topology.specs.Shape.{Shape}
use Rattle.tp_topology.specs.Stability.{Telling}
use Rattle.tp_wire.specs.declared.message.Body.{Body}
use Rattle.tp_wire.specs.declared.message.Body.TheVariants.{MPromises, MCommitted, MStable}
use Rattle.tp_wire.specs.declared.message.Message.{Message}

-- a command that is committed under an identifier
pub record IsCommittedAs (state : ExecutorState) (id : CommandId) : Type 0 where
  pub committed : Committed
  pub there : IsIn committed state.committed
  pub named : committed.key.id ≡ id

-- a later state knows what an earlier one did
pub record KnowsMore (old new : ExecutorState) : Type 0 where
  pub told : (t : Telling) → IsIn t old.told → IsIn t new.told
  pub committed : (c : Committed) → IsIn c old.committed → IsIn c new.committed
  pub heard : (h : Heard) → IsIn h old.heard → IsIn h new.heard

pub knows_itself : (state : ExecutorState) → KnowsMore state state
knows_itself state = record { told = λ t there. there; committed = λ c there. there; heard = λ h there. there }

module _ (shape : Shape) (me : Site) where
  abbrev Grows : ExecutorState → Step → Type 0
  Grows state moved = KnowsMore state moved.0

  body_grows : (from : ActorName) (body : Body) (state : ExecutorState) → Grows state (on_body me from body state)
  body_grows from (MPromises lo hi pairs) state =
      cond_both (partition_of from == me.partition.0) _ (state, []) (Grows state)
      (λ y. record { told = λ t there. inr there; committed = λ c there. there; heard = λ h there. there })
      (λ n. knows_itself state)
  body_grows from (MCommitted c t) state =
      cond_both (has same_id c.id (committed_ids state)) (state, []) _ (Grows state) (λ y. knows_itself state)
      (λ n. record { told = λ t there. there; committed = λ c there. inr there; heard = λ h there. there })
  body_grows from (MStable id) state =
      cond_both (not (partition_of from == me.partition.0)) _ (state, []) (Grows state)
      (λ y. record { told = λ t there. there; committed = λ c there. there; heard = λ h there. inr there })
      (λ n. knows_itself state)
  body_grows from _ state = knows_itself state

  declare_grows : (o : Option Committed) (state : ExecutorState) → Grows state (declare_least shape me o state)
  declare_grows None state = knows_itself state
  declare_grows (Some c) state =
      record { told = λ t there. there; committed = λ c there. there; heard = λ h there. there }

  execute_grows : (o : Option Committed) (state : ExecutorState) → Grows state (execute_least shape me o state)
  execute_grows None state = knows_itself state
  execute_grows (Some c) state =
      record { told = λ t there. there; committed = λ c there. there; heard = λ h there. there }

  pub act_grows : (act : Act) (state : ExecutorState) → Grows state (react shape me act state)
  act_grows (Took m) state =
      cond_both (same_name m.to (Executor me) && is_name_of shape m.from && is_body_at shape me.partition.0 m.body)
      (on_body me m.from m.body state) (state, []) (Grows state) (λ y. body_grows m.from m.body state)
      (λ n. knows_itself state)
  act_grows (Did (Declare id)) state = declare_grows (least (waiting state)) state
  act_grows (Did (Execute id)) state = execute_grows (least (waiting state)) state
  act_grows (Did _) state = knows_itself state

  -- what a message tells is known
  abbrev pub Heeds : ActorName → ExecutorState → Body → Type 0
  Heeds from state (MPromises lo hi pairs) = partition_of from ≡ me.partition.0
      → IsIn (record { rank = rank_of from; lo = lo; hi = hi; attached = pairs }) state.told
  Heeds from state (MCommitted c t) = IsCommittedAs state c.id
  Heeds from state (MStable id) = (partition_of from ≡ me.partition.0 → ⊥)
      → IsIn (record { id = id; partition = partition_of from }) state.heard
  Heeds from state _ = Unit {0}

  heeds_later : (from : ActorName) (old new : ExecutorState) (body : Body) → KnowsMore old new → Heeds from old body
      → Heeds from new body
  heeds_later from old new (MPromises lo hi pairs) grows h = λ own. grows.told _ (h own)
  heeds_later from old new (MCommitted c t) grows h =
      record { committed = h.committed; there = grows.committed h.committed h.there; named = h.named }
  heeds_later from old new (MStable id) grows h = λ other. grows.heard _ (h other)
  heeds_later from old new _ grows h = tt

  abbrev HeedsAfter : ActorName → Body → Step → Type 0
  HeedsAfter from body moved = Heeds from moved.0 body

  body_heeds : (from : ActorName) (body : Body) (state : ExecutorState)
      → HeedsAfter from body (on_body me from body state)
  body_heeds from (MPromises lo hi pairs) state =
      cond_both (partition_of from == me.partition.0) _ (state, []) (HeedsAfter from (MPromises lo hi pairs))
      (λ y own. inl refl)
      (λ n own. absurd (both_ways (partition_of from == me.partition.0) n
      (eq-eqb (partition_of from) me.partition.0 own)))
  body_heeds from (MCommitted c t) state =
      cond_both (has same_id c.id (committed_ids state)) (state, []) _ (HeedsAfter from (MCommitted c t))
      (λ y.
      let by = in_map (λ (x : Committed). x.key.id) state.committed c.id
      (has_in same_id same_id_is c.id (committed_ids state) y) in
      record { committed = by.0; there = by.1; named = sym by.2 })
      (λ n. record { committed = _; there = inl refl; named = refl })
  body_heeds from (MStable id) state =
      cond_both (not (partition_of from == me.partition.0)) _ (state, []) (HeedsAfter from (MStable id))
      (λ y other. inl refl)
      (λ n other. absurd (other (eqb-true (partition_of from) me.partition.0
      (not_not (partition_of from == me.partition.0) n))))
    where
      not_not : (b : Bool) → not b ≡ false → b ≡ true
      not_not true e = refl
      not_not false e = absurd cc
  body_heeds from _ state = tt

  -- the names of a message are of the shape
  abbrev pub IsNamed : Message → Type 0
  IsNamed m = same_name m.to (Executor me) && is_name_of shape m.from && is_body_at shape me.partition.0 m.body ≡ true

  message_heeds : (m : Message) (state : ExecutorState) → IsNamed m
      → HeedsAfter m.from m.body (react shape me (Took m) state)
  message_heeds m state named =
      let names : Bool = same_name m.to
      (Executor me) && is_name_of shape m.from && is_body_at shape me.partition.0 m.body in
      cond_both names (on_body me m.from m.body state) (state, []) (HeedsAfter m.from m.body)
      (λ y. body_heeds m.from m.body state) (λ n. absurd (both_ways names n named))

  pub all_heeded : (acts : List Act) (m : Message) → IsIn (Took m) acts → IsNamed m
      → Heeds m.from (state_after shape me acts) m.body
  all_heeded [] m there named = absurd there
  all_heeded (act ∷ before) m (inr there) named =
      heeds_later m.from (state_after shape me before) (state_after shape me (act ∷ before)) m.body
      (act_grows act (state_after shape me before)) (all_heeded before m there named)
  all_heeded (act ∷ before) m (inl same) named =
      subst (λ (a : Act). Heeds m.from (react shape me a (state_after shape me before)).0 m.body) same
      (message_heeds m (state_after shape me before) named)
