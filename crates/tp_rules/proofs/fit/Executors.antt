-- An executor of an accepted script that took messages that are fit sends messages that are fit.
use Rattle.std.proofs.Common.{◌≡◌, ℕ, suc, ◌≤◌, Bool, true, false, List, [], ◌∷◌, length, Option, Some, None, refl, ap, arith}
use Rattle.std.proofs.lemmas.Bool.{and_parts, cond_both}
use Rattle.std.specs.List.{flat_map}
use Rattle.std.specs.Prelude.{filter, not, ◌==◌, ◌&&◌}
use Rattle.std.specs.Str.{bytes_eq}
use Rattle.tp_base.proofs.Each.{each_in, each_weaker}
use Rattle.tp_base.proofs.Ranges.{range_in}
use Rattle.tp_base.proofs.Tests.{filter_length}
use Rattle.tp_base.specs.Limits.{IsFrom, is_from}
use Rattle.tp_base.specs.Lists.{Each, has}
use Rattle.tp_base.specs.Names.{key_lt, same_id, same_name}
use Rattle.tp_base.specs.declared.names.ActorName.{ActorName}
use Rattle.tp_base.specs.declared.names.ActorName.TheVariants.{Executor}
use Rattle.tp_base.specs.declared.names.CommandId.{CommandId}
use Rattle.tp_base.specs.declared.names.Pair.{Pair}
use Rattle.tp_base.specs.declared.names.Site.{Site}
use Rattle.tp_ops.specs.Limits.{IsAnswer, IsCommand, IsOp, IsValue}
use Rattle.tp_ops.specs.Parts.{is_accessed, is_on, ops_on}
use Rattle.tp_ops.specs.Store.{Contents, after, after_all, answer_of, answers_of, holds, value_before, with_value, yes_or_no}
use Rattle.tp_ops.specs.declared.command.Command.{Command}
use Rattle.tp_ops.specs.declared.operation.Op.{Op}
use Rattle.tp_ops.specs.declared.operation.Op.TheVariants.{Get, Put, Del, Cas}
use Rattle.tp_rules.proofs.fit.Messages.{IsBodyOf, IsCommandHere, IsExecutorOf, IsFit, IsFitAct, command_in_range, each_executor, each_other_accessed, site_in_range, site_is}
use Rattle.tp_rules.proofs.lists.Selections.{IfAny, each_filter, each_image, each_spread, filter_some}
use Rattle.tp_rules.specs.Acts.{Act, Took, Did}
use Rattle.tp_rules.specs.Addresses.{executors_of, is_body_at, is_name_of, message, others_accessed, partition_of, rank_of}
use Rattle.tp_rules.specs.Executor.{Committed, ExecutorState, Step, committed_ids, declarations, declare_least, execute_least, executed, least, lesser, on_body, on_committed, on_promises, on_stable, react, state_after, waiting}
use Rattle.tp_rules.specs.declared.event.Inner.TheVariants.{Announce, Declare, Execute}
use Rattle.tp_script.specs.Accepted.{IsAccepted, IsCommandOf}
use Rattle.tp_script.specs.declared.script.Script.{Script}
use Rattle.tp_topology.specs.Shape.{is_site_of}
use Rattle.tp_wire.specs.declared.message.Body.{Body}
use Rattle.tp_wire.specs.declared.message.Body.TheVariants.{MPromises, MCommitted, MStable}

-- a store that took values in range gives answers in range

abbrev pub HasValues : Contents → Type 0
HasValues contents = (key : List ℕ) → IfAny IsValue (contents key)

value_answer : (o : Option (List ℕ)) → IfAny IsValue o → IsAnswer (value_before o)
value_answer None h = tt
value_answer (Some value) h = h

test_answer : (b : Bool) → IsAnswer (yes_or_no b)
test_answer true = tt
test_answer false = tt

answer_fit : (op : Op) (contents : Contents) → HasValues contents → IsAnswer (answer_of op contents)
answer_fit (Get key) contents h = value_answer (contents key) (h key)
answer_fit (Put key value) contents h = value_answer (contents key) (h key)
answer_fit (Del key) contents h = test_answer _
answer_fit (Cas key old new) contents h = test_answer (holds (contents key) old)

value_put : (key : List ℕ) (value : Option (List ℕ)) (contents : Contents) → IfAny IsValue value → HasValues contents
    → HasValues (with_value key value contents)
value_put key value contents new h other =
    cond_both (bytes_eq key other) value (contents other) (IfAny IsValue) (λ t. new) (λ f. h other)

after_fit : (op : Op) (contents : Contents) → IsOp op → HasValues contents → HasValues (after op contents)
after_fit (Get key) contents of h = h
after_fit (Put key value) contents of h = value_put key (Some value) contents of.1 h
after_fit (Del key) contents of h = value_put key None contents tt h
after_fit (Cas key old new) contents of h =
    cond_both (holds (contents key) old) (with_value key (Some new) contents) contents HasValues (λ t. value_put key (Some new) contents of.2 h) (λ f. h)

after_all_fit : (ops : List Op) (contents : Contents) → Each IsOp ops → HasValues contents → HasValues (after_all ops contents)
after_all_fit [] contents of h = h
after_all_fit (op ∷ ops) contents of h = after_all_fit ops (after op contents) of.1 (after_fit op contents of.0 h)

answers_fit : (ops : List Op) (contents : Contents) → Each IsOp ops → HasValues contents → Each IsAnswer (answers_of ops contents)
answers_fit [] contents of h = tt
answers_fit (op ∷ ops) contents of h =
    (answer_fit op contents h, answers_fit ops (after op contents) of.1 (after_fit op contents of.0 h))

pub answers_many : (ops : List Op) (contents : Contents) → length (answers_of ops contents) ≡ length ops
answers_many [] contents = refl
answers_many (op ∷ ops) contents = ap (λ (n : ℕ). suc n) (answers_many ops (after op contents))

-- the operations of a command on a partition that it accesses

ops_fit : (partitions p : ℕ) (c : Command) → IsCommand c → Each IsOp (ops_on partitions p c.ops)
unfolding ops_on
ops_fit partitions p c of = each_filter IsOp (is_on partitions p) c.ops of.3

ops_many : (partitions p : ℕ) (c : Command) → IsCommand c → is_accessed partitions c p ≡ true → IsFrom 1 16 (length (ops_on partitions p c.ops))
unfolding ops_on is_accessed
ops_many partitions p c of accesses =
    let fewer : length (filter (is_on partitions p) c.ops) ≤ length c.ops = filter_length (is_on partitions p) c.ops in
    let few : IsFrom 1 16 (length c.ops) = of.2 in
    (filter_some (is_on partitions p) c.ops accesses, omega (arith, few.1))

module _ (script : Script) (accepted : IsAccepted script) (me : Site) (here : is_site_of script.topology me ≡ true) where
  abbrev pub IsOurs : Committed → Type 0
  IsOurs k = IsCommandHere script me.partition.0 k.command

  -- what an executor keeps
  pub record IsSound (state : ExecutorState) : Type 0 where
    pub committed : Each IsOurs state.committed
    pub contents : HasValues state.contents

  abbrev pub Goes : Step → Type 0
  Goes moved = IsSound moved.0 × Each (IsFit script) moved.1

  least_ours : (cs : List Committed) → Each IsOurs cs → IfAny IsOurs (least cs)
  least_ours [] h = tt
  least_ours (c ∷ cs) h = of_lesser (least cs) (least_ours cs h.1)
    where
      of_lesser : (o : Option Committed) → IfAny IsOurs o → IsOurs (lesser c o)
      of_lesser None k = h.0
      of_lesser (Some d) k = cond_both (key_lt d.key c.key) d c IsOurs (λ t. k) (λ f. h.0)

  next_ours : (state : ExecutorState) → IsSound state → IfAny IsOurs (least (waiting state))
  next_ours state sound =
      least_ours (waiting state) (each_filter IsOurs (λ c. not (has same_id c.key.id state.executed)) state.committed sound.committed)

  executed_fit : (state : ExecutorState) (c : Command) → IsSound state → IsCommandHere script me.partition.0 c
      → Goes (executed script.topology me c state)
  executed_fit state c sound ours =
      let partitions : ℕ = script.topology.partitions in
      let is_command : IsCommand c = command_in_range script c accepted ours.ours in
      let is_of : IsCommandOf script.homes c = each_in (IsCommandOf script.homes) script.commands c accepted.commands ours.ours in
      let ops : List Op = ops_on partitions me.partition.0 c.ops in
      let each_op : Each IsOp ops = ops_fit partitions me.partition.0 c is_command in
      let many : IsFrom 1 16 (length ops) = ops_many partitions me.partition.0 c is_command ours.accesses in
      let as_many : length (answers_of ops state.contents) ≡ length ops = answers_many ops state.contents in
      let of = site_is script.topology me here in (
        record { committed = sound.committed; contents = after_all_fit ops state.contents each_op sound.contents },
        (
          record {
            known = range_in 1 (length script.homes) c.id.session.0 is_of.1;
            range = (
              site_in_range script.topology accepted.shape me.partition.0 me.rank.0 of.0 of.1,
              is_command.0.0,
              is_command.0,
              (of.0.0, omega (arith, of.0.1, accepted.shape.few_partitions)),
              (omega (arith, many.0), omega (arith, many.1)),
              answers_fit ops state.contents each_op sound.contents,
            );
            ours = tt;
          },
          tt,
        ),
      )

  execute_fit : (state : ExecutorState) (o : Option Committed) → IsSound state → IfAny IsOurs o
      → Goes (execute_least script.topology me o state)
  execute_fit state None sound ours = (sound, tt)
  execute_fit state (Some c) sound ours = executed_fit state c.command sound ours

  declarations_fit : (c : Command) → IsCommandHere script me.partition.0 c → Each (IsFit script) (declarations script.topology me c)
  unfolding declarations
  declarations_fit c ours =
      let is_command : IsCommand c = command_in_range script c accepted ours.ours in
      let of = site_is script.topology me here in
      let others : List ℕ = others_accessed script.topology c me.partition.0 in
      let names : List ActorName = flat_map (executors_of script.topology) others in
      let each_name : Each (IsExecutorOf script) names = each_spread (IsExecutorOf script) (executors_of script.topology) others
      (each_weaker (IsFrom 1 script.topology.partitions) (λ q. Each (IsExecutorOf script) (executors_of script.topology q))
      (each_executor script accepted.shape) others (each_other_accessed script.topology c me.partition.0)) in
      each_image (IsFit script) (λ to. message (Executor me) to (MStable c.id)) names
      (each_weaker (IsExecutorOf script) (λ to. IsFit script (message (Executor me) to (MStable c.id)))
      (λ to is_executor. record {
        known = is_executor.1;
        range = (site_in_range script.topology accepted.shape me.partition.0 me.rank.0 of.0 of.1, is_executor.0, is_command.0);
        ours = tt;
      })
      names each_name)

  declare_fit : (state : ExecutorState) (o : Option Committed) → IsSound state → IfAny IsOurs o → Goes (declare_least script.topology me o state)
  declare_fit state None sound ours = (sound, tt)
  declare_fit state (Some c) sound ours =
      (record { committed = sound.committed; contents = sound.contents }, declarations_fit c.command ours)

  committed_fit : (state : ExecutorState) (c : Command) (t : ℕ) → IsSound state → IsCommandHere script me.partition.0 c
      → Goes (on_committed c t state)
  committed_fit state c t sound ours =
      let k : Committed = record { key = record { stamp = record { 0 = t }; id = c.id }; command = c } in
      cond_both (has same_id c.id (committed_ids state)) (state, []) (record state { committed = k ∷ state.committed }, []) Goes
      (λ there. (sound, tt))
      (λ new. (record { committed = (ours, sound.committed); contents = sound.contents }, tt))

  promises_fit : (state : ExecutorState) (from : ActorName) (lo hi : ℕ) (pairs : List Pair) → IsSound state
      → Goes (on_promises me from lo hi pairs state)
  promises_fit state from lo hi pairs sound =
      cond_both _ (record state { told = record { rank = rank_of from; lo = lo; hi = hi; attached = pairs } ∷ state.told }, []) (state, []) Goes
      (λ t. (record { committed = sound.committed; contents = sound.contents }, tt))
      (λ f. (sound, tt))

  stable_fit : (state : ExecutorState) (from : ActorName) (id : CommandId) → IsSound state → Goes (on_stable me from id state)
  stable_fit state from id sound =
      cond_both (not (partition_of from == me.partition.0))
      (record state { heard = record { id = id; partition = partition_of from } ∷ state.heard }, []) (state, []) Goes
      (λ t. (record { committed = sound.committed; contents = sound.contents }, tt))
      (λ f. (sound, tt))

  body_fit : (from : ActorName) (body : Body) (state : ExecutorState) → IsSound state → IsBodyOf script body
      → is_body_at script.topology me.partition.0 body ≡ true → Goes (on_body me from body state)
  body_fit from (MPromises lo hi pairs) state sound ours at = promises_fit state from lo hi pairs sound
  body_fit from (MCommitted c t) state sound ours at =
      let both = and_parts (is_from 1 script.topology.replicas c.home.0) (is_accessed script.topology.partitions c me.partition.0) at in
      committed_fit state c t.0 sound (record { ours = ours; accesses = both.1 })
  body_fit from (MStable id) state sound ours at = stable_fit state from id sound
  body_fit from _ state sound ours at = (sound, tt)

  -- what it keeps and sends
  pub executor_fit : (act : Act) (state : ExecutorState) → IsFitAct script act → IsSound state → Goes (react script.topology me act state)
  executor_fit (Took m) state fit sound =
      let shape = script.topology in
      let to_me = same_name m.to (Executor me) in
      let named = is_name_of shape m.from in
      let at = is_body_at shape me.partition.0 m.body in
      cond_both (to_me && named && at) (on_body me m.from m.body state) (state, []) Goes
      (λ t. body_fit m.from m.body state sound fit.ours (and_parts (to_me && named) at t).1)
      (λ f. (sound, tt))
  executor_fit (Did (Declare id)) state fit sound = declare_fit state (least (waiting state)) sound (next_ours state sound)
  executor_fit (Did (Execute id)) state fit sound = execute_fit state (least (waiting state)) sound (next_ours state sound)
  executor_fit (Did Announce) state fit sound = (sound, tt)
  executor_fit (Did _) state fit sound = (sound, tt)

  pub executor_sound : (acts : List Act) → Each (IsFitAct script) acts → IsSound (state_after script.topology me acts)
  executor_sound [] fits = record { committed = tt; contents = λ key. tt }
  executor_sound (act ∷ before) fits =
      (executor_fit act (state_after script.topology me before) fits.0 (executor_sound before fits.1)).0
