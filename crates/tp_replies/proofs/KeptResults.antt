-- A session keeps the first result of each partition that was delivered to it. Used for the session's own reply.
use Rattle.std.proofs.Common.{◌≡◌, ℕ, ◌≤◌, inl, inr, Bool, true, false, cond, List, [], ◌∷◌, length, Option, Some, None, refl, sym, ap, subst, ◌∙◌, arith}
use Rattle.std.specs.Option.{option_or}
use Rattle.std.specs.Prelude.{is_none, nat_le, option_map, ◌==◌, ◌&&◌}
use Rattle.std.specs.List.{list_any}
use Rattle.std.proofs.lemmas.Bool.{and_from, and_parts, cases_Bool, cond_both, cond-true, eq-eqb, eqb-true, le-leb}
use Rattle.tp_base.proofs.Options.{or_none}
use Rattle.tp_base.proofs.Ranges.{range_in}
use Rattle.tp_base.proofs.Tables.{kept_here}
use Rattle.tp_base.specs.Names.{same_id, same_name}
use Rattle.tp_base.proofs.SameNames.{same_id_is, same_name_is, same_name_refl}
use Rattle.tp_base.specs.Tables.{kept_at, nth, with_nth}
use Rattle.tp_base.specs.declared.names.ActorName.{ActorName}
use Rattle.tp_base.specs.declared.names.ActorName.TheVariants.{Session}
use Rattle.tp_base.specs.declared.names.CommandId.{CommandId}
use Rattle.tp_base.specs.declared.names.PartitionId.{PartitionId}
use Rattle.tp_facts.proofs.Commands.{accessed_from}
use Rattle.tp_facts.proofs.Deliveries.{output_is_sent}
use Rattle.tp_ops.specs.declared.command.Command.{Command}
use Rattle.tp_ops.specs.declared.operation.Answer.{Answer}
use Rattle.tp_ops.specs.Parts.{is_accessed, is_on, ops_on}
use Rattle.tp_ops.specs.Store.{empty}
use Rattle.tp_rules.specs.Acts.{Act, Took, Client}
use Rattle.tp_rules.specs.Addresses.{is_name_of, is_body_at}
use Rattle.tp_rules.specs.Journal.{act_of, acts, client_of, output_at, with_act, IsSent}
use Rattle.tp_rules.specs.Outcome.{command_of, first_result, ops_of, result_at, result_by, result_in}
use Rattle.tp_rules.specs.Runs.{IsFor, IsFreeHistory, MayHappen}
use Rattle.tp_rules.specs.Session as session
use Rattle.tp_rules.specs.declared.event.Entry.{Entry}
use Rattle.tp_rules.specs.declared.event.Event.{Event}
use Rattle.tp_rules.specs.declared.event.Event.TheVariants.{Deliver, Dropped, Inner as OfItself}
use Rattle.tp_rules.specs.declared.event.Inner.TheVariants.{Submit}
use Rattle.tp_script.specs.Accepted.{IsAccepted}
use Rattle.tp_script.specs.declared.script.Script.{Script}
use Rattle.tp_topology.specs.Shape.{Shape}
use Rattle.tp_wire.specs.declared.message.Body.{Body}
use Rattle.tp_wire.specs.declared.message.Body.TheVariants.{MResult}
use Rattle.tp_wire.specs.declared.message.Message.{Message}
use Rattle.tp_rules.proofs.ends.Unsubmitted.{submitted_covers}
use Rattle.tp_replies.specs.SessionReply.{session_of}
use Rattle.tp_replies.specs.Stores.{partition_contents, partition_ops}
use Rattle.tp_replies.proofs.SentResults.{result_is}
use Rattle.tp_replies.proofs.Line.{executed_in_line, line_submitted}
use Rattle.tp_replies.proofs.SessionCommands.{command_at}
use Rattle.tp_replies.proofs.SessionTables.{has_places, kept_elsewhere, none_kept}
use Rattle.tp_rules.proofs.fit.Executors.{answers_many}

-- a command, and a partition that it accesses
module _ (script : Script) (accepted : IsAccepted script) (id : CommandId) (c : Command)
    (is : command_of script id ≡ Some c) (p : ℕ) (on : list_any (is_on script.topology.partitions p) c.ops ≡ true) where
  abbrev shape : Shape
  shape = script.topology

  abbrev client : Client
  client = client_of script id.session

  -- what is kept of the partition's answers
  abbrev kept : session.SessionState → Option (List Answer)
  kept state = kept_at (state.kept id.number) p

  -- how many answers the partition gives
  abbrev count : ℕ
  count = length (ops_on shape.partitions p c.ops)

  within : (1 ≤ p) × (p ≤ shape.partitions)
  unfolding is_accessed
  within = accessed_from shape.partitions c p accepted.shape.some_partition on

  -- what a session asks of the partition's answers
  record Accepts (state : session.SessionState) (from : ActorName) (answers : List Answer) : Type 0 where
    -- their sender is one of the shape
    named : is_name_of shape from ≡ true
    -- the command was submitted
    asked : id.number ≤ state.submitted
    -- each operation there has an answer
    many : length answers ≡ count

  abbrev passes : session.SessionState → CommandId → ℕ → List Answer → Bool
  passes state d q answers = (d.session.0 == client.session.0) && nat_le d.number state.submitted
      && session.is_awaited shape q answers (state.kept d.number) (nth client.commands d.number)

  -- answers to another command, or of another partition
  other_result : (d : CommandId) (q : ℕ) (answers : List Answer) (state : session.SessionState)
      → (same_id d id && (q == p)) ≡ false → kept (session.on_result shape client d q answers state).0 ≡ kept state
  other_result d q answers state apart =
      let table : List (Option (List Answer)) = state.kept id.number in
      cond_both (passes state d q answers) _ _ (λ (moved : session.Step). kept moved.0 ≡ kept state)
      (λ t. cond_both (id.number == d.number) (with_nth table q (Some answers)) table
      (λ (new : List (Option (List Answer))). kept_at new p ≡ kept state)
      (λ number. kept_elsewhere table q p answers (λ e. absurd (
      let session : (d.session.0 == id.session.0) ≡ true = (and_parts _ _ (and_parts _ _ t).0).0 in
      let same : (d.number == id.number) ≡ true =
      eq-eqb d.number id.number (sym (eqb-true id.number d.number number)) in
      let wrong : (same_id d id && (q == p)) ≡ true = and_from (same_id d id) (q == p)
      (and_from (d.session.0 == id.session.0) (d.number == id.number) session same) (eq-eqb q p e) in
      cc
      )))
      (λ number. refl))
      (λ f. refl)

  -- the first answers are kept
  first_kept : (answers : List Answer) (state : session.SessionState) → id.number ≤ state.submitted
      → length answers ≡ count → kept state ≡ None → length (state.kept id.number) ≡ shape.partitions
      → kept (session.on_result shape client id p answers state).0 ≡ Some answers
  unfolding is_accessed
  first_kept answers state asked many none places =
      let table : List (Option (List Answer)) = state.kept id.number in
      let awaited : session.is_awaited shape p answers table (Some c) ≡ true =
      and_from (is_accessed shape.partitions c p && is_none (kept_at table p)) (length answers == count)
      (and_from (is_accessed shape.partitions c p) (is_none (kept_at table p)) on (ap is_none none))
      (eq-eqb (length answers) count many) in
      let yes : passes state id p answers ≡ true =
      and_from ((id.session.0 == client.session.0) && nat_le id.number state.submitted)
      (session.is_awaited shape p answers table (nth client.commands id.number))
      (and_from (id.session.0 == client.session.0) (nat_le id.number state.submitted)
      (eq-eqb id.session.0 id.session.0 refl) (le-leb id.number state.submitted asked))
      (subst (λ (o : Option Command). session.is_awaited shape p answers table o ≡ true)
      (sym (command_at script accepted id ∙ is)) awaited) in
      ap (λ (moved : session.Step). kept moved.0) (cond-true (passes state id p answers) _ _ yes)
      ∙ ap (λ (b : Bool). kept_at (cond b (with_nth table p (Some answers)) table) p) (eq-eqb id.number id.number refl)
      ∙ kept_here table p answers within.0 (omega (arith, within.1, places))

  -- later answers change nothing
  later_result : (answers old : List Answer) (state : session.SessionState) → kept state ≡ Some old
      → kept (session.on_result shape client id p answers state).0 ≡ Some old
  later_result answers old state some =
      cond_both (passes state id p answers) _ _ (λ (moved : session.Step). kept moved.0 ≡ Some old)
      (λ t. absurd (awaits (nth client.commands id.number) (and_parts _ _ t).1))
      (λ f. some)
    where
      awaits : (o : Option Command) → session.is_awaited shape p answers (state.kept id.number) o ≡ true → ⊥
      awaits None e = absurd cc
      awaits (Some d) e =
          let parts = and_parts (is_accessed shape.partitions d p && is_none (kept state))
          (length answers == length (ops_on shape.partitions p d.ops)) e in
          let none : is_none (kept state) ≡ true =
          (and_parts (is_accessed shape.partitions d p) (is_none (kept state)) parts.0).1 in
          let not_none : is_none (kept state) ≡ false = ap is_none some in
          cc

  -- the partition's answers to the command
  own_result : (answers : List Answer) (state : session.SessionState) → id.number ≤ state.submitted
      → length answers ≡ count → length (state.kept id.number) ≡ shape.partitions
      → (o : Option (List Answer)) → kept state ≡ o
      → kept (session.on_result shape client id p answers state).0 ≡ option_or (kept state) (Some answers)
  own_result answers state asked many places None none =
      first_kept answers state asked many none places
      ∙ ap (λ (o : Option (List Answer)). option_or o (Some answers)) (sym none)
  own_result answers state asked many places (Some old) some =
      later_result answers old state some ∙ ap (λ (o : Option (List Answer)). option_or o (Some answers)) (sym some)

  -- a message to the session, whose tests of names come to b
  body_kept : (from : ActorName) (body : Body) (state : session.SessionState)
      → length (state.kept id.number) ≡ shape.partitions
      → ((q : PartitionId) (answers : List Answer) → body ≡ MResult id q answers → q.0 ≡ p → Accepts state from answers)
      → (b : Bool) → (is_name_of shape from && is_body_at shape 0 body) ≡ b
      → kept (cond b (session.on_body shape client body state) (state, [])).0
      ≡ option_or (kept state) (result_by id p body)
  body_kept from (MResult d q answers) state places h b e = elim (cases_Bool (same_id d id && (q.0 == p))) [
    | inl own ↦
        let both = and_parts (same_id d id) (q.0 == p) own in
        let same : d ≡ id = same_id_is d id both.0 in
        let here : q.0 ≡ p = eqb-true q.0 p both.1 in
        let accepts : Accepts state from answers = h q answers (λ i. MResult (same i) q answers) here in
        let yes : b ≡ true =
        sym e ∙ and_from (is_name_of shape from) (is_body_at shape 0 (MResult d q answers)) accepts.named
        (range_in 1 shape.partitions q.0 (omega (arith, here, within.0), omega (arith, here, within.1))) in
        let moved : session.Step = session.on_result shape client d q.0 answers state in
        ap (λ (t : Bool). kept (cond {A = session.Step} t moved (state, [])).0) yes
        ∙ ap (λ (i : CommandId). kept (session.on_result shape client i q.0 answers state).0) same
        ∙ ap (λ (k : ℕ). kept (session.on_result shape client id k answers state).0) here
        ∙ own_result answers state accepts.asked accepts.many places (kept state) refl
        ∙ ap (λ (t : Bool). option_or (kept state) (cond t (Some answers) None)) (sym own)
    | inr other ↦
        cond_both b (session.on_result shape client d q.0 answers state) (state, [])
        (λ (moved : session.Step). kept moved.0 ≡ kept state) (λ t. other_result d q.0 answers state other) (λ f. refl)
        ∙ sym (or_none (kept state))
        ∙ ap (λ (t : Bool). option_or (kept state) (cond t (Some answers) None)) (sym other)
  ]
  body_kept from _ state places h true e = sym (or_none (kept state))
  body_kept from _ state places h false e = sym (or_none (kept state))

  -- each result that was sent is one that the session accepts
  accepts : (older : List Entry) (m : Message) → IsFreeHistory script older → IsSent older m
      → (q : PartitionId) (answers : List Answer) → m.body ≡ MResult id q answers → q.0 ≡ p
      → Accepts (session_of script older id) m.from answers
  accepts older m history sent q answers body here =
      let result = result_is script accepted m id q answers body older history sent in
      let x = result.executed in
      record {
        named = ap (is_name_of shape) result.by ∙ x.known;
        asked = submitted_covers script older id history
            (line_submitted script accepted older id history (executed_in_line script older id q.0 answers x));
        many =
            ap (λ (given : List Answer). length given) x.answered
            ∙ answers_many (partition_ops script q.0 id) (partition_contents script q.0 x.before empty)
            ∙ ap (λ (k : ℕ). length (partition_ops script k id)) here
            ∙ ap (λ (o : Option Command). length (ops_on shape.partitions p (ops_of o))) is;
      }

  abbrev own_acts : List Entry → List Act
  own_acts older = acts older (Session id.session)

  abbrev kept_after : List Act → Option (List Answer)
  kept_after list = kept (session.state_after shape client list)

  event_kept : (older : List Entry) (event : Event) → IsFreeHistory script older
      → MayHappen script older (Session id.session) event → kept_after (own_acts older) ≡ first_result older id p
      → kept_after (with_act (act_of older event) (own_acts older))
      ≡ option_or (first_result older id p) (result_at older id p event)
  event_kept older (Deliver entry place) history may before = of_output (output_at older entry place) refl may
    where
      of_output : (o : Option Message) → output_at older entry place ≡ o → IsFor (Session id.session) o
          → kept_after (with_act (option_map Took o) (own_acts older))
          ≡ option_or (first_result older id p) (result_in id p o)
      of_output None found to = absurd to
      of_output (Some m) found to =
          let state = session_of script older id in
          let ours : same_name m.to (Session id.session) ≡ true =
          ap (λ (a : ActorName). same_name a (Session id.session)) to ∙ same_name_refl (Session id.session) in
          ap (λ (b : Bool). kept (cond {A = session.Step} (b && is_name_of shape m.from && is_body_at shape 0 m.body)
          (session.on_body shape client m.body state) (state, [])).0) ours
          ∙ body_kept m.from m.body state (has_places shape client (own_acts older) id.number)
          (accepts older m history (output_is_sent older entry place m found))
          (is_name_of shape m.from && is_body_at shape 0 m.body) refl
          ∙ ap (λ (o : Option (List Answer)). option_or o (result_by id p m.body)) before
  event_kept older (OfItself (Submit n)) history may before = before ∙ sym (or_none (first_result older id p))
  event_kept older (OfItself _) history may before = before ∙ sym (or_none (first_result older id p))
  event_kept older (Dropped entry place) history may before = before ∙ sym (or_none (first_result older id p))

  -- what is kept is the first result that was delivered
  pub kept_is_first : (older : List Entry) → IsFreeHistory script older
      → kept (session_of script older id) ≡ first_result older id p
  kept_is_first [] history = none_kept shape.partitions p
  kept_is_first (e ∷ older) history =
      let before : kept (session_of script older id) ≡ first_result older id p = kept_is_first older history.0 in
      on_test (same_name e.actor (Session id.session)) (λ t. event_kept older e.event history.0
      (subst (λ (a : ActorName). MayHappen script older a e.event)
      (same_name_is e.actor (Session id.session) t) history.1.may) before) before
    where
      list : List Act
      list = own_acts older

      list_then : List Act
      list_then = with_act (act_of older e.event) list

      first : Option (List Answer)
      first = first_result older id p

      first_then : Option (List Answer)
      first_then = option_or first (result_at older id p e.event)

      on_test : (b : Bool) → (b ≡ true → kept_after list_then ≡ first_then) → kept_after list ≡ first
          → kept_after (cond b list_then list) ≡ cond b first_then first
      on_test true h before = h refl
      on_test false h before = before
