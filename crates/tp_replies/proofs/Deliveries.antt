-- What a session was delivered was sent, so a reply comes of executions. Used for replies and for real time.
use Rattle.std.proofs.Common.{◌≡◌, ℕ, inr, subst, true, List, [], ◌∷◌, Option, Some, None, refl}
use Rattle.std.specs.Option.{option_or}
use Rattle.std.specs.Prelude.{is_some, unwrap_or, ◌==◌, ◌&&◌}
use Rattle.std.specs.List.{list_all, list_any}
use Rattle.std.proofs.lemmas.Bool.{and_parts, cond_both, eqb-true}
use Rattle.tp_base.specs.Lists.{IsIn}
use Rattle.tp_base.specs.Names.{same_id, same_name}
use Rattle.tp_base.proofs.SameNames.{same_id_is}
use Rattle.tp_base.proofs.Tests.{all_in}
use Rattle.tp_base.specs.declared.names.ActorName.TheVariants.{Session}
use Rattle.tp_base.specs.declared.names.CommandId.{CommandId}
use Rattle.tp_base.specs.declared.names.PartitionId.{PartitionId}
use Rattle.tp_facts.proofs.Commands.{accessed_from}
use Rattle.tp_facts.proofs.Deliveries.{output_is_sent}
use Rattle.tp_ops.specs.declared.command.Command.{Command}
use Rattle.tp_ops.specs.declared.operation.Answer.{Answer}
use Rattle.tp_ops.specs.Parts.{is_accessed, is_on, merged}
use Rattle.tp_rules.specs.Addresses.{accessed}
use Rattle.tp_rules.specs.Journal.{output_at, IsSent}
use Rattle.tp_rules.specs.Outcome.{command_of, first_result, reply_from, reply_to, result_at, result_by, result_in}
use Rattle.tp_rules.specs.Runs.{IsFreeHistory}
use Rattle.tp_rules.specs.declared.event.Entry.{Entry}
use Rattle.tp_rules.specs.declared.event.Event.{Event}
use Rattle.tp_rules.specs.declared.event.Event.TheVariants.{Deliver, Dropped, Inner as OfItself}
use Rattle.tp_script.specs.Accepted.{IsAccepted}
use Rattle.tp_script.specs.declared.script.Script.{Script}
use Rattle.tp_topology.specs.Counting.{up_to}
use Rattle.tp_wire.specs.declared.message.Body.{Body}
use Rattle.tp_wire.specs.declared.message.Body.TheVariants.{MResult}
use Rattle.tp_wire.specs.declared.message.Message.{Message}
use Rattle.tp_rules.proofs.lists.Tallies.{in_filter}
use Rattle.tp_rules.proofs.lists.UpTo.{in_up_to}
use Rattle.tp_replies.specs.Executions.{IsAnswered, IsExecuted}
use Rattle.tp_replies.proofs.SentResults.{result_is}

-- the result that a partition's answers came in, which was sent
record Origin (older : List Entry) (id : CommandId) (p : ℕ) (answers : List Answer) : Type 0 where
  -- the message
  message : Message
  sent : IsSent older message
  -- what it tells
  partition : PartitionId
  body : message.body ≡ MResult id partition answers
  here : partition.0 ≡ p

-- answers that a message gives are in a result
result_given : (id : CommandId) (p : ℕ) (answers : List Answer) (body : Body) → result_by id p body ≡ Some answers
    → (q : PartitionId) × (body ≡ MResult id q answers) × (q.0 ≡ p)
result_given id p answers (MResult d q given) e =
    cond_both (same_id d id && (q.0 == p)) (Some given) None
    (λ (o : Option (List Answer)). o ≡ Some answers → Gives (MResult d q given))
    (λ t f.
    let both = and_parts (same_id d id) (q.0 == p) t in
    let named : d ≡ id = same_id_is d id both.0 in
    let same : given ≡ answers = cc in
    (q, (λ i. MResult (named i) q (same i)), eqb-true q.0 p both.1))
    (λ no f. absurd cc) e
  where
    Gives : Body → Type 0
    Gives body = (r : PartitionId) × (body ≡ MResult id r answers) × (r.0 ≡ p)
result_given id p answers _ e = absurd cc

module _ (id : CommandId) (p : ℕ) (answers : List Answer) where
  -- what a delivery gives was sent
  delivered : (older : List Entry) (event : Event) → result_at older id p event ≡ Some answers
      → Origin older id p answers
  delivered older (Deliver entry place) e = of_output (output_at older entry place) refl e
    where
      of_output : (o : Option Message) → output_at older entry place ≡ o → result_in id p o ≡ Some answers
          → Origin older id p answers
      of_output None is f = absurd cc
      of_output (Some m) is f = let given = result_given id p answers m.body f in record {
        message = m;
        sent = output_is_sent older entry place m is;
        partition = given.0;
        body = given.1;
        here = given.2;
      }
  delivered older (OfItself inner) e = absurd cc
  delivered older (Dropped entry place) e = absurd cc

  origin_later : (older : List Entry) (e : Entry) → Origin older id p answers → Origin (e ∷ older) id p answers
  origin_later older e r =
      record { message = r.message; sent = inr r.sent; partition = r.partition; body = r.body; here = r.here }

  -- so the first that was delivered was sent
  first_was_sent : (older : List Entry) → first_result older id p ≡ Some answers → Origin older id p answers
  first_was_sent [] e = absurd cc
  first_was_sent (x ∷ older) e =
      origin_later older x (cond_both (same_name x.actor (Session id.session))
      (option_or (first_result older id p) (result_at older id p x.event)) (first_result older id p)
      (λ (o : Option (List Answer)). o ≡ Some answers → Origin older id p answers)
      (λ t. of_first (first_result older id p) (first_was_sent older)) (λ f. first_was_sent older) e)
    where
      of_first : (o : Option (List Answer)) → (o ≡ Some answers → Origin older id p answers)
          → option_or o (result_at older id p x.event) ≡ Some answers → Origin older id p answers
      of_first None before f = delivered older x.event f
      of_first (Some first) before f = before f

-- a reply, put together from the parts of the accessed partitions
record ReplyOf (script : Script) (parts : ℕ → Option (List Answer)) (o : Option Command)
    (answers : List Answer) : Type 0 where
  -- its command
  command : Command
  is : o ≡ Some command
  -- the parts merged
  answered : answers ≡ merged script.topology.partitions command.ops (λ p. unwrap_or (parts p) [])
  -- none of them is missing
  whole : list_all (λ p. is_some (parts p)) (accessed script.topology command) ≡ true

reply_of : (script : Script) (parts : ℕ → Option (List Answer)) (o : Option Command) (answers : List Answer)
    → reply_from script parts o ≡ Some answers → ReplyOf script parts o answers
reply_of script parts None answers e = absurd cc
reply_of script parts (Some c) answers e =
    cond_both (list_all (λ p. is_some (parts p)) (accessed script.topology c))
    (Some (merged script.topology.partitions c.ops (λ p. unwrap_or (parts p) []))) None
    (λ (r : Option (List Answer)). r ≡ Some answers → ReplyOf script parts (Some c) answers)
    (λ whole f. record { command = c; is = refl; answered = cc; whole = whole }) (λ no f. absurd cc) e

some_answers : (o : Option (List Answer)) → is_some o ≡ true → o ≡ Some (unwrap_or o [])
some_answers None e = absurd cc
some_answers (Some answers) e = refl

module _ (script : Script) (accepted : IsAccepted script) where
  in_accessed : (c : Command) (p : ℕ) → list_any (is_on script.topology.partitions p) c.ops ≡ true
      → IsIn p (accessed script.topology c)
  unfolding is_accessed
  in_accessed c p on =
      let n : ℕ = script.topology.partitions in
      let from = accessed_from n c p accepted.shape.some_partition on in
      in_filter (is_accessed n c) (up_to n) p (in_up_to n p from.0 from.1) on

  -- each partition that a replied command accesses executed it
  pub reply_is_answered : (older : List Entry) → IsFreeHistory script older → (id : CommandId) (answers : List Answer)
      → reply_to script older id ≡ Some answers → IsAnswered script older id answers
  reply_is_answered older history id answers e = record {
    command = reply.command;
    is = reply.is;
    parts = parts;
    executed = λ p on. of_first p (some_answers (first_result older id p)
        (all_in (λ k. is_some (first_result older id k)) (accessed script.topology reply.command) p reply.whole
        (in_accessed reply.command p on)));
    answered = reply.answered;
  }
    where
      reply : ReplyOf script (first_result older id) (command_of script id) answers
      reply = reply_of script (first_result older id) (command_of script id) answers e

      parts : ℕ → List Answer
      parts p = unwrap_or (first_result older id p) []

      of_first : (p : ℕ) → first_result older id p ≡ Some (parts p) → IsExecuted script older id p (parts p)
      of_first p first =
          let r = first_was_sent id p (parts p) older first in
          subst (λ (k : ℕ). IsExecuted script older id k (parts p)) r.here
          (result_is script accepted r.message id r.partition (parts p) r.body older history r.sent).executed
