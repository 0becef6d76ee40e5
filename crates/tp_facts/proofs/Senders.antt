-- Who sent a message: the actor that it names, each sort of actor its own kinds, and a process by its acts.
-- Used wherever a proof goes from a message that was sent to what its sender keeps.
use Rattle.std.proofs.Common.{◌≡◌, ◌⊎◌, Bool, inl, inr, true, false, List, [], ◌∷◌, Option, Some, None, refl, sym, ap, ◌∙◌, subst}
use Rattle.std.proofs.lemmas.Bool.{cond_both}
use Rattle.std.specs.Prelude.{◌&&◌}
use Rattle.tp_base.proofs.Each.{each_in}
use Rattle.tp_base.proofs.Members.{in_left, in_right}
use Rattle.tp_base.specs.Lists.{Each, IsIn}
use Rattle.tp_base.specs.Lists.{IsIn}
use Rattle.tp_base.specs.Names.{same_name}
use Rattle.tp_base.specs.Tables.{nth}
use Rattle.tp_base.specs.declared.names.ActorName.TheVariants.{Process, Executor, Session}
use Rattle.tp_base.specs.declared.names.ActorName.{ActorName}
use Rattle.tp_base.specs.declared.names.Site.{Site}
use Rattle.tp_ops.specs.declared.command.Command.{Command}
use Rattle.tp_rules.proofs.ActsMore.{acts_step, acts_then}
use Rattle.tp_rules.proofs.ends.LaterKinds.{executor_silent, session_silent}
use Rattle.tp_rules.proofs.sent.SendsOfProcess.{EachSent, each_to, on_submit_sends, on_propose_sends, on_payload_sends, on_propose_ack_sends, on_consensus_sends, on_consensus_ack_sends, on_rec_sends, on_rec_ack_sends, on_recover_sends, on_commit_sends, on_announce_sends, with_room_sends}
use Rattle.tp_rules.proofs.sent.SendsOfProcess.{each_to}
use Rattle.tp_rules.specs.Acts.{Act, Client, Took, Did}
use Rattle.tp_rules.specs.Acts.{Act, Took, Did, Client}
use Rattle.tp_rules.specs.Acts.{Took}
use Rattle.tp_rules.specs.Addresses.{is_name_of, is_body_at}
use Rattle.tp_rules.specs.Executor as executor
use Rattle.tp_rules.specs.Journal.{act_of, acts, client_of, is_known, IsSent}
use Rattle.tp_rules.specs.Journal.{acts, act_of, client_of, identity_in}
use Rattle.tp_rules.specs.Journal.{acts, is_known, IsSent}
use Rattle.tp_rules.specs.Process as process
use Rattle.tp_rules.specs.Rules.{outputs_of}
use Rattle.tp_rules.specs.Runs.{FollowsRules, outputs_by}
use Rattle.tp_rules.specs.Runs.{IsFreeHistory, outputs_by}
use Rattle.tp_rules.specs.Runs.{IsFreeHistory}
use Rattle.tp_rules.specs.Session as session
use Rattle.tp_rules.specs.Sheet.{QuorumRule, ring_rule}
use Rattle.tp_rules.specs.Sheet.{ring_rule}
use Rattle.tp_rules.specs.declared.event.Entry.{Entry}
use Rattle.tp_rules.specs.declared.event.Inner.TheVariants.{Submit, Declare, Execute}
use Rattle.tp_rules.specs.declared.event.Inner.TheVariants.{Submit, Recover, Announce, Declare, Execute}
use Rattle.tp_script.specs.declared.script.Script.{Script}
use Rattle.tp_topology.specs.Shape.{Shape, is_site_of}
use Rattle.tp_wire.specs.declared.message.Body.TheVariants.{MPropose, MProposeAck, MConsensus, MConsensusAck, MRecAck, MCommit}
use Rattle.tp_wire.specs.declared.message.Body.TheVariants.{MStable, MSubmit}
use Rattle.tp_wire.specs.declared.message.Body.TheVariants.{MSubmit, MPropose, MPayload, MProposeAck, MConsensus, MConsensusAck, MCommit, MRec, MRecAck, MStable, MResult}
use Rattle.tp_wire.specs.declared.message.Body.{Body}
use Rattle.tp_wire.specs.declared.message.Message.{Message}
use Rattle.tp_facts.proofs.Facts.{sent_by}

-- what each sort of actor sends
abbrev pub may_send : ActorName → Body → Bool
may_send (Session s) (MSubmit c) = true
may_send (Session s) _ = false
may_send (Executor s) (MStable id) = true
may_send (Executor s) (MResult id q answers) = true
may_send (Executor s) _ = false
may_send (Process s) (MSubmit c) = false
may_send (Process s) (MStable id) = false
may_send (Process s) (MResult id q answers) = false
may_send (Process s) _ = true

-- a message of an actor, of a kind that it sends
abbrev pub IsFrom : ActorName → Message → Type 0
IsFrom a m = (m.from ≡ a) × (may_send a m.body ≡ true)

body_sends : (s : QuorumRule) (me : Site) (from : ActorName) (body : Body) (state : process.ProcessState)
    → EachSent (IsFrom (Process me)) (process.on_body s me from body state)
body_sends s me from (MSubmit c) state =
    on_submit_sends (IsFrom (Process me)) me s c state (λ to t. (refl, refl)) (λ to. (refl, refl))
    (λ to id t. (refl, refl))
body_sends s me from (MPropose c floor) state =
    on_propose_sends (IsFrom (Process me)) me s from c floor.0 state (λ t. (refl, refl)) (λ to id t. (refl, refl))
body_sends s me from (MPayload c) state = on_payload_sends (IsFrom (Process me)) me c state
body_sends s me from (MProposeAck id t) state =
    on_propose_ack_sends (IsFrom (Process me)) me s from id t.0 state (λ c to t e. (refl, refl)) (λ c t e. (refl, refl))
    (λ c to t b e. (refl, refl))
body_sends s me from (MCommit c q t) state =
    on_commit_sends (IsFrom (Process me)) me s c q.0 t.0 state (λ d t e. (refl, refl))
body_sends s me from (MConsensus c t b) state =
    on_consensus_sends (IsFrom (Process me)) me from c t.0 b state (refl, refl)
body_sends s me from (MConsensusAck id b) state =
    on_consensus_ack_sends (IsFrom (Process me)) me s from id b state (λ c to t e. (refl, refl)) (λ c t e. (refl, refl))
body_sends s me from (MRec c b) state =
    on_rec_sends (IsFrom (Process me)) me s from c b state (λ d t e. (refl, refl)) (λ x a made. (refl, refl))
    (λ to id t. (refl, refl))
body_sends s me from (MRecAck id t made a b) state =
    on_rec_ack_sends (IsFrom (Process me)) me s from id t.0 made a b state (λ c to t e. (refl, refl))
body_sends s me from _ state = tt

process_sends : (s : QuorumRule) (me : Site) (act : Act) (state : process.ProcessState)
    → Each (IsFrom (Process me)) (process.react s me act state).1
process_sends s me (Took m) state =
    let moved = process.on_body s me m.from m.body state in
    cond_both (same_name m.to (Process me) && is_name_of s.shape m.from && is_body_at s.shape me.partition.0 m.body)
    (process.with_room state moved) (state, []) (EachSent (IsFrom (Process me)))
    (λ t. with_room_sends (IsFrom (Process me)) me state moved (body_sends s me m.from m.body state)) (λ f. tt)
process_sends s me (Did Announce) state =
    on_announce_sends (IsFrom (Process me)) me s.shape state (λ to lo hi pairs. (refl, refl))
process_sends s me (Did (Recover id)) state =
    on_recover_sends (IsFrom (Process me)) me s.shape id state (λ c to b e. (refl, refl))
process_sends s me (Did _) state = tt

execution_sends : (shape : Shape) (me : Site) (o : Option executor.Committed) (state : executor.ExecutorState)
    → Each (IsFrom (Executor me)) (executor.execute_least shape me o state).1
execution_sends shape me None state = tt
execution_sends shape me (Some c) state = ((refl, refl), tt)

declaration_sends : (shape : Shape) (me : Site) (o : Option executor.Committed) (state : executor.ExecutorState)
    → Each (IsFrom (Executor me)) (executor.declare_least shape me o state).1
unfolding executor.declarations
declaration_sends shape me None state = tt
declaration_sends shape me (Some c) state =
    each_to (IsFrom (Executor me)) (Executor me) _ (MStable c.command.id) (λ to. (refl, refl))

executor_sends : (shape : Shape) (me : Site) (act : Act) (state : executor.ExecutorState)
    → Each (IsFrom (Executor me)) (executor.react shape me act state).1
executor_sends shape me (Took m) state = subst (Each (IsFrom (Executor me))) (sym (executor_silent shape me m state)) tt
executor_sends shape me (Did (Execute id)) state =
    execution_sends shape me (executor.least (executor.waiting state)) state
executor_sends shape me (Did (Declare id)) state =
    declaration_sends shape me (executor.least (executor.waiting state)) state
executor_sends shape me (Did _) state = tt

session_sends : (shape : Shape) (client : Client) (act : Act) (state : session.SessionState)
    → Each (IsFrom (Session client.session)) (session.react shape client act state).1
session_sends shape client (Took m) state =
    subst (Each (IsFrom (Session client.session))) (sym (session_silent shape client m state)) tt
session_sends shape client (Did (Submit n)) state = of_command (nth client.commands n)
  where
    of_command : (o : Option Command) → Each (IsFrom (Session client.session)) (session.submissions shape client o)
    of_command None = tt
    of_command (Some d) =
        each_to (IsFrom (Session client.session)) (Session client.session) _ (MSubmit d) (λ to. (refl, refl))
session_sends shape client (Did _) state = tt

actor_sends : (script : Script) (a : ActorName) (before : List Act) (act : Act)
    → Each (IsFrom a) (outputs_of (identity_in script a) before act)
actor_sends script (Process s) before act =
    process_sends (ring_rule script.topology) s act (process.state_after (ring_rule script.topology) s before)
actor_sends script (Executor s) before act =
    executor_sends script.topology s act (executor.state_after script.topology s before)
actor_sends script (Session s) before act =
    session_sends script.topology (client_of script s) act
    (session.state_after script.topology (client_of script s) before)

-- an output is of the actor whose entry has it
pub output_sender : (script : Script) (older : List Entry) (e : Entry) (m : Message) → FollowsRules script older e
    → IsIn m e.outputs → IsFrom e.actor m
output_sender script older e m follows there = of_act (act_of older e.event) (subst (IsIn m) follows.outputs there)
  where
    of_act : (o : Option Act) → IsIn m (outputs_by script older e.actor o) → IsFrom e.actor m
    of_act None h = absurd h
    of_act (Some act) h = each_in (IsFrom e.actor) _ m (actor_sends script e.actor (acts older e.actor) act) h

-- kinds that processes alone send
abbrev pub IsOfProcess : Body → Type 0
IsOfProcess (MSubmit c) = ⊥
IsOfProcess (MStable id) = ⊥
IsOfProcess (MResult id q answers) = ⊥
IsOfProcess _ = Unit {0}

only_process : (a : ActorName) (body : Body) → IsOfProcess body → may_send a body ≡ true
    → (s : Site) × (a ≡ Process s)
only_process (Process s) body h may = (s, refl)
only_process (Executor s) (MStable id) h may = absurd h
only_process (Executor s) (MResult id q answers) h may = absurd h
only_process (Executor s) _ h may = absurd cc
only_process (Session s) (MSubmit c) h may = absurd h
only_process (Session s) _ h may = absurd cc

-- the process that sent a message
pub record Sender (script : Script) (m : Message) : Type 0 where
  pub site : Site
  pub from : m.from ≡ Process site
  pub known : is_site_of script.topology site ≡ true

pub sender_of : (script : Script) (older : List Entry) → IsFreeHistory script older → (m : Message) → IsSent older m
    → IsOfProcess m.body → Sender script m
sender_of script [] history m there h = absurd there
sender_of script (e ∷ older) history m (inr there) h = sender_of script older history.0 m there h
sender_of script (e ∷ older) history m (inl here) h =
    let by = output_sender script older e m history.1 here in
    let s = only_process e.actor m.body h by.1 in
    let known = subst (λ (a : ActorName). is_known script a ≡ true) s.1 history.1.known in
    record { site = s.0; from = by.0 ∙ s.1; known = known }

module _ (script : Script) where
  -- what a process has sent by a list of acts
  abbrev SentBy : Site → List Act → List Message
  SentBy me list = sent_by (ring_rule script.topology) me list

  -- an output of a process
  output_by_process : (older : List Entry) (e : Entry) (me : Site) (m : Message) → FollowsRules script older e
      → e.actor ≡ Process me → IsIn m e.outputs → IsIn m (SentBy me (acts (e ∷ older) (Process me)))
  output_by_process older e me m follows is there =
      go (act_of older e.event) refl (subst (IsIn m) follows.outputs there)
    where
      go : (o : Option Act) → act_of older e.event ≡ o → IsIn m (outputs_by script older e.actor o)
          → IsIn m (SentBy me (acts (e ∷ older) (Process me)))
      go None same h = absurd h
      go (Some act) same h =
          let by = subst (λ (a : ActorName). IsIn m (outputs_by script older a (Some act))) is h in
          let more =
          in_left (outputs_by script older (Process me) (Some act)) (SentBy me (acts older (Process me))) m by in
          subst (λ (list : List Act). IsIn m (SentBy me list)) (sym (acts_then older e (Process me) act is same)) more

  -- what was sent in a process's name is among what it sent by its acts
  pub sent_by_process : (older : List Entry) → IsFreeHistory script older → (me : Site) (m : Message) → IsSent older m
      → m.from ≡ Process me
      → IsIn m (SentBy me (acts older (Process me)))
  sent_by_process [] history me m there from = absurd there
  sent_by_process (e ∷ older) history me m (inr there) from =
      let rest : IsIn m (SentBy me (acts older (Process me))) = sent_by_process older history.0 me m there from in
      acts_step (λ (list : List Act). IsIn m (SentBy me list)) older e (Process me) rest
      (λ act same is. in_right (outputs_by script older (Process me) (Some act)) (SentBy me (acts older (Process me))) m
      rest)
  sent_by_process (e ∷ older) history me m (inl here) from =
      let by = output_sender script older e m history.1 here in
      output_by_process older e me m history.1 (sym by.0 ∙ from) here

-- what an actor sends by its acts was sent: S are the messages of a list of acts, those of the newest act and those before
pub acts_send : (script : Script) (a : ActorName) (S : List Act → List Message) → ((n : Message) → IsIn n (S []) → ⊥)
    → ((older : List Entry) (act : Act) (n : Message) → IsIn n (S (act ∷ acts older a))
    → IsIn n (outputs_by script older a (Some act)) ⊎ IsIn n (S (acts older a)))
    → (older : List Entry) → IsFreeHistory script older → (n : Message) → IsIn n (S (acts older a)) → IsSent older n
acts_send script a S none newest [] history n there = absurd (none n there)
acts_send script a S none newest (e ∷ older) history n there =
    let rest : IsIn n (S (acts older a)) → IsSent older n = acts_send script a S none newest older history.0 n in
    acts_step (λ (list : List Act). IsIn n (S list) → IsSent (e ∷ older) n) older e a (λ h. inr (rest h))
    (λ act same is h. elim (newest older act n h) [
      | inl new ↦
          let outputs : e.outputs ≡ outputs_by script older a (Some act) =
          history.1.outputs
          ∙ ap (λ (b : ActorName). outputs_by script older b (act_of older e.event)) same
          ∙ ap (λ (o : Option Act). outputs_by script older a o) is in
          inl (subst (IsIn n) (sym outputs) new)
      | inr old ↦ inr (rest old)
    ]) there
