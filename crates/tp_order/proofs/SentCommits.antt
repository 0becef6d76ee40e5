-- Each MCommitted that was sent is a process's commit.
-- Used for the commands that an executor has committed (CommittedAndDue).
use Rattle.std.proofs.Common.{◌≡◌, inl, inr, true, List, [], ◌∷◌, Option, Some, None, refl, sym, ap, ◌∙◌}
use Rattle.std.specs.List.{filter_map, cons_option}
use Rattle.tp_base.specs.Lists.{IsIn}
use Rattle.tp_base.proofs.Members.{in_left, in_right}
use Rattle.tp_base.specs.declared.names.ActorName.{ActorName}
use Rattle.tp_base.specs.declared.names.ActorName.TheVariants.{Process, Executor, Session}
use Rattle.tp_base.specs.declared.names.Site.{Site}
use Rattle.tp_base.specs.declared.names.Stamp.{Stamp}
use Rattle.tp_ops.specs.declared.command.Command.{Command}
use Rattle.tp_rules.specs.Journal.{IsSent}
use Rattle.tp_rules.specs.Outcome.{Commit, commit_by, commits}
use Rattle.tp_rules.specs.Runs.{IsFreeHistory}
use Rattle.tp_rules.specs.declared.event.Entry.{Entry}
use Rattle.tp_script.specs.declared.script.Script.{Script}
use Rattle.tp_wire.specs.declared.message.Body.TheVariants.{MCommitted}
use Rattle.tp_wire.specs.declared.message.Message.{Message}
use Rattle.tp_facts.proofs.Senders.{may_send, output_sender}

in_filter_map : {X Y : Type 0} (f : X → Option Y) (xs : List X) (x : X) (y : Y) → IsIn x xs → f x ≡ Some y →
    IsIn y (filter_map f xs)
in_filter_map f [] x y there is = absurd there
in_filter_map f (w ∷ ws) x y (inl same) is = first (f w) (ap f (sym same) ∙ is)
  where
    first : (o : Option _) → o ≡ Some y → IsIn y (cons_option o (filter_map f ws))
    first None gives = absurd cc
    first (Some z) gives = inl cc
in_filter_map f (w ∷ ws) x y (inr later) is = further (f w) (in_filter_map f ws x y later is)
  where
    further : (o : Option _) → IsIn y (filter_map f ws) → IsIn y (cons_option o (filter_map f ws))
    further None there = there
    further (Some z) there = inr there

only_processes_commit : (a : ActorName) (c : Command) (t : Stamp) → may_send a (MCommitted c t) ≡ true →
    (s : Site) × (a ≡ Process s)
only_processes_commit (Process s) c t may = (s, refl)
only_processes_commit (Executor s) c t may = absurd cc
only_processes_commit (Session s) c t may = absurd cc

-- a process has committed the command at the stamp
pub record CommitOf (older : List Entry) (c : Command) (t : Stamp) : Type 0 where
  pub commit : Commit
  pub is_committed : IsIn commit (commits older)
  pub id : commit.id ≡ c.id
  pub stamp : commit.stamp ≡ t.0

-- what tells that a command is committed tells a process's commit
pub sent_is_commit : (script : Script) (older : List Entry) (m : Message) (c : Command) (t : Stamp) →
    IsFreeHistory script older → IsSent older m → m.body ≡ MCommitted c t → CommitOf older c t
sent_is_commit script [] m c t history sent body = absurd sent
sent_is_commit script (e ∷ older) m c t history (inl here) body =
    let whom = output_sender script older e m history.1 here in
    let by = only_processes_commit e.actor c t (sym (ap (may_send e.actor) body) ∙ whom.1) in
    let commit : Commit = record { site = by.0; id = c.id; stamp = t.0 } in
    let is : commit_by e.actor m.body ≡ Some commit =
    ap (λ (a : ActorName). commit_by a m.body) by.1 ∙ ap (commit_by (Process by.0)) body in
    let new = in_filter_map (λ (x : Message). commit_by e.actor x.body) e.outputs m commit here is in
    record {
      commit = commit;
      is_committed = in_right (commits older) _ commit new;
      id = refl;
      stamp = refl;
    }
sent_is_commit script (e ∷ older) m c t history (inr before) body =
    let old = sent_is_commit script older m c t history.0 before body in
    record {
      commit = old.commit;
      is_committed = in_left (commits older) _ old.commit old.is_committed;
      id = old.id;
      stamp = old.stamp;
    }

-- and that of the process that told it
pub sent_commit_of : (script : Script) (older : List Entry) (m : Message) (s : Site) (c : Command) (t : Stamp) →
    IsFreeHistory script older → IsSent older m → m.from ≡ Process s → m.body ≡ MCommitted c t →
    IsIn (record { site = s; id = c.id; stamp = t.0 }) (commits older)
sent_commit_of script [] m s c t history sent from body = absurd sent
sent_commit_of script (e ∷ older) m s c t history (inl here) from body =
    let by : e.actor ≡ Process s = sym (output_sender script older e m history.1 here).0 ∙ from in
    let commit : Commit = record { site = s; id = c.id; stamp = t.0 } in
    in_right (commits older) _ commit
    (in_filter_map (λ (x : Message). commit_by e.actor x.body) e.outputs m commit here
    (ap (λ (a : ActorName). commit_by a m.body) by ∙ ap (commit_by (Process s)) body))
sent_commit_of script (e ∷ older) m s c t history (inr before) from body =
    in_left (commits older) _ (record { site = s; id = c.id; stamp = t.0 })
    (sent_commit_of script older m s c t history.0 before from body)
