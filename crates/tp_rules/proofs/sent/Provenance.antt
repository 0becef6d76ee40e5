-- Each command that was sent, that a process keeps or that an executor has committed is one of the script's, in each free run.
-- Used for the end of runs, and wherever the command of an identifier is to be one.
use Rattle.std.proofs.Common.{◌≡◌, ℕ, suc, List, [], ◌∷◌, Option, Some, None, length, refl, sym, subst}
use Rattle.std.specs.Prelude.{◌==◌, option_map}
use Rattle.std.proofs.lemmas.Bool.{cond_both}
use Rattle.tp_base.specs.Lists.{Each, IsIn}
use Rattle.tp_base.specs.Names.{same_name}
use Rattle.tp_base.proofs.Each.{each_left, each_in, each_append}
use Rattle.tp_base.specs.declared.names.ActorName.{ActorName}
use Rattle.tp_base.specs.declared.names.ActorName.TheVariants.{Process, Executor, Session}
use Rattle.tp_base.specs.declared.names.Site.{Site}
use Rattle.tp_ops.specs.declared.command.Command.{Command}
use Rattle.tp_rules.specs.Acts.{Act, Took}
use Rattle.tp_rules.specs.Executor as executor
use Rattle.tp_rules.specs.Process as process
use Rattle.tp_rules.specs.Session as session
use Rattle.tp_rules.specs.Journal.{identity_in, client_of, output_at, act_of, with_act, acts, sent, numbered}
use Rattle.tp_rules.specs.Rules.{outputs_of}
use Rattle.tp_rules.specs.Runs.{outputs_by, IsFreeHistory}
use Rattle.tp_rules.specs.Sheet.{ring_rule}
use Rattle.tp_rules.specs.declared.event.Entry.{Entry}
use Rattle.tp_rules.specs.declared.event.Event.{Event}
use Rattle.tp_rules.specs.declared.event.Event.TheVariants.{Deliver, Dropped, Inner as OfItself}
use Rattle.tp_rules.specs.declared.event.Parcel.{Parcel}
use Rattle.tp_script.specs.declared.script.Script.{Script}
use Rattle.tp_wire.specs.declared.message.Message.{Message}
use Rattle.tp_rules.proofs.sent.CarriedCommands.{Carries, Takes, CommitsOnly, process_keeps_only, process_sends_only, executor_commits_only, executor_sends_only, session_sends_only}
use Rattle.tp_rules.proofs.sent.Parcels.{parcel, output_sent}
use Rattle.tp_rules.proofs.lists.Tallies.{filter_in}

-- a command of the script
abbrev pub IsOf : Script → Command → Type 0
IsOf script c = IsIn c script.commands

-- each message sent carries the script's
abbrev pub SentPasses : Script → List Entry → Type 0
SentPasses script older = Each (λ p. Carries (IsOf script) p.message.body) (sent older)

output_passes : (script : Script) (older : List Entry) (entry place : ℕ) (m : Message) → SentPasses script older →
    output_at older entry place ≡ Some m → Carries (IsOf script) m.body
output_passes script older entry place m h e =
    each_in (λ (p : Parcel). Carries (IsOf script) p.message.body) (sent older) (parcel entry place m) h (output_sent older entry place m e)

abbrev PassesIf : Script → Option Act → Type 0
PassesIf script None = Unit {0}
PassesIf script (Some act) = Takes (IsOf script) act

-- what was delivered was sent
act_passes : (script : Script) (older : List Entry) (event : Event) → SentPasses script older → PassesIf script (act_of older event)
act_passes script older (Deliver entry place) h = of_output (output_at older entry place) (λ m e. output_passes script older entry place m h e)
  where
    of_output : (o : Option Message) → ((m : Message) → o ≡ Some m → Carries (IsOf script) m.body) → PassesIf script (option_map Took o)
    of_output None k = tt
    of_output (Some m) k = k m refl
act_passes script older (Dropped entry place) h = tt
act_passes script older (OfItself inner) h = tt

one_more : (script : Script) (o : Option Act) (acts : List Act) → PassesIf script o → Each (Takes (IsOf script)) acts →
    Each (Takes (IsOf script)) (with_act o acts)
one_more script None acts h k = k
one_more script (Some act) acts h k = (h, k)

pub acts_pass : (script : Script) (older : List Entry) (a : ActorName) → SentPasses script older → Each (Takes (IsOf script)) (acts older a)
acts_pass script [] a h = tt
acts_pass script (e ∷ older) a h =
    let before : SentPasses script older =
    each_left (λ (p : Parcel). Carries (IsOf script) p.message.body) (sent older) (numbered (suc (length older)) 1 e.outputs) h in
    let rest = acts_pass script older a before in
    cond_both (same_name e.actor a) (with_act (act_of older e.event) (acts older a)) (acts older a) (Each (Takes (IsOf script)))
    (λ t. one_more script (act_of older e.event) (acts older a) (act_passes script older e.event before) rest) (λ f. rest)

each_numbered : (P : Message → Type 0) (n k : ℕ) (ms : List Message) → Each P ms → Each (λ p. P p.message) (numbered n k ms)
each_numbered P n k [] h = tt
each_numbered P n k (m ∷ ms) h = (h.0, each_numbered P n (suc k) ms h.1)

abbrev Passes : Script → Message → Type 0
Passes script m = Carries (IsOf script) m.body

outputs_pass : (script : Script) (actor : ActorName) (before : List Act) (act : Act) → Each (Takes (IsOf script)) before → Takes (IsOf script) act →
    Each (Passes script) (outputs_of (identity_in script actor) before act)
outputs_pass script (Process s) before act h p =
    let quorum_rule = ring_rule script.topology in
    process_sends_only (IsOf script) quorum_rule s act (process.state_after quorum_rule s before) (process_keeps_only (IsOf script) quorum_rule s before h) p
outputs_pass script (Executor s) before act h p =
    executor_sends_only (IsOf script) script.topology s act (executor.state_after script.topology s before)
outputs_pass script (Session s) before act h p =
    session_sends_only (IsOf script) script.topology (client_of script s) act (session.state_after script.topology (client_of script s) before)
    (λ c there. (filter_in (λ (d : Command). d.id.session.0 == s.0) script.commands c there).0)

event_passes : (script : Script) (older : List Entry) (actor : ActorName) (o : Option Act) → SentPasses script older → PassesIf script o →
    Each (Passes script) (outputs_by script older actor o)
event_passes script older actor None h p = tt
event_passes script older actor (Some act) h p = outputs_pass script actor (acts older actor) act (acts_pass script older actor h) p

-- each message that was sent
pub sent_provenance : (script : Script) (older : List Entry) → IsFreeHistory script older → SentPasses script older
sent_provenance script [] h = tt
sent_provenance script (e ∷ older) h =
    let before = sent_provenance script older h.0 in
    let new : Each (Passes script) e.outputs = subst (Each (Passes script)) (sym h.1.outputs)
    (event_passes script older e.actor (act_of older e.event) before (act_passes script older e.event before)) in
    each_append (λ (p : Parcel). Carries (IsOf script) p.message.body) (sent older) (numbered (suc (length older)) 1 e.outputs) before
    (each_numbered (Passes script) (suc (length older)) 1 e.outputs new)

-- each command that an executor has committed
pub committed_provenance : (script : Script) (older : List Entry) → IsFreeHistory script older → (s : Site) →
    CommitsOnly (IsOf script) (executor.state_after script.topology s (acts older (Executor s)))
committed_provenance script older h s =
    executor_commits_only (IsOf script) script.topology s (acts older (Executor s))
    (acts_pass script older (Executor s) (sent_provenance script older h))
