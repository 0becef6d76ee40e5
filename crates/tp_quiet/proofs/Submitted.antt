-- A command that was submitted was sent to its home in each partition that it accesses, each command that an actor of
-- the run keeps was submitted, and the first commands of a session that it counts as submitted were.
-- Used for each command in a run in which nothing is pending.
use Rattle.std.proofs.Common.{◌≡◌, ℕ, suc, inl, inr, List, [], ◌∷◌, map, Option, Some, None, sym, ap, subst, ◌∙◌, arith}
use Rattle.std.specs.Prelude.{◌-◌, option_map, slice_get, unwrap_or}
use Rattle.std.specs.List.{list_any}
use Rattle.std.proofs.lemmas.Bool.{and_parts, or_cases}
use Rattle.tp_base.proofs.Each.{each_in, each_of}
use Rattle.tp_base.proofs.Members.{map_in}
use Rattle.tp_base.proofs.SameNames.{same_name_is}
use Rattle.tp_base.specs.Lists.{Each, IsIn}
use Rattle.tp_base.specs.Names.{same_name}
use Rattle.tp_base.specs.declared.names.ActorName.{ActorName}
use Rattle.tp_base.specs.declared.names.ActorName.TheVariants.{Executor, Process, Session}
use Rattle.tp_base.specs.declared.names.Rank.{Rank}
use Rattle.tp_base.specs.declared.names.Site.{Site}
use Rattle.tp_facts.proofs.Commands.{command_is}
use Rattle.tp_facts.proofs.Deliveries.{took_sent}
use Rattle.tp_ops.specs.declared.command.Command.{Command}
use Rattle.tp_replies.proofs.SessionCommands.{command_at}
use Rattle.tp_replies.proofs.Submissions.{IsSubmitted, carried}
use Rattle.tp_rules.proofs.sent.CarriedCommands.{Carries, CommitsOnly, KeepsOnly, Takes, executor_commits_only, process_keeps_only}
use Rattle.tp_rules.specs.Acts.{Act, Client, Took, Did}
use Rattle.tp_rules.specs.Addresses.{accessed, message, site}
use Rattle.tp_rules.specs.Executor as executor
use Rattle.tp_rules.specs.Process as process
use Rattle.tp_rules.specs.Session as session
use Rattle.tp_rules.specs.Journal.{IsSent, act_of, acts, client_of, commands_of, session_home}
use Rattle.tp_rules.specs.Outcome.{is_submission_of, is_submit}
use Rattle.tp_rules.specs.Runs.{IsFreeHistory, outputs_by}
use Rattle.tp_rules.specs.Sheet.{ring_rule}
use Rattle.tp_base.specs.Tables.{nth}
use Rattle.tp_rules.proofs.ends.Unsubmitted.{submit_event}
use Rattle.tp_rules.specs.declared.event.Entry.{Entry}
use Rattle.tp_rules.specs.declared.event.Event.{Event}
use Rattle.tp_script.specs.Accepted.{IsAccepted, IsCommandOf, IsHome}
use Rattle.tp_script.specs.declared.script.Script.{Script}
use Rattle.tp_wire.specs.declared.message.Body.TheVariants.{MSubmit}
use Rattle.tp_wire.specs.declared.message.Message.{Message}

module _ (script : Script) (accepted : IsAccepted script) where
  -- the home of a command is that of its session
  home_is : (c : Command) → IsIn c script.commands → session_home script c.id.session ≡ c.home.0
  home_is c ours =
      let of : IsCommandOf script.homes c = each_in
      (IsCommandOf script.homes) script.commands c accepted.commands ours in
      let place : c.id.session.0 ≡ suc (c.id.session.0 - 1) = omega (arith, of.1.0) in
      go (slice_get script.homes (c.id.session.0 - 1)) (ap (nth script.homes) place) of.2
    where
      go : (o : Option Rank) → nth script.homes c.id.session.0 ≡ o → IsHome o c.home.0
          → session_home script c.id.session ≡ c.home.0
      go None is h = absurd h
      go (Some rank) is h =
          ap (λ (o : Option Rank). unwrap_or (option_map (λ (home : Rank). home.0) o) 0) is ∙ h

  -- the submission, to a partition
  abbrev pub submission : Command → ℕ → Message
  submission c p = message (Session c.id.session) (Process (site p c.home.0)) (MSubmit c)

  outputs_there : (older : List Entry) (c : Command) → IsIn c script.commands → (p : ℕ)
      → IsIn p (accessed script.topology c)
      → IsIn (submission c p) (session.submissions script.topology (client_of script c.id.session)
      (nth (commands_of script c.id.session) c.id.number))
  outputs_there older c ours p among =
      let client : Client = client_of script c.id.session in
      let is : nth (commands_of script c.id.session) c.id.number ≡ Some c =
      command_at script accepted c.id ∙ command_is script accepted c ours in
      subst (λ (o : Option Command). IsIn (submission c p) (session.submissions script.topology client o)) (sym is)
      (subst (λ (home : ℕ). IsIn (message (Session c.id.session) (Process (site p home)) (MSubmit c))
      (session.submissions script.topology client (Some c))) (home_is c ours)
      (map_in (λ (to : ActorName). message (Session c.id.session) to (MSubmit c))
      (map (λ (q : ℕ). Process (site q client.home)) (accessed script.topology c)) (Process (site p client.home))
      (map_in (λ (q : ℕ). Process (site q client.home)) (accessed script.topology c) p among)))

  -- a submitted command was sent to its home
  pub submission_sent : (older : List Entry) → IsFreeHistory script older → (c : Command) → IsIn c script.commands
      → IsSubmitted older c.id → (p : ℕ) → IsIn p (accessed script.topology c) → IsSent older (submission c p)
  submission_sent [] history c ours is p among = absurd cc
  submission_sent (e ∷ older) history c ours is p among =
      elim (or_cases (is_submission_of c.id e) (list_any (is_submission_of c.id) older) is) [
        | inl here ↦
            let parts = and_parts (same_name e.actor (Session c.id.session)) (is_submit c.id.number e.event) here in
            let actor = same_name_is e.actor (Session c.id.session) parts.0 in
            let event = submit_event c.id.number e.event parts.1 in
            let outputs : e.outputs ≡ session.submissions script.topology (client_of script c.id.session)
            (nth (commands_of script c.id.session) c.id.number) =
            history.1.outputs ∙ ap (λ (a : ActorName). outputs_by script older a (act_of older e.event)) actor
            ∙ ap (λ (x : Event). outputs_by script older (Session c.id.session) (act_of older x)) event in
            inl (subst (IsIn (submission c p)) (sym outputs) (outputs_there older c ours p among))
        | inr before ↦ inr (submission_sent older history.0 c ours before p among)
      ]

  -- what is carried about was submitted

  module _ (older : List Entry) (history : IsFreeHistory script older) where
    abbrev WasSubmitted : Command → Type 0
    WasSubmitted c = IsSubmitted older c.id

    pub sent_submitted : (m : Message) → IsSent older m → Carries WasSubmitted m.body
    sent_submitted m sent = carried script accepted WasSubmitted older history (λ c h. h) m sent

    takes_submitted : (a : ActorName) → Each (Takes WasSubmitted) (acts older a)
    takes_submitted a = each_of (Takes WasSubmitted) (acts older a) of_act
      where
        of_act : (act : Act) → IsIn act (acts older a) → Takes WasSubmitted act
        of_act (Took m) there = sent_submitted m (took_sent older a m there)
        of_act (Did inner) there = tt

    pub kept_submitted : (k : Site)
        → KeepsOnly WasSubmitted (process.state_after (ring_rule script.topology) k (acts older (Process k)))
    kept_submitted k = process_keeps_only WasSubmitted (ring_rule script.topology) k (acts older (Process k))
        (takes_submitted (Process k))

    pub committed_submitted : (k : Site)
        → CommitsOnly WasSubmitted (executor.state_after script.topology k (acts older (Executor k)))
    committed_submitted k = executor_commits_only WasSubmitted script.topology k (acts older (Executor k))
        (takes_submitted (Executor k))
