-- Commands by their identifiers, among all and in their session. Used for submissions, for replies and for sessions.
use Rattle.std.proofs.Common.{◌≡◌, ℕ, zero, suc, ◌≤◌, true, List, length, Option, Some, None, refl, sym, ap, ◌∙◌}
use Rattle.std.specs.Prelude.{◌==◌}
use Rattle.std.proofs.lemmas.Bool.{eq-eqb, eqb-true}
use Rattle.tp_base.specs.Lists.{IsIn}
use Rattle.tp_base.specs.Names.{same_id}
use Rattle.tp_base.proofs.Members.{get_in, in_get}
use Rattle.tp_base.proofs.SameNames.{same_id_is}
use Rattle.tp_base.proofs.Tests.{found_in}
use Rattle.tp_base.specs.Tables.{nth}
use Rattle.tp_base.specs.declared.names.CommandId.{CommandId}
use Rattle.tp_base.specs.declared.names.SessionId.{SessionId}
use Rattle.tp_facts.proofs.Commands.{command_is, number_is}
use Rattle.tp_ops.specs.declared.command.Command.{Command}
use Rattle.tp_rules.specs.Journal.{commands_of}
use Rattle.tp_rules.specs.Outcome.{command_of}
use Rattle.tp_rules.proofs.fit.Messages.{command_in_range}
use Rattle.tp_rules.proofs.lists.Tallies.{filter_in, in_filter}
use Rattle.tp_script.specs.Accepted.{IsAccepted}
use Rattle.tp_script.specs.declared.script.Script.{Script}

-- the command of an identifier is one of the script's, and is named so
found : (script : Script) (id : CommandId) (c : Command) → command_of script id ≡ Some c
    → IsIn c script.commands × (c.id ≡ id)
found script id c is =
    let it = found_in (λ (d : Command). same_id d.id id) script.commands c is in (it.0, same_id_is c.id id it.1)

module _ (script : Script) (accepted : IsAccepted script) where
  -- it has an operation
  pub some_operation : (id : CommandId) (c : Command) → command_of script id ≡ Some c → 1 ≤ length c.ops
  some_operation id c is = let range = command_in_range script c accepted (found script id c is).0 in range.2.0

  -- the command at a session's number is one of the script's, and is named so
  pub named : (s : SessionId) (n : ℕ) (c : Command) → nth (commands_of script s) n ≡ Some c
      → IsIn c script.commands × (c.id ≡ record { session = s; number = n })
  named s zero c at = absurd cc
  named s (suc i) c at =
      let there : IsIn c (commands_of script s) = in_get (commands_of script s) i c at in
      let own = filter_in (λ (d : Command). d.id.session.0 == s.0) script.commands c there in
      let session : c.id.session.0 ≡ s.0 = eqb-true c.id.session.0 s.0 own.1 in
      let number : c.id.number ≡ suc i = number_is (commands_of script s) i c (accepted.numbered s.0) at in
      (own.0, λ k. record { session = record { 0 = session k }; number = number k })

  -- the command of an identifier is the one at its number among its session's
  pub command_at : (id : CommandId) → nth (commands_of script id.session) id.number ≡ command_of script id
  command_at id = of_command (command_of script id) refl
    where
      own : List Command
      own = commands_of script id.session

      none : (o : Option Command) → nth own id.number ≡ o → command_of script id ≡ None → o ≡ None
      none None at is = refl
      none (Some d) at is =
          let it = named id.session id.number d at in
          let there : command_of script id ≡ Some d =
          ap (command_of script) (sym it.1) ∙ command_is script accepted d it.0 in
          absurd cc

      of_command : (o : Option Command) → command_of script id ≡ o → nth own id.number ≡ o
      of_command None is = none (nth own id.number) refl is
      of_command (Some c) is =
          let it = found script id c is in
          let session : (c.id.session.0 == id.session.0) ≡ true =
          eq-eqb c.id.session.0 id.session.0 (ap (λ (i : CommandId). i.session.0) it.1) in
          let place = get_in own c
          (in_filter (λ (d : Command). d.id.session.0 == id.session.0) script.commands c it.0 session) in
          let number : id.number ≡ suc place.0 =
          ap (λ (i : CommandId). i.number) (sym it.1)
          ∙ number_is own place.0 c (accepted.numbered id.session.0) place.1 in
          ap (nth own) number ∙ place.1
