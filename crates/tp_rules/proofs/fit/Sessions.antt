-- A session of an accepted script sends messages that are fit.
use Rattle.std.proofs.Common.{◌≡◌, ℕ, zero, suc, ◌<◌, true, List, [], ◌∷◌, length, Option, Some, None, refl, sym, subst, arith}
use Rattle.std.proofs.lemmas.Bool.{cond_both}
use Rattle.std.specs.Prelude.{option_map, slice_get, unwrap_or}
use Rattle.tp_base.proofs.Each.{each_of, each_weaker}
use Rattle.tp_base.proofs.Ranges.{in_range}
use Rattle.tp_base.specs.Limits.{IsFrom, is_from}
use Rattle.tp_base.specs.Lists.{Each, IsIn}
use Rattle.tp_base.specs.Tables.{nth}
use Rattle.tp_base.specs.declared.names.ActorName.TheVariants.{Process, Session}
use Rattle.tp_base.specs.declared.names.CommandId.{CommandId}
use Rattle.tp_base.specs.declared.names.Rank.{Rank}
use Rattle.tp_base.specs.declared.names.SessionId.{SessionId}
use Rattle.tp_ops.specs.declared.command.Command.{Command}
use Rattle.tp_ops.specs.declared.operation.Answer.{Answer}
use Rattle.tp_rules.proofs.fit.Messages.{IsFit, command_in_range, each_accessed, site_in_range, site_known}
use Rattle.tp_rules.proofs.lists.Selections.{IfAny, each_filter, each_get, each_image}
use Rattle.tp_rules.specs.Acts.{Act, Took, Did, Client}
use Rattle.tp_rules.specs.Addresses.{accessed, message, site}
use Rattle.tp_rules.specs.Journal.{client_of, commands_of, session_home}
use Rattle.tp_rules.specs.Session.{Step, SessionState, on_body, on_result, react, submissions}
use Rattle.tp_rules.specs.declared.event.Inner.TheVariants.{Submit, Announce}
use Rattle.tp_script.specs.Accepted.{IsAccepted}
use Rattle.tp_script.specs.declared.script.Script.{Script}
use Rattle.tp_topology.specs.Shape.{Shape}
use Rattle.tp_wire.specs.declared.message.Body.{Body}
use Rattle.tp_wire.specs.declared.message.Body.TheVariants.{MSubmit, MResult}

home_get : (homes : List Rank) (i r : ℕ) → Each (λ home. IsFrom 1 r home.0) homes → i < length homes
    → IsFrom 1 r (unwrap_or (option_map (λ (home : Rank). home.0) (slice_get homes i)) 0)
home_get [] i r h lt = absurd (omega arith)
home_get (x ∷ xs) zero r h lt = h.0
home_get (x ∷ xs) (suc i) r h lt = home_get xs i r h.1 (omega arith)

home_nth : (homes : List Rank) (n r : ℕ) → Each (λ home. IsFrom 1 r home.0) homes → IsFrom 1 (length homes) n
    → IsFrom 1 r (unwrap_or (option_map (λ (home : Rank). home.0) (nth homes n)) 0)
home_nth homes zero r h of = absurd (omega (arith, of.0))
home_nth homes (suc i) r h of = home_get homes i r h (omega (arith, of.1))

result_quiet : (shape : Shape) (client : Client) (id : CommandId) (q : ℕ) (answers : List Answer) (state : SessionState)
    → (on_result shape client id q answers state).1 ≡ []
result_quiet shape client id q answers state = grind arith

module _ (script : Script) (accepted : IsAccepted script) (s : SessionId) (known : is_from 1 (length script.homes) s.0 ≡ true) where
  of_session : IsFrom 1 (length script.homes) s.0
  of_session = in_range 1 (length script.homes) s.0 known

  of_home : IsFrom 1 script.topology.replicas (session_home script s)
  of_home = home_nth script.homes s.0 script.topology.replicas accepted.homes of_session

  of_commands : (n : ℕ) → IfAny (λ (c : Command). IsIn c script.commands) (nth (commands_of script s) n)
  of_commands n = at n (nth (commands_of script s) n) refl
    where
      all : Each (λ (c : Command). IsIn c script.commands) (commands_of script s)
      all = each_filter (λ (c : Command). IsIn c script.commands) _ script.commands (each_of _ script.commands (λ c h. h))

      at : (n : ℕ) (o : Option Command) → nth (commands_of script s) n ≡ o → IfAny (λ (c : Command). IsIn c script.commands) o
      at n None e = tt
      at zero (Some c) e = absurd cc
      at (suc i) (Some c) e = each_get (λ (c : Command). IsIn c script.commands) (commands_of script s) i c all e

  submission_fit : (o : Option Command) → IfAny (λ (c : Command). IsIn c script.commands) o
      → Each (IsFit script) (submissions script.topology (client_of script s) o)
  submission_fit None h = tt
  submission_fit (Some c) h =
      let home : ℕ = session_home script s in
      each_image (IsFit script) (λ to. message (Session s) to (MSubmit c)) _
      (each_image (λ to. IsFit script (message (Session s) to (MSubmit c))) (λ p. Process (site p home)) (accessed script.topology c)
      (each_weaker (IsFrom 1 script.topology.partitions) (λ p. IsFit script (message (Session s) (Process (site p home)) (MSubmit c)))
      (λ p of_partition. record {
        known = site_known script.topology p home of_partition of_home;
        range = (
          (of_session.0, omega (arith, of_session.1, accepted.sessions)),
          site_in_range script.topology accepted.shape p home of_partition of_home,
          command_in_range script c accepted h,
        );
        ours = h;
      })
      (accessed script.topology c) (each_accessed script.topology c)))

  body_fit : (body : Body) (state : SessionState) → Each (IsFit script) (on_body script.topology (client_of script s) body state).1
  body_fit (MResult id q answers) state = subst (Each (IsFit script)) (sym (result_quiet script.topology (client_of script s) id q.0 answers state)) tt
  body_fit (MSubmit c) state = tt
  body_fit _ state = tt

  -- what it sends
  pub session_fit : (act : Act) (state : SessionState) → Each (IsFit script) (react script.topology (client_of script s) act state).1
  session_fit (Took m) state = cond_both _ (on_body script.topology (client_of script s) m.body state) (state, [])
      (λ (moved : Step). Each (IsFit script) moved.1)
      (λ t. body_fit m.body state)
      (λ f. tt)
  session_fit (Did (Submit n)) state = submission_fit (nth (commands_of script s) n) (of_commands n)
  session_fit (Did Announce) state = tt
  session_fit (Did _) state = tt
