-- What a process sends is its own, and its announcements give each promise the owner that it has.
-- Used for the invariant of a process.
use Rattle.std.proofs.Common.{ℕ, ◌<◌, ◌≤◌, List, ◌∷◌, ◌++◌, Option, Some, None, refl, sym, ◌∙◌, arith}
use Rattle.std.proofs.lemmas.Bool.{cond-false, ne_eqb}
use Rattle.std.specs.Prelude.{◌==◌}
use Rattle.tp_topology.specs.Stability.{attached_to}
use Rattle.tp_base.proofs.Each.{each_append, each_weaker}
use Rattle.tp_base.specs.Lists.{Each}
use Rattle.tp_base.specs.declared.names.ActorName.TheVariants.{Process}
use Rattle.tp_base.specs.declared.names.CommandId.{CommandId}
use Rattle.tp_base.specs.declared.names.Pair.{Pair}
use Rattle.tp_base.specs.declared.names.Site.{Site}
use Rattle.tp_ops.specs.declared.command.Command.{Command}
use Rattle.tp_rules.proofs.fit.Promises.{Descends}
use Rattle.tp_rules.proofs.sent.SendsOfProcess.{each_to}
use Rattle.tp_rules.specs.Addresses.{executors_of}
use Rattle.tp_rules.specs.Process.{ProcessState, announced, commit_reply, untold}
use Rattle.tp_rules.specs.Sheet.{QuorumRule}
use Rattle.tp_wire.specs.declared.message.Body.{Body}
use Rattle.tp_wire.specs.declared.message.Body.TheVariants.{MPromises}
use Rattle.tp_wire.specs.declared.message.Message.{Message}
use Rattle.tp_facts.proofs.Facts.{IsOwn, TellsPromises}
use Rattle.tp_facts.proofs.Promises.{untold_owner}

module _ (s : QuorumRule) (me : Site) where
  -- one promise more is attached, above the clock
  pub own_attached : (told clock t : ℕ) (id : CommandId) (attached : List Pair) → told ≤ clock → clock < t
      → (m : Message) → IsOwn me told attached m
      → IsOwn me told (record { id = id; stamp = record { 0 = t } } ∷ attached) m
  own_attached told clock t id attached low lt m h = (h.0, go m.body h.1)
    where
      go : (body : Body) → TellsPromises told attached body
          → TellsPromises told (record { id = id; stamp = record { 0 = t } } ∷ attached) body
      go (MPromises lo hi pairs) h = (
        h.0,
        λ n above within. h.1 n above within
            ∙ sym (cond-false (t == n) (Some id) (attached_to attached n)
            (ne_eqb t n (λ e. absurd (omega (arith, e, within, h.0))))),
      )
      go _ h = tt

  -- more is told
  own_told : (told clock : ℕ) (attached : List Pair) → told ≤ clock → (m : Message) → IsOwn me told attached m
      → IsOwn me clock attached m
  own_told told clock attached le m h = (h.0, go m.body h.1)
    where
      go : (body : Body) → TellsPromises told attached body → TellsPromises clock attached body
      go (MPromises lo hi pairs) h = (omega (arith, h.0), h.1)
      go _ h = tt

  -- a commit is passed on
  pub own_passed : (told_to : ℕ) (attached : List Pair) (sent : List Message) (m : Message) (o : Option Command) (t : ℕ)
      → Each (IsOwn me told_to attached) sent → Each (IsOwn me told_to attached) (commit_reply me m.from o t ++ sent)
  own_passed told_to attached sent m None t h = h
  own_passed told_to attached sent m (Some c) t h = ((refl, tt), h)

  -- the promises that were not told yet are announced
  pub own_announced : (sent : List Message) (state : ProcessState) → Descends state.clock state.attached
      → state.told ≤ state.clock → Each (IsOwn me state.told state.attached) sent
      → Each (IsOwn me state.clock state.attached) (announced s.shape me state ++ sent)
  unfolding announced
  own_announced sent state h le before =
      each_append (IsOwn me state.clock state.attached) (announced s.shape me state) sent
      (each_to (IsOwn me state.clock state.attached) (Process me) (executors_of s.shape me.partition.0)
      (MPromises state.told state.clock (untold state))
      (λ to. (refl, (omega arith, λ n above within. untold_owner state.told state.clock state.attached n h above))))
      (each_weaker (IsOwn me state.told state.attached) (IsOwn me state.clock state.attached)
      (own_told state.told state.clock state.attached le) sent before)
