-- What processes tell of their promises is so in the end, and a proposal is an attached promise.
-- Used where an executor counts promises (CommittedAndDue).
use Rattle.std.proofs.Common.{◌≡◌, ℕ, ◌≤◌, ◌<◌, true, List, [], ◌∷◌, Option, Some, None, inl, inr, ap, ◌∙◌, subst, refl, sym}
use Rattle.std.proofs.lemmas.Bool.{leb-true}
use Rattle.std.specs.Prelude.{◌-◌}
use Rattle.tp_base.specs.Lists.{IsIn}
use Rattle.tp_base.specs.declared.names.ActorName.{ActorName}
use Rattle.tp_base.specs.declared.names.CommandId.{CommandId}
use Rattle.tp_base.specs.declared.names.Pair.{Pair}
use Rattle.tp_ops.specs.declared.command.Command.{Command}
use Rattle.tp_rules.proofs.fit.Messages.{site_known}
use Rattle.tp_rules.proofs.fit.Promises.{Descends}
use Rattle.tp_rules.specs.Addresses.{partition_of, rank_of, site}
use Rattle.tp_rules.specs.Journal.{IsSent}
use Rattle.tp_rules.specs.Runs.{IsFreeHistory}
use Rattle.tp_rules.specs.Sheet.{Proposed}
use Rattle.tp_rules.specs.declared.event.Entry.{Entry}
use Rattle.tp_script.specs.Accepted.{IsAccepted}
use Rattle.tp_script.specs.declared.script.Script.{Script}
use Rattle.tp_topology.specs.Stability.{attached_to}
use Rattle.tp_wire.specs.declared.message.Body.TheVariants.{MPromises}
use Rattle.tp_wire.specs.declared.message.Message.{Message}
use Rattle.tp_facts.proofs.RunFacts.{FactsAt, run_holds}
use Rattle.tp_facts.proofs.Commands.{command_in, command_in_names}
use Rattle.tp_facts.proofs.Senders.{IsOfProcess, sender_of, sent_by_process}
use Rattle.tp_facts.proofs.Consequences.{owner_of_proposal, telling_of}
use Rattle.tp_facts.specs.Settled.{is_proposed, sheet_at}
use Rattle.tp_order.proofs.Stability.{AttachedPromise}
use Rattle.tp_order.specs.Due.{final_owner}

-- promised numbers are positive
positive_stamps : (top : ℕ) (pairs : List Pair) (pair : Pair) → Descends top pairs → IsIn pair pairs → 1 ≤ pair.stamp.0
positive_stamps top [] pair descends there = absurd there
positive_stamps top (p ∷ pairs) pair descends (inl same) = subst (λ (q : Pair). 1 ≤ q.stamp.0) (sym same) descends.0.0
positive_stamps top (p ∷ pairs) pair descends (inr there) = positive_stamps (p.stamp.0 - 1) pairs pair descends.1 there

proposed_stamp : (o : Option Proposed) (stamp : ℕ) → is_proposed o stamp ≡ true →
    (proposal : Proposed) × (o ≡ Some proposal) × (proposal.stamp ≤ stamp)
proposed_stamp None stamp is = absurd cc
proposed_stamp (Some proposal) stamp is = (proposal, refl, leb-true proposal.stamp stamp is)

module _ (script : Script) (accepted : IsAccepted script) (whole : List Entry)
    (history : IsFreeHistory script whole) where
  abbrev of : CommandId → Command
  of id = command_in script.commands id

  -- each number that a process tells is attached in the end as it tells
  pub told_promises_are_true : (m : Message) (lo hi : ℕ) (pairs : List Pair) → IsSent whole m →
      m.body ≡ MPromises lo hi pairs → (n : ℕ) → lo < n → n ≤ hi →
      attached_to pairs n ≡ final_owner script whole (partition_of m.from) (rank_of m.from) n
  told_promises_are_true m lo hi pairs sent body n above within =
      let by = sender_of script whole history m sent (subst IsOfProcess (sym body) tt) in
      let one = command_in_names script accepted in
      let own = sent_by_process script whole history by.site m sent by.from in
      let holds = run_holds script of accepted one whole history by.site by.known in
      let told = telling_of holds m lo hi n pairs own body above within in
      told.1 ∙ ap (λ (a : ActorName). final_owner script whole (partition_of a) (rank_of a) n) (sym by.from)

  -- a process that has a proposal at or below a stamp has such a number attached
  pub proposal_is_attached : (p rank : ℕ) → (1 ≤ p) × (p ≤ script.topology.partitions) →
      (1 ≤ rank) × (rank ≤ script.topology.replicas) → (id : CommandId) (stamp : ℕ) →
      is_proposed (sheet_at script whole p rank id).proposal stamp ≡ true →
      AttachedPromise (final_owner script whole p rank) id stamp
  proposal_is_attached p rank partition_known rank_known id stamp is =
      let found = proposed_stamp (sheet_at script whole p rank id).proposal stamp is in
      let one = command_in_names script accepted in
      let known = site_known script.topology p rank partition_known rank_known in
      let held : FactsAt script of whole (site p rank) =
      run_holds script of accepted one whole history (site p rank) known in
      record {
        number = found.0.stamp;
        positive = positive_stamps _ _ _ held.promises (held.attached id found.0 found.1);
        at_or_below = found.2;
        attached = owner_of_proposal held id found.0 found.1;
      }
