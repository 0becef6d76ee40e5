-- Where each message was taken, each command that was submitted is committed at each process and each executor of its
-- partitions.
-- Used for each command in a run in which nothing is pending.
use Rattle.std.proofs.Common.{◌≡◌, ℕ, ◌≤◌, true, List, refl, sym, subst}
use Rattle.std.specs.Prelude.{◌&&◌}
use Rattle.std.proofs.lemmas.Bool.{and_from}
use Rattle.tp_base.proofs.Members.{in_has, map_in}
use Rattle.tp_base.proofs.SameNames.{same_id_refl, same_name_refl}
use Rattle.tp_base.specs.Lists.{IsIn, has}
use Rattle.tp_base.specs.Names.{same_id, same_name}
use Rattle.tp_base.specs.declared.names.ActorName.TheVariants.{Executor, Process}
use Rattle.tp_base.specs.declared.names.CommandId.{CommandId}
use Rattle.tp_base.specs.declared.names.Site.{Site}
use Rattle.tp_agreement.proofs.Commits.{home_in_range}
use Rattle.tp_agreement.proofs.KnownStamps.{acts_are_sent}
use Rattle.tp_facts.proofs.Commands.{accessed_from, command_in, command_in_names}
use Rattle.tp_ops.specs.Parts.{is_accessed}
use Rattle.tp_ops.specs.declared.command.Command.{Command}
use Rattle.tp_replies.proofs.Submissions.{IsSubmitted}
use Rattle.tp_rules.proofs.fit.Messages.{site_known}
use Rattle.tp_rules.proofs.sent.SendsOfProcess.{stamp}
use Rattle.tp_rules.proofs.lists.Tallies.{filter_in, in_filter}
use Rattle.tp_rules.proofs.ends.Unexecuted.{executor_of}
use Rattle.tp_rules.proofs.lists.UpTo.{in_up_to}
use Rattle.tp_rules.specs.Addresses.{accessed, is_body_at, is_name_of, message, site}
use Rattle.tp_rules.specs.Executor.{Committed, committed_ids}
use Rattle.tp_rules.specs.Journal.{IsSent, acts}
use Rattle.tp_rules.specs.Sheet.{ring_rule}
use Rattle.tp_rules.specs.declared.event.Entry.{Entry}
use Rattle.tp_script.specs.declared.script.Script.{Script}
use Rattle.tp_topology.specs.Counting.{up_to}
use Rattle.tp_wire.specs.declared.message.Body.TheVariants.{MCommitted}
use Rattle.tp_wire.specs.declared.message.Message.{Message}
use Rattle.tp_quiet.proofs.Admitted.{command_at}
use Rattle.tp_quiet.proofs.AllKnown.{all_know}
use Rattle.tp_quiet.proofs.ExecutorsHear.{IsCommittedAs, IsNamed, all_heeded}
use Rattle.tp_quiet.proofs.Room.{process_at}
use Rattle.tp_quiet.proofs.Served.{Knows}
use Rattle.tp_quiet.proofs.Stuck.{IsTakenIn, someone_knows}
use Rattle.tp_quiet.proofs.Submitted.{submission, submission_sent}
use Rattle.tp_quiet.proofs.TellsExecutor.{all_tell_final}
use Rattle.tp_topology.specs.Shape.{is_site_of}

module _ (script : Script) (older : List Entry) (run : IsTakenIn script older) where
  abbrev of : CommandId → Command
  of = command_in script.commands

  -- an accessed partition is listed, and a listed one is accessed
  pub accessed_listed : (c : Command) (p : ℕ) → is_accessed script.topology.partitions c p ≡ true
      → IsIn p (accessed script.topology c)
  accessed_listed c p on =
      let range = accessed_from script.topology.partitions c p run.accepted.shape.some_partition on in
      in_filter (is_accessed script.topology.partitions c) (up_to script.topology.partitions) p
      (in_up_to script.topology.partitions p range.0 range.1) on

  pub listed_accessed : (c : Command) (p : ℕ) → IsIn p (accessed script.topology c)
      → is_accessed script.topology.partitions c p ≡ true
  listed_accessed c p there =
      (filter_in (is_accessed script.topology.partitions c) (up_to script.topology.partitions) p there).1

  module _ (c : Command) (ours : IsIn c script.commands) (submitted : IsSubmitted older c.id) where
    is_of : c ≡ of c.id
    is_of = command_in_names script run.accepted c ours

    -- each process of its partitions knows the stamps of all of them
    knows_all : (j : Site) → is_site_of script.topology j ≡ true
        → is_accessed script.topology.partitions c j.partition.0 ≡ true → (q : ℕ) → IsIn q (accessed script.topology c)
        → Knows q ((process_at script run.accepted older j).sheets c.id)
    knows_all j at on q among =
        let on_q = listed_accessed c q among in
        let range = accessed_from script.topology.partitions c q run.accepted.shape.some_partition on_q in
        let some = someone_knows script older run q range c is_of (home_in_range script run.accepted c ours) (record {
          message = submission script run.accepted c q;
          sent = submission_sent script run.accepted older run.history c ours submitted q among;
          to = refl;
          is = refl;
        }) in
        all_know script older run (site q some.0) (site_known script.topology q some.0 range some.1) c.id
        (subst (λ (d : Command). is_accessed script.topology.partitions d q ≡ true) is_of on_q) some.2 j at
        (subst (λ (d : Command). is_accessed script.topology.partitions d j.partition.0 ≡ true) is_of on)

    -- and told its executor the command's stamp
    pub record IsCommittedBy (j : Site) : Type 0 where
      pub final : ℕ
      pub sent : IsSent older (message (Process j) (Executor j) (MCommitted c (stamp final)))
      pub low : final ≤ (process_at script run.accepted older j).clock

    pub committed_by : (j : Site) → is_site_of script.topology j ≡ true
        → is_accessed script.topology.partitions c j.partition.0 ≡ true → IsCommittedBy j
    committed_by j at on =
        let told = all_tell_final (ring_rule script.topology) j of (run.here j at) run.accepted.shape
        (acts older (Process j)) (run.genuine j at) c.id
        (subst (λ (d : Command). IsIn j.partition.0 (accessed script.topology d)) is_of
        (accessed_listed c j.partition.0 on))
        (λ q among. knows_all j at on q
        (subst (λ (d : Command). IsIn q (accessed script.topology d)) (sym is_of) among)) in
        record {
          final = told.final;
          sent = subst (λ (d : Command). IsSent older
              (message (Process j) (Executor j) (MCommitted d (stamp told.final))))
              (sym is_of) (acts_are_sent script older run.history j _ told.told);
          low = told.low;
        }

    -- so each executor of its partitions has it
    pub committed_at : (x : Site) → is_site_of script.topology x ≡ true
        → is_accessed script.topology.partitions c x.partition.0 ≡ true
        → IsCommittedAs (executor_of script older x) c.id
    committed_at x at on =
        let by = committed_by x at on in
        let m : Message = message (Process x) (Executor x) (MCommitted c (stamp by.final)) in
        let named : IsNamed script.topology x m =
        and_from (same_name (Executor x) (Executor x) && is_name_of script.topology (Process x))
        (is_body_at script.topology x.partition.0 m.body)
        (and_from (same_name (Executor x) (Executor x)) (is_name_of script.topology (Process x))
        (same_name_refl (Executor x)) at)
        (command_at script run.accepted x.partition.0 c ours on) in
        all_heeded script.topology x (acts older (Executor x)) m (run.took m by.sent) named

    pub has_committed : (x : Site) → is_site_of script.topology x ≡ true
        → is_accessed script.topology.partitions c x.partition.0 ≡ true
        → has same_id c.id (committed_ids (executor_of script older x)) ≡ true
    has_committed x at on =
        let as_id = committed_at x at on in
        in_has same_id same_id_refl c.id (committed_ids (executor_of script older x))
        (subst (λ (i : CommandId). IsIn i (committed_ids (executor_of script older x))) as_id.named
        (map_in (λ (d : Committed). d.key.id) (executor_of script older x).committed as_id.committed as_id.there))
