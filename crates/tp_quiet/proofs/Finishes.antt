-- Quiet means finished: in a run without losses and crashes that ends with nothing pending, each command of the script
-- is committed and executed at each replica of its partitions, and answered.
-- Used for the law of quiet runs.
use Rattle.std.proofs.Common.{◌≡◌, ℕ, zero, suc, ◌≤◌, true, List, [], None, is_some, length, refl, sym, subst, arith}
use Rattle.std.specs.Prelude.{reverse}
use Rattle.tp_base.proofs.Each.{each_in, each_of}
use Rattle.tp_base.specs.Limits.{IsFrom}
use Rattle.tp_base.specs.Lists.{IsIn, has}
use Rattle.tp_base.specs.Names.{same_id}
use Rattle.tp_base.specs.declared.names.ActorName.TheVariants.{Executor, Process, Session}
use Rattle.tp_base.specs.declared.names.CommandId.{CommandId}
use Rattle.tp_base.specs.declared.names.SessionId.{SessionId}
use Rattle.tp_base.specs.declared.names.Site.{Site}
use Rattle.tp_agreement.proofs.Settles.{settled}
use Rattle.tp_base.proofs.Ranges.{range_in}
use Rattle.tp_facts.proofs.Commands.{accessed_from}
use Rattle.tp_ops.specs.Parts.{is_accessed}
use Rattle.tp_ops.specs.declared.command.Command.{Command}
use Rattle.tp_order.proofs.Executions.{noted_is_executed}
use Rattle.tp_order.proofs.SentCommits.{sent_commit_of}
use Rattle.tp_replies.proofs.Submissions.{IsSubmitted}
use Rattle.tp_rules.proofs.fit.Messages.{site_known}
use Rattle.tp_rules.proofs.Histories.{free_history}
use Rattle.tp_rules.proofs.sent.SendsOfProcess.{stamp}
use Rattle.tp_rules.proofs.ends.Unannounced.{site_listed}
use Rattle.tp_rules.proofs.ends.Unexecuted.{executor_of}
use Rattle.tp_rules.proofs.ends.Unsubmitted.{command_numbered, submitted_by}
use Rattle.tp_rules.specs.Addresses.{accessed, message, site}
use Rattle.tp_rules.specs.Journal.{IsSent, acts, commands_of, identity_in, is_known}
use Rattle.tp_rules.specs.Outcome.{first_result, reply_to}
use Rattle.tp_rules.specs.Pending.{IsQuiet, pending, sites_of}
use Rattle.tp_rules.specs.Rules.{enabled}
use Rattle.tp_rules.specs.Runs.{IsFreeHistory, IsHistory, IsRun}
use Rattle.tp_rules.specs.declared.event.Entry.{Entry}
use Rattle.tp_script.specs.Accepted.{IsAccepted, IsCommandOf}
use Rattle.tp_script.specs.declared.script.Script.{Script}
use Rattle.tp_wire.specs.declared.message.Body.TheVariants.{MCommitted, MResult}
use Rattle.tp_wire.specs.declared.message.Message.{Message}
use Rattle.tp_quiet.proofs.AllCommitted.{committed_at, committed_by, listed_accessed}
use Rattle.tp_quiet.proofs.AllExecuted.{all_executed}
use Rattle.tp_quiet.proofs.Answered.{all_submitted_by, counted_submitted, number_within, reply_some, result_first}
use Rattle.tp_quiet.proofs.AtRest.{at_rest}
use Rattle.tp_quiet.proofs.Declared.{all_told, executor_acts_are_sent}
use Rattle.tp_quiet.proofs.IdleExecutors.{idle}
use Rattle.tp_quiet.proofs.QuietRun.{taken_in}
use Rattle.tp_quiet.proofs.Stuck.{IsTakenIn}
use Rattle.tp_quiet.specs.Finished.{IsCommandFinished, IsFinished, IsHarmless}
use Rattle.tp_topology.specs.Shape.{is_site_of}

module _ (script : Script) (accepted : IsAccepted script) (harmless : IsHarmless script) (older : List Entry)
    (history : IsHistory script older) (quiet : pending script older ≡ []) where
  free : IsFreeHistory script older
  free = free_history script older history

  run : IsTakenIn script older
  run = taken_in script accepted harmless older history quiet

  still : (a : _) → is_known script a ≡ true → enabled (identity_in script a) (acts older a) ≡ None
  still = (at_rest script accepted harmless older history quiet).still

  -- a submitted command is executed at each executor of its partitions
  executed_at : (c : Command) → IsIn c script.commands → IsSubmitted older c.id → (x : Site)
      → is_site_of script.topology x ≡ true → is_accessed script.topology.partitions c x.partition.0 ≡ true
      → has same_id c.id (executor_of script older x).executed ≡ true
  executed_at c ours submitted x at on =
      let as_id = committed_at script older run c ours submitted x at on in
      subst (λ (i : CommandId). has same_id i (executor_of script older x).executed ≡ true) as_id.named
      (all_executed script.topology (sites_of script) (λ y. executor_of script older y)
      (idle script older run (settled script accepted older free) still) x as_id.committed
      (site_listed script x at) as_id.there)

  -- its session got the results
  result_taken : (c : Command) → IsIn c script.commands → IsSubmitted older c.id → (p : ℕ)
      → IsIn p (accessed script.topology c) → is_some (first_result older c.id p) ≡ true
  result_taken c ours submitted p among =
      let on = listed_accessed script older run c p among in
      let range = accessed_from script.topology.partitions c p accepted.shape.some_partition on in
      let x : Site = site p 1 in
      let at : is_site_of script.topology x ≡ true =
      site_known script.topology p 1 range (omega arith, omega (arith, accepted.shape.some_replicas)) in
      let told = (all_told script.topology x (acts older (Executor x))).executed c.id
      (executed_at c ours submitted x at on) in
      let m : Message = message (Executor x) (Session c.id.session) (MResult c.id x.partition told.answers) in
      let sent : IsSent older m = executor_acts_are_sent script older free x m told.told in
      result_first older c.id x.partition told.answers m refl (run.took m sent)

  answered_if : (c : Command) → IsIn c script.commands → IsSubmitted older c.id
      → is_some (reply_to script older c.id) ≡ true
  answered_if c ours submitted = reply_some script accepted older free c ours (result_taken c ours submitted)

  -- each command that a session counts as submitted is answered
  counted_answered : (s : SessionId) (n : ℕ) → 1 ≤ n → n ≤ submitted_by script older s
      → is_some (reply_to script older (record { session = s; number = n })) ≡ true
  counted_answered s zero low high = absurd (omega (arith, low))
  counted_answered s (suc k) low high =
      let was = counted_submitted script s older free (suc k) low high in
      let found = command_numbered script accepted s k (omega (arith, was.0)) in
      let c : Command = found.0 in
      let named : c.id
      ≡ record { session = s; number = suc k } = (λ i. record { session = found.2 i; number = found.3 i }) in
      subst (λ (id : CommandId). is_some (reply_to script older id) ≡ true) named
      (answered_if c found.1 (subst (IsSubmitted older) (sym named) was.1))

  -- so each command was submitted
  all_submitted : (c : Command) → IsIn c script.commands → IsSubmitted older c.id
  all_submitted c ours =
      let s : SessionId = c.id.session in
      let of : IsCommandOf script.homes c = each_in
      (IsCommandOf script.homes) script.commands c accepted.commands ours in
      let known : is_known script (Session s) ≡ true = range_in 1 (length script.homes) s.0 of.1 in
      let number = number_within script accepted older free c ours in
      let all = all_submitted_by script accepted older free s (counted_answered s) (still (Session s) known) in
      (counted_submitted script s older free c.id.number number.0 (omega (arith, number.1, all))).1

  command_finished : (c : Command) → IsIn c script.commands → IsCommandFinished script older c
  command_finished c ours =
      let submitted = all_submitted c ours in
      record {
        committed = λ p k on at.
            let by = committed_by script older run c ours submitted (site p k) at on in (
              by.final,
              sent_commit_of script older
                  (message (Process (site p k)) (Executor (site p k)) (MCommitted c (stamp by.final))) (site p k) c
                  (stamp by.final)
                  free by.sent refl refl,
            );
        executed = λ p k on at.
            noted_is_executed script older free (site p k) c.id (executed_at c ours submitted (site p k) at on);
        answered = answered_if c ours submitted;
      }

-- of a journal in its own order
pub quiet_finished : (script : Script) (journal : List Entry) → IsAccepted script → IsRun script journal
    → IsQuiet script journal → IsHarmless script → IsFinished script journal
unfolding IsRun IsQuiet IsFinished
quiet_finished script journal accepted run quiet harmless =
    each_of (IsCommandFinished script (reverse journal)) script.commands
    (λ c ours. command_finished script accepted harmless (reverse journal) run quiet c ours)

-- so no command is open
pub all_answered : (script : Script) (journal : List Entry) → IsAccepted script → IsFinished script journal
    → (s : SessionId) (n : ℕ) → IsFrom 1 (length (commands_of script s)) n
    → is_some (reply_to script (reverse journal) (record { session = s; number = n })) ≡ true
unfolding IsFinished
all_answered script journal accepted finished s zero range = absurd (omega (arith, range.0))
all_answered script journal accepted finished s (suc k) range =
    let found = command_numbered script accepted s k (omega (arith, range.1)) in
    let named : found.0.id ≡ record { session = s; number = suc k } =
    (λ i. record { session = found.2 i; number = found.3 i }) in
    subst (λ (id : CommandId). is_some (reply_to script (reverse journal) id) ≡ true) named
    (each_in (IsCommandFinished script (reverse journal)) script.commands found.0 finished found.1).answered
