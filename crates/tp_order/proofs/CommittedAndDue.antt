-- What an executor has committed is due at its partition by its final key, and it has committed what is due at or below
-- a stable stamp. Used for the command that is declared or executed next (StableIsNext).
use Rattle.std.proofs.Common.{◌≡◌, ℕ, ◌≤◌, inl, inr, Bool, true, false, List, [], ◌∷◌, Option, Some, refl, sym, subst, ap, ◌∙◌, arith}
use Rattle.tp_base.specs.Lists.{Each, IsIn, has}
use Rattle.tp_base.specs.Names.{same_id}
use Rattle.tp_base.proofs.Each.{each_in, each_weaker}
use Rattle.tp_base.proofs.SameNames.{same_id_is, same_id_refl}
use Rattle.tp_base.specs.declared.names.ActorName.TheVariants.{Executor}
use Rattle.tp_base.specs.declared.names.CommandId.{CommandId}
use Rattle.tp_base.specs.declared.names.Key.{Key}
use Rattle.tp_base.specs.declared.names.Site.{Site}
use Rattle.tp_rules.specs.Addresses.{rank_of}
use Rattle.tp_rules.specs.Journal.{acts, IsSent}
use Rattle.tp_rules.specs.Outcome.{Commit, commits, command_of, accesses, stamp_in}
use Rattle.tp_rules.specs.Runs.{IsFreeHistory}
use Rattle.tp_rules.specs.declared.event.Entry.{Entry}
use Rattle.tp_script.specs.Accepted.{IsAccepted}
use Rattle.tp_script.specs.declared.script.Script.{Script}
use Rattle.tp_topology.specs.Stability.{Telling, attached_to, is_stable}
use Rattle.tp_rules.proofs.sent.Provenance.{IsOf, committed_provenance}
use Rattle.tp_rules.proofs.ends.Unexecuted.{executor_of}
use Rattle.tp_facts.proofs.Commands.{accesses_within, command_is}
use Rattle.tp_facts.proofs.Deliveries.{acts_were_sent}
use Rattle.tp_facts.specs.Settled.{Settled, is_proposed, sheet_at}
use Rattle.tp_order.proofs.Knowledge.{KnowsByMessages, PromisesMessage, CommittedMessage, knows_by_messages}
use Rattle.tp_order.proofs.SentCommits.{sent_is_commit}
use Rattle.tp_order.proofs.Stability.{IsTrueTelling, majority_attached_is_committed}
use Rattle.tp_order.proofs.TruePromises.{told_promises_are_true, proposal_is_attached}
use Rattle.tp_order.specs.Due.{IsDue, IsWithin, final_key, final_owner}
use Rattle.tp_rules.specs.Executor as executor

-- where all commits of a command have one stamp, that is the stamp of its key
final_stamp : (cs : List Commit) (a : Commit) → IsIn a cs →
    ((b : Commit) → IsIn b cs → a.id ≡ b.id → a.stamp ≡ b.stamp) → stamp_in cs a.id ≡ a.stamp
final_stamp [] a there agreed = absurd there
final_stamp (c ∷ cs) a there agreed =
    by_test (same_id c.id a.id) refl there (λ later. final_stamp cs a later (λ b k. agreed b (inr k)))
  where
    by_test : (b : Bool) → same_id c.id a.id ≡ b → IsIn a (c ∷ cs) → (IsIn a cs → stamp_in cs a.id ≡ a.stamp) →
        stamp_in (c ∷ cs) a.id ≡ a.stamp
    by_test true is h rest = rw is (sym (agreed c (inl refl) (sym (same_id_is c.id a.id is))))
    by_test false is (inl same) rest = absurd (
        let itself : same_id c.id a.id ≡ true =
        subst (λ (d : Commit). same_id d.id a.id ≡ true) same (same_id_refl a.id) in
        cc)
    by_test false is (inr later) rest = rw is (rest later)

-- it is due at the partition, and the executor orders it by its final key
pub record IsDueByFinalKey (script : Script) (whole : List Entry) (p : ℕ) (c : executor.Committed) : Type 0 where
  pub due : IsDue script whole p c.key.id
  pub key : c.key ≡ final_key whole c.key.id

module _ (script : Script) (accepted : IsAccepted script) (whole : List Entry) (history : IsFreeHistory script whole)
    (settled : Settled script whole) (older : List Entry) (before : IsFreeHistory script older)
    (within : IsWithin older whole) (s : Site) where
  abbrev state : executor.ExecutorState
  state = executor_of script older s

  abbrev owner : ℕ → ℕ → Option CommandId
  owner = final_owner script whole s.partition.0

  pub knows : KnowsByMessages (IsSent whole) script.topology s state
  knows = knows_by_messages (IsSent whole) script.topology s (acts older (Executor s))
      (acts_were_sent (IsSent whole) older (Executor s) within)

  -- the stamp of any commit is the final one
  stamp_is_final : (a : Commit) → IsIn a (commits whole) → stamp_in (commits whole) a.id ≡ a.stamp
  stamp_is_final a there = final_stamp (commits whole) a there (λ b k. settled.agreed a b there k)

  -- what it has committed is due, by its final key
  pub committed_is_due : (c : executor.Committed) → IsIn c state.committed →
      IsDueByFinalKey script whole s.partition.0 c
  committed_is_due c there =
      let told = each_in (CommittedMessage (IsSent whole) script.topology s) state.committed c knows.committed there in
      let sent = sent_is_commit script whole told.message c.command told.stamp history told.taken told.body in
      let own =
      each_in (λ (d : executor.Committed). IsOf script d.command × (d.key.id ≡ d.command.id)) state.committed c
      (committed_provenance script older before s) there in
      let found : command_of script c.key.id ≡ Some c.command =
      ap (command_of script) own.1 ∙ command_is script accepted c.command own.0 in
      let id : sent.commit.id ≡ c.key.id = sent.id ∙ sym own.1 in
      let stamp : stamp_in (commits whole) c.key.id ≡ told.stamp.0 =
      ap (stamp_in (commits whole)) (sym id) ∙ stamp_is_final sent.commit sent.is_committed ∙ sent.stamp in
      record {
        due = record {
          commit = sent.commit;
          is_committed = sent.is_committed;
          names_it = id;
          accesses = ap (accesses script s.partition.0) found ∙ told.accesses;
        };
        key = ap (λ (n : ℕ). record { stamp = record { 0 = n }; id = c.key.id })
            (ap (λ (k : Key). k.stamp.0) told.key ∙ sym stamp);
      }

  -- what it was told of promises is so in the end
  pub tellings_are_true : (t : Telling) → PromisesMessage (IsSent whole) script.topology s t → IsTrueTelling owner t
  tellings_are_true t told n above below =
      let m = told.message in
      let is =
      told_promises_are_true script accepted whole history m t.lo t.hi t.attached told.taken told.body n above below in
      subst (λ (r : ℕ). attached_to t.attached n ≡ owner r n) told.rank
      (subst (λ (p : ℕ). attached_to t.attached n ≡ final_owner script whole p (rank_of m.from) n) told.partition is)

  -- what is due at or below a stable stamp it has committed
  pub due_is_committed : (d : CommandId) (stable : ℕ) → IsDue script whole s.partition.0 d →
      is_stable script.topology state.told (executor.committed_ids state) stable ≡ true →
      stamp_in (commits whole) d ≤ stable → has same_id d (executor.committed_ids state) ≡ true
  due_is_committed d stable due is low =
      let p = s.partition.0 in
      let a = due.commit in
      let ids = executor.committed_ids state in
      let reaches = ap (λ (i : CommandId). accesses script p (command_of script i)) due.names_it ∙ due.accesses in
      let partition_known = accesses_within script accepted.shape.some_partition p (command_of script d) due.accesses in
      let stamp : stamp_in (commits whole) d ≡ a.stamp =
      ap (stamp_in (commits whole)) (sym due.names_it) ∙ stamp_is_final a due.is_committed in
      let all_true : Each (IsTrueTelling owner) state.told =
      each_weaker (PromisesMessage (IsSent whole) script.topology s) (IsTrueTelling owner) tellings_are_true state.told
      knows.told in
      subst (λ (i : CommandId). has same_id i ids ≡ true) due.names_it
      (majority_attached_is_committed owner script.topology state.told ids a.id a.stamp stable
      (λ rank. is_proposed (sheet_at script whole p rank a.id).proposal a.stamp)
      all_true is (omega (arith, low, stamp)) (settled.attached a due.is_committed p reaches)
      (λ rank least most proposed.
      proposal_is_attached script accepted whole history p rank partition_known (least, most) a.id a.stamp proposed))
