-- What a commit says: the script's command, and the greatest of the stamps known. Used for the final stamps.
use Rattle.std.proofs.Common.{◌≡◌, ℕ, inl, inr, true, List, [], ◌∷◌, map, Option, Some, None, refl, sym, ap, ◌∙◌, subst}
use Rattle.std.specs.List.{filter_map}
use Rattle.std.specs.Prelude.{slice_get, ◌-◌}
use Rattle.tp_base.proofs.Each.{each_in}
use Rattle.tp_base.proofs.Members.{in_either}
use Rattle.tp_base.specs.Limits.{IsFrom}
use Rattle.tp_base.specs.Lists.{Each, IsIn}
use Rattle.tp_base.specs.declared.names.ActorName.{ActorName}
use Rattle.tp_base.specs.declared.names.ActorName.TheVariants.{Process, Executor, Session}
use Rattle.tp_base.specs.declared.names.CommandId.{CommandId}
use Rattle.tp_base.specs.declared.names.Rank.{Rank}
use Rattle.tp_base.specs.declared.names.Site.{Site}
use Rattle.tp_base.specs.declared.names.Stamp.{Stamp}
use Rattle.tp_ops.specs.declared.command.Command.{Command}
use Rattle.tp_rules.proofs.sent.EachSent.{history_passes}
use Rattle.tp_rules.proofs.fit.Messages.{IsBodyOf, IsFit}
use Rattle.tp_rules.proofs.fit.InRange.{fit_handed_on}
use Rattle.tp_rules.proofs.lists.Selections.{each_get}
use Rattle.tp_rules.specs.Addresses.{accessed}
use Rattle.tp_rules.specs.Journal.{IsSent}
use Rattle.tp_rules.specs.Outcome.{Commit, commit_by, commits}
use Rattle.tp_rules.specs.Runs.{IsFreeHistory}
use Rattle.tp_rules.specs.Sheet.{final_stamp, greatest_known, stamp_of}
use Rattle.tp_rules.specs.declared.event.Entry.{Entry}
use Rattle.tp_script.specs.Accepted.{IsAccepted, IsCommandOf, IsHome}
use Rattle.tp_script.specs.declared.script.Script.{Script}
use Rattle.tp_wire.specs.declared.message.Body.{Body}
use Rattle.tp_wire.specs.declared.message.Body.TheVariants.{MCommitted}
use Rattle.tp_wire.specs.declared.message.Message.{Message}
use Rattle.tp_facts.proofs.Commands.{command_in, command_in_names}
use Rattle.tp_facts.proofs.Senders.{IsOfProcess, sender_of, output_sender}
use Rattle.tp_agreement.proofs.KnownStamps.{sheet_at_site}
use Rattle.tp_agreement.proofs.Moment.{Moment, SentBy, is_true, moment_at}
use Rattle.tp_base.proofs.Tests.{kept_in}
use Rattle.tp_topology.specs.Shape.{is_site_of}

-- a commit is a message of the process that committed
commit_sent : (script : Script) (older : List Entry) → IsFreeHistory script older → (x : Commit)
    → IsIn x (commits older) → (n : Message) × IsSent older n × (commit_by n.from n.body ≡ Some x)
commit_sent script [] history x there = absurd there
commit_sent script (e ∷ older) history x there =
    elim (in_either (commits older) (filter_map (λ (n : Message). commit_by e.actor n.body) e.outputs) x there) [
      | inl before ↦ let c = commit_sent script older history.0 x before in (c.0, inr c.1, c.2)
      | inr now ↦
          let n = kept_in (λ (n : Message). commit_by e.actor n.body) e.outputs x now in
          let by = output_sender script older e n.0 history.1 n.1 in
          (n.0, inl n.1, ap (λ (a : ActorName). commit_by a n.0.body) by.0 ∙ n.2)
    ]

-- a message body with which a process commits
record IsCommitBy (a : ActorName) (body : Body) (x : Commit) : Type 0 where
  command : Command
  stamp : Stamp
  is : body ≡ MCommitted command stamp
  actor : a ≡ Process x.site
  id : command.id ≡ x.id
  value : stamp.0 ≡ x.stamp

is_commit_by : (a : ActorName) (body : Body) (x : Commit) → commit_by a body ≡ Some x → IsCommitBy a body x
is_commit_by (Process s) (MCommitted c t) x e =
    let made : Commit = record { site = s; id = c.id; stamp = t.0 } in
    let both : Some made ≡ Some x = e in
    let is : made ≡ x = cc in
    record {
      command = c;
      stamp = t;
      is = refl;
      actor = ap (λ (y : Commit). Process y.site) is;
      id = ap (λ (y : Commit). y.id) is;
      value = ap (λ (y : Commit). y.stamp) is;
    }
is_commit_by (Process s) _ x e = absurd cc
is_commit_by (Executor s) body x e = absurd cc
is_commit_by (Session s) body x e = absurd cc

-- what holds of all outputs of a journal holds of what was sent
of_sent : (P : Message → Type 0) (older : List Entry) (n : Message) → Each (λ e. Each P e.outputs) older
    → IsSent older n → P n
of_sent P [] n h there = absurd there
of_sent P (e ∷ older) n h (inl here) = each_in P e.outputs n h.0 here
of_sent P (e ∷ older) n h (inr there) = of_sent P older n h.1 there

-- the home of a command of the script is a rank
pub home_in_range : (script : Script) → IsAccepted script → (c : Command) → IsIn c script.commands
    → IsFrom 1 script.topology.replicas c.home.0
home_in_range script accepted c ours =
    let of : IsCommandOf script.homes c = each_in (IsCommandOf script.homes) script.commands c accepted.commands ours in
    go (slice_get script.homes (c.id.session.0 - 1)) refl of.2
  where
    go : (o : Option Rank) → slice_get script.homes (c.id.session.0 - 1) ≡ o → IsHome o c.home.0
        → IsFrom 1 script.topology.replicas c.home.0
    go None e h = absurd h
    go (Some rank) e h = subst (IsFrom 1 script.topology.replicas) h
        (each_get (λ (home : Rank). IsFrom 1 script.topology.replicas home.0) script.homes (c.id.session.0 - 1) rank
        accepted.homes e)

module _ (script : Script) (accepted : IsAccepted script) (older : List Entry)
    (history : IsFreeHistory script older) where
  abbrev moment_of : ℕ → CommandId → Moment
  moment_of partition id = moment_at script accepted older history partition id

  -- the moment of a commit's command in the partition of the process that committed
  abbrev its : Commit → Moment
  its x = moment_of x.site.partition.0 x.id

  -- the stamp that a commit's process knows of each partition
  abbrev pub known_stamps : Commit → ℕ → Option ℕ
  known_stamps x q = stamp_of (sheet_at_site (its x) x.site) q

  -- the commit is of a command of the script, at the greatest of the stamps that its process knew, one of each accessed
  -- partition
  pub record IsFinal (x : Commit) : Type 0 where
    pub known : is_site_of script.topology x.site ≡ true
    pub ours : IsIn (command_in script.commands x.id) script.commands
    pub final : greatest_known (map (known_stamps x) (accessed script.topology (command_in script.commands x.id)))
        ≡ Some x.stamp

  -- what a process sent as its commit holds of what it knows
  final_of : (x : Commit) (c : Command) (t : Stamp) → IsIn c script.commands → c.id ≡ x.id → t.0 ≡ x.stamp
      → SentBy (its x) x.site.rank.0 (MCommitted c t) → IsFinal x
  final_of x c t ours id value sent =
      let said = is_true (its x) sent in
      let same : said.0 ≡ x.id = sym said.1.0 ∙ id in
      let it : c ≡ command_in script.commands x.id =
      command_in_names script accepted c ours ∙ ap (command_in script.commands) id in
      let at_id : final_stamp script.topology (sheet_at_site (its x) x.site) (Some c) ≡ Some x.stamp =
      subst (λ (i : CommandId). final_stamp script.topology (sheet_at_site (moment_of x.site.partition.0 i) x.site)
      (Some c) ≡ Some x.stamp) same (said.1.1 ∙ ap (λ (n : ℕ). Some n) value) in
      record {
        known = sent.known;
        ours = subst (λ (d : Command). IsIn d script.commands) it ours;
        final = subst (λ (d : Command). final_stamp script.topology (sheet_at_site (its x) x.site) (Some d)
            ≡ Some x.stamp) it at_id;
      }

  -- each commit of the journal is such
  pub commit_is_final : (x : Commit) → IsIn x (commits older) → IsFinal x
  commit_is_final x there =
      let n = commit_sent script older history x there in
      let c = is_commit_by n.0.from n.0.body x n.2 in
      let s = sender_of script older history n.0 n.1 (subst IsOfProcess (sym c.is) tt) in
      let same : s.site ≡ x.site = (let e : Process s.site ≡ Process x.site = sym s.from ∙ c.actor in cc) in
      let known = subst (λ (k : Site). is_site_of script.topology k ≡ true) same s.known in
      let fit : IsFit script n.0 =
      of_sent (IsFit script) older n.0
      (history_passes script (IsFit script) (fit_handed_on script accepted) older history) n.1 in
      final_of x c.command c.stamp (subst (IsBodyOf script) c.is fit.ours) c.id c.value
      (record { message = n.0; known = known; from = c.actor; there = n.1; is = c.is })
