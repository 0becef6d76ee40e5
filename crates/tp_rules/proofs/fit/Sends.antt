-- The lists of messages that a process's rules send are fit, where their commands are the script's and their stamps in range.
use Rattle.std.proofs.Common.{◌≡◌, ℕ, ◌<◌, ◌≤◌, Bool, true, List, length, map, Option, Some, None, sym, subst, arith}
use Rattle.std.proofs.lemmas.Bool.{cond_both}
use Rattle.std.proofs.lemmas.List.{length-map, length-reverse}
use Rattle.std.specs.List.{flat_map}
use Rattle.std.specs.Prelude.{filter, nat_lt, not, ◌==◌}
use Rattle.tp_base.proofs.Each.{each_in, each_weaker}
use Rattle.tp_base.proofs.Members.{in_map}
use Rattle.tp_base.proofs.Tests.{filter_length}
use Rattle.tp_base.specs.Limits.{IsFrom, IsId, IsSite}
use Rattle.tp_base.specs.Lists.{Each, IsIn}
use Rattle.tp_base.specs.Names.{same_name}
use Rattle.tp_base.specs.declared.names.ActorName.{ActorName}
use Rattle.tp_base.specs.declared.names.ActorName.TheVariants.{Process}
use Rattle.tp_base.specs.declared.names.CommandId.{CommandId}
use Rattle.tp_base.specs.declared.names.Pair.{Pair}
use Rattle.tp_base.specs.declared.names.Site.{Site}
use Rattle.tp_ops.specs.Limits.{IsCommand}
use Rattle.tp_ops.specs.declared.command.Command.{Command}
use Rattle.tp_rules.proofs.lists.Distinct.{distinct_within}
use Rattle.tp_rules.proofs.fit.Messages.{IsCommandHere, IsExecutorOf, IsFit, IsProcessOf, site_known, command_in_range, each_accessed, each_executor, each_other_accessed, each_process, site_in_range, site_is}
use Rattle.tp_rules.proofs.fit.Processes.{IsProcessSound, ids_of}
use Rattle.tp_rules.proofs.fit.Promises.{untold_attached}
use Rattle.tp_rules.proofs.lists.Selections.{IfAny, each_filter, each_image, each_spread, each_up_to}
use Rattle.tp_rules.specs.Addresses.{accessed, executors_of, message, others_accessed, processes_of, site}
use Rattle.tp_rules.specs.Process.{ProcessState, announced, asked, bumps, commit_messages, proposals, put_to_vote, commit_reply, untold}
use Rattle.tp_rules.specs.Sheet.{QuorumRule}
use Rattle.tp_script.specs.Accepted.{IsAccepted}
use Rattle.tp_script.specs.declared.script.Script.{Script}
use Rattle.tp_topology.specs.Counting.{up_to}
use Rattle.tp_topology.specs.Shape.{is_site_of}
use Rattle.tp_wire.specs.Ranges.{IsNumber}
use Rattle.tp_wire.specs.declared.message.Body.{Body}
use Rattle.tp_wire.specs.declared.message.Body.TheVariants.{MPropose, MPayload, MBump, MConsensus, MCommit, MRec, MPromises}

-- a script's shape, and any fast quorums
abbrev pub quorum_rule_of : Script → (Command → ℕ → Bool) → QuorumRule
quorum_rule_of script in_quorum = record { shape = script.topology; in_quorum = in_quorum }

module _ (script : Script) (accepted : IsAccepted script) (in_quorum : Command → ℕ → Bool) (me : Site)
    (here : is_site_of script.topology me ≡ true) where
  pub own_partition : IsFrom 1 script.topology.partitions me.partition.0
  own_partition = (site_is script.topology me here).0

  own_rank : IsFrom 1 script.topology.replicas me.rank.0
  own_rank = (site_is script.topology me here).1

  pub own_site : IsSite me
  own_site = site_in_range script.topology accepted.shape me.partition.0 me.rank.0 own_partition own_rank

  pub own_ballot : IsNumber me.rank.0
  own_ballot = (own_rank.0, omega (arith, own_rank.1, accepted.shape.few_replicas))

  pub is_command : (c : Command) → IsCommandHere script me.partition.0 c → IsCommand c
  is_command c h = command_in_range script c accepted h.ours

  pub bumps_fit : (c : Command) (t : ℕ) → IsCommandHere script me.partition.0 c → IsNumber t
      → Each (IsFit script) (bumps script.topology me c t)
  unfolding bumps
  bumps_fit c t ours number =
      let body : Body = MBump c.id (record { 0 = t }) in
      let range : IsCommand c = is_command c ours in
      let others : List ℕ = others_accessed script.topology c me.partition.0 in
      each_image (IsFit script) (λ to. message (Process me) to body) (map (λ q. Process (site q me.rank.0)) others)
      (each_image (λ to. IsFit script (message (Process me) to body)) (λ q. Process (site q me.rank.0)) others
      (each_weaker (IsFrom 1 script.topology.partitions) (λ q. IsFit script (message (Process me) (Process (site q me.rank.0)) body))
      (λ q of. record {
        known = site_known script.topology q me.rank.0 of own_rank;
        range = (own_site, site_in_range script.topology accepted.shape q me.rank.0 of own_rank, range.0, number);
        ours = tt;
      })
      others (each_other_accessed script.topology c me.partition.0)))

  pub proposals_fit : (c : Command) (t : ℕ) → IsCommandHere script me.partition.0 c → IsNumber t
      → Each (IsFit script) (proposals (quorum_rule_of script in_quorum) me c t)
  unfolding proposals
  proposals_fit c t ours number =
      let range : IsCommand c = is_command c ours in
      let to : ℕ → ActorName = λ rank. Process (site me.partition.0 rank) in
      let others : List ℕ = filter (λ rank. not (rank == me.rank.0)) (up_to script.topology.replicas) in
      each_image (IsFit script) _ others
      (each_weaker (IsFrom 1 script.topology.replicas) _
      (λ rank of.
      let is_there : is_site_of script.topology (site me.partition.0 rank) ≡ true = site_known script.topology me.partition.0 rank own_partition of in
      let there : IsSite (site me.partition.0 rank) = site_in_range script.topology accepted.shape me.partition.0 rank own_partition of in
      cond_both (in_quorum c rank) (MPropose c (record { 0 = t })) (MPayload c) (λ (body : Body). IsFit script (message (Process me) (to rank) body))
      (λ t. record { known = is_there; range = (own_site, there, range, number); ours = ours.ours })
      (λ f. record { known = is_there; range = (own_site, there, range); ours = ours.ours }))
      others (each_filter (IsFrom 1 script.topology.replicas) _ (up_to script.topology.replicas) (each_up_to script.topology.replicas)))

  pub commit_messages_fit : (o : Option Command) (t : ℕ) → IfAny (IsCommandHere script me.partition.0) o → IsNumber t
      → Each (IsFit script) (commit_messages script.topology me o t)
  unfolding commit_messages
  commit_messages_fit None t ours number = tt
  commit_messages_fit (Some c) t ours number =
      let body : Body = MCommit c me.partition (record { 0 = t }) in
      let range : IsCommand c = is_command c ours in
      let all : List ActorName = flat_map (processes_of script.topology) (accessed script.topology c) in
      let each_all : Each (IsProcessOf script) all = each_spread (IsProcessOf script) (processes_of script.topology) (accessed script.topology c)
      (each_weaker (IsFrom 1 script.topology.partitions) (λ q. Each (IsProcessOf script) (processes_of script.topology q))
      (each_process script accepted.shape) (accessed script.topology c) (each_accessed script.topology c)) in
      let names : List ActorName = filter (λ to. not (same_name to (Process me))) all in
      each_image (IsFit script) (λ to. message (Process me) to body) names
      (each_weaker (IsProcessOf script) (λ to. IsFit script (message (Process me) to body))
      (λ to is_process. record {
        known = is_process.1;
        range = (own_site, is_process.0, range, (own_partition.0, omega (arith, own_partition.1, accepted.shape.few_partitions)), number);
        ours = ours.ours;
      })
      names (each_filter (IsProcessOf script) (λ to. not (same_name to (Process me))) all each_all))

  pub votes_fit : (b t : ℕ) (o : Option Command) → IfAny (IsCommandHere script me.partition.0) o → IsNumber b → IsNumber t
      → Each (IsFit script) (put_to_vote script.topology me b t o)
  votes_fit b t None ours ballot number = tt
  votes_fit b t (Some c) ours ballot number =
      let body : Body = MConsensus c (record { 0 = t }) b in
      let range : IsCommand c = is_command c ours in
      let names : List ActorName = processes_of script.topology me.partition.0 in
      each_image (IsFit script) (λ to. message (Process me) to body) names
      (each_weaker (IsProcessOf script) (λ to. IsFit script (message (Process me) to body))
      (λ to is_process. record { known = is_process.1; range = (own_site, is_process.0, range, number, ballot); ours = ours.ours })
      names (each_process script accepted.shape me.partition.0 own_partition))

  -- all ranks are asked
  pub asked_fit : (b : ℕ) (o : Option Command) → IfAny (IsCommandHere script me.partition.0) o → IsNumber b
      → Each (IsFit script) (asked script.topology me b o)
  asked_fit b None ours ballot = tt
  asked_fit b (Some c) ours ballot =
      let range : IsCommand c = is_command c ours in
      let names : List ActorName = processes_of script.topology me.partition.0 in
      each_image (IsFit script) (λ to. message (Process me) to (MRec c b)) names
      (each_weaker (IsProcessOf script) (λ to. IsFit script (message (Process me) to (MRec c b)))
      (λ to is_process. record { known = is_process.1; range = (own_site, is_process.0, range, ballot); ours = ours.ours })
      names (each_process script accepted.shape me.partition.0 own_partition))

  -- the partition's stamp is told to one
  pub commit_reply_fit : (from : ActorName) (o : Option Command) (t : ℕ) → IsProcessOf script from → IfAny (IsCommandHere script me.partition.0) o → IsNumber t
      → Each (IsFit script) (commit_reply me from o t)
  commit_reply_fit from None t is_process ours number = tt
  commit_reply_fit from (Some c) t is_process ours number = (
    record {
      known = is_process.1;
      range = (
        own_site,
        is_process.0,
        is_command c ours,
        (own_partition.0, omega (arith, own_partition.1, accepted.shape.few_partitions)),
        number,
      );
      ours = ours.ours;
    },
    tt,
  )

  -- an announcement has as many pairs as the script has commands, at most

  pairs_few : (state : ProcessState) → IsProcessSound script me.partition.0 state → length (untold state) ≤ 1000
  pairs_few state sound =
      let above : List Pair = filter (λ pair. nat_lt state.told pair.stamp.0) state.attached in
      let ids : List CommandId = map (λ pair. pair.id) state.attached in
      let turned : length (untold state) ≡ length above = length-reverse above in
      let shorter : length above ≤ length state.attached = filter_length (λ pair. nat_lt state.told pair.stamp.0) state.attached in
      let as_many : length ids ≡ length state.attached = length-map state.attached (λ pair. pair.id) in
      let within : length ids ≤ length (ids_of script) = distinct_within ids (ids_of script) sound.once
      (λ id k.
      let found = in_map (λ (pair : Pair). pair.id) state.attached id k in
      subst (λ (i : CommandId). IsIn i (ids_of script)) (sym found.2)
      (each_in (λ (pair : Pair). IsIn pair.id (ids_of script)) state.attached found.0 sound.ours found.1)) in
      let all : length (ids_of script) ≡ length script.commands = length-map script.commands (λ c. c.id) in
      omega (arith, accepted.count)

  ids_in_range : (state : ProcessState) → IsProcessSound script me.partition.0 state → Each (λ pair. IsId pair.id) state.attached
  ids_in_range state sound = each_weaker (λ (pair : Pair). IsIn pair.id (ids_of script)) (λ pair. IsId pair.id)
      (λ pair there.
      let found = in_map (λ (c : Command). c.id) script.commands pair.id there in
      let range : IsCommand found.0 = command_in_range script found.0 accepted found.1 in
      subst IsId (sym found.2) range.0)
      state.attached sound.ours

  pub announced_fit : (state : ProcessState) → IsProcessSound script me.partition.0 state → state.told < state.clock
      → Each (IsFit script) (announced script.topology me state)
  unfolding announced
  announced_fit state sound more =
      let body : Body = MPromises state.told state.clock (untold state) in
      let names : List ActorName = executors_of script.topology me.partition.0 in
      each_image (IsFit script) (λ to. message (Process me) to body) names
      (each_weaker (IsExecutorOf script) (λ to. IsFit script (message (Process me) to body))
      (λ to is_executor. record {
        known = is_executor.1;
        range = (
          own_site,
          is_executor.0,
          more,
          (omega arith, omega (arith, sound.clock)),
          pairs_few state sound,
          untold_attached state.told state.clock state.attached sound.promises (ids_in_range state sound),
        );
        ours = tt;
      })
      names (each_executor script accepted.shape me.partition.0 own_partition))
