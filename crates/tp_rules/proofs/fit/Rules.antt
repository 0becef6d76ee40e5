-- A process of an accepted script that took messages that are fit sends messages that are fit: each rule of it.
use Rattle.std.proofs.Common.{◌≡◌, ℕ, ◌-◌, ◌<◌, Bool, true, false, List, [], ◌∷◌, length, Option, Some, None, refl, subst, arith}
use Rattle.std.proofs.lemmas.Bool.{and_parts, cond_both, eqb-true, ltb-true}
use Rattle.std.specs.Prelude.{is_none, is_some, nat_lt, slice_get, ◌==◌, ◌&&◌}
use Rattle.tp_base.proofs.Each.{each_append, each_in}
use Rattle.tp_base.proofs.Members.{map_in}
use Rattle.tp_base.specs.Limits.{IsFrom, STAMP_LIMIT, is_from}
use Rattle.tp_base.specs.Lists.{Each, IsIn}
use Rattle.tp_base.specs.Names.{same_name}
use Rattle.tp_base.specs.declared.names.ActorName.{ActorName}
use Rattle.tp_base.specs.declared.names.ActorName.TheVariants.{Process}
use Rattle.tp_base.specs.declared.names.CommandId.{CommandId}
use Rattle.tp_base.specs.declared.names.Made.{Made}
use Rattle.tp_base.specs.declared.names.Made.TheVariants.{Proposal, Recovery}
use Rattle.tp_base.specs.declared.names.Rank.{Rank}
use Rattle.tp_base.specs.declared.names.Site.{Site}
use Rattle.tp_choice.specs.Choosing.{recovery_choice}
use Rattle.tp_choice.specs.declared.answer.RecoveryAnswer.{RecoveryAnswer}
use Rattle.tp_ops.specs.Limits.{IsCommand}
use Rattle.tp_ops.specs.Parts.{is_accessed}
use Rattle.tp_ops.specs.declared.command.Command.{Command}
use Rattle.tp_quorum.specs.Choice.{fast_choice, present}
use Rattle.tp_quorum.specs.declared.choice.FastChoice.{FastChoice}
use Rattle.tp_quorum.specs.declared.choice.FastChoice.TheVariants.{Fast, Slow}
use Rattle.tp_rules.proofs.fit.Messages.{IsBodyOf, IsCommandHere, IsFit, IsFitAct, IsProcessOf, known_process}
use Rattle.tp_rules.proofs.fit.Choices.{HasFastSize, next_ballot_number, recovery_number}
use Rattle.tp_rules.proofs.fit.Processes.{IsProcessSound, IsSheetSound, acknowledged_sound, bumped_sound, command_or_here, decided_number, ids_of, kept_sound, proposing_sound, putting_sound, stamp_told_number, start_sound, touched_before, trying_sound, with_accepted_sound, with_answer_sound, with_ballot_sound, with_proposal_sound, with_sheet_sound, with_stamp_sound, with_vote_sound}
use Rattle.tp_rules.proofs.fit.Sends.{announced_fit, asked_fit, bumps_fit, commit_messages_fit, is_command, own_ballot, own_partition, own_site, proposals_fit, quorum_rule_of, commit_reply_fit, votes_fit}
use Rattle.tp_rules.proofs.fit.Stamps.{IsChoiceInRange, choice_number, final_number, kept_fit, present_fit}
use Rattle.tp_rules.proofs.lists.Selections.{IfAny, each_get}
use Rattle.tp_rules.specs.Acts.{Act, Took, Did}
use Rattle.tp_rules.specs.Addresses.{is_body_at, is_name_of, rank_of}
use Rattle.tp_rules.specs.Process.{Step, ProcessState, accept_and_vote, answer_with_old_proposal, announced, answer, bumps, follow_choice, commit_messages, decided, finished, conclude_fast_path, has_next, answer_recovery, learned, next_stamp, on_announce, on_body, on_commit, on_consensus, on_consensus_ack, on_payload, on_propose, on_propose_ack, on_rec, on_rec_ack, on_rec_by_stamp, on_recover, on_submit, proposals, propose_and_acknowledge, propose_and_answer, put_recovered, react, recovered, recovering, state_after, submitted, voted, with_room, with_sheet}
use Rattle.tp_rules.specs.Sheet.{QuorumRule, Sheet, acknowledged, acknowledged_own, can_accept, can_acknowledge, can_answer, can_vote, command_or, final_stamp, stamp_decided, is_fresh, is_full, is_recovered, is_untouched, with_command, putting, stamp_of, trying, with_accepted, with_answer, with_ballot, with_proposal, with_stamp, with_vote}
use Rattle.tp_rules.specs.declared.event.Inner.TheVariants.{Announce, Recover}
use Rattle.tp_script.specs.Accepted.{IsAccepted, IsCommandOf, IsHome}
use Rattle.tp_script.specs.declared.script.Script.{Script}
use Rattle.tp_topology.specs.Ballots.{next_ballot}
use Rattle.tp_topology.specs.Shape.{fast_size, recovery_size, is_site_of}
use Rattle.tp_wire.specs.Ranges.{IsBody, IsNumber}
use Rattle.tp_wire.specs.declared.message.Body.{Body}
use Rattle.tp_wire.specs.declared.message.Body.TheVariants.{MSubmit, MPropose, MPayload, MProposeAck, MBump, MConsensus, MConsensusAck, MCommit, MRec, MRecAck}

module _ (script : Script) (accepted : IsAccepted script) (in_quorum : Command → ℕ → Bool)
    (sized : HasFastSize (quorum_rule_of script in_quorum)) (me : Site) (here : is_site_of script.topology me ≡ true) where
  abbrev pub quorum_rule : QuorumRule
  quorum_rule = quorum_rule_of script in_quorum

  abbrev pub IsSound : ProcessState → Type 0
  IsSound state = IsProcessSound script me.partition.0 state

  abbrev IsSheet : Sheet → Type 0
  IsSheet sheet = IsSheetSound script me.partition.0 sheet

  abbrev IsHere : Command → Type 0
  IsHere c = IsCommandHere script me.partition.0 c

  -- what is kept stays in order, and what is sent is fit
  abbrev pub IsSettled : Step → Type 0
  IsSettled moved = IsSound moved.0 × Each (IsFit script) moved.1

  -- where there is room
  abbrev Goes : Step → Type 0
  Goes moved = moved.0.clock < STAMP_LIMIT → IsSettled moved

  room_fit : (state : ProcessState) (moved : Step) → IsSound state → Goes moved → IsSettled (with_room state moved)
  room_fit state moved sound goes =
      cond_both (nat_lt moved.0.clock STAMP_LIMIT) moved (state, []) IsSettled (λ t. goes (ltb-true moved.0.clock STAMP_LIMIT t)) (λ f. (sound, tt))

  -- a stamp is learned and decided

  finished_fit : (id : CommandId) (sheet : Sheet) (o : Option Command) (final : Option ℕ) (state : ProcessState) → IsSound state → IsSheet sheet
      → sheet.proposal ≡ (state.sheets id).proposal → IfAny IsHere o → IfAny IsNumber final → Goes (finished me id sheet o final state)
  finished_fit id sheet None final state sound new same ours number room =
      (with_sheet_sound script me.partition.0 id sheet state sound new same, tt)
  finished_fit id sheet (Some c) None state sound new same ours number room =
      (with_sheet_sound script me.partition.0 id sheet state sound new same, tt)
  finished_fit id sheet (Some c) (Some t) state sound new same ours number room =
      let site = own_site script accepted in_quorum me here in (
        bumped_sound script me.partition.0 t (with_sheet id sheet state)
            (with_sheet_sound script me.partition.0 id sheet state sound new same) room,
        (record { known = here; range = (site, site, is_command script accepted in_quorum me here c ours, number); ours = ours.ours }, tt),
      )

  final_fit : (sheet : Sheet) (o : Option Command) → IsSheet sheet → IfAny IsHere o → IfAny IsNumber (final_stamp script.topology sheet o)
  final_fit sheet None sound ours = tt
  final_fit sheet (Some c) sound ours = final_number script.topology sheet c me.partition.0
      (own_partition script accepted in_quorum me here) ours.accesses sound.known

  learned_fit : (id : CommandId) (q t : ℕ) (sheet : Sheet) (state : ProcessState) → IsSound state → IsSheet sheet
      → sheet.proposal ≡ (state.sheets id).proposal → IsNumber t → Goes (learned script.topology me id q t sheet state)
  learned_fit id q t sheet state sound new same number =
      let known : Sheet = with_stamp q t sheet in
      let known_sound : IsSheet known = with_stamp_sound script me.partition.0 q t sheet number new in
      cond_both (is_some (stamp_of sheet q)) (with_sheet id sheet state, [])
      (finished me id known known.command (final_stamp script.topology known known.command) state) Goes
      (λ there room. (with_sheet_sound script me.partition.0 id sheet state sound new same, tt))
      (λ not_there. finished_fit id known known.command (final_stamp script.topology known known.command) state sound known_sound same
      known_sound.command (final_fit known known.command known_sound known_sound.command))

  decided_fit : (id : CommandId) (t : ℕ) (sheet : Sheet) (state : ProcessState) → IsSound state → IsSheet sheet
      → sheet.proposal ≡ (state.sheets id).proposal → IsNumber t → Goes (decided script.topology me id t sheet state)
  decided_fit id t sheet state sound new same number room =
      let moved : Step = learned script.topology me id me.partition.0 t sheet state in
      let settled : IsSettled moved = learned_fit id me.partition.0 t sheet state sound new same number room in (
        settled.0,
        each_append (IsFit script) (commit_messages script.topology me sheet.command t) moved.1
            (commit_messages_fit script accepted in_quorum me here sheet.command t new.command number) settled.1,
      )

  follow_choice_fit : (id : CommandId) (choice : FastChoice) (sheet : Sheet) (state : ProcessState) → IsSound state → IsSheet sheet
      → sheet.proposal ≡ (state.sheets id).proposal → IsChoiceInRange choice → Goes (follow_choice quorum_rule me id choice sheet state)
  follow_choice_fit id (Fast t) sheet state sound new same number room = decided_fit id t.0 sheet state sound new same number room
  follow_choice_fit id (Slow t) sheet state sound new same number room = (
    with_sheet_sound script me.partition.0 id (putting script.topology me.rank.0 t.0 sheet) state sound
        (putting_sound script me.partition.0 me.rank.0 t.0 sheet number new) same,
    votes_fit script accepted in_quorum me here me.rank.0 t.0 sheet.command new.command (own_ballot script accepted in_quorum me here) number,
  )

  conclude_fast_path_fit : (id : CommandId) (sheet : Sheet) (state : ProcessState) → IsSound state → IsSheet sheet
      → sheet.proposal ≡ (state.sheets id).proposal → Goes (conclude_fast_path quorum_rule me id sheet state)
  conclude_fast_path_fit id sheet state sound new same =
      let choice : FastChoice = fast_choice script.topology (present sheet.acknowledged) in
      cond_both (is_full script.topology sheet) (follow_choice quorum_rule me id choice sheet state) (with_sheet id sheet state, []) Goes
      (λ full.
      let as_many : length (present sheet.acknowledged) ≡ fast_size script.topology = eqb-true _ _ full in
      follow_choice_fit id choice sheet state sound new same
      (choice_number script.topology (present sheet.acknowledged) (present_fit IsNumber sheet.acknowledged new.acknowledged)
      (omega (arith, accepted.shape.some_failure))))
      (λ not_full room. (with_sheet_sound script me.partition.0 id sheet state sound new same, tt))

  -- the rows

  propose_ack_fit : (from : ActorName) (id : CommandId) (t : ℕ) (state : ProcessState) → IsSound state → IsNumber t
      → Goes (on_propose_ack quorum_rule me from id t state)
  propose_ack_fit from id t state sound number =
      let sheet : Sheet = acknowledged (rank_of from) t (state.sheets id) in
      cond_both (can_acknowledge quorum_rule me.partition.0 me.rank.0 (rank_of from) (state.sheets id))
      (conclude_fast_path quorum_rule me id sheet state) (state, []) Goes
      (λ can. conclude_fast_path_fit id sheet state sound
      (acknowledged_sound script me.partition.0 (rank_of from) t (state.sheets id) number (sound.sheets id)) refl)
      (λ cannot room. (sound, tt))

  commit_fit : (c : Command) (q t : ℕ) (state : ProcessState) → IsSound state → IsHere c → IsNumber t
      → Goes (on_commit quorum_rule me c q t state)
  commit_fit c q t state sound ours number =
      let sheet : Sheet = with_command c (state.sheets c.id) in
      cond_both (is_accessed script.topology.partitions c q) (learned script.topology me c.id q t sheet state) (state, []) Goes
      (λ accesses. learned_fit c.id q t sheet state sound (kept_sound script me.partition.0 c (state.sheets c.id) ours (sound.sheets c.id)) refl number)
      (λ elsewhere room. (sound, tt))

  consensus_fit : (from : ActorName) (c : Command) (t b : ℕ) (state : ProcessState) → IsSound state → IsProcessOf script from → IsHere c
      → IsNumber t → IsNumber b → Goes (on_consensus me from c t b state)
  consensus_fit from c t b state sound is_process ours number ballot =
      let old : Sheet = state.sheets c.id in
      let sheet : Sheet = with_accepted b t (with_command c old) in
      let new : IsSheet sheet = with_accepted_sound script me.partition.0 b t (with_command c old) ballot number
      (kept_sound script me.partition.0 c old ours (sound.sheets c.id)) in
      let range : IsCommand c = is_command script accepted in_quorum me here c ours in
      cond_both (can_accept me.partition.0 b old && nat_lt b STAMP_LIMIT) (accept_and_vote me from c t b old state) (state, []) Goes
      (λ can room. (
        bumped_sound script me.partition.0 t (with_sheet c.id sheet state)
            (with_sheet_sound script me.partition.0 c.id sheet state sound new refl) room,
        (record { known = is_process.1; range = (own_site script accepted in_quorum me here, is_process.0, range.0, ballot); ours = tt }, tt),
      ))
      (λ cannot room. (sound, tt))

  voted_fit : (id : CommandId) (o : Option ℕ) (sheet : Sheet) (state : ProcessState) → IsSound state → IsSheet sheet
      → sheet.proposal ≡ (state.sheets id).proposal → IfAny IsNumber o → Goes (voted quorum_rule me id o sheet state)
  voted_fit id None sheet state sound new same number room = (with_sheet_sound script me.partition.0 id sheet state sound new same, tt)
  voted_fit id (Some t) sheet state sound new same number room = decided_fit id t sheet state sound new same number room

  consensus_ack_fit : (from : ActorName) (id : CommandId) (b : ℕ) (state : ProcessState) → IsSound state
      → Goes (on_consensus_ack quorum_rule me from id b state)
  consensus_ack_fit from id b state sound =
      let sheet : Sheet = with_vote (rank_of from) (state.sheets id) in
      cond_both (can_vote me.partition.0 b (state.sheets id)) (voted quorum_rule me id (stamp_decided script.topology sheet) sheet state) (state, []) Goes
      (λ can.
      let new : IsSheet sheet = with_vote_sound script me.partition.0 (rank_of from) (state.sheets id) (sound.sheets id) in
      voted_fit id (stamp_decided script.topology sheet) sheet state sound new refl (decided_number script me.partition.0 sheet new))
      (λ cannot room. (sound, tt))

  payload_fit : (c : Command) (state : ProcessState) → IsSound state → IsHere c → Goes (on_payload c state)
  payload_fit c state sound ours room = (
    with_sheet_sound script me.partition.0 c.id (with_command c (state.sheets c.id)) state sound
        (kept_sound script me.partition.0 c (state.sheets c.id) ours (sound.sheets c.id)) refl,
    tt,
  )

  -- the stamp of a proposal is in range where there is room
  stamp_number : (floor : ℕ) (state : ProcessState) → next_stamp floor state < STAMP_LIMIT → IsNumber (next_stamp floor state)
  stamp_number floor state room = (omega arith, omega arith)

  id_ours : (c : Command) → IsHere c → IsIn c.id (ids_of script)
  id_ours c ours = map_in (λ (d : Command). d.id) script.commands c ours.ours

  -- the sheet of a proposal
  proposal_sound : (c : Command) (t : ℕ) (made : Made) (sheet : Sheet) → IsHere c → IsNumber t → IsSheet sheet
      → IsSheet (with_proposal t made (with_command c sheet))
  proposal_sound c t made sheet ours number sound =
      with_proposal_sound script me.partition.0 t made (with_command c sheet) number (kept_sound script me.partition.0 c sheet ours sound)

  no_proposal : (c : Command) (state : ProcessState) → is_fresh me.partition.0 (state.sheets c.id) ≡ true
      → is_none (state.sheets c.id).proposal ≡ true
  no_proposal c state fresh =
      let sheet : Sheet = state.sheets c.id in
      (and_parts (is_none sheet.proposal) (sheet.ballot == 0)
      (and_parts (is_none sheet.proposal && (sheet.ballot == 0)) (is_none (stamp_of sheet me.partition.0)) fresh).0).0

  submitted_fit : (c : Command) (state : ProcessState) → IsSound state → IsHere c → is_none (state.sheets c.id).proposal ≡ true
      → Goes (submitted quorum_rule me c (next_stamp 0 state) (state.sheets c.id) state)
  submitted_fit c state sound ours fresh room =
      let t : ℕ = next_stamp 0 state in
      let number : IsNumber t = stamp_number 0 state room in
      let sheet : Sheet = state.sheets c.id in
      let proposal : Sheet = with_proposal t Proposal (with_command c sheet) in
      let own : Sheet = acknowledged_own quorum_rule me.partition.0 me.rank.0 t proposal in
      let can : Bool = can_acknowledge quorum_rule me.partition.0 me.rank.0 me.rank.0 proposal in
      let new : IsSheet proposal = proposal_sound c t Proposal sheet ours number (sound.sheets c.id) in
      let own_sound : IsSheet own = cond_both can (acknowledged me.rank.0 t proposal) proposal IsSheet
      (λ b. acknowledged_sound script me.partition.0 me.rank.0 t proposal number new) (λ b. new) in
      let own_proposed : is_none own.proposal ≡ false = cond_both can (acknowledged me.rank.0 t proposal) proposal
      (λ (s : Sheet). is_none s.proposal ≡ false) (λ b. refl) (λ b. refl) in (
        proposing_sound script me.partition.0 c.id t own state sound room (omega arith) (id_ours c ours) fresh own_sound own_proposed,
        each_append (IsFit script) (proposals quorum_rule me c t) (bumps script.topology me (command_or c sheet) t)
            (proposals_fit script accepted in_quorum me here c t ours number)
            (bumps_fit script accepted in_quorum me here (command_or c sheet) t
            (command_or_here script me.partition.0 c sheet ours (sound.sheets c.id)) number),
      )

  submit_fit : (c : Command) (state : ProcessState) → IsSound state → IsHere c → Goes (on_submit quorum_rule me c state)
  submit_fit c state sound ours =
      let fresh : Bool = is_fresh me.partition.0 (state.sheets c.id) in
      cond_both ((c.home.0 == me.rank.0) && fresh)
      (submitted quorum_rule me c (next_stamp 0 state) (state.sheets c.id) state) (state, []) Goes
      (λ t. submitted_fit c state sound ours (no_proposal c state (and_parts (c.home.0 == me.rank.0) fresh t).1))
      (λ f room. (sound, tt))

  propose_and_acknowledge_fit : (from : ActorName) (c : Command) (floor : ℕ) (state : ProcessState) → IsSound state → IsProcessOf script from → IsHere c
      → is_none (state.sheets c.id).proposal ≡ true
      → Goes (propose_and_acknowledge quorum_rule me from c (next_stamp floor state) (state.sheets c.id) state)
  propose_and_acknowledge_fit from c floor state sound is_process ours fresh room =
      let t : ℕ = next_stamp floor state in
      let number : IsNumber t = stamp_number floor state room in
      let sheet : Sheet = state.sheets c.id in
      let range : IsCommand c = is_command script accepted in_quorum me here c ours in (
        proposing_sound script me.partition.0 c.id t (with_proposal t Proposal (with_command c sheet)) state sound room (omega arith) (id_ours c ours) fresh
            (proposal_sound c t Proposal sheet ours number (sound.sheets c.id)) refl,
        (
          record { known = is_process.1; range = (own_site script accepted in_quorum me here, is_process.0, range.0, number); ours = tt },
          bumps_fit script accepted in_quorum me here (command_or c sheet) t
              (command_or_here script me.partition.0 c sheet ours (sound.sheets c.id)) number,
        ),
      )

  propose_fit : (from : ActorName) (c : Command) (floor : ℕ) (state : ProcessState) → IsSound state → IsProcessOf script from → IsHere c
      → Goes (on_propose quorum_rule me from c floor state)
  propose_fit from c floor state sound is_process ours =
      cond_both (is_fresh me.partition.0 (state.sheets c.id))
      (propose_and_acknowledge quorum_rule me from c (next_stamp floor state) (state.sheets c.id) state) (state, []) Goes
      (λ t. propose_and_acknowledge_fit from c floor state sound is_process ours (no_proposal c state t))
      (λ f room. (sound, tt))

  -- recovery

  -- a command's home is a rank of the shape
  is_home : (c : Command) → IsHere c → IsFrom 1 script.topology.replicas c.home.0
  is_home c ours =
      let of : IsCommandOf script.homes c = each_in (IsCommandOf script.homes) script.commands c accepted.commands ours.ours in
      go (slice_get script.homes (c.id.session.0 - 1)) refl of.2
    where
      go : (o : Option Rank) → slice_get script.homes (c.id.session.0 - 1) ≡ o → IsHome o c.home.0 → IsFrom 1 script.topology.replicas c.home.0
      go None e is = absurd is
      go (Some rank) e is = subst (λ (k : ℕ). IsFrom 1 script.topology.replicas k) is
          (each_get (λ (home : Rank). IsFrom 1 script.topology.replicas home.0) script.homes (c.id.session.0 - 1) rank accepted.homes e)

  -- an answer is in range, where something is proposed or accepted
  answer_fit : (from : ActorName) (c : Command) (b : ℕ) (sheet : Sheet) → IsProcessOf script from → IsHere c → IsNumber b → IsSheet sheet
      → (sheet.accepted_ballot ≡ 0 → is_none sheet.proposal ≡ false) → IsFit script (answer me from c.id b sheet)
  answer_fit from c b sheet is_process ours ballot sound touched =
      let range : IsCommand c = is_command script accepted in_quorum me here c ours in
      record {
        known = is_process.1;
        range = (
          own_site script accepted in_quorum me here,
          is_process.0,
          range.0,
          stamp_told_number script me.partition.0 sheet touched sound,
          (omega arith, omega (arith, sound.acceptor.low)),
          ballot,
        );
        ours = tt;
      }

  propose_and_answer_fit : (from : ActorName) (c : Command) (b : ℕ) (state : ProcessState) → IsSound state → IsProcessOf script from → IsHere c
      → IsNumber b → is_untouched (state.sheets c.id) ≡ true
      → Goes (propose_and_answer quorum_rule me from c b (next_stamp 0 state) (state.sheets c.id) state)
  propose_and_answer_fit from c b state sound is_process ours ballot untouched room =
      let t : ℕ = next_stamp 0 state in
      let number : IsNumber t = stamp_number 0 state room in
      let old : Sheet = state.sheets c.id in
      let fresh : is_none old.proposal ≡ true = (and_parts (is_none old.proposal) (old.ballot == 0) untouched).0 in
      let sheet : Sheet = with_ballot b (with_proposal t Recovery (with_command c old)) in
      let new : IsSheet sheet = with_ballot_sound script me.partition.0 b (with_proposal t Recovery (with_command c old)) (λ none. refl)
      (proposal_sound c t Recovery old ours number (sound.sheets c.id)) in (
        proposing_sound script me.partition.0 c.id t sheet state sound room (omega arith) (id_ours c ours) fresh new refl,
        (
          answer_fit from c b sheet is_process ours ballot new (λ none. refl),
          bumps_fit script accepted in_quorum me here (command_or c old) t
              (command_or_here script me.partition.0 c old ours (sound.sheets c.id)) number,
        ),
      )

  answer_with_old_proposal_fit : (from : ActorName) (c : Command) (b : ℕ) (state : ProcessState) → IsSound state → IsProcessOf script from → IsHere c
      → IsNumber b → is_untouched (state.sheets c.id) ≡ false → Goes (answer_with_old_proposal me from c b (state.sheets c.id) state)
  answer_with_old_proposal_fit from c b state sound is_process ours ballot touched room =
      let old : Sheet = state.sheets c.id in
      let some : old.accepted_ballot ≡ 0 → is_none old.proposal ≡ false = touched_before script me.partition.0 old (sound.sheets c.id) touched in
      let sheet : Sheet = with_ballot b (with_command c old) in
      let new : IsSheet sheet = with_ballot_sound script me.partition.0 b (with_command c old) some
      (kept_sound script me.partition.0 c old ours (sound.sheets c.id)) in (
        with_sheet_sound script me.partition.0 c.id sheet state sound new refl,
        (answer_fit from c b sheet is_process ours ballot new some, tt),
      )

  answer_recovery_fit : (from : ActorName) (c : Command) (b : ℕ) (state : ProcessState) → IsSound state → IsProcessOf script from → IsHere c
      → IsNumber b → Goes (answer_recovery quorum_rule me from c b (state.sheets c.id) state)
  answer_recovery_fit from c b state sound is_process ours ballot =
      let sheet : Sheet = state.sheets c.id in
      cond_both (is_untouched sheet) (propose_and_answer quorum_rule me from c b (next_stamp 0 state) sheet state) (answer_with_old_proposal me from c b sheet state) Goes
      (propose_and_answer_fit from c b state sound is_process ours ballot)
      (answer_with_old_proposal_fit from c b state sound is_process ours ballot)

  rec_fit_by : (from : ActorName) (c : Command) (b : ℕ) (o : Option ℕ) (state : ProcessState) → IsSound state → IsProcessOf script from → IsHere c
      → IsNumber b → IfAny IsNumber o → Goes (on_rec_by_stamp quorum_rule me from c b o state)
  rec_fit_by from c b (Some t) state sound is_process ours ballot number room =
      (sound, commit_reply_fit script accepted in_quorum me here from (state.sheets c.id).command t is_process (sound.sheets c.id).command number)
  rec_fit_by from c b None state sound is_process ours ballot number room =
      let sheet : Sheet = state.sheets c.id in
      cond_both (nat_lt sheet.ballot b && nat_lt b STAMP_LIMIT) (answer_recovery quorum_rule me from c b sheet state) (state, []) Goes
      (λ higher. answer_recovery_fit from c b state sound is_process ours ballot)
      (λ lower room. (sound, tt)) room

  rec_fit : (from : ActorName) (c : Command) (b : ℕ) (state : ProcessState) → IsSound state → IsProcessOf script from → IsHere c
      → IsNumber b → Goes (on_rec quorum_rule me from c b state)
  rec_fit from c b state sound is_process ours ballot =
      rec_fit_by from c b (stamp_of (state.sheets c.id) me.partition.0) state sound is_process ours ballot
      (kept_fit IsNumber (state.sheets c.id).known me.partition.0 (sound.sheets c.id).known)

  put_recovered_fit : (id : CommandId) (b : ℕ) (o : Option Command) (sheet : Sheet) (state : ProcessState) → IsSound state → IsSheet sheet
      → sheet.proposal ≡ (state.sheets id).proposal → IsNumber b → IfAny IsHere o → is_recovered script.topology sheet ≡ true
      → Goes (put_recovered quorum_rule me id b o sheet state)
  put_recovered_fit id b None sheet state sound new same ballot ours full room =
      (with_sheet_sound script me.partition.0 id sheet state sound new same, tt)
  put_recovered_fit id b (Some c) sheet state sound new same ballot ours full room =
      let t : ℕ = recovery_choice (in_quorum c) c.home.0 (present sheet.answers) in
      let home = is_home c ours in
      let number : IsNumber t = recovery_number quorum_rule sized c sheet.answers accepted.shape home.0 home.1 new.answers
      (eqb-true (length (present sheet.answers)) (recovery_size script.topology) full) in (
        with_sheet_sound script me.partition.0 id (putting script.topology b t sheet) state sound
            (putting_sound script me.partition.0 b t sheet number new) same,
        votes_fit script accepted in_quorum me here b t (Some c) ours ballot number,
      )

  recovered_fit : (id : CommandId) (b : ℕ) (sheet : Sheet) (state : ProcessState) → IsSound state → IsSheet sheet
      → sheet.proposal ≡ (state.sheets id).proposal → IsNumber b → Goes (recovered quorum_rule me id b sheet state)
  recovered_fit id b sheet state sound new same ballot =
      cond_both (is_recovered script.topology sheet) (put_recovered quorum_rule me id b sheet.command sheet state) (with_sheet id sheet state, [])
      Goes
      (put_recovered_fit id b sheet.command sheet state sound new same ballot new.command)
      (λ few room. (with_sheet_sound script me.partition.0 id sheet state sound new same, tt))

  rec_ack_fit : (from : ActorName) (id : CommandId) (t : ℕ) (made : Made) (a b : ℕ) (state : ProcessState) → IsSound state → IsNumber t → IsNumber b
      → Goes (on_rec_ack quorum_rule me from id t made a b state)
  rec_ack_fit from id t made a b state sound number ballot =
      let old : Sheet = state.sheets id in
      let new : RecoveryAnswer = record { rank = record { 0 = rank_of from }; stamp = record { 0 = t }; made = made; accepted = a } in
      cond_both (can_answer me.partition.0 b (rank_of from) old) (recovered quorum_rule me id b (with_answer new old) state) (state, []) Goes
      (λ can. recovered_fit id b (with_answer new old) state sound
      (with_answer_sound script me.partition.0 new old number (sound.sheets id)) refl ballot)
      (λ cannot room. (sound, tt))

  recover_fit : (id : CommandId) (state : ProcessState) → IsSound state → IsSettled (on_recover script.topology me id state)
  recover_fit id state sound =
      let sheet : Sheet = state.sheets id in
      let b : ℕ = next_ballot script.topology me.rank.0 sheet.ballot sheet.tried in
      let open_still : Bool = is_some sheet.command && is_none (stamp_of sheet me.partition.0) in
      cond_both (open_still && has_next sheet) (recovering script.topology me id b sheet state) (state, []) IsSettled
      (λ t.
      let low = and_parts (nat_lt sheet.ballot (STAMP_LIMIT - 8)) (nat_lt sheet.tried (STAMP_LIMIT - 8)) (and_parts open_still (has_next sheet) t).1 in
      let number : IsNumber b = next_ballot_number script.topology me.rank.0 sheet.ballot sheet.tried accepted.shape
      (ltb-true sheet.ballot (STAMP_LIMIT - 8) low.0) (ltb-true sheet.tried (STAMP_LIMIT - 8) low.1) in (
        with_sheet_sound script me.partition.0 id (trying script.topology b sheet) state sound
            (trying_sound script me.partition.0 b sheet (sound.sheets id)) refl,
        asked_fit script accepted in_quorum me here b sheet.command (sound.sheets id).command number,
      ))
      (λ f. (sound, tt))

  announce_fit : (state : ProcessState) → IsSound state → IsSettled (on_announce script.topology me state)
  announce_fit state sound =
      cond_both (nat_lt state.told state.clock)
      (record { clock = state.clock; told = state.clock; attached = state.attached; sheets = state.sheets }, announced script.topology me state)
      (state, []) IsSettled
      (λ t. (
        record {
          clock = sound.clock;
          promises = sound.promises;
          ours = sound.ours;
          once = sound.once;
          proposed = sound.proposed;
          sheets = sound.sheets;
        },
        announced_fit script accepted in_quorum me here state sound (ltb-true state.told state.clock t),
      ))
      (λ f. (sound, tt))

  -- a message brings a command that accesses the partition
  brought : (c : Command) → IsIn c script.commands
      → (is_from 1 script.topology.replicas c.home.0 && is_accessed script.topology.partitions c me.partition.0) ≡ true → IsHere c
  brought c ours at =
      let both = and_parts (is_from 1 script.topology.replicas c.home.0) (is_accessed script.topology.partitions c me.partition.0) at in
      record { ours = ours; accesses = both.1 }

  commit_brought : (c : Command) (q : ℕ) → IsIn c script.commands
      → (is_from 1 script.topology.replicas c.home.0 && is_accessed script.topology.partitions c me.partition.0
      && is_from 1 script.topology.partitions q) ≡ true → IsHere c
  commit_brought c q ours at = brought c ours (and_parts _ (is_from 1 script.topology.partitions q) at).0

  body_fit : (from to : ActorName) (body : Body) (state : ProcessState) → IsSound state → IsBody from to body → IsBodyOf script body
      → is_name_of script.topology from ≡ true → is_body_at script.topology me.partition.0 body ≡ true → Goes (on_body quorum_rule me from body state)
  body_fit from to (MSubmit c) state sound range ours named at room = submit_fit c state sound (brought c ours at) room
  body_fit from to (MPropose c floor) state sound range ours named at room = propose_fit from c floor.0 state sound (range.0, known_process script from range.0 named) (brought c ours at) room
  body_fit from to (MPayload c) state sound range ours named at room = payload_fit c state sound (brought c ours at) room
  body_fit from to (MProposeAck id t) state sound range ours named at room = propose_ack_fit from id t.0 state sound range.3 room
  body_fit from to (MBump id t) state sound range ours named at room = (bumped_sound script me.partition.0 t.0 state sound room, tt)
  body_fit from to (MConsensus c t b) state sound range ours named at room = consensus_fit from c t.0 b state sound (range.0, known_process script from range.0 named) (brought c ours at) range.3 range.4 room
  body_fit from to (MConsensusAck id b) state sound range ours named at room = consensus_ack_fit from id b state sound room
  body_fit from to (MCommit c q t) state sound range ours named at room = commit_fit c q.0 t.0 state sound (commit_brought c q.0 ours at) range.4 room
  body_fit from to (MRec c b) state sound range ours named at room = rec_fit from c b state sound (range.0, known_process script from range.0 named) (brought c ours at) range.3 room
  body_fit from to (MRecAck id t made a b) state sound range ours named at room = rec_ack_fit from id t.0 made a b state sound range.3 range.5 room
  body_fit from to _ state sound range ours named at room = (sound, tt)

  -- what it keeps and sends
  pub process_fit : (act : Act) (state : ProcessState) → IsFitAct script act → IsSound state
      → IsSettled (react quorum_rule me act state)
  process_fit (Took m) state fit sound =
      let to_me : Bool = same_name m.to (Process me) in
      let named : Bool = is_name_of script.topology m.from in
      let at : Bool = is_body_at script.topology me.partition.0 m.body in
      let moved : Step = on_body quorum_rule me m.from m.body state in
      cond_both (to_me && named && at) (with_room state moved) (state, []) IsSettled
      (λ t.
      let both : ((to_me && named) ≡ true) × (at ≡ true) = and_parts (to_me && named) at t in
      room_fit state moved sound (body_fit m.from m.to m.body state sound fit.range fit.ours (and_parts to_me named both.0).1 both.1))
      (λ f. (sound, tt))
  process_fit (Did Announce) state fit sound = announce_fit state sound
  process_fit (Did (Recover id)) state fit sound = recover_fit id state sound
  process_fit (Did _) state fit sound = (sound, tt)

  pub process_sound : (acts : List Act) → Each (IsFitAct script) acts → IsSound (state_after quorum_rule me acts)
  process_sound [] fits = start_sound script me.partition.0
  process_sound (act ∷ before) fits =
      (process_fit act (state_after quorum_rule me before) fits.0 (process_sound before fits.1)).0
