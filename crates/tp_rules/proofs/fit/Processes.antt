-- What a process of an accepted script keeps, where it took messages that are fit: stamps in range, promises in order, each of them
-- for another command of the script. The steps that rules are made of keep it so.
use Rattle.std.proofs.Common.{◌≡◌, ℕ, ◌<◌, ◌≤◌, ◌-◌, Bool, true, false, cond, List, max, map, Option, Some, None, refl, sym, ap, subst, ◌∙◌, arith}
use Rattle.std.proofs.lemmas.Bool.{both_ways, cond-true, cond_both, ltb-false, ltb-true}
use Rattle.std.specs.Prelude.{is_none, nat_le, nat_lt, unwrap_or}
use Rattle.tp_base.proofs.Each.{each_in, each_of}
use Rattle.tp_base.proofs.Members.{in_map}
use Rattle.tp_base.proofs.SameNames.{same_id_is, same_id_refl}
use Rattle.tp_base.specs.Limits.{STAMP_LIMIT}
use Rattle.tp_base.specs.Lists.{Each, IsIn}
use Rattle.tp_base.specs.Names.{same_id}
use Rattle.tp_base.specs.declared.names.CommandId.{CommandId}
use Rattle.tp_base.specs.declared.names.Made.{Made}
use Rattle.tp_base.specs.declared.names.Pair.{Pair}
use Rattle.tp_choice.specs.declared.answer.RecoveryAnswer.{RecoveryAnswer}
use Rattle.tp_ops.specs.declared.command.Command.{Command}
use Rattle.tp_paxos.specs.Votes.{PutStamp, count_votes, decision, voted_by}
use Rattle.tp_rules.proofs.lists.Distinct.{Distinct}
use Rattle.tp_rules.proofs.fit.Messages.{IsCommandHere}
use Rattle.tp_rules.proofs.fit.Choices.{AreAnswers, answered, unanswered}
use Rattle.tp_rules.proofs.fit.Promises.{Descends, descends_higher}
use Rattle.tp_rules.proofs.fit.Stamps.{with_fit}
use Rattle.tp_rules.proofs.lists.Selections.{IfAny, each_replicate}
use Rattle.tp_rules.specs.Process.{ProcessState, bumped, proposing, start, with_sheet}
use Rattle.tp_rules.specs.Sheet.{Proposed, Sheet, acknowledged, blank, command_or, is_untouched, with_command, putting, stamp_decided, stamp_proposed, stamp_told, trying, with_accepted, with_answer, with_ballot, with_proposal, with_stamp, with_vote}
use Rattle.tp_script.specs.declared.script.Script.{Script}
use Rattle.tp_topology.specs.Shape.{slow_size}
use Rattle.tp_wire.specs.Ranges.{IsNumber}

-- what is proposed and accepted is in range, and where a ballot was agreed to, something is proposed or accepted
pub record IsAcceptorSound (proposal : Option Proposed) (ballot accepted_at stamp : ℕ) : Type 0 where
  pub proposed : IfAny (λ q. IsNumber q.stamp) proposal
  pub low : accepted_at < STAMP_LIMIT
  pub accepted : 1 ≤ accepted_at → IsNumber stamp
  pub touched : 1 ≤ ballot → accepted_at ≡ 0 → is_none proposal ≡ false

-- what is kept of one command: a command of the script that accesses the partition, and stamps in range
pub record IsSheetSound (script : Script) (p : ℕ) (sheet : Sheet) : Type 0 where
  pub command : IfAny (IsCommandHere script p) sheet.command
  pub known : Each (IfAny IsNumber) sheet.known
  pub acknowledged : Each (IfAny IsNumber) sheet.acknowledged
  pub put : IfAny (λ put. IsNumber put.stamp) sheet.put
  pub acceptor : IsAcceptorSound sheet.proposal sheet.ballot sheet.accepted_ballot sheet.accepted_stamp
  pub answers : AreAnswers script.topology.replicas sheet.answers

abbrev pub ids_of : Script → List CommandId
ids_of script = map (λ c. c.id) script.commands

-- each attached promise is for a command of the script, none twice, and its command has a proposal
pub record IsProcessSound (script : Script) (p : ℕ) (state : ProcessState) : Type 0 where
  pub clock : state.clock < STAMP_LIMIT
  pub promises : Descends state.clock state.attached
  pub ours : Each (λ pair. IsIn pair.id (ids_of script)) state.attached
  pub once : Distinct (map (λ pair. pair.id) state.attached)
  pub proposed : Each (λ pair. is_none (state.sheets pair.id).proposal ≡ false) state.attached
  pub sheets : (id : CommandId) → IsSheetSound script p (state.sheets id)

module _ (script : Script) (p : ℕ) where
  -- sheets

  pub blank_sound : IsSheetSound script p (blank script.topology)
  unfolding blank
  blank_sound = record {
    command = tt;
    known = each_replicate (IfAny IsNumber) script.topology.partitions None tt;
    acknowledged = each_replicate (IfAny IsNumber) script.topology.replicas None tt;
    put = tt;
    acceptor = record {
      proposed = tt;
      low = omega arith;
      accepted = λ some. absurd (omega (arith, some));
      touched = λ some. absurd (omega (arith, some));
    };
    answers = unanswered script.topology.replicas;
  }

  pub start_sound : IsProcessSound script p (start script.topology)
  start_sound = record {
    clock = omega arith;
    promises = tt;
    ours = tt;
    once = tt;
    proposed = tt;
    sheets = λ id. blank_sound;
  }

  pub command_or_here : (c : Command) (sheet : Sheet) → IsCommandHere script p c → IsSheetSound script p sheet
      → IsCommandHere script p (command_or c sheet)
  command_or_here c sheet here sound = of_kept sheet.command sound.command
    where
      of_kept : (o : Option Command) → IfAny (IsCommandHere script p) o → IsCommandHere script p (unwrap_or o c)
      of_kept None h = here
      of_kept (Some d) h = h

  pub kept_sound : (c : Command) (sheet : Sheet) → IsCommandHere script p c → IsSheetSound script p sheet → IsSheetSound script p (with_command c sheet)
  kept_sound c sheet here sound = record {
    command = command_or_here c sheet here sound;
    known = sound.known;
    acknowledged = sound.acknowledged;
    put = sound.put;
    acceptor = sound.acceptor;
    answers = sound.answers;
  }

  pub with_proposal_sound : (t : ℕ) (made : Made) (sheet : Sheet) → IsNumber t → IsSheetSound script p sheet → IsSheetSound script p (with_proposal t made sheet)
  with_proposal_sound t made sheet number sound = record {
    command = sound.command;
    known = sound.known;
    acknowledged = sound.acknowledged;
    put = sound.put;
    acceptor = record {
      proposed = number;
      low = sound.acceptor.low;
      accepted = sound.acceptor.accepted;
      touched = λ some none. refl;
    };
    answers = sound.answers;
  }

  pub acknowledged_sound : (rank t : ℕ) (sheet : Sheet) → IsNumber t → IsSheetSound script p sheet → IsSheetSound script p (acknowledged rank t sheet)
  acknowledged_sound rank t sheet number sound = record {
    command = sound.command;
    known = sound.known;
    acknowledged = with_fit (IfAny IsNumber) sheet.acknowledged rank (Some t) sound.acknowledged number;
    put = sound.put;
    acceptor = sound.acceptor;
    answers = sound.answers;
  }

  pub with_stamp_sound : (q t : ℕ) (sheet : Sheet) → IsNumber t → IsSheetSound script p sheet → IsSheetSound script p (with_stamp q t sheet)
  with_stamp_sound q t sheet number sound = record {
    command = sound.command;
    known = with_fit (IfAny IsNumber) sheet.known q (Some t) sound.known number;
    acknowledged = sound.acknowledged;
    put = sound.put;
    acceptor = sound.acceptor;
    answers = sound.answers;
  }

  pub putting_sound : (b t : ℕ) (sheet : Sheet) → IsNumber t → IsSheetSound script p sheet → IsSheetSound script p (putting script.topology b t sheet)
  putting_sound b t sheet number sound =
      record {
        command = sound.command;
        known = sound.known;
        acknowledged = sound.acknowledged;
        put = number;
        acceptor = sound.acceptor;
        answers = sound.answers;
      }

  pub with_accepted_sound : (b t : ℕ) (sheet : Sheet) → IsNumber b → IsNumber t → IsSheetSound script p sheet
      → IsSheetSound script p (with_accepted b t sheet)
  with_accepted_sound b t sheet ballot number sound = record {
    command = sound.command;
    known = sound.known;
    acknowledged = sound.acknowledged;
    put = sound.put;
    acceptor = record {
      proposed = sound.acceptor.proposed;
      low = omega (arith, ballot.1);
      accepted = λ some. number;
      touched = λ some none. absurd (omega (arith, some, none));
    };
    answers = sound.answers;
  }

  -- a ballot is agreed to where something is proposed or accepted
  pub with_ballot_sound : (b : ℕ) (sheet : Sheet) → (sheet.accepted_ballot ≡ 0 → is_none sheet.proposal ≡ false) → IsSheetSound script p sheet
      → IsSheetSound script p (with_ballot b sheet)
  with_ballot_sound b sheet touched sound = record {
    command = sound.command;
    known = sound.known;
    acknowledged = sound.acknowledged;
    put = sound.put;
    acceptor = record {
      proposed = sound.acceptor.proposed;
      low = sound.acceptor.low;
      accepted = sound.acceptor.accepted;
      touched = λ some none. touched none;
    };
    answers = sound.answers;
  }

  pub trying_sound : (b : ℕ) (sheet : Sheet) → IsSheetSound script p sheet → IsSheetSound script p (trying script.topology b sheet)
  trying_sound b sheet sound = record {
    command = sound.command;
    known = sound.known;
    acknowledged = sound.acknowledged;
    put = sound.put;
    acceptor = sound.acceptor;
    answers = unanswered script.topology.replicas;
  }

  pub with_answer_sound : (a : RecoveryAnswer) (sheet : Sheet) → IsNumber a.stamp.0 → IsSheetSound script p sheet
      → IsSheetSound script p (with_answer a sheet)
  with_answer_sound a sheet number sound = record {
    command = sound.command;
    known = sound.known;
    acknowledged = sound.acknowledged;
    put = sound.put;
    acceptor = sound.acceptor;
    answers = answered script.topology.replicas sheet.answers a number sound.answers;
  }

  -- the stamp told to a recovery is in range
  pub stamp_told_number : (sheet : Sheet) → (sheet.accepted_ballot ≡ 0 → is_none sheet.proposal ≡ false) → IsSheetSound script p sheet
      → IsNumber (stamp_told sheet)
  stamp_told_number sheet touched sound =
      cond_both (nat_lt 0 sheet.accepted_ballot) sheet.accepted_stamp (stamp_proposed sheet.proposal) IsNumber
      (λ t. let some = ltb-true 0 sheet.accepted_ballot t in sound.acceptor.accepted (omega (arith, some)))
      (λ f. let none = ltb-false 0 sheet.accepted_ballot f in of_proposal sheet.proposal sound.acceptor.proposed (touched (omega (arith, none))))
    where
      of_proposal : (o : Option Proposed) → IfAny (λ q. IsNumber q.stamp) o → is_none o ≡ false → IsNumber (stamp_proposed o)
      of_proposal None number some = absurd cc
      of_proposal (Some q) number some = number

  -- a sheet that is not untouched has a proposal, or has accepted
  pub touched_before : (sheet : Sheet) → IsSheetSound script p sheet → is_untouched sheet ≡ false → sheet.accepted_ballot ≡ 0
      → is_none sheet.proposal ≡ false
  touched_before sheet sound untouched none = of_proposal (is_none sheet.proposal) refl
    where
      of_proposal : (b : Bool) → is_none sheet.proposal ≡ b → b ≡ false
      of_proposal false e = refl
      of_proposal true e = absurd (let old = sound.acceptor.touched (at_a_ballot e) none in cc)
        where
          at_a_ballot : is_none sheet.proposal ≡ true → 1 ≤ sheet.ballot
          at_a_ballot e = grind (arith, e, untouched)

  voted_sound : (rank : ℕ) (o : Option PutStamp) → IfAny (λ put. IsNumber put.stamp) o → IfAny (λ put. IsNumber put.stamp) (voted_by rank o)
  voted_sound rank None number = tt
  voted_sound rank (Some put) number = number

  pub with_vote_sound : (rank : ℕ) (sheet : Sheet) → IsSheetSound script p sheet → IsSheetSound script p (with_vote rank sheet)
  with_vote_sound rank sheet sound = record {
    command = sound.command;
    known = sound.known;
    acknowledged = sound.acknowledged;
    put = voted_sound rank sheet.put sound.put;
    acceptor = sound.acceptor;
    answers = sound.answers;
  }

  -- and so is the stamp that is decided
  pub decided_number : (sheet : Sheet) → IsSheetSound script p sheet → IfAny IsNumber (stamp_decided script.topology sheet)
  decided_number sheet sound = of_put sheet.put sound.put
    where
      of_put : (o : Option PutStamp) → IfAny (λ put. IsNumber put.stamp) o → IfAny IsNumber (decision script.topology o)
      of_put None number = tt
      of_put (Some put) number =
          cond_both (nat_le (slow_size script.topology) (count_votes put.votes)) (Some put.stamp) None (IfAny IsNumber) (λ t. number) (λ f. tt)

  -- states

  -- what holds of a sheet that is put in, and of the one that stood there
  at_id : (P : Sheet → Type 0) (sheets : CommandId → Sheet) (id other : CommandId) (sheet : Sheet) → (id ≡ other → P sheet) → P (sheets other)
      → P (cond (same_id id other) sheet (sheets other))
  at_id P sheets id other sheet new old = cond_both (same_id id other) sheet (sheets other) P (λ t. new (same_id_is id other t)) (λ f. old)

  -- a sheet with the same proposal may be put in
  pub with_sheet_sound : (id : CommandId) (sheet : Sheet) (state : ProcessState) → IsProcessSound script p state
      → IsSheetSound script p sheet → sheet.proposal ≡ (state.sheets id).proposal → IsProcessSound script p (with_sheet id sheet state)
  with_sheet_sound id sheet state sound new same = record {
    clock = sound.clock;
    promises = sound.promises;
    ours = sound.ours;
    once = sound.once;
    proposed = each_of _ state.attached (λ pair k.
        let was : is_none (state.sheets pair.id).proposal ≡ false =
        each_in (λ (pair : Pair). is_none (state.sheets pair.id).proposal ≡ false) state.attached pair sound.proposed k in
        at_id (λ (s : Sheet). is_none s.proposal ≡ false) state.sheets id pair.id sheet
        (λ e. ap (λ (o : Option _). is_none o) (same ∙ ap (λ (i : CommandId). (state.sheets i).proposal) e) ∙ was) was);
    sheets = λ other. at_id (IsSheetSound script p) state.sheets id other sheet (λ e. new) (sound.sheets other);
  }

  pub bumped_sound : (t : ℕ) (state : ProcessState) → IsProcessSound script p state → max t state.clock < STAMP_LIMIT
      → IsProcessSound script p (bumped t state)
  bumped_sound t state sound room = record {
    clock = room;
    promises = descends_higher state.clock (max t state.clock) state.attached (omega arith) sound.promises;
    ours = sound.ours;
    once = sound.once;
    proposed = sound.proposed;
    sheets = sound.sheets;
  }

  -- a command without a proposal gets one at a stamp above the clock
  pub proposing_sound : (id : CommandId) (t : ℕ) (sheet : Sheet) (state : ProcessState) → IsProcessSound script p state
      → t < STAMP_LIMIT → state.clock < t → IsIn id (ids_of script) → is_none (state.sheets id).proposal ≡ true
      → IsSheetSound script p sheet → is_none sheet.proposal ≡ false → IsProcessSound script p (proposing id t sheet state)
  proposing_sound id t sheet state sound room above ours fresh new proposed =
      let was : (pair : Pair) → IsIn pair state.attached → is_none (state.sheets pair.id).proposal ≡ false =
      λ pair k. each_in (λ (pair : Pair). is_none (state.sheets pair.id).proposal ≡ false) state.attached pair sound.proposed k in
      record {
        clock = room;
        promises = ((omega arith, omega arith), descends_higher state.clock (t - 1) state.attached (omega arith) sound.promises);
        ours = (ours, sound.ours);
        once = (
          (λ there.
              let found = in_map (λ (pair : Pair). pair.id) state.attached id there in
              let same : id ≡ found.0.id = found.2 in
              let none : is_none (state.sheets found.0.id).proposal ≡ true =
              subst (λ (i : CommandId). is_none (state.sheets i).proposal ≡ true) same fresh in
              let some : is_none (state.sheets found.0.id).proposal ≡ false = was found.0 found.1 in
              both_ways _ some none),
          sound.once,
        );
        proposed = (
          subst (λ (s : Sheet). is_none s.proposal ≡ false) (sym (cond-true (same_id id id) sheet (state.sheets id) (same_id_refl id))) proposed,
          each_of _ state.attached (λ pair k.
              at_id (λ (s : Sheet). is_none s.proposal ≡ false) state.sheets id pair.id sheet (λ e. proposed) (was pair k)),
        );
        sheets = λ other. at_id (IsSheetSound script p) state.sheets id other sheet (λ e. new) (sound.sheets other);
      }
