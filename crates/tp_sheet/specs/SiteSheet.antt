-- A sheet with the site that keeps it, and what a call makes of it.
use Rattle.std.specs.Prelude.{ℕ, ◌≤◌, ◌==◌, ◌&&◌, nat_lt, Bool, cond, Option, Some, None, is_none, is_some, length}
use Rattle.std.specs.Option.{option_map}
use Rattle.tp_base.specs.Limits.{is_from}
use Rattle.tp_base.specs.declared.names.Rank.{Rank}
use Rattle.tp_base.specs.declared.names.Site.{Site}
use Rattle.tp_choice.specs.Choosing.{recovery_choice}
use Rattle.tp_choice.specs.declared.answer.RecoveryAnswer.{RecoveryAnswer}
use Rattle.tp_ops.specs.declared.command.Command.{Command}
use Rattle.tp_quorum.specs.Choice.{present, fast_choice}
use Rattle.tp_quorum.specs.declared.choice.FastChoice.{FastChoice}
use Rattle.tp_quorum.specs.declared.choice.FastChoice.TheVariants.{Fast, Slow}
use Rattle.tp_rules.specs.Process.{has_next}
use Rattle.tp_rules.specs.Sheet.{Sheet, blank, can_acknowledge, acknowledged, acknowledged_own, is_full, is_made_by_proposal, is_member, putting, can_accept, with_accepted, can_vote, with_vote, stamp_decided, made_of, stamp_told, with_ballot, trying, can_answer, with_answer, is_recovered, ring_rule, stamp_of, with_stamp, final_stamp}
use Rattle.tp_topology.specs.Ballots.{next_ballot}
use Rattle.tp_topology.specs.Shape.{Shape, fast_size, in_ring}

-- what the process of a site keeps of one command
pub record SiteSheet : Type 0 where
  pub shape : Shape
  pub site : Site
  pub sheet : Sheet

abbrev pub blank_at : Shape → Site → SiteSheet
blank_at shape site = record { shape = shape; site = site; sheet = blank shape }

-- at the same site, with another sheet
abbrev pub with_sheet : Sheet → SiteSheet → SiteSheet
with_sheet sheet kept = record { shape = kept.shape; site = kept.site; sheet = sheet }

-- the proposal's stamp
abbrev pub proposal_of : Sheet → Option ℕ
proposal_of sheet = option_map (λ p. p.stamp) sheet.proposal

-- whether the acknowledgement of a rank of the shape counts here
abbrev pub takes_acknowledgement : ℕ → SiteSheet → Bool
takes_acknowledgement rank kept =
    is_from 1 kept.shape.replicas rank
    && can_acknowledge (ring_rule kept.shape) kept.site.partition.0 kept.site.rank.0 rank kept.sheet

-- whether the first proposal of a rank counts
abbrev pub is_gathering : ℕ → SiteSheet → Bool
is_gathering rank kept =
    is_member (ring_rule kept.shape) kept.site.rank.0 rank kept.sheet.command && is_made_by_proposal kept.sheet.proposal
    && (kept.sheet.ballot == 0) && is_none kept.sheet.put && is_none (stamp_of kept.sheet kept.site.partition.0)
    && nat_lt (length (present kept.sheet.acknowledged)) (fast_size kept.shape)

-- the own proposal acknowledged, where it counts
abbrev pub with_own_ack : ℕ → SiteSheet → SiteSheet
with_own_ack t kept = with_sheet (acknowledged_own (ring_rule kept.shape) kept.site.partition.0 kept.site.rank.0 t kept.sheet) kept

-- the choice, where the whole fast quorum has acknowledged
abbrev pub choice_where_full : Shape → Sheet → Option FastChoice
choice_where_full shape sheet = cond (is_full shape sheet) (Some (fast_choice shape (present sheet.acknowledged))) None

-- with what a slow choice puts to the vote
abbrev pub put_by : Shape → ℕ → Option FastChoice → Sheet → Sheet
put_by shape own (Some (Slow t)) sheet = putting shape own t.0 sheet
put_by shape own (Some (Fast t)) sheet = sheet
put_by shape own None sheet = sheet

-- the choice that a rank's acknowledgement leads to
abbrev pub choice_after_ack : ℕ → ℕ → SiteSheet → Option FastChoice
choice_after_ack rank t kept =
    cond (takes_acknowledgement rank kept) (choice_where_full kept.shape (acknowledged rank t kept.sheet)) None

-- with a rank's acknowledgement, where it counts
abbrev pub with_acknowledgement : ℕ → ℕ → SiteSheet → SiteSheet
with_acknowledgement rank t kept = with_sheet
    (cond (takes_acknowledgement rank kept)
    (put_by kept.shape kept.site.rank.0 (choice_after_ack rank t kept) (acknowledged rank t kept.sheet))
    kept.sheet)
    kept

-- with a stamp accepted at a ballot, where it can be
abbrev pub with_acceptance : ℕ → ℕ → SiteSheet → SiteSheet
with_acceptance t b kept =
    with_sheet (cond (can_accept kept.site.partition.0 b kept.sheet) (with_accepted b t kept.sheet) kept.sheet) kept

-- whether the vote of a rank of the shape counts here, at a ballot
abbrev pub takes_vote : ℕ → ℕ → SiteSheet → Bool
takes_vote rank b kept = is_from 1 kept.shape.replicas rank && can_vote kept.site.partition.0 b kept.sheet

-- the decision that a rank's vote leads to
abbrev pub decision_after_vote : ℕ → ℕ → SiteSheet → Option ℕ
decision_after_vote rank b kept = cond (takes_vote rank b kept) (stamp_decided kept.shape (with_vote rank kept.sheet)) None

-- with a rank's vote, where it counts
abbrev pub with_vote_of : ℕ → ℕ → SiteSheet → SiteSheet
with_vote_of rank b kept = with_sheet (cond (takes_vote rank b kept) (with_vote rank kept.sheet) kept.sheet) kept

-- what is told to a recovery
abbrev pub answer_of : SiteSheet → RecoveryAnswer
answer_of kept = record {
  rank = kept.site.rank;
  stamp = record { 0 = stamp_told kept.sheet };
  made = made_of kept.sheet.proposal;
  accepted = kept.sheet.accepted_ballot;
}

-- what is told to the recovery at a ballot, where none as great was agreed to
abbrev pub promise_by : ℕ → SiteSheet → Option RecoveryAnswer
promise_by b kept = cond (nat_lt kept.sheet.ballot b) (Some (answer_of kept)) None

-- with that ballot agreed to
abbrev pub with_promise : ℕ → SiteSheet → SiteSheet
with_promise b kept = with_sheet (cond (nat_lt kept.sheet.ballot b) (with_ballot b kept.sheet) kept.sheet) kept

-- the ballot of a recovery, where a command is kept, the site's partition has no stamp yet, and there is room for it
abbrev pub ballot_by : SiteSheet → Option ℕ
ballot_by kept = cond (is_some kept.sheet.command && is_none (stamp_of kept.sheet kept.site.partition.0) && has_next kept.sheet)
    (Some (next_ballot kept.shape kept.site.rank.0 kept.sheet.ballot kept.sheet.tried))
    None

abbrev pub trying_at : Shape → Option ℕ → Sheet → Sheet
trying_at shape None sheet = sheet
trying_at shape (Some b) sheet = trying shape b sheet

-- with that ballot tried
abbrev pub with_try : SiteSheet → SiteSheet
with_try kept = with_sheet (trying_at kept.shape (ballot_by kept) kept.sheet) kept

-- whether the answer of a rank of the shape counts here, at a ballot
abbrev pub takes_answer : ℕ → ℕ → SiteSheet → Bool
takes_answer rank b kept = is_from 1 kept.shape.replicas rank && can_answer kept.site.partition.0 b rank kept.sheet

-- the home of a command, where it is a rank of the shape
abbrev pub home_within : Shape → Option Command → Option Rank
home_within shape None = None
home_within shape (Some c) = cond (is_from 1 shape.replicas c.home.0) (Some c.home) None

-- what the answers lead to, by the command's home
abbrev pub recovery_of : Shape → Sheet → Option Rank → Option ℕ
recovery_of shape sheet None = None
recovery_of shape sheet (Some home) = Some (recovery_choice (in_ring shape home.0) home.0 (present sheet.answers))

-- where just a recovery quorum has answered
abbrev pub recovery_where_full : Shape → Sheet → Option ℕ
recovery_where_full shape sheet = cond (is_recovered shape sheet) (recovery_of shape sheet (home_within shape sheet.command)) None

abbrev pub putting_at : Shape → ℕ → Option ℕ → Sheet → Sheet
putting_at shape b None sheet = sheet
putting_at shape b (Some t) sheet = putting shape b t sheet

-- the stamp that an answer leads to
abbrev pub choice_after_answer : RecoveryAnswer → ℕ → SiteSheet → Option ℕ
choice_after_answer a b kept = cond (takes_answer a.rank.0 b kept) (recovery_where_full kept.shape (with_answer a kept.sheet)) None

-- with an answer, where it counts, and what it leads to put to the vote
abbrev pub with_answer_of : RecoveryAnswer → ℕ → SiteSheet → SiteSheet
with_answer_of a b kept = with_sheet
    (cond (takes_answer a.rank.0 b kept)
    (putting_at kept.shape b (choice_after_answer a b kept) (with_answer a kept.sheet))
    kept.sheet)
    kept

-- with a partition's stamp, where it was not known
abbrev pub with_known : ℕ → ℕ → SiteSheet → SiteSheet
with_known q t kept = with_sheet (cond (is_some (stamp_of kept.sheet q)) kept.sheet (with_stamp q t kept.sheet)) kept

-- the final stamp, where all stamps are known
abbrev pub final_of : SiteSheet → Option ℕ
final_of kept = final_stamp kept.shape kept.sheet kept.sheet.command

-- the final stamp, where this stamp was not known and all are known with it
abbrev pub final_after_learning : ℕ → ℕ → SiteSheet → Option ℕ
final_after_learning q t kept = cond (is_some (stamp_of kept.sheet q)) None (final_of (with_known q t kept))
