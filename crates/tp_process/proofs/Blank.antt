-- What the blank sheet says.
use Rattle.std.proofs.Common.{◌≡◌, ℕ, zero, suc, Bool, true, false, Option, None, replicate, refl, ap, ◌∙◌, arith}
use Rattle.std.proofs.lemmas.Bool.{and_parts, eqb-true, ltb-true}
use Rattle.std.specs.Prelude.{is_none, slice_get, ◌&&◌, ◌==◌, nat_lt}
use Rattle.tp_base.specs.Limits.{is_from}
use Rattle.tp_base.specs.Tables.{kept_at, flat}
use Rattle.tp_base.specs.declared.names.Site.{Site}
use Rattle.tp_choice.specs.declared.answer.RecoveryAnswer.{RecoveryAnswer}
use Rattle.tp_rules.specs.Sheet.{blank, is_fresh, stamp_of}
use Rattle.tp_sheet.specs.SiteSheet.{blank_at, takes_acknowledgement, choice_after_ack, with_acknowledgement, takes_vote, decision_after_vote, with_vote_of, final_of, ballot_by, with_try, takes_answer, choice_after_answer, with_answer_of}
use Rattle.tp_topology.specs.Shape.{Shape}

empty_place : (n i : ℕ) → flat (slice_get (replicate n (let none : Option ℕ = None in none)) i) ≡ None
empty_place zero i = refl
empty_place (suc n) zero = refl
empty_place (suc n) (suc i) = empty_place n i

empty_table : (n k : ℕ) → kept_at (replicate n (let none : Option ℕ = None in none)) k ≡ None
empty_table n zero = refl
empty_table n (suc i) = empty_place n i

never : (b : Bool) → (b && false) ≡ false
never true = refl
never false = refl

pub blank-is_fresh : (shape : Shape) (p : ℕ) → is_fresh p (blank shape) ≡ true
unfolding blank
blank-is_fresh shape p = rw (empty_table shape.partitions p)

pub blank-command : (shape : Shape) → (blank shape).command ≡ None
unfolding blank
blank-command shape = refl

pub blank-final : (shape : Shape) (site : Site) → final_of (blank_at shape site) ≡ None
unfolding blank
blank-final shape site = refl

blank-takes : (shape : Shape) (site : Site) (rank : ℕ) → takes_acknowledgement rank (blank_at shape site) ≡ false
unfolding blank
blank-takes shape site rank = never (is_from 1 shape.replicas rank)

pub blank-choice : (shape : Shape) (site : Site) (rank t : ℕ) → choice_after_ack rank t (blank_at shape site) ≡ None
blank-choice shape site rank t = rw (blank-takes shape site rank) refl

pub blank-acknowledges : (shape : Shape) (site : Site) (rank t : ℕ) → with_acknowledgement rank t (blank_at shape site) ≡ blank_at shape site
blank-acknowledges shape site rank t = rw (blank-takes shape site rank) refl

blank-takes_vote : (shape : Shape) (site : Site) (rank b : ℕ) → takes_vote rank b (blank_at shape site) ≡ false
unfolding blank
blank-takes_vote shape site rank b =
    ap (λ (counts : Bool). is_from 1 shape.replicas rank && counts) (never (is_none (stamp_of (blank shape) site.partition.0)))
    ∙ never (is_from 1 shape.replicas rank)

pub blank-decision : (shape : Shape) (site : Site) (rank b : ℕ) → decision_after_vote rank b (blank_at shape site) ≡ None
blank-decision shape site rank b = rw (blank-takes_vote shape site rank b) refl

pub blank-votes : (shape : Shape) (site : Site) (rank b : ℕ) → with_vote_of rank b (blank_at shape site) ≡ blank_at shape site
blank-votes shape site rank b = rw (blank-takes_vote shape site rank b) refl

pub blank-stamp : (shape : Shape) (q : ℕ) → stamp_of (blank shape) q ≡ None
unfolding blank
blank-stamp shape q = empty_table shape.partitions q

pub blank-recovers : (shape : Shape) (site : Site) → ballot_by (blank_at shape site) ≡ None
unfolding blank
blank-recovers shape site = refl

pub blank-tries : (shape : Shape) (site : Site) → with_try (blank_at shape site) ≡ blank_at shape site
unfolding blank
blank-tries shape site = refl

-- nothing is tried, so no ballot above 0 is
no_try : (unknown : Bool) (b : ℕ) (unanswered counts : Bool) → (unknown && nat_lt 0 b && (0 == b) && true && unanswered) ≡ counts → counts ≡ false
no_try unknown b unanswered false e = refl
no_try unknown b unanswered true e =
    let first = and_parts (unknown && nat_lt 0 b && (0 == b) && true) unanswered e in
    let tried = and_parts (unknown && nat_lt 0 b) (0 == b) (and_parts (unknown && nat_lt 0 b && (0 == b)) true first.0).0 in
    let some = ltb-true 0 b (and_parts unknown (nat_lt 0 b) tried.0).1 in
    absurd (omega (arith, some, eqb-true 0 b tried.1))

blank-takes_answer : (shape : Shape) (site : Site) (rank b : ℕ) → takes_answer rank b (blank_at shape site) ≡ false
unfolding blank
blank-takes_answer shape site rank b =
    ap (λ (counts : Bool). is_from 1 shape.replicas rank && counts) (no_try _ b _ _ refl) ∙ never (is_from 1 shape.replicas rank)

pub blank-recovery : (shape : Shape) (site : Site) (a : RecoveryAnswer) (b : ℕ) → choice_after_answer a b (blank_at shape site) ≡ None
blank-recovery shape site a b = rw (blank-takes_answer shape site a.rank.0 b) refl

pub blank-answers : (shape : Shape) (site : Site) (a : RecoveryAnswer) (b : ℕ) → with_answer_of a b (blank_at shape site) ≡ blank_at shape site
blank-answers shape site a b = rw (blank-takes_answer shape site a.rank.0 b) refl
