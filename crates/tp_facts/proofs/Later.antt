-- A step only adds: what a sheet had stays or grows, so what was said of it before stays true.
-- Used for the invariant of a process: what it had sent before a step is true after it.
use Rattle.std.proofs.Common.{◌≡◌, ℕ, ◌<◌, ◌≤◌, ◌⊎◌, inl, inr, true, List, [], ◌∷◌, ◌++◌, length, map, Option, Some, None, is_some, refl, sym, ap, ◌∙◌, subst, arith}
use Rattle.std.proofs.lemmas.Bool.{and_parts, cond_both}
use Rattle.std.specs.List.{list_all}
use Rattle.tp_base.proofs.Each.{each_append, each_weaker}
use Rattle.tp_base.proofs.Tables.{kept_stays}
use Rattle.tp_base.specs.Lists.{Each}
use Rattle.tp_base.specs.Tables.{kept_at}
use Rattle.tp_base.specs.declared.names.CommandId.{CommandId}
use Rattle.tp_base.specs.declared.names.Made.{Made}
use Rattle.tp_base.specs.declared.names.Site.{Site}
use Rattle.tp_ops.specs.declared.command.Command.{Command}
use Rattle.tp_choice.specs.declared.answer.RecoveryAnswer.{RecoveryAnswer}
use Rattle.tp_topology.specs.Ballots.{owner}
use Rattle.tp_quorum.specs.Choice.{present, greatest}
use Rattle.tp_rules.specs.Acts.{Act}
use Rattle.tp_rules.specs.Addresses.{accessed}
use Rattle.tp_rules.specs.Sheet.{Proposed, QuorumRule, Sheet, final_stamp, greatest_known, stamp_of}
use Rattle.tp_topology.specs.Shape.{fast_size}
use Rattle.tp_wire.specs.declared.message.Body.{Body}
use Rattle.tp_wire.specs.declared.message.Body.TheVariants.{MPropose, MProposeAck, MConsensus, MConsensusAck, MCommit, MRecAck, MCommitted}
use Rattle.tp_wire.specs.declared.message.Message.{Message}
use Rattle.tp_facts.proofs.RuleTests.{ballot_put, stamp_put}
use Rattle.tp_facts.proofs.AcceptorKept.{carried}
use Rattle.tp_facts.proofs.Facts.{IsHere, IsGenuine, IsFast, IsFull, IsProposer, VotesOutside, PutsSame, IsAnswer, IsPut, IsLearned, IsTrue}
use Rattle.tp_facts.proofs.Growing.{answer_more, taken_from_more, taken_more, was_sent_more}
use Rattle.tp_facts.proofs.StepCases.{SheetStep, submits, submits_and_acknowledges, proposes, counts_acknowledgement, decides_fast, puts_slow, accepts, decides_by_votes, learns, proposes_and_answers_recovery, answers_recovery, puts_recovered}

-- a later sheet of the same command
pub record Later (s : QuorumRule) (old new : Sheet) : Type 0 where
  -- a proposal is for ever
  pub proposal : (q : Proposed) → old.proposal ≡ Some q → new.proposal ≡ Some q
  -- ballots rise
  pub ballot : old.ballot ≤ new.ballot
  pub accepted : old.accepted_ballot ≤ new.accepted_ballot
  -- another stamp is put at a higher ballot only
  pub putting : ((ballot_put new.put ≡ ballot_put old.put) × (stamp_put new.put ≡ stamp_put old.put))
      ⊎ (ballot_put old.put < ballot_put new.put)
  -- acknowledgements are counted while no ballot was joined and the fast quorum isn't full
  pub gathered : (new.acknowledged ≡ old.acknowledged)
      ⊎ ((old.ballot ≡ 0) × (length (present old.acknowledged) < fast_size s.shape))
  -- a known stamp is for ever
  pub known : (q t : ℕ) → kept_at old.known q ≡ Some t → kept_at new.known q ≡ Some t

-- what a step sends of a command is new: a vote at no lower ballot than the one joined, a put above what was put
abbrev pub IsNew : CommandId → Sheet → Body → Type 0
IsNew id old (MConsensusAck i n) = i ≡ id → old.ballot ≤ n
IsNew id old (MConsensus c x n) = c.id ≡ id → ballot_put old.put < n
IsNew id old _ = Unit {0}

module _ (s : QuorumRule) (me : Site) (of : CommandId → Command) (acts : List Act) where
  proposal_later : {act : Act} {id : CommandId} {old new : Sheet} {out : List Message}
      → SheetStep s me act id old new out → (q : Proposed) → old.proposal ≡ Some q → new.proposal ≡ Some q
  proposal_later (submits c t e home fresh) q some = absurd cc
  proposal_later (submits_and_acknowledges c t e home fresh can) q some = absurd cc
  proposal_later (proposes c floor t e le fresh) q some = absurd cc
  proposal_later (proposes_and_answers_recovery c b t e none low nothing zero) q some = absurd cc
  proposal_later _ q some = some

  ballot_later : {act : Act} {id : CommandId} {old new : Sheet} {out : List Message} → SheetStep s me act id old new out
      → old.ballot ≤ new.ballot
  ballot_later (accepts c t b e none le) = le
  ballot_later (proposes_and_answers_recovery c b t e none low nothing zero) = omega arith
  ballot_later (answers_recovery c b e none low first) = omega arith
  ballot_later _ = omega arith

  accepted_later : {act : Act} {id : CommandId} {old new : Sheet} {out : List Message}
      → SheetStep s me act id old new out → old.accepted_ballot ≤ old.ballot → old.accepted_ballot ≤ new.accepted_ballot
  accepted_later (accepts c t b e none le) low = omega arith
  accepted_later _ low = omega arith

  -- a recovery's ballot is above the first ones
  pub recovers_above : {id : CommandId} {tried putting b : ℕ} {table : List (Option RecoveryAnswer)}
      → IsProposer s me acts id tried table putting
      → tried ≡ b → 1 ≤ b → (s.shape.replicas < b) × (owner s.shape b ≡ me.rank.0)
  recovers_above h same some = elim h.own [
    | inl zero ↦ absurd (omega (arith, same, some, zero))
    | inr own ↦ (omega (arith, same, own.0), ap (λ (n : ℕ). owner s.shape n) (sym same) ∙ own.1)
  ]

  putting_later : {act : Act} {id : CommandId} {old new : Sheet} {out : List Message}
      → SheetStep s me act id old new out → IsGenuine of act → IsHere s me
      → IsProposer s me acts id old.tried old.answers (ballot_put old.put)
      → ((ballot_put new.put ≡ ballot_put old.put) × (stamp_put new.put ≡ stamp_put old.put))
      ⊎ (ballot_put old.put < ballot_put new.put)
  putting_later (puts_slow id t e can full slow) g here h = inr (omega (arith, can.putting, here.rank.0))
  putting_later (puts_recovered {m} id t made a b c e can is enough) g here h =
      let above = recovers_above h can.tried (carried of m _ e g).1 in
      inr (omega (arith, can.tried, can.putting, h.below, above.0))
  putting_later _ g here h = inl (refl, refl)

  gathered_later : {act : Act} {id : CommandId} {old new : Sheet} {out : List Message}
      → SheetStep s me act id old new out
      → (new.acknowledged ≡ old.acknowledged)
      ⊎ ((old.ballot ≡ 0) × (length (present old.acknowledged) < fast_size s.shape))
  gathered_later (submits_and_acknowledges c t e home fresh can) = inr (can.ballot, can.few)
  gathered_later (counts_acknowledgement id t e can few) = inr (can.ballot, can.few)
  gathered_later (decides_fast id t e can full fast last) = inr (can.ballot, can.few)
  gathered_later (puts_slow id t e can full slow) = inr (can.ballot, can.few)
  gathered_later _ = inl refl

  known_later : {act : Act} {id : CommandId} {old new : Sheet} {out : List Message} → SheetStep s me act id old new out
      → (q t : ℕ) → kept_at old.known q ≡ Some t → kept_at new.known q ≡ Some t
  known_later {old = old} (decides_fast id t e can full fast last) q x some =
      kept_stays old.known me.partition.0 q _ x can.known some
  known_later {old = old} (decides_by_votes base id put e none enough last) q x some =
      kept_stays old.known me.partition.0 q _ x none some
  known_later {old = old} (learns c p t e none last) q x some = kept_stays old.known p q t x none some
  known_later _ q x some = some

  -- after a step a sheet is later
  pub later : {act : Act} {id : CommandId} {old new : Sheet} {out : List Message} → SheetStep s me act id old new out
      → IsGenuine of act → IsHere s me
      → old.accepted_ballot ≤ old.ballot → IsProposer s me acts id old.tried old.answers (ballot_put old.put)
      → Later s old new
  later step g here low h = record {
    proposal = proposal_later step;
    ballot = ballot_later step;
    accepted = accepted_later step low;
    putting = putting_later step g here h;
    gathered = gathered_later step;
    known = known_later step;
  }

pub later_self : {s : QuorumRule} (sheet : Sheet) → Later s sheet sheet
later_self sheet = record {
  proposal = λ q e. e;
  ballot = omega arith;
  accepted = omega arith;
  putting = inl (refl, refl);
  gathered = inl refl;
  known = λ q t e. e;
}

-- the final stamp stays

stamps_stay : (old new : Sheet) (qs : List ℕ)
    → ((q t : ℕ) → kept_at old.known q ≡ Some t → kept_at new.known q ≡ Some t)
    → list_all is_some (map (stamp_of old) qs) ≡ true → map (stamp_of new) qs ≡ map (stamp_of old) qs
stamps_stay old new [] stays all = refl
stamps_stay old new (q ∷ qs) stays all =
    let both = and_parts (is_some (stamp_of old q)) (list_all is_some (map (stamp_of old) qs)) all in
    go (stamp_of old q) refl both.0 (stamps_stay old new qs stays both.1)
  where
    go : (o : Option ℕ) → stamp_of old q ≡ o → is_some o ≡ true → map (stamp_of new) qs ≡ map (stamp_of old) qs
        → map (stamp_of new) (q ∷ qs) ≡ map (stamp_of old) (q ∷ qs)
    go None e some rest = absurd cc
    go (Some x) e some rest = let same : stamp_of new q ≡ stamp_of old q = stays q x e ∙ sym e in cc

all_known : (stamps : List (Option ℕ)) (t : ℕ) → greatest_known stamps ≡ Some t → list_all is_some stamps ≡ true
all_known stamps t =
    cond_both (list_all is_some stamps) (Some (greatest (present stamps))) None
    (λ (o : Option ℕ). o ≡ Some t → list_all is_some stamps ≡ true)
    (λ y e. y) (λ n e. absurd cc)

final_stays : (s : QuorumRule) (old new : Sheet) (c : Command) (t : ℕ) → Later s old new
    → final_stamp s.shape old (Some c) ≡ Some t → final_stamp s.shape new (Some c) ≡ Some t
final_stays s old new c t later e =
    let all = all_known (map (stamp_of old) (accessed s.shape c)) t e in
    ap (λ (stamps : List (Option ℕ)). greatest_known stamps) (stamps_stay old new (accessed s.shape c) later.known all)
    ∙ e

-- what was said stays true

pub each_body : (P Q : Body → Type 0) → ((body : Body) → P body → Q body) → (list : List Message)
    → Each (λ m. P m.body) list → Each (λ m. Q m.body) list
each_body P Q weaker list h =
    each_weaker (λ (m : Message). P m.body) (λ (m : Message). Q m.body) (λ m k. weaker m.body k) list h

module _ (s : QuorumRule) (me : Site) (of : CommandId → Command) (acts : List Act) (sent : List Message) (act : Act)
    (out : List Message)
    (id : CommandId) (old new : Sheet) (goes : Later s old new) where
  -- a full table of acknowledgements stays
  full_stays : (P : List (Option ℕ) → Type 0) → IsFull s old.acknowledged → P old.acknowledged → P new.acknowledged
  full_stays P full h = elim goes.gathered [
    | inl same ↦ subst P (sym same) h
    | inr few ↦ absurd (omega (arith, few.1, full))
  ]

  pub learned_more : (q t : ℕ) → IsLearned s me of acts sent id old.acknowledged q t
      → IsLearned s me of (act ∷ acts) (out ++ sent) id new.acknowledged q t
  learned_more q t (inl got) = inl (taken_more act got)
  learned_more q t (inr (p, inl fast)) =
      inr (p, inl (full_stays (λ table. IsFast s table × (greatest (present table) ≡ t)) fast.0.0 fast))
  learned_more q t (inr (p, inr (b, said, voted))) =
      inr (p, inr (b, was_sent_more out said, (voted.0, voted.1, voted.2, λ j y. taken_from_more act (voted.3 j y))))

  new_outside : (a b : ℕ) → b ≤ old.ballot → (body : Body) → IsNew id old body → VotesOutside id a b body
  new_outside a b le (MConsensusAck i n) new = λ same. inr (let high = new same in omega arith)
  new_outside a b le _ new = tt

  new_puts_same : (t b : ℕ) → b ≤ ballot_put old.put → (body : Body) → IsNew id old body → PutsSame id t b body
  new_puts_same t b le (MConsensus c x n) new = λ same at. let high = new same in absurd (omega arith)
  new_puts_same t b le _ new = tt

  module _ (fresh : Each (λ m. IsNew id old m.body) out) where
    answer_stays : (x : ℕ) (made : Made) (a b : ℕ) → IsAnswer s of acts sent id old x made a b
        → IsAnswer s of (act ∷ acts) (out ++ sent) id new x made a b
    answer_stays x made a b h = record {
      above = h.above;
      ballot = omega (arith, h.ballot, goes.ballot);
      accepted = λ some. taken_more act (h.accepted some);
      proposed = λ zero. goes.proposal _ (h.proposed zero);
      gap = each_append (λ (m : Message). VotesOutside id a b m.body) out sent
          (each_body (IsNew id old) (VotesOutside id a b) (new_outside a b h.ballot) out fresh) h.gap;
      slow = λ fast. elim goes.gathered [
        | inl same ↦ h.slow (subst (IsFast s) same fast)
        | inr few ↦ absurd (omega (arith, few.0, h.above, h.ballot))
      ];
    }

    put_stays : (t b : ℕ) → IsPut s me of acts sent id old t b → IsPut s me of (act ∷ acts) (out ++ sent) id new t b
    put_stays t b h = record {
      below = elim goes.putting [
        | inl same ↦ omega (arith, same.0, h.below)
        | inr higher ↦ omega (arith, higher, h.below)
      ];
      same = λ at. elim goes.putting [
        | inl same ↦ h.same (at ∙ same.0) ∙ sym same.1
        | inr higher ↦ absurd (omega (arith, higher, h.below, at))
      ];
      alone = each_append (λ (m : Message). PutsSame id t b m.body) out sent
          (each_body (IsNew id old) (PutsSame id t b) (new_puts_same t b h.below) out fresh) h.alone;
      first = λ low. let f = h.first low in (
        f.0,
        f.1,
        full_stays (λ table. IsFull s table) f.2 f.2,
        full_stays (λ table. t ≡ greatest (present table)) f.2 f.3,
      );
      later = λ high. let r = h.later high in (
        r.0,
        record {
          table = r.1.table;
          places = r.1.places;
          enough = r.1.enough;
          answers = λ j a kept. answer_more act a (r.1.answers j a kept);
          choice = r.1.choice;
        },
      );
    }

    -- what a message said of the older sheet is so of the later one
    pub stays_true : (body : Body) → IsTrue s me of acts sent id old body
        → IsTrue s me of (act ∷ acts) (out ++ sent) id new body
    stays_true (MPropose c t) h = (h.0, h.1, goes.proposal _ h.2)
    stays_true (MProposeAck i t) h = (h.0, goes.proposal _ h.1)
    stays_true (MConsensusAck i b) h = (h.0, h.1, omega (arith, h.2, goes.accepted), (h.3.0, taken_more act h.3.1))
    stays_true (MRecAck i x made a b) h = (h.0, answer_stays x.0 made a b h.1)
    stays_true (MConsensus c t b) h = (h.0, put_stays t.0 b h.1)
    stays_true (MCommit c q t) h = (h.0, h.1, learned_more q.0 t.0 h.2)
    stays_true (MCommitted c t) h = (h.0, final_stays s old new c t.0 goes h.1)
    stays_true _ h = tt
