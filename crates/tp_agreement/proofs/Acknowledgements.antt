-- What the home's acknowledgements say of who acknowledged. Used for the fast path and for the majority attached.
use Rattle.std.proofs.Common.{◌≡◌, ℕ, ◌≤◌, inl, inr, true, List, length, Option, Some, None, refl, sym, ap, ◌∙◌, subst, arith}
use Rattle.tp_base.proofs.Members.{in_get}
use Rattle.tp_base.specs.Tables.{kept_at}
use Rattle.tp_base.specs.declared.names.CommandId.{CommandId}
use Rattle.tp_base.specs.declared.names.Made.{Made}
use Rattle.tp_base.specs.declared.names.Made.TheVariants.{Proposal, Recovery}
use Rattle.tp_quorum.specs.Choice.{present, greatest}
use Rattle.tp_rules.proofs.fit.Messages.{site_is}
use Rattle.tp_rules.proofs.fit.Choices.{is_there, present_counted, present_kept}
use Rattle.tp_rules.proofs.sent.SendsOfProcess.{stamp}
use Rattle.tp_rules.proofs.lists.UpTo.{get_there}
use Rattle.tp_rules.specs.Sheet.{Proposed, is_made_by_proposal, is_proposal, made_of, stamp_proposed}
use Rattle.tp_topology.specs.Counting.{count_up_to}
use Rattle.tp_topology.specs.Shape.{fast_size}
use Rattle.tp_wire.specs.declared.message.Body.TheVariants.{MPropose, MProposeAck}
use Rattle.tp_facts.proofs.Facts.{IsFull, HasFloor}
use Rattle.tp_facts.proofs.Tables.{present_place}
use Rattle.tp_agreement.proofs.Counting.{below_greatest, covers_all, value_of}
use Rattle.tp_agreement.proofs.Moment.{IsRank, Moment, SentBy, acts_of, command, facts_of, home, id_of_command, is_true, named, process, received, received_from, quorum_size, replicas, in_quorum, quorum_rule, shape, sheet, sheet_of}

-- a proposal with a stamp that wasn't made by a recovery
abbrev by_proposal : ℕ → Option Proposed
by_proposal t = Some (record { stamp = t; made = Proposal })

made_by_proposal : (o : Option Proposed) (t : ℕ) → is_made_by_proposal o ≡ true → stamp_proposed o ≡ t
    → o ≡ by_proposal t
made_by_proposal None t made is = absurd cc
made_by_proposal (Some q) t made is =
    ap (λ (x : Made). let p : Proposed = record { stamp = q.stamp; made = x } in Some p) (go q.made made)
    ∙ ap by_proposal is
  where
    go : (x : Made) → is_proposal x ≡ true → x ≡ Proposal
    go Proposal e = refl
    go Recovery e = absurd cc

module _ (m : Moment) where
  -- the process of rank j proposed stamp t, and not in a recovery
  abbrev pub Proposes : ℕ → ℕ → Type 0
  Proposes j t = (sheet m j).proposal ≡ by_proposal t

  -- a process has one proposal for the command
  pub one_proposal : (j t : ℕ) (q : Proposed) → Proposes j t → (sheet m j).proposal ≡ Some q
      → (q.made ≡ Proposal) × (q.stamp ≡ t)
  one_proposal j t q is told =
      let same : by_proposal t ≡ Some q = sym is ∙ told in
      (sym (ap made_of same), sym (ap stamp_proposed same))

  -- rank j acknowledged stamp t to rank k
  pub record Acknowledged (k j t : ℕ) : Type 0 where
    pub proposed : Proposes j t
    pub of_home : home m ≡ k
    pub member : in_quorum m j ≡ true

  -- only the home has acknowledgements, each of a member of its fast quorum that proposed the acknowledged stamp
  pub acknowledged : (k j t : ℕ) → IsRank m k → kept_at (sheet m k).acknowledged j ≡ Some t → Acknowledged k j t
  acknowledged k j t known kept =
      let a = ((facts_of m k known).sheets m.id).gathered.each j t kept in
      record {
        proposed = elim a.source [
          | inl own ↦ subst (λ (i : ℕ). Proposes i t) (sym own.0) (made_by_proposal (sheet m k).proposal t a.made own.1)
          | inr got ↦
              let sent : SentBy m j (MProposeAck m.id (stamp t)) = received_from m (process m k) j _ tt refl got in
              let is = is_true m sent in
              subst (λ (i : CommandId). (sheet_of m j i).proposal ≡ by_proposal t) (sym is.1.0) is.1.1
        ];
        of_home = a.home;
        member = a.member;
      }

  -- no proposal that was made without a recovery is below the home's, which it answers
  pub home_proposed_at_most : (j t : ℕ) → IsRank m j → Proposes j t → (low : ℕ) × Proposes (home m) low × (low ≤ t)
  home_proposed_at_most j t known is =
      let made : HasFloor (process m j) (named m) (acts_of m j) m.id (by_proposal t) =
      subst (HasFloor (process m j) (named m) (acts_of m j) m.id) is ((facts_of m j known).sheets m.id).proposal in
      elim (made refl) [
        | inl here ↦ (t, subst (λ (i : ℕ). Proposes i t) (sym here) is, omega arith)
        | inr from ↦
            let sent = received m (process m j) (MPropose (command m) (stamp from.0)) tt refl from.1 in
            let told = is_true m sent.1 in
            let same : told.0 ≡ m.id = sym told.1.0 ∙ id_of_command m.script.commands m.id in
            let of_home : home m ≡ sent.0 = subst (λ (i : CommandId). (named m i).home.0 ≡ sent.0) same told.1.1 in
            let at_home : Proposes sent.0 from.0 =
            subst (λ (i : CommandId). (sheet_of m sent.0 i).proposal ≡ by_proposal from.0) same told.1.2 in
            (from.0, subst (λ (i : ℕ). Proposes i from.0) (sym of_home) at_home, from.2)
      ]

  -- rank k has the acknowledgements of a whole fast quorum
  abbrev pub IsWhole : ℕ → Type 0
  IsWhole k = IsFull (quorum_rule m) (sheet m k).acknowledged

  -- only the home does
  pub whole_is_of_home : (k : ℕ) → IsRank m k → IsWhole k → home m ≡ k
  whole_is_of_home k known whole =
      let some = get_there (present (sheet m k).acknowledged) 0 (omega (arith, whole, m.accepted.shape.some_failure)) in
      let there = in_get (present (sheet m k).acknowledged) 0 some.0 some.1 in
      let at = present_place (sheet m k).acknowledged some.0 there in
      (acknowledged k at.0 some.0 known at.1).of_home

  -- its table has a place for each rank
  pub table_size : (k : ℕ) → IsRank m k → length (sheet m k).acknowledged ≡ replicas m
  table_size k known = ((facts_of m k known).sheets m.id).places.acknowledgements

  -- so as many ranks acknowledged as a fast quorum has
  pub whole_count : (k : ℕ) → IsRank m k → IsWhole k
      → fast_size (shape m) ≤ count_up_to (is_there (sheet m k).acknowledged) (replicas m)
  whole_count k known whole =
      let counted = present_counted (sheet m k).acknowledged (replicas m) (omega (arith, table_size k known)) in
      omega (arith, counted, whole)

  -- a rank that acknowledged proposed at most the greatest acknowledged stamp
  pub acknowledged_at_most : (k j : ℕ) → IsRank m k → is_there (sheet m k).acknowledged j ≡ true
      → (t : ℕ) × Proposes j t × (t ≤ greatest (present (sheet m k).acknowledged))
  acknowledged_at_most k j known there =
      let table : List (Option ℕ) = (sheet m k).acknowledged in
      let t = value_of (kept_at table j) there in
      let le = below_greatest t.0 (present table) (present_kept table j t.0 t.1) in
      (t.0, (acknowledged k j t.0 known t.1).proposed, le)

  -- where a whole fast quorum has acknowledged, each member has: there are no more, and no other rank's acknowledgement counts
  pub member_acknowledged : (k j : ℕ) → IsRank m k → IsWhole k → 1 ≤ j → j ≤ replicas m → in_quorum m j ≡ true
      → is_there (sheet m k).acknowledged j ≡ true
  member_acknowledged k j known whole low high member =
      let table : List (Option ℕ) = (sheet m k).acknowledged in
      let here = (site_is (shape m) (process m k) known).1 in
      let of_home : home m ≡ k = whole_is_of_home k known whole in
      let size = quorum_size m (omega (arith, of_home, here.0), omega (arith, of_home, here.1)) in
      covers_all (is_there table) (in_quorum m) (replicas m)
      (λ i above below e. let t = value_of (kept_at table i) e in (acknowledged k i t.0 known t.1).member)
      (omega (arith, size, whole_count k known whole)) j low high member
