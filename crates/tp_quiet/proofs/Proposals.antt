-- A proposal of a home was sent to the other members of the fast quorum and counted as its own acknowledgement, one of
-- a member answers the home's, and one made by a recovery joined its ballot. Each step keeps this.
-- Used for each process of a run in which nothing is pending.
use Rattle.std.proofs.Common.{◌≡◌, ◌≢◌, ◌⊎◌, ℕ, ◌<◌, ◌≤◌, Bool, inl, inr, true, false, cond, List, ◌∷◌, ◌++◌, Option, Some, None, refl, sym, subst, arith}
use Rattle.std.specs.Prelude.{◌==◌, filter, not}
use Rattle.std.proofs.lemmas.Bool.{cond-true, eqb-true}
use Rattle.tp_base.proofs.Members.{in_left, in_right, map_in}
use Rattle.tp_base.specs.Limits.{IsFrom}
use Rattle.tp_base.specs.Lists.{IsIn}
use Rattle.tp_base.specs.declared.names.ActorName.TheVariants.{Process}
use Rattle.tp_base.specs.declared.names.CommandId.{CommandId}
use Rattle.tp_base.specs.declared.names.Made.{Made}
use Rattle.tp_base.specs.declared.names.Made.TheVariants.{Proposal, Recovery}
use Rattle.tp_base.specs.declared.names.Site.{Site}
use Rattle.tp_facts.proofs.AcceptorKept.{at_home, carried}
use Rattle.tp_facts.proofs.Facts.{IsGenuine}
use Rattle.tp_facts.proofs.StepCases.{SheetStep, submits, submits_and_acknowledges, proposes, proposes_and_answers_recovery}
use Rattle.tp_ops.specs.declared.command.Command.{Command}
use Rattle.tp_rules.proofs.sent.SendsOfProcess.{stamp}
use Rattle.tp_rules.proofs.lists.Tallies.{in_filter}
use Rattle.tp_rules.proofs.lists.UpTo.{in_up_to}
use Rattle.tp_rules.specs.Acts.{Act, Took}
use Rattle.tp_rules.specs.Addresses.{message, site}
use Rattle.tp_rules.specs.Process.{proposals}
use Rattle.tp_rules.specs.Sheet.{Proposed, QuorumRule, Sheet}
use Rattle.tp_topology.specs.Counting.{up_to}
use Rattle.tp_wire.specs.declared.message.Body.{Body}
use Rattle.tp_wire.specs.declared.message.Body.TheVariants.{MPayload, MPropose, MProposeAck}
use Rattle.tp_wire.specs.declared.message.Message.{Message}
use Rattle.tp_quiet.proofs.Served.{Onward}

-- the home's proposal was taken, and acknowledged
pub record HasAcknowledged (me : Site) (acts : List Act) (sent : List Message) (c : Command) : Type 0 where
  pub question : Message
  pub taken : IsIn (Took question) acts
  pub floor : ℕ
  pub asks : question.body ≡ MPropose c (stamp floor)
  pub proposed : ℕ
  pub answered : IsIn (message (Process me) question.from (MProposeAck c.id (stamp proposed))) sent

module _ (s : QuorumRule) (me : Site) (of : CommandId → Command) where
  -- the home's proposal was sent to each other member
  abbrev pub ToMembers : List Message → Command → Type 0
  ToMembers sent c = (j : ℕ) → IsFrom 1 s.shape.replicas j → j ≢ me.rank.0 → s.in_quorum c j ≡ true
      → (t : ℕ) × IsIn (message (Process me) (Process (site me.partition.0 j)) (MPropose c (stamp t))) sent

  -- by whom a proposal was made
  abbrev pub HasReason : List Act → List Message → CommandId → ℕ → Made → Type 0
  HasReason acts sent id ballot Recovery = 0 < ballot
  HasReason acts sent id ballot Proposal = (((of id).home.0 ≡ me.rank.0) × ToMembers sent (of id))
      ⊎ HasAcknowledged me acts sent (of id)

  abbrev pub IsReasoned : List Act → List Message → CommandId → ℕ → Option Proposed → Type 0
  IsReasoned acts sent id ballot None = Unit {0}
  IsReasoned acts sent id ballot (Some q) = HasReason acts sent id ballot q.made

  reason_more : (act : Act) (acts : List Act) (sent out : List Message) (id : CommandId) (old new : ℕ) (made : Made)
      → old ≤ new → HasReason acts sent id old made → HasReason (act ∷ acts) (out ++ sent) id new made
  reason_more act acts sent out id old new Recovery le h = omega (arith, le, h)
  reason_more act acts sent out id old new Proposal le (inl h) =
      inl (h.0, λ j range other member. let x = h.1 j range other member in (x.0, in_right out sent _ x.1))
  reason_more act acts sent out id old new Proposal le (inr h) = inr (record {
    question = h.question;
    taken = inr h.taken;
    floor = h.floor;
    asks = h.asks;
    proposed = h.proposed;
    answered = in_right out sent _ h.answered;
  })

  pub reasoned_more : (act : Act) (acts : List Act) (sent out : List Message) (id : CommandId) (old new : ℕ)
      (o : Option Proposed) → old ≤ new → IsReasoned acts sent id old o → IsReasoned (act ∷ acts) (out ++ sent) id new o
  reasoned_more act acts sent out id old new None le h = tt
  reasoned_more act acts sent out id old new (Some q) le h = reason_more act acts sent out id old new q.made le h

  proposal_to_members : (c : Command) (t : ℕ) (more : List Message) → ToMembers (proposals s me c t ++ more) c
  unfolding proposals
  proposal_to_members c t more j range other member = (
    t,
    in_left (proposals s me c t) more _
        (subst (λ (body : Body). IsIn (message (Process me) (Process (site me.partition.0 j)) body)
        (proposals s me c t))
        (cond-true (s.in_quorum c j) (MPropose c (stamp t)) (MPayload c) member)
        (map_in
        (λ (rank : ℕ). message (Process me) (Process (site me.partition.0 rank))
        (cond (s.in_quorum c rank) (MPropose c (stamp t)) (MPayload c)))
        (filter (λ rank. not (rank == me.rank.0)) (up_to s.shape.replicas)) j
        (in_filter (λ rank. not (rank == me.rank.0)) (up_to s.shape.replicas) j
        (in_up_to s.shape.replicas j range.0 range.1) (not_same j other)))),
  )
    where
      not_same : (j : ℕ) → j ≢ me.rank.0 → not (j == me.rank.0) ≡ true
      not_same j other = by_test (j == me.rank.0) refl
        where
          by_test : (test : Bool) → (j == me.rank.0) ≡ test → not test ≡ true
          by_test true is = absurd (other (eqb-true j me.rank.0 is))
          by_test false is = refl

  submitted_to_members : (c d : Command) (t : ℕ) (bumped sent : List Message) → c ≡ d
      → ToMembers ((proposals s me c t ++ bumped) ++ sent) d
  submitted_to_members c d t bumped sent same j range other member =
      let x = proposal_to_members c t bumped j range other
      (subst (λ (e : Command). s.in_quorum e j ≡ true) (sym same) member) in (
        x.0,
        in_left (proposals s me c t ++ bumped) sent _
            (subst
            (λ (e : Command). IsIn (message (Process me) (Process (site me.partition.0 j)) (MPropose e (stamp x.0)))
            (proposals s me c t ++ bumped)) same x.1),
      )

  acknowledges_home : (m : Message) (acts : List Act) (sent rest : List Message) (c : Command) (floor t : ℕ)
      → m.body ≡ MPropose c (stamp floor) → c ≡ of c.id
      → HasAcknowledged me (Took m ∷ acts) (message (Process me) m.from (MProposeAck c.id (stamp t)) ∷ rest ++ sent)
      (of c.id)
  acknowledges_home m acts sent rest c floor t e ours =
      subst
      (λ (d : Command). HasAcknowledged me (Took m ∷ acts)
      (message (Process me) m.from (MProposeAck c.id (stamp t)) ∷ rest ++ sent) d) ours
      (record {
        question = m;
        taken = inl refl;
        floor = floor;
        asks = e;
        proposed = t;
        answered = inl refl;
      })

  pub reasoned_kept : {act : Act} {id : CommandId} {old new : Sheet} {out : List Message} (acts : List Act)
      (sent : List Message) → SheetStep s me act id old new out → IsGenuine of act → Onward old new
      → IsReasoned acts sent id old.ballot old.proposal
      → IsReasoned (act ∷ acts) (out ++ sent) id new.ballot new.proposal
  reasoned_kept {old = old} acts sent (submits {m} c t e home fresh) genuine goes h =
      let ours = (carried of m _ e genuine).0 in
      inl (at_home c (of c.id) me.rank.0 ours home, submitted_to_members c (of c.id) t _ sent ours)
  reasoned_kept {old = old} acts sent (submits_and_acknowledges {m} c t e home fresh can) genuine goes h =
      let ours = (carried of m _ e genuine).0 in
      inl (at_home c (of c.id) me.rank.0 ours home, submitted_to_members c (of c.id) t _ sent ours)
  reasoned_kept acts sent (proposes {m} c floor t e le fresh) genuine goes h =
      inr (acknowledges_home m acts sent _ c floor t e (carried of m _ e genuine).0)
  reasoned_kept acts sent (proposes_and_answers_recovery c b t e none low nothing unjoined) genuine goes h =
      omega (arith, low)
  reasoned_kept {act} {id} {old} {new} {out} acts sent _ genuine goes h =
      reasoned_more act acts sent out id old.ballot new.ballot old.proposal goes.ballot h
