-- The facts about a sheet stay true as the process takes and sends more, where the sheet stays.
-- Used for the sheets that a step leaves alone, and for the fields that it leaves alone in the one that it changes.
use Rattle.std.proofs.Common.{ℕ, inl, inr, Bool, List, ◌∷◌, ◌++◌, Option, Some, None}
use Rattle.tp_base.proofs.Members.{in_right}
use Rattle.tp_base.specs.declared.names.CommandId.{CommandId}
use Rattle.tp_base.specs.declared.names.Site.{Site}
use Rattle.tp_choice.specs.declared.answer.RecoveryAnswer.{RecoveryAnswer}
use Rattle.tp_ops.specs.declared.command.Command.{Command}
use Rattle.tp_paxos.specs.Votes.{PutStamp}
use Rattle.tp_rules.proofs.lists.Selections.{IfAny}
use Rattle.tp_rules.specs.Acts.{Act}
use Rattle.tp_rules.specs.Sheet.{Proposed, QuorumRule}
use Rattle.tp_wire.specs.declared.message.Body.{Body}
use Rattle.tp_wire.specs.declared.message.Message.{Message}
use Rattle.tp_facts.proofs.Facts.{WasTaken, WasTakenFrom, WasSent, HasFloor, IsAcceptor, IsAcknowledgement, IsGathered, IsAnswerOf, IsProposer, IsPutter}

pub taken_more : {acts : List Act} {body : Body} (act : Act) → WasTaken acts body → WasTaken (act ∷ acts) body
taken_more act g = record { message = g.message; there = inr g.there; is = g.is }

pub taken_from_more : {acts : List Act} {body : Body} {j : ℕ} (act : Act) → WasTakenFrom acts j body
    → WasTakenFrom (act ∷ acts) j body
taken_from_more act g = record { message = g.message; there = inr g.there; from = g.from; is = g.is }

pub was_sent_more : {sent : List Message} {body : Body} (out : List Message) → WasSent sent body
    → WasSent (out ++ sent) body
was_sent_more {sent = sent} out g =
    record { message = g.message; there = in_right out sent g.message g.there; is = g.is }

-- an answer that a recovery counted
pub answer_more : {acts : List Act} {id : CommandId} {b j : ℕ} (act : Act) (a : RecoveryAnswer)
    → IsAnswerOf acts id b j a → IsAnswerOf (act ∷ acts) id b j a
answer_more act a h = (h.0, taken_from_more act h.1)

module _ (s : QuorumRule) (me : Site) (of : CommandId → Command) (acts : List Act) where
  pub floor_more : (id : CommandId) (act : Act) (o : Option Proposed) → HasFloor me of acts id o
      → HasFloor me of (act ∷ acts) id o
  floor_more id act None h = tt
  floor_more id act (Some q) h = λ made. elim (h made) [
    | inl home ↦ inl home
    | inr floor ↦ inr (floor.0, taken_more act floor.1, floor.2)
  ]

  pub acceptor_more : {id : CommandId} {ballot accepted t : ℕ} {proposal : Option Proposed} (act : Act)
      → IsAcceptor of acts id ballot accepted t proposal → IsAcceptor of (act ∷ acts) id ballot accepted t proposal
  acceptor_more act h = record {
    below = h.below;
    taken = λ some. taken_more act (h.taken some);
    proposed = h.proposed;
  }

  pub acknowledgement_more : {id : CommandId} {o : Option Proposed} {j t : ℕ} (act : Act)
      → IsAcknowledgement s me of acts id o j t → IsAcknowledgement s me of (act ∷ acts) id o j t
  acknowledgement_more act h = record {
    home = h.home;
    member = h.member;
    made = h.made;
    source = elim h.source [ inl own ↦ inl own | inr got ↦ inr (taken_from_more act got) ];
  }

  pub gathered_more : {id : CommandId} {proposal : Option Proposed} {table : List (Option ℕ)} (act : Act)
      → IsGathered s me of acts id proposal table → IsGathered s me of (act ∷ acts) id proposal table
  gathered_more act h = record { each = λ j t kept. acknowledgement_more act (h.each j t kept); none = h.none }

  pub proposer_more : {id : CommandId} {tried putting : ℕ} {table : List (Option RecoveryAnswer)} (act : Act)
      → IsProposer s me acts id tried table putting → IsProposer s me (act ∷ acts) id tried table putting
  proposer_more act h = record {
    own = h.own;
    answers = λ j a kept. answer_more act a (h.answers j a kept);
    below = h.below;
  }

  pub putter_more : (sent : List Message) (id : CommandId) (act : Act) (out : List Message) (o : Option PutStamp)
      → IfAny (IsPutter of acts sent id) o → IfAny (IsPutter of (act ∷ acts) (out ++ sent) id) o
  putter_more sent id act out None h = tt
  putter_more sent id act out (Some put) h = record {
    was_put = was_sent_more out h.was_put;
    voters = λ j voted. taken_from_more act (h.voters j voted);
  }
