-- The fourteen kinds of messages, and all of them together.
use Rattle.std.proofs.Common.{◌≡◌, ℕ, ◌+◌, ◌-◌, ◌≤◌, ◌<◌, List, ◌∷◌, length, Some, refl, ap, arith}
use Rattle.tp_base.specs.Limits.{IsFrom, IsId}
use Rattle.tp_base.specs.Lists.{Each}
use Rattle.tp_base.specs.Tables.{nth}
use Rattle.tp_base.specs.declared.names.ActorName.{ActorName}
use Rattle.tp_base.specs.declared.names.CommandId.{CommandId}
use Rattle.tp_base.specs.declared.names.Made.{Made}
use Rattle.tp_base.specs.declared.names.Pair.{Pair}
use Rattle.tp_base.specs.declared.names.PartitionId.{PartitionId}
use Rattle.tp_base.specs.declared.names.Stamp.{Stamp}
use Rattle.tp_ops.specs.Limits.{IsAnswer, IsCommand}
use Rattle.tp_ops.specs.declared.command.Command.{Command}
use Rattle.tp_ops.specs.declared.operation.Answer.{Answer}
use Rattle.tp_wire.specs.Meaning.{Reader, bump_at, commit_at, committed_at, consensus_ack_at, consensus_at, kinds, message_at, most, payload_at, promises_at, propose_ack_at, propose_at, rec_ack_at, rec_at, result_at, sent, stable_at, submit_at}
use Rattle.tp_wire.specs.Ranges.{IsAttached, IsBody, IsClient, IsExecutor, IsInRange, IsNumber, IsProcess}
use Rattle.tp_wire.specs.Spelling.{actor, bytes_of, fields_of, joined, kind_of}
use Rattle.tp_wire.specs.declared.fault.WireCause.TheVariants.{Kind}
use Rattle.tp_wire.specs.declared.message.Body.{Body}
use Rattle.tp_wire.specs.declared.message.Body.TheVariants.{MSubmit, MPropose, MPayload, MProposeAck, MBump, MConsensus, MConsensusAck, MCommit, MRec, MRecAck, MPromises, MCommitted, MStable, MResult}
use Rattle.tp_wire.specs.declared.message.Message.{Message}
use Rattle.tp_wire.proofs.Chosen.{AreCases, IsChosen, case_of, choice_field}
use Rattle.tp_wire.proofs.Commanded.{answers_field, command_field}
use Rattle.tp_wire.proofs.Fielded.{IsField, IsMade, ends, then_field}
use Rattle.tp_wire.proofs.Named.{ballot_field, executor_field, id_field, made_field, pairs_field, partition_field, process_field, session_field, stamp_field}
use Rattle.tp_wire.proofs.Numbered.{eight_field}

-- the reader of a kind: who sends it to whom, and what its body is made of
record IsSent {B : Type 0} (reader : Reader Message) (From To : ActorName → Type 0) (make : B → Body) (AllFit : B → Type 0) : Type 0 where
  pub made : IsMade reader (λ (p : ActorName × (ActorName × B)). sent p.0 p.1.0 (make p.1.1)) (λ p. joined (actor p.0 ∷ actor p.1.0 ∷ fields_of (make p.1.1))) (λ p. From p.0 × (To p.1.0 × AllFit p.1.1))

-- a message is read by the reader of its kind
by_kind : {B : Type 0} {reader : Reader Message} {From To : ActorName → Type 0} {make : B → Body} {AllFit : B → Type 0} (n : ℕ)
    → IsSent reader From To make AllFit → n < 256 → nth kinds n ≡ Some reader
    → (from to : ActorName) (b : B) → kind_of (make b) ≡ n → From from × (To to × AllFit b) → IsChosen bytes_of kinds (sent from to (make b))
unfolding bytes_of
by_kind {make} n law small there from to b kind fits = record {
  n = n;
  small = small;
  reader = _;
  there = there;
  rest = joined (actor from ∷ actor to ∷ fields_of (make b));
  spelled = ap (λ (k : ℕ). k ∷ joined (actor from ∷ actor to ∷ fields_of (make b))) kind;
  again = λ at behind e. law.made.again at (from, (to, b)) behind fits e;
}

-- ---- each kind

abbrev Promises : Type 0
Promises = ℕ × (ℕ × (List Pair × Unit {0}))

abbrev AreHanded : ℕ → ℕ → List Pair → Type 0
AreHanded lo hi ps = (length ps ≤ 1000) × IsAttached lo hi ps

submit_sent : IsSent submit_at IsClient IsProcess (λ (p : Command × Unit {0}). MSubmit p.0) (λ p. IsCommand p.0 × Unit {0})
unfolding submit_at
submit_sent = record { made = then_field session_field (λ from _. then_field process_field (λ to _. then_field command_field (λ c _. ends (sent from to (MSubmit c))))) }

propose_sent : IsSent propose_at IsProcess IsProcess (λ (p : Command × (Stamp × Unit {0})). MPropose p.0 p.1.0) (λ p. IsCommand p.0 × (IsNumber p.1.0.0 × Unit {0}))
unfolding propose_at
propose_sent = record { made = then_field process_field (λ from _. then_field process_field (λ to _. then_field command_field (λ c _. then_field stamp_field (λ floor _. ends (sent from to (MPropose c floor)))))) }

payload_sent : IsSent payload_at IsProcess IsProcess (λ (p : Command × Unit {0}). MPayload p.0) (λ p. IsCommand p.0 × Unit {0})
unfolding payload_at
payload_sent = record { made = then_field process_field (λ from _. then_field process_field (λ to _. then_field command_field (λ c _. ends (sent from to (MPayload c))))) }

propose_ack_sent : IsSent propose_ack_at IsProcess IsProcess (λ (p : CommandId × (Stamp × Unit {0})). MProposeAck p.0 p.1.0) (λ p. IsId p.0 × (IsNumber p.1.0.0 × Unit {0}))
unfolding propose_ack_at
propose_ack_sent = record { made = then_field process_field (λ from _. then_field process_field (λ to _. then_field id_field (λ i _. then_field stamp_field (λ t _. ends (sent from to (MProposeAck i t)))))) }

bump_sent : IsSent bump_at IsProcess IsProcess (λ (p : CommandId × (Stamp × Unit {0})). MBump p.0 p.1.0) (λ p. IsId p.0 × (IsNumber p.1.0.0 × Unit {0}))
unfolding bump_at
bump_sent = record { made = then_field process_field (λ from _. then_field process_field (λ to _. then_field id_field (λ i _. then_field stamp_field (λ t _. ends (sent from to (MBump i t)))))) }

consensus_sent : IsSent consensus_at IsProcess IsProcess (λ (p : Command × (Stamp × (ℕ × Unit {0}))). MConsensus p.0 p.1.0 p.1.1.0) (λ p. IsCommand p.0 × (IsNumber p.1.0.0 × (IsNumber p.1.1.0 × Unit {0})))
unfolding consensus_at
consensus_sent = record { made = then_field process_field (λ from _. then_field process_field (λ to _. then_field command_field (λ c _. then_field stamp_field (λ t _. then_field ballot_field (λ b _. ends (sent from to (MConsensus c t b))))))) }

consensus_ack_sent : IsSent consensus_ack_at IsProcess IsProcess (λ (p : CommandId × (ℕ × Unit {0})). MConsensusAck p.0 p.1.0) (λ p. IsId p.0 × (IsNumber p.1.0 × Unit {0}))
unfolding consensus_ack_at
consensus_ack_sent = record { made = then_field process_field (λ from _. then_field process_field (λ to _. then_field id_field (λ i _. then_field ballot_field (λ b _. ends (sent from to (MConsensusAck i b)))))) }

commit_sent : IsSent commit_at IsProcess IsProcess (λ (p : Command × (PartitionId × (Stamp × Unit {0}))). MCommit p.0 p.1.0 p.1.1.0) (λ p. IsCommand p.0 × (IsFrom 1 4 p.1.0.0 × (IsNumber p.1.1.0.0 × Unit {0})))
unfolding commit_at
commit_sent = record { made = then_field process_field (λ from _. then_field process_field (λ to _. then_field command_field (λ c _. then_field partition_field (λ q _. then_field stamp_field (λ t _. ends (sent from to (MCommit c q t))))))) }

rec_sent : IsSent rec_at IsProcess IsProcess (λ (p : Command × (ℕ × Unit {0})). MRec p.0 p.1.0) (λ p. IsCommand p.0 × (IsNumber p.1.0 × Unit {0}))
unfolding rec_at
rec_sent = record { made = then_field process_field (λ from _. then_field process_field (λ to _. then_field command_field (λ c _. then_field ballot_field (λ b _. ends (sent from to (MRec c b)))))) }

rec_ack_sent : IsSent rec_ack_at IsProcess IsProcess (λ (p : CommandId × (Stamp × (Made × (ℕ × (ℕ × Unit {0}))))). MRecAck p.0 p.1.0 p.1.1.0 p.1.1.1.0 p.1.1.1.1.0) (λ p. IsId p.0 × (IsNumber p.1.0.0 × (Unit {0} × (IsFrom 0 most p.1.1.1.0 × (IsNumber p.1.1.1.1.0 × Unit {0})))))
unfolding rec_ack_at
rec_ack_sent = record { made = then_field process_field (λ from _. then_field process_field (λ to _. then_field id_field (λ i _. then_field stamp_field (λ t _. then_field made_field (λ made _. then_field (eight_field 0 most (omega arith)) (λ a _. then_field ballot_field (λ b _. ends (sent from to (MRecAck i t made a b))))))))) }

promises_sent : IsSent promises_at IsProcess IsExecutor (λ (p : Promises). MPromises p.0 p.1.0 p.1.1.0) (λ p. IsFrom 0 (most - 1) p.0 × (IsFrom (p.0 + 1) most p.1.0 × (AreHanded p.0 p.1.0 p.1.1.0 × Unit {0})))
unfolding promises_at
promises_sent = record {
  made = then_field process_field (λ from _. then_field executor_field (λ to _.
      then_field (eight_field 0 (most - 1) (omega arith)) (λ lo _. then_field (eight_field (lo + 1) most (omega arith)) (λ hi fits.
      then_field (pairs_field lo hi (omega (arith, fits.0)) (omega (arith, fits.1))) (λ ps _. ends (sent from to (MPromises lo hi ps)))))));
}

committed_sent : IsSent committed_at IsProcess IsExecutor (λ (p : Command × (Stamp × Unit {0})). MCommitted p.0 p.1.0) (λ p. IsCommand p.0 × (IsNumber p.1.0.0 × Unit {0}))
unfolding committed_at
committed_sent = record { made = then_field process_field (λ from _. then_field executor_field (λ to _. then_field command_field (λ c _. then_field stamp_field (λ t _. ends (sent from to (MCommitted c t)))))) }

stable_sent : IsSent stable_at IsExecutor IsExecutor (λ (p : CommandId × Unit {0}). MStable p.0) (λ p. IsId p.0 × Unit {0})
unfolding stable_at
stable_sent = record { made = then_field executor_field (λ from _. then_field executor_field (λ to _. then_field id_field (λ i _. ends (sent from to (MStable i))))) }

result_sent : IsSent result_at IsExecutor IsClient (λ (p : CommandId × (PartitionId × (List Answer × Unit {0}))). MResult p.0 p.1.0 p.1.1.0) (λ p. IsId p.0 × (IsFrom 1 4 p.1.0.0 × ((IsFrom 1 16 (length p.1.1.0) × Each IsAnswer p.1.1.0) × Unit {0})))
unfolding result_at
result_sent = record { made = then_field executor_field (λ from _. then_field session_field (λ to _. then_field id_field (λ i _. then_field partition_field (λ q _. then_field answers_field (λ told _. ends (sent from to (MResult i q told))))))) }

kind_cases : AreCases bytes_of IsInRange 1 kinds
unfolding bytes_of
kind_cases = (
  case_of submit_sent.made (λ p fits. (refl, (fits.0, fits.1.0, fits.1.1.0))),
  (
    case_of propose_sent.made (λ p fits. (refl, (fits.0, fits.1.0, fits.1.1.0, fits.1.1.1.0))),
    (
      case_of payload_sent.made (λ p fits. (refl, (fits.0, fits.1.0, fits.1.1.0))),
      (
        case_of propose_ack_sent.made (λ p fits. (refl, (fits.0, fits.1.0, fits.1.1.0, fits.1.1.1.0))),
        (
          case_of bump_sent.made (λ p fits. (refl, (fits.0, fits.1.0, fits.1.1.0, fits.1.1.1.0))),
          (
            case_of consensus_sent.made (λ p fits. (refl, (fits.0, fits.1.0, fits.1.1.0, fits.1.1.1.0, fits.1.1.1.1.0))),
            (
              case_of consensus_ack_sent.made (λ p fits. (refl, (fits.0, fits.1.0, fits.1.1.0, fits.1.1.1.0))),
              (
                case_of commit_sent.made (λ p fits. (refl, (fits.0, fits.1.0, fits.1.1.0, fits.1.1.1.0, fits.1.1.1.1.0))),
                (
                  case_of rec_sent.made (λ p fits. (refl, (fits.0, fits.1.0, fits.1.1.0, fits.1.1.1.0))),
                  (
                    case_of rec_ack_sent.made (λ p fits. (refl, (fits.0, fits.1.0, fits.1.1.0, fits.1.1.1.0, fits.1.1.1.1.1.0, fits.1.1.1.1.1.1.0))),
                    (
                      case_of promises_sent.made (λ p fits. (refl, (fits.0, fits.1.0, omega (arith, fits.1.1.1.0.0), (omega (arith, fits.1.1.1.0.0), fits.1.1.1.0.1), fits.1.1.1.1.0.0, fits.1.1.1.1.0.1))),
                      (
                        case_of committed_sent.made (λ p fits. (refl, (fits.0, fits.1.0, fits.1.1.0, fits.1.1.1.0))),
                        (
                          case_of stable_sent.made (λ p fits. (refl, (fits.0, fits.1.0, fits.1.1.0))),
                          (case_of result_sent.made (λ p fits. (refl, (fits.0, fits.1.0, fits.1.1.0, fits.1.1.1.0, fits.1.1.1.1.0.0, fits.1.1.1.1.0.1))), tt),
                        ),
                      ),
                    ),
                  ),
                ),
              ),
            ),
          ),
        ),
      ),
    ),
  ),
)

-- ---- all of them

chosen : (from to : ActorName) (body : Body) → IsBody from to body → IsChosen bytes_of kinds (sent from to body)
chosen from to (MSubmit c) fits = by_kind 1 submit_sent (omega arith) refl from to (c, tt) refl (fits.0, (fits.1, (fits.2, tt)))
chosen from to (MPropose c floor) fits = by_kind 2 propose_sent (omega arith) refl from to (c, (floor, tt)) refl (fits.0, (fits.1, (fits.2, (fits.3, tt))))
chosen from to (MPayload c) fits = by_kind 3 payload_sent (omega arith) refl from to (c, tt) refl (fits.0, (fits.1, (fits.2, tt)))
chosen from to (MProposeAck i t) fits = by_kind 4 propose_ack_sent (omega arith) refl from to (i, (t, tt)) refl (fits.0, (fits.1, (fits.2, (fits.3, tt))))
chosen from to (MBump i t) fits = by_kind 5 bump_sent (omega arith) refl from to (i, (t, tt)) refl (fits.0, (fits.1, (fits.2, (fits.3, tt))))
chosen from to (MConsensus c t b) fits = by_kind 6 consensus_sent (omega arith) refl from to (c, (t, (b, tt))) refl (fits.0, (fits.1, (fits.2, (fits.3, (fits.4, tt)))))
chosen from to (MConsensusAck i b) fits = by_kind 7 consensus_ack_sent (omega arith) refl from to (i, (b, tt)) refl (fits.0, (fits.1, (fits.2, (fits.3, tt))))
chosen from to (MCommit c q t) fits = by_kind 8 commit_sent (omega arith) refl from to (c, (q, (t, tt))) refl (fits.0, (fits.1, (fits.2, (fits.3, (fits.4, tt)))))
chosen from to (MRec c b) fits = by_kind 9 rec_sent (omega arith) refl from to (c, (b, tt)) refl (fits.0, (fits.1, (fits.2, (fits.3, tt))))
chosen from to (MRecAck i t made a b) fits = by_kind 10 rec_ack_sent (omega arith) refl from to (i, (t, (made, (a, (b, tt))))) refl (fits.0, (fits.1, (fits.2, (fits.3, (tt, (fits.4, (fits.5, tt)))))))
chosen from to (MPromises lo hi ps) fits = by_kind 11 promises_sent (omega arith) refl from to (lo, (hi, (ps, tt))) refl
    (fits.0, (fits.1, ((omega arith, omega (arith, fits.2, fits.3.1)), ((omega (arith, fits.2), fits.3.1), ((fits.4, fits.5), tt)))))
chosen from to (MCommitted c t) fits = by_kind 12 committed_sent (omega arith) refl from to (c, (t, tt)) refl (fits.0, (fits.1, (fits.2, (fits.3, tt))))
chosen from to (MStable i) fits = by_kind 13 stable_sent (omega arith) refl from to (i, tt) refl (fits.0, (fits.1, (fits.2, tt)))
chosen from to (MResult i q told) fits = by_kind 14 result_sent (omega arith) refl from to (i, (q, (told, tt))) refl (fits.0, (fits.1, (fits.2, (fits.3, ((fits.4, fits.5), tt)))))

pub message_field : IsField message_at bytes_of IsInRange
unfolding message_at
message_field = choice_field Kind kinds bytes_of IsInRange kind_cases (λ m fits. chosen m.from m.to m.body fits)
