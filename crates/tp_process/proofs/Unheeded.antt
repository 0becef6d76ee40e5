-- What a process has no rule for.
use Rattle.std.proofs.Common.{◌≡◌, ℕ, true, false, Bool, cond, [], refl, ap, ◌∙◌}
use Rattle.tp_base.specs.declared.names.ActorName.{ActorName}
use Rattle.tp_base.specs.declared.names.CommandId.{CommandId}
use Rattle.tp_base.specs.declared.names.Made.{Made}
use Rattle.tp_base.specs.declared.names.PartitionId.{PartitionId}
use Rattle.tp_base.specs.declared.names.Site.{Site}
use Rattle.tp_base.specs.declared.names.Stamp.{Stamp}
use Rattle.tp_ops.specs.declared.command.Command.{Command}
use Rattle.tp_rules.specs.Process.{Step, ProcessState, on_body, on_message}
use Rattle.tp_rules.specs.Sheet.{QuorumRule}
use Rattle.tp_wire.specs.declared.message.Body.{Body}
use Rattle.tp_wire.specs.declared.message.Body.TheVariants.{MSubmit, MPropose, MPayload, MProposeAck, MBump, MConsensus, MConsensusAck, MCommit, MRec, MRecAck, MPromises, MCommitted, MStable, MResult}
use Rattle.tp_wire.specs.declared.message.Message.{Message}

no_rule : (quorum_rule : QuorumRule) (me : Site) (from : ActorName) (body : Body) (s : ProcessState)
    → ((c : Command) → body ≡ MSubmit c → ⊥) → ((c : Command) (t : Stamp) → body ≡ MPropose c t → ⊥) → ((c : Command) → body ≡ MPayload c → ⊥)
    → ((id : CommandId) (t : Stamp) → body ≡ MProposeAck id t → ⊥) → ((id : CommandId) (t : Stamp) → body ≡ MBump id t → ⊥)
    → ((c : Command) (t : Stamp) (ballot : ℕ) → body ≡ MConsensus c t ballot → ⊥) → ((id : CommandId) (ballot : ℕ) → body ≡ MConsensusAck id ballot → ⊥)
    → ((c : Command) (q : PartitionId) (t : Stamp) → body ≡ MCommit c q t → ⊥) → ((c : Command) (ballot : ℕ) → body ≡ MRec c ballot → ⊥)
    → ((id : CommandId) (t : Stamp) (made : Made) (accepted ballot : ℕ) → body ≡ MRecAck id t made accepted ballot → ⊥)
    → on_body quorum_rule me from body s ≡ (s, [])
no_rule quorum_rule me from (MSubmit c) s a b d e f g h i j k = absurd (a c refl)
no_rule quorum_rule me from (MPropose c t) s a b d e f g h i j k = absurd (b c t refl)
no_rule quorum_rule me from (MPayload c) s a b d e f g h i j k = absurd (d c refl)
no_rule quorum_rule me from (MProposeAck id t) s a b d e f g h i j k = absurd (e id t refl)
no_rule quorum_rule me from (MBump id t) s a b d e f g h i j k = absurd (f id t refl)
no_rule quorum_rule me from (MConsensus c t ballot) s a b d e f g h i j k = absurd (g c t ballot refl)
no_rule quorum_rule me from (MConsensusAck id ballot) s a b d e f g h i j k = absurd (h id ballot refl)
no_rule quorum_rule me from (MCommit c q t) s a b d e f g h i j k = absurd (i c q t refl)
no_rule quorum_rule me from (MRec c ballot) s a b d e f g h i j k = absurd (j c ballot refl)
no_rule quorum_rule me from (MRecAck id t made accepted ballot) s a b d e f g h i j k = absurd (k id t made accepted ballot refl)
no_rule quorum_rule me from (MPromises lo hi pairs) s a b d e f g h i j k = refl
no_rule quorum_rule me from (MCommitted c t) s a b d e f g h i j k = refl
no_rule quorum_rule me from (MStable id) s a b d e f g h i j k = refl
no_rule quorum_rule me from (MResult id q answers) s a b d e f g h i j k = refl

pub both_same : {X : Type 0} (b : Bool) (x : X) → cond b x x ≡ x
both_same true x = refl
both_same false x = refl

-- a step that changes nothing
idle : (taken room : Bool) (moved : Step) (s : ProcessState) → moved ≡ (s, []) → cond {A = Step} taken (cond {A = Step} room moved (s, [])) (s, []) ≡ (s, [])
idle taken room moved s e =
    ap (λ (m : Step). cond {A = Step} taken (cond {A = Step} room m (s, [])) (s, [])) e
    ∙ ap (λ (m : Step). cond {A = Step} taken m (s, [])) (both_same {X = Step} room (s, []))
    ∙ both_same {X = Step} taken (s, [])

pub unheeded : (quorum_rule : QuorumRule) (me : Site) (m : Message) (s : ProcessState)
    → ((c : Command) → m.body ≡ MSubmit c → ⊥) → ((c : Command) (t : Stamp) → m.body ≡ MPropose c t → ⊥) → ((c : Command) → m.body ≡ MPayload c → ⊥)
    → ((id : CommandId) (t : Stamp) → m.body ≡ MProposeAck id t → ⊥) → ((id : CommandId) (t : Stamp) → m.body ≡ MBump id t → ⊥)
    → ((c : Command) (t : Stamp) (ballot : ℕ) → m.body ≡ MConsensus c t ballot → ⊥) → ((id : CommandId) (ballot : ℕ) → m.body ≡ MConsensusAck id ballot → ⊥)
    → ((c : Command) (q : PartitionId) (t : Stamp) → m.body ≡ MCommit c q t → ⊥) → ((c : Command) (ballot : ℕ) → m.body ≡ MRec c ballot → ⊥)
    → ((id : CommandId) (t : Stamp) (made : Made) (accepted ballot : ℕ) → m.body ≡ MRecAck id t made accepted ballot → ⊥)
    → on_message quorum_rule me m s ≡ (s, [])
unheeded quorum_rule me m s a b d e f g h i j k = idle _ _ (on_body quorum_rule me m.from m.body s) s (no_rule quorum_rule me m.from m.body s a b d e f g h i j k)
