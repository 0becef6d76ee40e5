-- What the facts of a process say of a message that it sent, kind by kind.
-- Used by the crates above, who know a message and want what its sender keeps.
use Rattle.std.proofs.Common.{◌≡◌, ℕ, ◌<◌, ◌≤◌, ◌⊎◌, List, Some, refl, sym, subst}
use Rattle.tp_base.proofs.Each.{each_in}
use Rattle.tp_base.specs.Lists.{IsIn}
use Rattle.tp_base.specs.declared.names.ActorName.TheVariants.{Process}
use Rattle.tp_base.specs.declared.names.CommandId.{CommandId}
use Rattle.tp_base.specs.declared.names.Made.{Made}
use Rattle.tp_base.specs.declared.names.Pair.{Pair}
use Rattle.tp_base.specs.declared.names.Site.{Site}
use Rattle.tp_base.specs.declared.names.Stamp.{Stamp}
use Rattle.tp_ops.specs.declared.command.Command.{Command}
use Rattle.tp_rules.specs.Acts.{Act}
use Rattle.tp_rules.specs.Process.{ProcessState}
use Rattle.tp_rules.specs.Sheet.{Proposed, QuorumRule}
use Rattle.tp_topology.specs.Stability.{attached_to}
use Rattle.tp_wire.specs.declared.message.Body.{Body}
use Rattle.tp_wire.specs.declared.message.Body.TheVariants.{MConsensus, MConsensusAck, MRecAck, MPromises}
use Rattle.tp_wire.specs.declared.message.Message.{Message}
use Rattle.tp_facts.proofs.Facts.{IsAnswer, IsOwn, IsPut, IsTrue, IsTrueNow, ProcessFacts, PutsSame, TellsPromises, VotesOutside}
use Rattle.tp_facts.proofs.Promises.{owner_of}

module _ {s : QuorumRule} {me : Site} {of : CommandId
    → Command} {acts : List Act} {sent : List Message} {state : ProcessState}
    (h : ProcessFacts s me of acts sent state) where
  -- what a message of a kind says is so
  pub said_of : (m : Message) (body : Body) → IsIn m sent → m.body ≡ body
      → (id : CommandId) × IsTrue s me of acts sent id (state.sheets id) body
  said_of m body there is = subst (λ (b : Body). (id : CommandId) × IsTrue s me of acts sent id (state.sheets id) b) is
      (each_in (IsTrueNow s me of acts sent state.sheets) sent m h.said there)

  pub sender : (m : Message) → IsIn m sent → m.from ≡ Process me
  sender m there = (each_in (IsOwn me state.told state.attached) sent m h.own there).0

  -- the stamp of a proposal is a promise that its command owns
  pub owner_of_proposal : (id : CommandId) (q : Proposed) → (state.sheets id).proposal ≡ Some q
      → attached_to state.attached q.stamp ≡ Some id
  owner_of_proposal id q some = owner_of state.clock state.attached _ h.promises (h.attached id q some)

  pub answer_of : (m : Message) (id : CommandId) (x : Stamp) (made : Made) (a b : ℕ) → IsIn m sent
      → m.body ≡ MRecAck id x made a b → IsAnswer s of acts sent id (state.sheets id) x.0 made a b
  answer_of m id x made a b there is =
      let t = said_of m (MRecAck id x made a b) there is in
      subst (λ (i : CommandId). IsAnswer s of acts sent i (state.sheets i) x.0 made a b) (sym t.1.0) t.1.1

  pub put_of : (m : Message) (c : Command) (t : Stamp) (b : ℕ) → IsIn m sent → m.body ≡ MConsensus c t b
      → IsPut s me of acts sent c.id (state.sheets c.id) t.0 b
  put_of m c t b there is =
      let p = said_of m (MConsensus c t b) there is in
      subst (λ (i : CommandId). IsPut s me of acts sent i (state.sheets i) t.0 b) (sym p.1.0) p.1.1

  -- one stamp is put at a ballot
  pub one_stamp : (m n : Message) (c d : Command) (t u : Stamp) (b : ℕ) → IsIn m sent → IsIn n sent
      → m.body ≡ MConsensus c t b → n.body ≡ MConsensus d u b → c.id ≡ d.id → u.0 ≡ t.0
  one_stamp m n c d t u b here there e f same =
      let alone = each_in (λ (k : Message). PutsSame c.id t.0 b k.body) sent n (put_of m c t b here e).alone there in
      subst (λ (body : Body). PutsSame c.id t.0 b body) f alone (sym same) refl

  -- no vote is between what was accepted and the ballot of an answer
  pub no_vote_between : (m n : Message) (id : CommandId) (x : Stamp) (made : Made) (a b v : ℕ) → IsIn m sent
      → IsIn n sent → m.body ≡ MRecAck id x made a b → n.body ≡ MConsensusAck id v → (v ≤ a) ⊎ (b ≤ v)
  no_vote_between m n id x made a b v here there e f =
      let gap =
      each_in (λ (k : Message). VotesOutside id a b k.body) sent n (answer_of m id x made a b here e).gap there in
      subst (λ (body : Body). VotesOutside id a b body) f gap refl

  -- an announcement gives each promise in its range the owner that it has
  pub telling_of : (m : Message) (lo hi n : ℕ) (pairs : List Pair) → IsIn m sent → m.body ≡ MPromises lo hi pairs
      → lo < n → n ≤ hi → (hi ≤ state.told) × (attached_to pairs n ≡ attached_to state.attached n)
  telling_of m lo hi n pairs there is above within =
      let own = each_in (IsOwn me state.told state.attached) sent m h.own there in
      let t : TellsPromises state.told state.attached (MPromises lo hi pairs) =
      subst (TellsPromises state.told state.attached) is own.1 in
      (t.0, t.1 n above within)
