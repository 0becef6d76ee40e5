-- The facts of each process in each free run of an accepted script, and what those of two processes say together.
-- Used by the crates above for the processes of a journal.
use Rattle.std.proofs.Common.{◌≡◌, true, List, arith}
use Rattle.std.proofs.Common.{◌≡◌, ℕ, inl, inr, true, List, sym, ◌∙◌, subst, arith}
use Rattle.std.proofs.lemmas.Bool.{cases_lt}
use Rattle.tp_base.proofs.Each.{each_weaker}
use Rattle.tp_base.proofs.SameNames.{same_site_is}
use Rattle.tp_base.specs.Lists.{Each, IsIn}
use Rattle.tp_base.specs.Lists.{IsIn}
use Rattle.tp_base.specs.Names.{same_site}
use Rattle.tp_base.specs.declared.names.ActorName.TheVariants.{Process}
use Rattle.tp_base.specs.declared.names.ActorName.{ActorName}
use Rattle.tp_base.specs.declared.names.CommandId.{CommandId}
use Rattle.tp_base.specs.declared.names.Site.{Site}
use Rattle.tp_base.specs.declared.names.Stamp.{Stamp}
use Rattle.tp_ops.specs.declared.command.Command.{Command}
use Rattle.tp_rules.proofs.sent.CarriedCommands.{Carries}
use Rattle.tp_rules.proofs.sent.EachSent.{acts_pass, history_passes}
use Rattle.tp_rules.proofs.fit.Messages.{IsBodyOf, IsFit, IsFitAct, site_is}
use Rattle.tp_rules.proofs.fit.InRange.{fit_handed_on}
use Rattle.tp_rules.specs.Acts.{Act, Took, Did}
use Rattle.tp_rules.specs.Journal.{acts, IsSent}
use Rattle.tp_rules.specs.Journal.{acts}
use Rattle.tp_rules.specs.Process.{state_after}
use Rattle.tp_rules.specs.Runs.{IsFreeHistory}
use Rattle.tp_rules.specs.Sheet.{ring_rule}
use Rattle.tp_rules.specs.declared.event.Entry.{Entry}
use Rattle.tp_script.specs.Accepted.{IsAccepted}
use Rattle.tp_script.specs.declared.script.Script.{Script}
use Rattle.tp_topology.specs.Shape.{IsShape, is_site_of}
use Rattle.tp_wire.specs.Ranges.{IsBody}
use Rattle.tp_wire.specs.declared.message.Body.TheVariants.{MConsensus}
use Rattle.tp_wire.specs.declared.message.Body.TheVariants.{MSubmit, MPropose, MPayload, MConsensus, MCommit, MRec, MRecAck, MCommitted}
use Rattle.tp_wire.specs.declared.message.Body.{Body}
use Rattle.tp_wire.specs.declared.message.Message.{Message}
use Rattle.tp_facts.proofs.Consequences.{one_stamp, put_of}
use Rattle.tp_facts.proofs.Facts.{HasBallot, IsGenuine, IsHere, ProcessFacts, sent_by}
use Rattle.tp_facts.proofs.Invariant.{facts_hold}
use Rattle.tp_facts.proofs.Senders.{sent_by_process}

-- each command of the script is the one of its identifier
abbrev pub NamesCommands : Script → (CommandId → Command) → Type 0
NamesCommands script of = (c : Command) → IsIn c script.commands → c ≡ of c.id

-- the facts of a process at the end of a journal
abbrev pub FactsAt : Script → (CommandId → Command) → List Entry → Site → Type 0
FactsAt script of older me = ProcessFacts (ring_rule script.topology) me of (acts older (Process me))
    (sent_by (ring_rule script.topology) me (acts older (Process me)))
    (state_after (ring_rule script.topology) me (acts older (Process me)))

-- what goes about in a run is genuine: it carries commands of the script, and ballots in range

body_genuine : (script : Script) (of : CommandId → Command) → NamesCommands script of
    → (from to : ActorName) (body : Body) → IsBody from to body → IsBodyOf script body
    → Carries (λ c. c ≡ of c.id) body × HasBallot body
body_genuine script of one from to (MSubmit c) range ours = (one c ours, tt)
body_genuine script of one from to (MPropose c floor) range ours = (one c ours, tt)
body_genuine script of one from to (MPayload c) range ours = (one c ours, tt)
body_genuine script of one from to (MConsensus c t b) range ours = (one c ours, range.4.0)
body_genuine script of one from to (MCommit c q t) range ours = (one c ours, tt)
body_genuine script of one from to (MRec c b) range ours = (one c ours, tt)
body_genuine script of one from to (MRecAck id t made a b) range ours = (tt, range.5.0)
body_genuine script of one from to (MCommitted c t) range ours = (one c ours, tt)
body_genuine script of one from to _ range ours = (tt, tt)

pub act_genuine : (script : Script) (of : CommandId → Command) → NamesCommands script of → (act : Act) → IsFitAct script act
    → IsGenuine of act
act_genuine script of one (Took m) fit = body_genuine script of one m.from m.to m.body fit.range fit.ours
act_genuine script of one (Did inner) fit = tt

pub site_here : (script : Script) (me : Site) → IsShape script.topology → is_site_of script.topology me ≡ true
    → IsHere (ring_rule script.topology) me
site_here script me shape is =
    let both = site_is script.topology me is in
    record { rank = both.1; partition = both.0; two = omega (arith, shape.some_replicas, shape.some_failure) }

module _ (script : Script) (of : CommandId → Command) (accepted : IsAccepted script) (one : NamesCommands script of)
    (older : List Entry) (history : IsFreeHistory script older) where
  -- the facts hold of each process of the script
  pub run_holds : (me : Site) → is_site_of script.topology me ≡ true → FactsAt script of older me
  run_holds me is =
      let passes = history_passes script (IsFit script) (fit_handed_on script accepted) older history in
      let fits : Each (IsFitAct script) (acts older (Process me)) =
      acts_pass script (IsFit script) older (Process me) passes in
      facts_hold (ring_rule script.topology) me of (site_here script me accepted.shape is) (acts older (Process me))
      (each_weaker (IsFitAct script) (IsGenuine of) (act_genuine script of one) (acts older (Process me)) fits)

  both_same : (j k : Site) → j.partition.0 ≡ k.partition.0 → j.rank.0 ≡ k.rank.0 → same_site j k ≡ true
  both_same j k p r = grind arith

  -- in one partition one stamp is put at a ballot
  pub one_put_per_ballot : (j k : Site) (m n : Message) (c d : Command) (t u : Stamp) (b : ℕ)
      → is_site_of script.topology j ≡ true → is_site_of script.topology k ≡ true
      → j.partition.0 ≡ k.partition.0 → IsSent older m → IsSent older n → m.from ≡ Process j → n.from ≡ Process k
      → m.body ≡ MConsensus c t b → n.body ≡ MConsensus d u b → c.id ≡ d.id → u.0 ≡ t.0
  one_put_per_ballot j k m n c d t u b at_j at_k same_partition m_sent n_sent from_j from_k e f same =
      let by_j = sent_by_process script older history j m m_sent from_j in
      let by_k = sent_by_process script older history k n n_sent from_k in
      let facts_k : FactsAt script of older k = run_holds k at_k in
      let put_j = put_of (run_holds j at_j) m c t b by_j e in
      let put_k = put_of facts_k n d u b by_k f in
      let rank : j.rank.0 ≡ k.rank.0 = elim (cases_lt script.topology.replicas b) [
        | inl high ↦ sym (put_j.later high).0 ∙ (put_k.later high).0
        | inr low ↦ sym (put_j.first low).0 ∙ (put_k.first low).0
      ] in
      let site : j ≡ k = same_site_is j k (both_same j k same_partition rank) in
      let by : IsIn m (sent_by (ring_rule script.topology) k (acts older (Process k))) =
      subst (λ (s : Site). IsIn m (sent_by (ring_rule script.topology) s (acts older (Process s)))) site by_j in
      one_stamp facts_k m n c d t u b by by_k e f same
