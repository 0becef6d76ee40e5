-- Each message that a free run of an accepted script sends is in the ranges of the wire format, so it has bytes, and goes to an
-- actor of the script.
use Rattle.std.proofs.Common.{◌≡◌, true, List, subst}
use Rattle.std.proofs.lemmas.List.{reverse-reverse}
use Rattle.std.specs.Prelude.{reverse}
use Rattle.tp_base.proofs.Each.{each_weaker}
use Rattle.tp_base.specs.Lists.{Each}
use Rattle.tp_base.specs.declared.names.ActorName.TheVariants.{Process, Executor, Session}
use Rattle.tp_rules.proofs.sent.EachSent.{HandsOn, history_passes, sent_passes}
use Rattle.tp_rules.proofs.fit.Messages.{IsFit}
use Rattle.tp_rules.proofs.fit.Executors.{executor_fit, executor_sound}
use Rattle.tp_rules.proofs.fit.Choices.{HasFastSize, ring_has_fast_size}
use Rattle.tp_rules.proofs.fit.Rules.{process_fit, process_sound}
use Rattle.tp_rules.proofs.fit.Sessions.{session_fit}
use Rattle.tp_rules.proofs.lists.Selections.{each_turned}
use Rattle.tp_rules.specs.Executor as executor
use Rattle.tp_rules.specs.Journal.{client_of, is_known, sent}
use Rattle.tp_rules.specs.Process as process
use Rattle.tp_rules.specs.Session as session
use Rattle.tp_rules.specs.Runs.{AreInRange, IsFreeHistory, IsFreeRun}
use Rattle.tp_rules.specs.Sheet.{QuorumRule, ring_rule}
use Rattle.tp_rules.specs.declared.event.Entry.{Entry}
use Rattle.tp_rules.specs.declared.event.Parcel.{Parcel}
use Rattle.tp_script.specs.Accepted.{IsAccepted}
use Rattle.tp_script.specs.declared.script.Script.{Script}
use Rattle.tp_wire.specs.Ranges.{IsInRange}

module _ (script : Script) (accepted : IsAccepted script) where
  pub fit_handed_on : HandsOn script (IsFit script)
  fit_handed_on (Process me) before act known took takes =
      let quorum_rule : QuorumRule = ring_rule script.topology in
      let sized : HasFastSize quorum_rule = ring_has_fast_size script.topology accepted.shape in
      (process_fit script accepted quorum_rule.in_quorum sized me known act (process.state_after quorum_rule me before) takes
      (process_sound script accepted quorum_rule.in_quorum sized me known before took)).1
  fit_handed_on (Executor me) before act known took takes =
      (executor_fit script accepted me known act (executor.state_after script.topology me before) takes
      (executor_sound script accepted me known before took)).1
  fit_handed_on (Session s) before act known took takes =
      session_fit script accepted s known act (session.state_after script.topology (client_of script s) before)

  pub sent_fit : (older : List Entry) → IsFreeHistory script older → Each (λ parcel. IsFit script parcel.message) (sent older)
  sent_fit older history = sent_passes script (IsFit script) older (history_passes script (IsFit script) fit_handed_on older history)

  pub sent_in_range : (older : List Entry) → IsFreeHistory script older → Each (λ parcel. IsInRange parcel.message) (sent older)
  sent_in_range older history =
      each_weaker (λ (parcel : Parcel). IsFit script parcel.message) (λ parcel. IsInRange parcel.message) (λ parcel fit. fit.range)
      (sent older) (sent_fit older history)

  pub sent_known : (older : List Entry) → IsFreeHistory script older → Each (λ parcel. is_known script parcel.message.to ≡ true) (sent older)
  sent_known older history =
      each_weaker (λ (parcel : Parcel). IsFit script parcel.message) (λ parcel. is_known script parcel.message.to ≡ true) (λ parcel fit. fit.known)
      (sent older) (sent_fit older history)

  -- the same of a journal in its own order
  pub run_in_range : (journal : List Entry) → IsFreeRun script journal → AreInRange journal
  unfolding IsFreeRun
  run_in_range journal run =
      let fits : Each (λ e. Each (IsFit script) e.outputs) (reverse journal) = history_passes script (IsFit script) fit_handed_on (reverse journal) run in
      each_weaker (λ (e : Entry). Each (IsFit script) e.outputs) (λ e. Each IsInRange e.outputs)
      (λ e fit. each_weaker (IsFit script) IsInRange (λ m f. f.range) e.outputs fit)
      journal
      (subst (Each (λ (e : Entry). Each (IsFit script) e.outputs)) (reverse-reverse journal)
      (each_turned (λ (e : Entry). Each (IsFit script) e.outputs) (reverse journal) fits))
