use Rattle.std.proofs.Common.{◌≡◌, [], refl, sym, ap, subst, ◌∙◌}
use Rattle.tp_process.proofs.Unheeded.{unheeded}
use Rattle.tp_process.specs.State.{IsState}
use Rattle.tp_rules.specs.Process.{Step, ProcessState, on_message}
use Rattle.tp_rules.specs.Sheet.{ring_rule}
use Rattle.tp_process.proofs.process.Process.take.Goals as goal

pub returns-in_default : goal.returns-in_default
returns-in_default c =
    let p = c.args.self.now in
    let others = c.in_default in
    let idle : (s : ProcessState) → on_message (ring_rule p.place.topology) p.place.site c.args.message.now s ≡ (s, []) =
    λ s. unheeded (ring_rule p.place.topology) p.place.site c.args.message.now s others.not-MSubmit others.not-MPropose others.not-MPayload others.not-MProposeAck others.not-MBump others.not-MConsensus others.not-MConsensusAck others.not-MCommit others.not-MRec others.not-MRecAck in
    record {
      identity = refl;
      outputs = λ s stands range. c.nothing-in_default.ensures ∙ ap (λ (m : Step). m.1) (sym (idle s));
      state = λ s stands range. subst (λ (m : Step). IsState p m.0) (sym (idle s)) stands;
    }
