use Rattle.std.proofs.Common.{◌≡◌, ◌-◌, ◌∙◌, sym, arith}
use Rattle.tp_rules.specs.Process.{proposals}
use Rattle.tp_process.proofs.Rows.{passing-more, passing-same}
use Rattle.tp_process.proofs.submission.ask_for_proposals.Goals as goal
use Rattle.tp_process.proofs.submission.ask_for_proposals.Goals.{then-ne+in_ok-asking+in_ok-add, else-ne}

pub loop-number-preserved : goal.loop-number-preserved
loop-number-preserved c = elim c.if-ne.branch [
  | then-ne+in_ok-asking+in_ok-add w ↦
      let added = rw (w.name.ensures, w.in_ok-asking.ensures) at w.in_ok-add.ensures.added in
      passing-more _ _ _ _ _ _ c.loop-number.auto.number (sym c.ne.ensures ∙ w.if-ne.true) c.loop-number.invariant (w.outputs-is ∙ added)
  | else-ne w ↦
      passing-same _ _ _ _ _ _ c.loop-number.auto.number (sym c.ne.ensures ∙ w.if-ne.false) c.loop-number.invariant w.outputs-is
]

pub returns : goal.returns
unfolding proposals
returns c = let all : c.loop-number.number - 1 ≡ c.args.place.now.topology.replicas = omega arith in rw all at c.loop-number.invariant
