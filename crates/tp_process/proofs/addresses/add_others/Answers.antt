use Rattle.std.proofs.Common.{◌≡◌, ◌-◌, ◌∙◌, sym, arith}
use Rattle.tp_process.proofs.Rows.{kept-more, kept-same}
use Rattle.tp_process.proofs.addresses.add_others.Goals as goal
use Rattle.tp_process.proofs.addresses.add_others.Goals.{then-ne+in_ok-add, else-ne}

pub loop-rank-preserved : goal.loop-rank-preserved
loop-rank-preserved c = elim c.if-ne.branch [
  | then-ne+in_ok-add w ↦
      kept-more _ _ _ _ _ _ c.loop-rank.auto.rank (sym c.ne.ensures ∙ w.if-ne.true) c.loop-rank.invariant (w.names-is ∙ w.in_ok-add.ensures.added)
  | else-ne w ↦
      kept-same _ _ _ _ _ _ c.loop-rank.auto.rank (sym c.ne.ensures ∙ w.if-ne.false) c.loop-rank.invariant w.names-is
]

pub returns : goal.returns
returns c = let all : c.loop-rank.rank - 1 ≡ c.args.place.now.topology.replicas = omega arith in rw all at c.loop-rank.invariant
