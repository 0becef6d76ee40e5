use Rattle.std.proofs.Common.{List, subst, ◌∷◌, take}
use Rattle.std.specs.Prelude.{reverse}
use Rattle.tp_print.proofs.Recording.{reverse_more}
use Rattle.tp_print.specs.Outcomes.{IsOutcome}
use Rattle.tp_rules.specs.declared.event.Entry.{Entry}
use Rattle.tp_print.proofs.outcome.outcome_of.Goals as goal

pub loop-i-preserved : goal.loop-i-preserved
loop-i-preserved c =
    reverse_more (λ (older : List Entry). IsOutcome older c.note.new.self) c.args.entries.now c.loop-i.i
    c.index-entries-i.result c.loop-i-test.true
    (subst (λ (e : Entry). IsOutcome (e ∷ reverse (take c.loop-i.i c.args.entries.now)) c.note.new.self)
    c.index-entries-i.is
    (c.in_ok-note.ensures c.loop-i.invariant))
