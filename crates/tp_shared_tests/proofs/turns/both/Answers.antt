use Rattle.std.proofs.Common.{List, ◌∙◌, ap, sym, subst}
use Rattle.tp_rules.proofs.Journals.{run_none}
use Rattle.tp_rules.specs.Runs.{IsRun}
use Rattle.tp_rules.specs.declared.event.Entry.{Entry}
use Rattle.tp_shared.specs.Known.{Known}
use Rattle.tp_shared_tests.proofs.Legal.{joined_after}
use Rattle.tp_shared_tests.specs.Small.{session_name}
use Rattle.tp_shared_tests.proofs.turns.both.Goals as goal

pub begin-requires : goal.begin-requires
begin-requires g c = record { run = subst (λ (l : List Entry). IsRun c.args.script.now l) (sym c.new.ensures) (run_none c.args.script.now) }

pub close-requires-clause-all : goal.close-requires-clause-all
close-requires-clause-all g c =
    let left = c.together-left.result.0 in
    let right = c.together-left.result.1 in
    let same = c.together-left.ensures in
    joined_after c.in-Ok.first c.split-left.new.self c.split-right.new.self c.join.new.self c.join-2.new.self c.hold.new.self left right c.hold.new.self.seen
    (session_name 1) (session_name 2) (ap (λ (k : Known). k.listed) c.in-Ok.ensures.begun) (ap (λ (k : Known). k.kept) c.in-Ok.ensures.begun)
    c.split-left.ensures.left c.split-right.ensures.left c.join.ensures.same c.join-2.ensures.same c.hold.ensures.held
    (same.0.actor ∙ ap (λ (k : Known). k.actor) c.split-left.ensures.right) (same.1.actor ∙ ap (λ (k : Known). k.actor) c.split-right.ensures.right)
