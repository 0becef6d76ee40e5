use Rattle.std.proofs.Common.{List, ◌∙◌, ap, sym, subst}
use Rattle.tp_rules.proofs.Journals.{run_none}
use Rattle.tp_rules.specs.Runs.{IsRun}
use Rattle.tp_rules.specs.declared.event.Entry.{Entry}
use Rattle.tp_base.specs.declared.names.ActorName.TheVariants.{Process, Executor}
use Rattle.tp_shared.specs.Known.{Known}
use Rattle.tp_shared_tests.proofs.Legal.{joined_between}
use Rattle.tp_shared_tests.specs.Small.{site}
use Rattle.tp_shared_tests.proofs.crash.after_a_crash.Goals as goal

pub begin-requires : goal.begin-requires
begin-requires g c = record { run = subst (λ (l : List Entry). IsRun c.args.script.now l) (sym c.new.ensures) (run_none c.args.script.now) }

pub close-requires-clause-all : goal.close-requires-clause-all
close-requires-clause-all g c =
    let process = c.in_ok-process.process in
    let executor = c.deliver-executor.result.0 in
    joined_between c.in-Ok.first c.split-process.new.self c.split-executor.new.self c.join.new.self c.join-2.new.self c.hold.new.self process executor
    c.hold.new.self.seen (Process site) (Executor site) (ap (λ (k : Known). k.listed) c.in-Ok.ensures.begun) (ap (λ (k : Known). k.kept) c.in-Ok.ensures.begun)
    c.split-process.ensures.left c.join.ensures.same c.split-executor.ensures.left c.join-2.ensures.same c.hold.ensures.held
    (c.in_ok-process.ensures.same.actor ∙ ap (λ (k : Known). k.actor) c.split-process.ensures.right)
    (c.deliver-executor.ensures.actor ∙ ap (λ (k : Known). k.actor) c.split-executor.ensures.right)
