use Rattle.std.proofs.Common.{List, [], ◌∙◌, ap, sym, subst}
use Rattle.tp_base.specs.declared.names.ActorName.{ActorName}
use Rattle.tp_base.specs.declared.names.ActorName.TheVariants.{Process, Executor}
use Rattle.tp_rules.proofs.Journals.{run_none}
use Rattle.tp_rules.specs.Runs.{IsRun}
use Rattle.tp_rules.specs.declared.event.Entry.{Entry}
use Rattle.tp_shared.specs.Known.{Known}
use Rattle.tp_shared_tests.specs.Small.{session_name, site}
use Rattle.tp_turns.proofs.Kept.{Has, all_joined, has_kept, has_listed}
use Rattle.tp_turns.proofs.turns.in_turn.Goals as goal

pub begin-requires : goal.begin-requires
begin-requires g c = record { run = subst (λ (l : List Entry). IsRun c.args.script.now l) (sym c.new.ensures) (run_none c.args.script.now) }

pub close-requires-clause-all : goal.close-requires-clause-all
close-requires-clause-all g c =
    let a = session_name 1 in
    let b = session_name 2 in
    let p : ActorName = Process site in
    let e : ActorName = Executor site in
    let first : Known = c.in-Ok.first in
    let left = c.worked-a.result.0 in
    let right = c.worked-a.result.1 in
    let one = c.worked-a.ensures.sessions in
    let two = c.worked-a.ensures.others in
    let begun : Has [] [] first = record {
      listed_is = ap (λ (k : Known). k.listed) c.in-Ok.ensures.begun;
      kept_is = ap (λ (k : Known). k.kept) c.in-Ok.ensures.begun;
    } in
    let l1 = has_listed [] [] first c.split-a.new.self a begun c.split-a.ensures.left in
    let l2 = has_listed _ [] c.split-a.new.self c.split-b.new.self b l1 c.split-b.ensures.left in
    let l3 = has_listed _ [] c.split-b.new.self c.split-c.new.self p l2 c.split-c.ensures.left in
    let l4 = has_listed _ [] c.split-c.new.self c.split-d.new.self e l3 c.split-d.ensures.left in
    let k1 = has_kept _ [] c.split-d.new.self c.join.new.self left.0 a l4 c.join.ensures.same (one.0.actor ∙ ap (λ (k : Known). k.actor) c.split-a.ensures.right) in
    let k2 = has_kept _ _ c.join.new.self c.join-2.new.self left.1 b k1 c.join-2.ensures.same (one.1.actor ∙ ap (λ (k : Known). k.actor) c.split-b.ensures.right) in
    let k3 = has_kept _ _ c.join-2.new.self c.join-3.new.self right.0 p k2 c.join-3.ensures.same (two.0.actor ∙ ap (λ (k : Known). k.actor) c.split-c.ensures.right) in
    let k4 = has_kept _ _ c.join-3.new.self c.join-4.new.self right.1 e k3 c.join-4.ensures.same (two.1.actor ∙ ap (λ (k : Known). k.actor) c.split-d.ensures.right) in
    all_joined a b p e left.0.own left.1.own right.0.own right.1.own c.join-4.new.self c.hold.new.self k4 c.hold.ensures.held
