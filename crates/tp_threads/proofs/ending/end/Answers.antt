use Rattle.std.proofs.Common.{List, ap, subst, sym, ◌≡◌, ◌∙◌}
use Rattle.tp_base.specs.Lists.{IsIn}
use Rattle.tp_base.specs.declared.names.ActorName.{ActorName}
use Rattle.tp_rules.specs.declared.event.Entry.{Entry}
use Rattle.tp_rules.specs.Runs.{IsRun}
use Rattle.tp_script.specs.declared.script.Script.{Script}
use Rattle.tp_shared.specs.Known.{Known}
use Rattle.tp_shared.specs.declared.view.Start.{Start}
use Rattle.tp_threads.proofs.Joining.{is_part}
use Rattle.tp_threads.proofs.Resting.{all_done}
use Rattle.tp_threads.proofs.ending.end.Goals as goal
use Rattle.tp_threads.specs.Threads.{IsOneSeen, IsPartOf}
use Rattle.tp_worker.specs.Cells.{IsCell, Worker}

pub returns : goal.returns
returns g c =
    let all = c.join_all-spent.ensures in
    let first = c.join_all-spent.new.first in
    let held = c.hold.ensures.held in
    let same : c.close.result ≡ c.hold.new.self.seen = c.close.ensures.same in
    let settled : c.hold.new.self.seen ≡ first.seen = c.hold.ensures.settled (all.first.actor ∙ c.requires.first.actor) all.all in
    let whole : first.seen ≡ c.close.result = sym (same ∙ settled) in
    let script_is : first.opening.script ≡ c.args.script.now = ap (λ (s : Start). s.script) all.first.opening ∙ c.requires.first.script in
    let run : IsRun c.args.script.now c.close.result =
    subst (λ (p : Script × List Entry). IsRun p.0 p.1) (λ i. (script_is i, sym same i)) c.hold.ensures.run in
    let opening = ap (λ (k : Known). k.opening.journal) held ∙ ap (λ (s : Start). s.journal) all.first.opening ∙ c.requires.first.opening in
    let own : (w : Worker g.row.A.Denot) → IsIn w c.args.cells.items → (name : ActorName) × IsCell g.A.Actor.identity_of g.A.Actor.is_spent g.A.Actor.stands name w × IsPartOf w name c.close.result =
    λ w h. is_part g.A.Actor.identity_of g.A.Actor.is_spent g.A.Actor.stands w first c.hold.new.self c.close.result (all.joined w h)
    (ap (λ (k : Known). k.kept) held) opening whole c.close.ensures.whole in
    let one = subst (IsOneSeen c.args.first.seen c.args.cells.items) whole all.one in
    record {
      run = run;
      own = own;
      one = one;
      spent = all.spent;
      quiet = λ e. all_done g.A.Actor.identity_of g.A.Actor.is_spent g.A.Actor.stands c.args.script.now c.args.shared c.args.first c.args.cells.items c.close.result
          c.requires.accepted run c.requires.all c.requires.cells c.requires.empty own one (all.spent e) (c.requires.done (all.spent e));
    }
