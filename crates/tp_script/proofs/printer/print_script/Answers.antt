use Rattle.std.proofs.Common.{◌∙◌}
use Rattle.tp_script.proofs.ScriptLaws.{text_is}
use Rattle.tp_script.proofs.printer.print_script.Goals as goal

pub returns : goal.returns
returns c =
    let script = c.args.script.now in
    let sessions = rw c.as_slice.ensures at c.in_ok-put_sessions.ensures in
    let commands = rw c.as_slice-2.ensures at c.in_ok-put_commands.ensures in
    let plan = rw c.as_slice-3.ensures at c.in_ok-put_plan.ensures in
    let picks = rw c.as_slice-4.ensures at c.in_ok-put_picks.ensures in
    c.finish.ensures ∙ text_is script c.new-text.result c.header.new.self c.put_shape.new.text c.put_sessions.new.text c.put_commands.new.text c.put_plan.new.text c.put_picks.new.text c.end.new.self (record {
      start = c.new-text.ensures;
      header = c.in_ok-header.ensures;
      shape = c.in_ok-put_shape.ensures;
      sessions = sessions;
      commands = commands;
      plan = plan;
      picks = picks;
      end = c.in_ok-end.ensures;
    })
