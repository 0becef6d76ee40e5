use Rattle.std.proofs.Common.{subst, sym}
use Rattle.tp_gen.proofs.Accepting.{accepted}
use Rattle.tp_gen.proofs.Making.{script_is, shape_taken}
use Rattle.tp_gen.proofs.generator.gen_script.Goals as goal
use Rattle.tp_script.specs.Accepted.{IsAccepted}

pub returns-clause-script : goal.returns-clause-script
returns-clause-script c =
    script_is c.args.n c.unwrap.result c.in_ok-homes.field-0 c.in_ok-commands.field-0 c.new-2.result c.in_ok-picks.field-0
    (shape_taken c.new.result c.unwrap.result c.unwrap.ensures c.new.ensures.shape)
    c.in_ok-homes.ensures c.in_ok-commands.ensures c.new-2.ensures c.in_ok-picks.ensures

pub returns-clause-accepted : goal.returns-clause-accepted
returns-clause-accepted c = subst IsAccepted (sym (returns-clause-script c)) (accepted c.args.n)
