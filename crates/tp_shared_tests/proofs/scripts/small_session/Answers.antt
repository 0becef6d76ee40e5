use Rattle.std.proofs.Common.{length, ap, arith}
use Rattle.std.specs.Prelude.{◌==◌}
use Rattle.tp_base.proofs.Tests.{filter_length}
use Rattle.tp_shared_tests.proofs.scripts.small_session.Goals as goal

pub new-requires : goal.new-requires
new-requires c = record {
  few = omega (arith, c.requires.small.1, filter_length (λ k. k.id.session.0 == c.args.n) c.args.script.now.commands, ap length c.in_ok-commands.ensures);
}
