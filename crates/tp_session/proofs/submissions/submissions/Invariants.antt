use Rattle.std.proofs.Common.{◌≡◌, map}
use Rattle.std.specs.Prelude.{filter}
use Rattle.tp_base.specs.declared.names.ActorName.TheVariants.{Process, Session}
use Rattle.tp_ops.specs.Parts.{is_accessed}
use Rattle.tp_rules.specs.Addresses.{site, to_each}
use Rattle.tp_topology.specs.Counting.{up_to}
use Rattle.tp_wire.specs.declared.message.Body.TheVariants.{MSubmit}
use Rattle.tp_session.proofs.submissions.submissions.Given as goal

abbrev pub invariant-loop-i : goal.invariant-loop-i
invariant-loop-i l =
    l.outputs ≡ to_each (Session l.id) (map (λ p. Process (site p l.home.0)) (filter (is_accessed l.topology.partitions l.command) (up_to l.i))) (MSubmit l.command)
