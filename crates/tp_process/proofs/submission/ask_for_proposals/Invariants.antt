use Rattle.std.proofs.Common.{◌≡◌, ◌-◌, ◌++◌, map}
use Rattle.std.specs.Prelude.{◌==◌, cond, filter, not}
use Rattle.tp_base.specs.declared.names.ActorName.TheVariants.{Process}
use Rattle.tp_rules.specs.Addresses.{message, site}
use Rattle.tp_topology.specs.Counting.{up_to}
use Rattle.tp_topology.specs.Shape.{in_ring}
use Rattle.tp_wire.specs.declared.message.Body.TheVariants.{MPropose, MPayload}
use Rattle.tp_process.proofs.submission.ask_for_proposals.Given as goal

abbrev pub invariant-loop-number : goal.invariant-loop-number
invariant-loop-number l =
    l.outputs ≡ l.fn.outputs
    ++ map (λ rank. message (Process l.place.site) (Process (site l.place.site.partition.0 rank)) (cond (in_ring l.place.topology l.command.home.0 rank) (MPropose l.command l.stamp) (MPayload l.command)))
    (filter (λ rank. not (rank == l.place.site.rank.0)) (up_to (l.number - 1)))
