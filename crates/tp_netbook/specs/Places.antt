-- Where each site and each actor of a script stands among all, from 0.
use Rattle.std.specs.Prelude.{ℕ, ◌+◌, ◌-◌, ◌*◌, length}
use Rattle.tp_base.specs.declared.names.ActorName.{ActorName}
use Rattle.tp_base.specs.declared.names.ActorName.TheVariants.{Process, Executor, Session}
use Rattle.tp_base.specs.declared.names.Site.{Site}
use Rattle.tp_script.specs.declared.script.Script.{Script}
use Rattle.tp_topology.specs.Shape.{Shape}

-- the place of a site among all sites
abbrev pub place_of_site : Shape → Site → ℕ
place_of_site shape s = (s.partition.0 - 1) * shape.replicas + (s.rank.0 - 1)

-- the place of an actor among the script's: the sessions, the processes, the executors
abbrev pub place_of : Script → ActorName → ℕ
place_of script (Session s) = s.0 - 1
place_of script (Process s) = length script.homes + place_of_site script.topology s
place_of script (Executor s) = length script.homes + script.topology.partitions * script.topology.replicas + place_of_site script.topology s
