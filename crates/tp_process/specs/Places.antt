-- Where a process is.
use Rattle.std.specs.Prelude.{◌≤◌}
use Rattle.tp_base.specs.declared.names.Site.{Site}
use Rattle.tp_topology.specs.Shape.{Shape, IsSiteOf}

-- a site of a shape that is not too large
pub record IsPlace (shape : Shape) (site : Site) : Type 0 where
  pub few_partitions : shape.partitions ≤ 4
  pub few_replicas : shape.replicas ≤ 7
  pub is_site : IsSiteOf shape site
