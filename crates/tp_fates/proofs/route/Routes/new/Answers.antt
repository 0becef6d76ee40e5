use Rattle.std.proofs.Common.{ap}
use Rattle.std.specs.Map.{lookup}
use Rattle.std.specs.Prelude.{unwrap_or}
use Rattle.tp_fates.proofs.route.Routes.new.Goals as goal
use Rattle.tp_fates.specs.Routes.{same_route}

pub returns : goal.returns
returns c = λ route. ap (λ entries. unwrap_or (lookup (same_route route) entries) 0) c.new.ensures.empty
