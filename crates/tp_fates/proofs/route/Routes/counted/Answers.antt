use Rattle.std.proofs.Common.{◌≡◌, ℕ, Bool, Some, None, Option, ap, subst}
use Rattle.std.specs.Prelude.{unwrap_or}
use Rattle.indexmap.specs.IndexMap.{get}
use Rattle.tp_fates.proofs.SameRoutes.{route_by_code}
use Rattle.tp_fates.proofs.route.Routes.counted.Goals as goal
use Rattle.tp_fates.specs.declared.route.Route.{Route}

pub returns-in-Some : goal.returns-in-Some
returns-in-Some c = ap (λ (o : Option ℕ). unwrap_or o 0)
    (subst (λ (same : Route → Route → Bool). Some c.in-Some.count.now ≡ get same c.args.self.now.counts c.args.route) route_by_code c.in-Some.ensures.value)

pub returns-in-None : goal.returns-in-None
returns-in-None c = ap (λ (o : Option ℕ). unwrap_or o 0)
    (subst (λ (same : Route → Route → Bool). None ≡ get same c.args.self.now.counts c.args.route) route_by_code c.in-None.ensures.value)
