use Rattle.std.proofs.Common.{◌≡◌, ℕ, Bool, Option, Some, ap, subst, ◌∙◌, arith}
use Rattle.std.specs.Prelude.{cond, unwrap_or}
use Rattle.indexmap.specs.IndexMap.{get}
use Rattle.tp_fates.proofs.RouteCounts.{count_read}
use Rattle.tp_fates.proofs.SameRoutes.{route_by_code}
use Rattle.tp_fates.proofs.route.Routes.count.Goals as goal
use Rattle.tp_fates.specs.Routes.{same_route}
use Rattle.tp_fates.specs.declared.route.Route.{Route}

pub returns : goal.returns
returns c = record {
  number = λ short. omega (arith, c.saturating_add-number.ensures, c.counted.ensures, short);
  counts = λ other. ap (λ (o : Option ℕ). unwrap_or o 0) (subst (λ (same : Route → Route → Bool). get same c.insert.new.self other ≡
      cond (same c.args.route other) (Some c.saturating_add-number.result) (get same c.args.self.now.counts other)) route_by_code (c.in_ok-insert.ensures.updates.0 other))
      ∙ count_read (same_route c.args.route other) c.saturating_add-number.result (get same_route c.args.self.now.counts other);
}
