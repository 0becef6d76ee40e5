-- Routes and passages are the same by the code's tests where they are by their names. Used where a count or a fate is looked up.
use Rattle.std.proofs.Common.{◌≡◌, true, refl}
use Rattle.std.proofs.lemmas.Bool.{and_parts}
use Rattle.std.specs.Prelude.{◌&&◌, ◌==◌}
use Rattle.tp_base.proofs.SameNames.{same_name_is}
use Rattle.tp_base.specs.Names.{same_name}
use Rattle.tp_base.specs.declared.names.ActorName.{ActorName}
use Rattle.tp_base.specs.declared.names.ActorName.TheVariants.{Process, Executor, Session}
use Rattle.tp_fates.specs.contracts.fate.PassagePartialEq.TheImpl as passages
use Rattle.tp_fates.specs.contracts.route.RoutePartialEq.TheImpl as routes
use Rattle.tp_fates.specs.Fates.{same_passage}
use Rattle.tp_fates.specs.Routes.{same_route}
use Rattle.tp_fates.specs.declared.route.Route.{Route}

abbrev between : ActorName → ActorName → Route
between from to = record { from = from; to = to }

by_names : (f g h k : ActorName) → routes.ghosts.eq (between f h) (between g k) ≡ same_route (between f h) (between g k)
by_names (Process f) (Process g) (Process h) (Process k) = refl
by_names (Process f) (Process g) (Process h) (Executor k) = refl
by_names (Process f) (Process g) (Process h) (Session k) = refl
by_names (Process f) (Process g) (Executor h) (Process k) = refl
by_names (Process f) (Process g) (Executor h) (Executor k) = refl
by_names (Process f) (Process g) (Executor h) (Session k) = refl
by_names (Process f) (Process g) (Session h) (Process k) = refl
by_names (Process f) (Process g) (Session h) (Executor k) = refl
by_names (Process f) (Process g) (Session h) (Session k) = refl
by_names (Process f) (Executor g) h k = refl
by_names (Process f) (Session g) h k = refl
by_names (Executor f) (Process g) h k = refl
by_names (Executor f) (Executor g) (Process h) (Process k) = refl
by_names (Executor f) (Executor g) (Process h) (Executor k) = refl
by_names (Executor f) (Executor g) (Process h) (Session k) = refl
by_names (Executor f) (Executor g) (Executor h) (Process k) = refl
by_names (Executor f) (Executor g) (Executor h) (Executor k) = refl
by_names (Executor f) (Executor g) (Executor h) (Session k) = refl
by_names (Executor f) (Executor g) (Session h) (Process k) = refl
by_names (Executor f) (Executor g) (Session h) (Executor k) = refl
by_names (Executor f) (Executor g) (Session h) (Session k) = refl
by_names (Executor f) (Session g) h k = refl
by_names (Session f) (Process g) h k = refl
by_names (Session f) (Executor g) h k = refl
by_names (Session f) (Session g) (Process h) (Process k) = refl
by_names (Session f) (Session g) (Process h) (Executor k) = refl
by_names (Session f) (Session g) (Process h) (Session k) = refl
by_names (Session f) (Session g) (Executor h) (Process k) = refl
by_names (Session f) (Session g) (Executor h) (Executor k) = refl
by_names (Session f) (Session g) (Executor h) (Session k) = refl
by_names (Session f) (Session g) (Session h) (Process k) = refl
by_names (Session f) (Session g) (Session h) (Executor k) = refl
by_names (Session f) (Session g) (Session h) (Session k) = refl

-- the code's test of routes
pub route_by_code : routes.ghosts.eq ≡ same_route
route_by_code = λ i a b. by_names a.from b.from a.to b.to i

-- and that of passages
pub passage_by_code : passages.ghosts.eq ≡ same_passage
passage_by_code = λ i a b. by_names a.route.from b.route.from a.route.to b.route.to i && (a.ordinal == b.ordinal)

pub same_route_is : (a b : Route) → same_route a b ≡ true → a ≡ b
same_route_is a b h =
    let parts = and_parts (same_name a.from b.from) (same_name a.to b.to) h in
    let from : a.from ≡ b.from = same_name_is a.from b.from parts.0 in
    let to : a.to ≡ b.to = same_name_is a.to b.to parts.1 in
    λ i. record { from = from i; to = to i }
