-- How many outputs went between any two actors, as a netbook counts them.
use Rattle.std.specs.Prelude.{ℕ, ◌≡◌, ◌+◌, ◌^◌, ◌<◌, ◌&&◌, Bool, cond, List, filter, length, unwrap_or}
use Rattle.indexmap.specs.IndexMap.{get}
use Rattle.tp_base.specs.Names.{same_name}
use Rattle.tp_fates.specs.declared.route.Route.{Route}
use Rattle.tp_fates.specs.declared.route.Routes.{Routes}
use Rattle.tp_rules.specs.declared.event.Parcel.{Parcel}

abbrev pub same_route : Route → Route → Bool
same_route a b = same_name a.from b.from && same_name a.to b.to

abbrev pub route_of : Parcel → Route
route_of p = record { from = p.message.from; to = p.message.to }

-- how many outputs a netbook has counted between two actors
abbrev pub counted_in : Routes → Route → ℕ
counted_in routes route = unwrap_or (get same_route routes.counts route) 0

-- these are the counts of some outputs
abbrev pub AreCounts : List Parcel → Routes → Type 0
AreCounts parcels routes = (route : Route) → counted_in routes route ≡ length (filter (λ p. same_route (route_of p) route) parcels)

-- one more output is counted, and has this number
pub record HasCounted (old new : Routes) (route : Route) (given : ℕ) : Type 0 where
  pub number : counted_in old route + 1 < 2 ^ 128 → given ≡ counted_in old route + 1
  pub counts : (other : Route) → counted_in new other ≡ cond (same_route route other) given (counted_in old other)

-- the number of an output between its two actors, after those sent before
abbrev pub next_number : List Parcel → Parcel → ℕ
next_number before p = length (filter (λ q. same_route (route_of q) (route_of p)) before) + 1
