-- The fates that a plan gives to outputs, as a netbook keeps them.
use Rattle.std.specs.List.{list_any}
use Rattle.std.specs.Prelude.{ℕ, ◌≡◌, ◌⊎◌, ◌+◌, ◌<◌, ◌^◌, ◌==◌, ◌&&◌, Bool, cond, true, false, List, [], ◌∷◌, ◌++◌, Option, Some, None, filter_map, length, option_map}
use Rattle.indexmap.specs.IndexMap.{get}
use Rattle.tp_base.specs.declared.names.ActorName.{ActorName}
use Rattle.tp_fates.specs.declared.fate.Fate.{Fate as FateValue}
use Rattle.tp_fates.specs.declared.fate.Fate.TheVariants.{Lost as IsLost, Times as IsTimes}
use Rattle.tp_fates.specs.declared.fate.Fates.{Fates}
use Rattle.tp_fates.specs.declared.fate.Passage.{Passage}
use Rattle.tp_fates.specs.Routes.{AreCounts, next_number, route_of, same_route}
use Rattle.tp_fates.specs.declared.route.Route.{Route}
use Rattle.tp_fates.specs.declared.route.Routes.{Routes}
use Rattle.tp_rules.specs.Plan.{Fate, Lost, Times, fate_by, first_or, is_lost_by, repeated_by, times_for_all}
use Rattle.tp_rules.specs.declared.event.Parcel.{Parcel}
use Rattle.tp_script.specs.declared.script.PlanLine.{PlanLine}

abbrev pub fate_of : FateValue → Fate
fate_of IsLost = Lost
fate_of (IsTimes n) = Times n

abbrev pub same_passage : Passage → Passage → Bool
same_passage a b = same_route a.route b.route && (a.ordinal == b.ordinal)

-- the fate that a netbook keeps for an output by its name
abbrev pub named_in : Fates → Passage → Option FateValue
named_in fates passage = get same_passage fates.named passage

abbrev pub first_times : List ℕ → Option Fate
first_times [] = None
first_times (n ∷ ns) = Some (Times n)

-- the fate that the lines of a plan give to an output by its name
abbrev pub named_by : List PlanLine → ActorName → ActorName → ℕ → Option Fate
named_by plan from to n = cond (list_any (is_lost_by from to n) plan) (Some Lost) (first_times (filter_map (repeated_by from to n) plan))

-- these are the fates of a plan
pub record AreFates (plan : List PlanLine) (fates : Fates) : Type 0 where
  pub named : (passage : Passage) → option_map fate_of (named_in fates passage) ≡ named_by plan passage.route.from passage.route.to passage.ordinal
  pub others : fates.others ≡ first_or (filter_map times_for_all plan) 1

-- one output has another fate now, and all else stays
pub record Names (old new : Fates) (passage : Passage) (fate : Option FateValue) : Type 0 where
  pub named : (other : Passage) → named_in new other ≡ cond (same_passage passage other) fate (named_in old other)
  pub others : new.others ≡ old.others

abbrev pub is_lost : Option FateValue → Bool
is_lost (Some IsLost) = true
is_lost _ = false

-- an output that is lost isn't repeated
abbrev pub repeated : ℕ → Option FateValue → Option FateValue
repeated times (Some IsLost) = Some IsLost
repeated times _ = Some (IsTimes times)

-- no output has a fate of its own
abbrev pub NamesNone : Fates → Type 0
NamesNone fates = (passage : Passage) → named_in fates passage ≡ None

-- these are the counts of some outputs, but where no fate asks for them
abbrev pub AreCountsFor : Fates → List Parcel → Routes → Type 0
AreCountsFor fates parcels routes = NamesNone fates ⊎ AreCounts parcels routes

-- one more output has the fate of its number, after those that were counted before
pub record TellsNext (fates : Fates) (old new : Routes) (route : Route) (given : FateValue) : Type 0 where
  pub fate : (plan : List PlanLine) (before : List Parcel) (p : Parcel) → AreFates plan fates → AreCountsFor fates before old → route_of p ≡ route → length before + 1 < 2 ^ 128
      → fate_of given ≡ fate_by plan p.message.from p.message.to (next_number before p)
  pub counts : (before : List Parcel) (p : Parcel) → AreCountsFor fates before old → route_of p ≡ route → length before + 1 < 2 ^ 128
      → AreCountsFor fates (before ++ p ∷ []) new
