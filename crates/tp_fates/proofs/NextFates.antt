-- The fate of one more output, whether its route is counted or no fate asks for it. Used where an output is added.
use Rattle.std.proofs.Common.{◌≡◌, ℕ, inl, inr, List, sym, ap, subst, ◌∙◌}
use Rattle.tp_fates.proofs.FateTables.{fate_of_others}
use Rattle.tp_fates.proofs.RouteCounts.{counts_more, number_is}
use Rattle.tp_fates.specs.Fates.{AreFates, NamesNone, TellsNext, fate_of}
use Rattle.tp_fates.specs.Routes.{HasCounted, next_number, route_of}
use Rattle.tp_fates.specs.declared.fate.Fate.{Fate as FateValue}
use Rattle.tp_fates.specs.declared.fate.Fate.TheVariants.{Times as IsTimes}
use Rattle.tp_fates.specs.declared.fate.Fates.{Fates}
use Rattle.tp_fates.specs.declared.route.Route.{Route}
use Rattle.tp_fates.specs.declared.route.Routes.{Routes}
use Rattle.tp_rules.specs.Plan.{Times, fate_by}
use Rattle.tp_script.specs.declared.script.PlanLine.{PlanLine}

-- the fate of all others, by whatever number
others_by : (plan : List PlanLine) (fates : Fates) → AreFates plan fates → NamesNone fates → (route : Route) (n : ℕ) → Times fates.others ≡ fate_by plan route.from route.to n
others_by plan fates are none route n = fate_of_others plan fates are (record { route = route; ordinal = n }) (none (record { route = route; ordinal = n }))

pub tells_others : (fates : Fates) (routes : Routes) (route : Route) → NamesNone fates → TellsNext fates routes routes route (IsTimes fates.others)
tells_others fates routes route none = record {
  fate = λ plan before p are counts is short. others_by plan fates are none (route_of p) (next_number before p);
  counts = λ before p counts is short. inl none;
}

pub tells_counted : (fates : Fates) (old new : Routes) (route : Route) (number : ℕ) (given : FateValue) → HasCounted old new route number
    → ((plan : List PlanLine) → AreFates plan fates → fate_of given ≡ fate_by plan route.from route.to number) → TellsNext fates old new route given
tells_counted fates old new route number given counted by = record {
  fate = λ plan before p are counts is short.
      let here : fate_of given ≡ fate_by plan (route_of p).from (route_of p).to number = by plan are ∙ ap (λ (r : Route). fate_by plan r.from r.to number) (sym is) in
      elim counts [
        | inl none ↦ here ∙ sym (others_by plan fates are none (route_of p) number) ∙ others_by plan fates are none (route_of p) (next_number before p)
        | inr right ↦ here ∙ ap (fate_by plan p.message.from p.message.to) (number_is before p old new number right (subst (λ r. HasCounted old new r number) (sym is) counted) short)
      ];
  counts = λ before p counts is short. elim counts [
    | inl none ↦ inl none
    | inr right ↦ inr (counts_more before p old new number right (subst (λ r. HasCounted old new r number) (sym is) counted) short)
  ];
}
