-- The counts of routes after one more output. Used where an output is added.
use Rattle.std.proofs.Common.{◌≡◌, ℕ, ◌+◌, ◌≤◌, ◌<◌, ◌^◌, inl, inr, Bool, true, false, cond, List, [], ◌∷◌, ◌++◌, length, Option, Some, refl, ap, ◌∙◌, arith}
use Rattle.std.proofs.lemmas.Bool.{cases_Bool, cond-false, cond-true}
use Rattle.std.proofs.lemmas.List.{length-append}
use Rattle.std.proofs.lemmas.List.Elements.{filter-append}
use Rattle.std.specs.Prelude.{filter, unwrap_or}
use Rattle.tp_fates.proofs.SameRoutes.{same_route_is}
use Rattle.tp_fates.specs.Routes.{AreCounts, HasCounted, counted_in, next_number, route_of, same_route}
use Rattle.tp_fates.specs.declared.route.Route.{Route}
use Rattle.tp_fates.specs.declared.route.Routes.{Routes}
use Rattle.tp_rules.proofs.lists.Tallies.{filter_length, filter_no, filter_yes}
use Rattle.tp_rules.specs.declared.event.Parcel.{Parcel}

module _ (before : List Parcel) (p : Parcel) (old new : Routes) (number : ℕ) (are : AreCounts before old) (one : HasCounted old new (route_of p) number)
    (short : length before + 1 < 2 ^ 128) where
  few : counted_in old (route_of p) ≤ length before
  few = omega (arith, are (route_of p), filter_length (λ q. same_route (route_of q) (route_of p)) before)

  pub number_is : number ≡ next_number before p
  number_is = one.number (omega (arith, few, short)) ∙ ap (λ (n : ℕ). n + 1) (are (route_of p))

  one_more : (route : Route) → length (filter (λ q. same_route (route_of q) route) (before ++ p ∷ []))
      ≡ length (filter (λ q. same_route (route_of q) route) before) + length (filter (λ q. same_route (route_of q) route) (p ∷ []))
  one_more route = ap length (filter-append (λ (q : Parcel). same_route (route_of q) route) before (p ∷ []))
      ∙ length-append (filter (λ q. same_route (route_of q) route) before) (filter (λ q. same_route (route_of q) route) (p ∷ []))

  pub counts_more : AreCounts (before ++ p ∷ []) new
  counts_more route = elim (cases_Bool (same_route (route_of p) route)) [
    | inl t ↦
        let same : route_of p ≡ route = same_route_is (route_of p) route t in
        let last : length (filter (λ q. same_route (route_of q) route) (p ∷ [])) ≡ 1 = ap length (filter_yes (λ (q : Parcel). same_route (route_of q) route) p [] t) in
        let now : counted_in new route ≡ number = one.counts route ∙ cond-true (same_route (route_of p) route) number (counted_in old route) t in
        let then : number ≡ length (filter (λ q. same_route (route_of q) route) before) + 1 =
        number_is ∙ ap (λ (r : Route). length (filter (λ q. same_route (route_of q) r) before) + 1) same in
        omega (arith, one_more route)
    | inr f ↦
        let last : length (filter (λ q. same_route (route_of q) route) (p ∷ [])) ≡ 0 = ap length (filter_no (λ (q : Parcel). same_route (route_of q) route) p [] f) in
        let now : counted_in new route ≡ counted_in old route = one.counts route ∙ cond-false (same_route (route_of p) route) number (counted_in old route) f in
        omega (arith, one_more route, are route)
  ]

-- a count as it is read
pub count_read : (b : Bool) (n : ℕ) (o : Option ℕ) → unwrap_or (cond b (Some n) o) 0 ≡ cond b n (unwrap_or o 0)
count_read true n o = refl
count_read false n o = refl
