-- The outputs of an entry have the fates of their numbers, counted after those sent before. Used for a netbook after one more entry.
use Rattle.std.proofs.Common.{◌≡◌, ℕ, suc, ◌<◌, inl, inr, Bool, true, false, List, [], ◌∷◌, ◌++◌, length, map, refl, sym, ap, ◌∙◌, append_assoc, arith}
use Rattle.std.proofs.lemmas.Bool.{and_from, and_right, eq-eqb, le-leb, le-ltb, lt-leb, lt-ltb, or_from, or_left, or_right}
use Rattle.std.proofs.lemmas.List.{length-append}
use Rattle.std.proofs.lemmas.List.Elements.{filter-append}
use Rattle.std.specs.Prelude.{◌⊎◌, ◌==◌, ◌&&◌, ◌||◌, filter, nat_le, nat_lt}
use Rattle.tp_base.proofs.Members.{in_either}
use Rattle.tp_base.proofs.SameNames.{same_name_refl}
use Rattle.tp_base.specs.Lists.{IsIn}
use Rattle.tp_netbook.proofs.Outputs.{filter_like, left_at_first}
use Rattle.tp_netbook.proofs.Parts.{and_true}
use Rattle.tp_netbook.specs.Netbook.{added, new_outputs}
use Rattle.tp_fates.specs.Deliveries.{loses}
use Rattle.tp_netbook.specs.Outputs.{output_of}
use Rattle.tp_fates.specs.Routes.{next_number, route_of, same_route}
use Rattle.tp_netbook.specs.declared.output.Output.{Output}
use Rattle.tp_rules.proofs.sent.Parcels.{numbered_parts, parcel}
use Rattle.tp_rules.proofs.lists.Tallies.{filter_none, filter_yes}
use Rattle.tp_rules.specs.Journal.{numbered, sent}
use Rattle.tp_rules.specs.Plan.{Fate, deliveries_left, fate_by, fate_of, is_counted_to, left_by, ordinal_of}
use Rattle.tp_rules.specs.Runs.{IsFreeHistory}
use Rattle.tp_rules.specs.declared.event.Entry.{Entry}
use Rattle.tp_rules.specs.declared.event.Parcel.{Parcel}
use Rattle.tp_script.specs.declared.script.Script.{Script}
use Rattle.tp_wire.specs.declared.message.Message.{Message}

-- an output was sent no later than the place of an entry, or later

abbrev pub IsEarlier : ℕ → ℕ → Parcel → Type 0
IsEarlier n k q = (q.entry < n) ⊎ ((q.entry ≡ n) × (q.place < k))

abbrev is_no_later : ℕ → ℕ → Parcel → Bool
is_no_later n k q = nat_lt q.entry n || ((q.entry == n) && nat_le q.place k)

no_later : (n k : ℕ) (q : Parcel) → IsEarlier n k q → is_no_later n k q ≡ true
no_later n k q (inl before) = or_left (nat_lt q.entry n) _ (lt-ltb q.entry n before)
no_later n k q (inr here) =
    or_right (nat_lt q.entry n) _ (and_from (q.entry == n) (nat_le q.place k) (eq-eqb q.entry n here.0) (le-leb q.place k (omega (arith, here.1))))

later : (n k : ℕ) (q : Parcel) → q.entry ≡ n → k < q.place → is_no_later n k q ≡ false
later n k q same past =
    or_from (nat_lt q.entry n) _ (le-ltb q.entry n (omega arith)) (and_right (q.entry == n) (nat_le q.place k) (lt-leb q.place k past))

module _ (script : Script) (older : List Entry) (e : Entry) (history : IsFreeHistory script (e ∷ older)) where
  abbrev n : ℕ
  n = suc (length older)

  module _ (before : List Parcel) (k : ℕ) (m : Message) (ms : List Message) (whole : sent (e ∷ older) ≡ before ++ numbered n k (m ∷ ms))
      (earlier : (q : Parcel) → IsIn q before → IsEarlier n k q) where
    abbrev here : Parcel
    here = parcel n k m

    number_is : ordinal_of (e ∷ older) here ≡ next_number before here
    number_is =
        let test = is_counted_to here in
        let rest = numbered n (suc k) ms in
        let old : filter test before ≡ filter (λ q. same_route (route_of q) (route_of here)) before =
        filter_like (λ q. same_route (route_of q) (route_of here)) test before
        (λ q h. ap (λ (b : Bool). same_route (route_of q) (route_of here) && b) (no_later n k q (earlier q h)) ∙ and_true (same_route (route_of q) (route_of here))) in
        let itself : test here ≡ true = and_from (same_route (route_of here) (route_of here)) _
        (and_from _ _ (same_name_refl m.from) (same_name_refl m.to))
        (or_right (nat_lt n n) _ (and_from (n == n) (nat_le k k) (eq-eqb n n refl) (le-leb k k (omega arith)))) in
        let none : filter test rest ≡ [] = filter_none test rest (λ q h.
        let parts = numbered_parts n (suc k) ms q h in and_right (same_route (route_of q) (route_of here)) _ (later n k q parts.0 (omega (arith, parts.1)))) in
        let new : filter test (here ∷ rest) ≡ here ∷ [] = filter_yes test here rest itself ∙ ap (λ (l : List Parcel). here ∷ l) none in
        ap (λ (l : List Parcel). length (filter test l)) whole
        ∙ ap length (filter-append test before (here ∷ rest))
        ∙ ap (λ (l : List Parcel). length (l ++ filter test (here ∷ rest))) old
        ∙ ap (λ (l : List Parcel). length (filter (λ q. same_route (route_of q) (route_of here)) before ++ l)) new
        ∙ length-append (filter (λ q. same_route (route_of q) (route_of here)) before) (here ∷ [])

    pub fate_is : fate_of script (e ∷ older) here ≡ fate_by script.plan m.from m.to (next_number before here)
    unfolding fate_of
    fate_is = ap (λ (i : ℕ). fate_by script.plan m.from m.to i) number_is

    added_is : added script.plan before here ≡ output_of script (e ∷ older) here
    added_is =
        let lost : loses (fate_of script (e ∷ older) here) ≡ loses (fate_by script.plan m.from m.to (next_number before here)) = ap loses fate_is in
        let left : deliveries_left script (e ∷ older) here ≡ left_by (fate_by script.plan m.from m.to (next_number before here)) 0 false =
        left_at_first script older e history here refl ∙ ap (λ (f : Fate). left_by f 0 false) fate_is in
        sym (λ i. record { entry = n; place = k; to = m.to; lost = lost i; left = left i })

  pub new_are : (before : List Parcel) (k : ℕ) (ms : List Message) → sent (e ∷ older) ≡ before ++ numbered n k ms
      → ((q : Parcel) → IsIn q before → IsEarlier n k q) → new_outputs script.plan before (numbered n k ms) ≡ map (output_of script (e ∷ older)) (numbered n k ms)
  new_are before k [] whole earlier = refl
  new_are before k (m ∷ ms) whole earlier =
      let p : Parcel = parcel n k m in
      let ps : List Parcel = numbered n (suc k) ms in
      let rest : new_outputs script.plan (before ++ p ∷ []) ps ≡ map (output_of script (e ∷ older)) ps =
      new_are (before ++ p ∷ []) (suc k) ms (whole ∙ sym (append_assoc before (p ∷ []) ps)) next in
      ap (λ (o : Output). o ∷ new_outputs script.plan (before ++ p ∷ []) ps) (added_is before k m ms whole earlier)
      ∙ ap (λ (l : List Output). output_of script (e ∷ older) p ∷ l) rest
    where
      next : (q : Parcel) → IsIn q (before ++ parcel n k m ∷ []) → IsEarlier n (suc k) q
      next q h = elim (in_either before (parcel n k m ∷ []) q h) [
        | inl old ↦ elim (earlier q old) [ inl a ↦ inl a | inr b ↦ inr (b.0, omega (arith, b.1)) ]
        | inr new ↦ elim new [
          | inl is ↦ inr (ap (λ (p : Parcel). p.entry) is, (let place : q.place ≡ k = ap (λ (p : Parcel). p.place) is in omega arith))
          | inr none ↦ absurd none
        ]
      ]
