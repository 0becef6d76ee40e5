-- Where an output stands among all, by its entry and its place there. Used for the output that an event delivers or loses.
use Rattle.std.proofs.Common.{◌≡◌, ◌≢◌, ℕ, zero, suc, ◌+◌, ◌-◌, ◌<◌, ◌^◌, inl, inr, true, false, List, [], ◌∷◌, length, map, set, Option, Some, refl, sym, ap, subst, ◌∙◌, arith}
use Rattle.std.proofs.lemmas.Bool.{and_parts, cases_Bool, cases_lt, eqb-true}
use Rattle.std.proofs.lemmas.List.{length-append}
use Rattle.std.proofs.lemmas.Option.{slice_get_within}
use Rattle.std.specs.Prelude.{not, slice_get, ◌==◌, ◌&&◌}
use Rattle.tp_base.proofs.Ends.{slice_get_left, slice_get_push, slice_get_right}
use Rattle.tp_netbook.specs.Netbook.{ArePlaced}
use Rattle.tp_netbook.specs.Outputs.{StandsAfter, StandsAt, is_named, output_of, passed, starts_of}
use Rattle.tp_netbook.specs.declared.netbook.Netbook.{Netbook}
use Rattle.tp_netbook.specs.declared.output.Output.{Output}
use Rattle.tp_rules.specs.Journal.{numbered, sent}
use Rattle.tp_rules.specs.declared.event.Entry.{Entry}
use Rattle.tp_rules.specs.declared.event.Event.{Event}
use Rattle.tp_rules.specs.declared.event.Event.TheVariants.{Deliver, Dropped, Inner as OfItself}
use Rattle.tp_rules.specs.declared.event.Parcel.{Parcel}
use Rattle.tp_script.specs.declared.script.Script.{Script}
use Rattle.tp_wire.specs.declared.message.Message.{Message}

-- each output stands after those of earlier entries

numbered_get : (n k i : ℕ) (ms : List Message) (p : Parcel) → slice_get (numbered n k ms) i ≡ Some p → (p.entry ≡ n) × (p.place ≡ k + i)
numbered_get n k i [] p at = absurd cc
numbered_get n k zero (m ∷ ms) p at =
    let same : record { entry = n; place = k; message = m } ≡ p = cc in
    (ap (λ (q : Parcel). q.entry) (sym same), (let place : p.place ≡ k = ap (λ (q : Parcel). q.place) (sym same) in omega arith))
numbered_get n k (suc i) (m ∷ ms) p at = let rest = numbered_get n (suc k) i ms p at in (rest.0, omega (arith, rest.1))

many_starts : (older : List Entry) → length (starts_of older) ≡ length older
many_starts [] = refl
many_starts (e ∷ older) = omega (arith, many_starts older, length-append (starts_of older) (length (sent older) ∷ []))

stands : (older : List Entry) (i : ℕ) (p : Parcel) → slice_get (sent older) i ≡ Some p → StandsAfter (starts_of older) p.entry p.place i
stands [] i p at = absurd cc
stands (e ∷ older) i p at = elim (cases_lt i (length (sent older))) [
  | inl before ↦
      let rest = stands older i p (sym (slice_get_left (sent older) (numbered (suc (length older)) 1 e.outputs) i before) ∙ at) in
      let within : p.entry - 1 < length (starts_of older) = slice_get_within (starts_of older) (p.entry - 1) rest.0 rest.1 in
      (rest.0, slice_get_left (starts_of older) (length (sent older) ∷ []) (p.entry - 1) within ∙ rest.1, rest.2)
  | inr past ↦
      let j : ℕ = i - length (sent older) in
      let place : i ≡ length (sent older) + j = omega (arith, past) in
      let parts = numbered_get (suc (length older)) 1 j e.outputs p (sym (slice_get_right (sent older) (numbered (suc (length older)) 1 e.outputs) j i place) ∙ at) in
      let last : p.entry - 1 ≡ length (starts_of older) = omega (arith, parts.0, many_starts older) in
      (length (sent older), ap (slice_get (starts_of (e ∷ older))) last ∙ slice_get_push (starts_of older) (length (sent older)), omega (arith, parts.1, place))
]

pub got_map : {X Y : Type 0} (f : X → Y) (xs : List X) (i : ℕ) (y : Y) → slice_get (map f xs) i ≡ Some y → (x : X) × (slice_get xs i ≡ Some x) × (f x ≡ y)
got_map f [] i y at = absurd cc
got_map f (x ∷ xs) zero y at = (x, refl, cc)
got_map f (x ∷ xs) (suc i) y at = got_map f xs i y at

pub placed : (script : Script) (older : List Entry) (b : Netbook) → b.outputs.items ≡ map (output_of script older) (sent older) → b.starts.items ≡ starts_of older → ArePlaced b
placed script older b outputs starts i o at =
    let found = got_map (output_of script older) (sent older) i o (ap (λ (l : List Output). slice_get l i) (sym outputs) ∙ at) in
    let is : StandsAfter (starts_of older) o.entry o.place i = subst (λ (q : Output). StandsAfter (starts_of older) q.entry q.place i) found.2 (stands older i found.0 found.1) in
    subst (λ (l : List ℕ). StandsAfter l o.entry o.place i) (sym starts) is

-- what an event changes

unnamed : (event : Event) (o : Output) → is_named event o ≡ false → passed event o ≡ o
unnamed event o not_it = rw not_it refl

named_at : (event : Event) (o : Output) (starts : List ℕ) (i : ℕ) → is_named event o ≡ true → StandsAfter starts o.entry o.place i → StandsAt starts event i
named_at (Deliver entry place) o starts i is at =
    let both = and_parts (not o.lost) ((entry == o.entry) && (place == o.place)) is in
    let same = and_parts (entry == o.entry) (place == o.place) both.1 in
    subst (λ (n : ℕ). StandsAfter starts n place i) (sym (eqb-true entry o.entry same.0)) (subst (λ (n : ℕ). StandsAfter starts o.entry n i) (sym (eqb-true place o.place same.1)) at)
named_at (Dropped entry place) o starts i is at =
    let both = and_parts o.lost ((entry == o.entry) && (place == o.place)) is in
    let same = and_parts (entry == o.entry) (place == o.place) both.1 in
    subst (λ (n : ℕ). StandsAfter starts n place i) (sym (eqb-true entry o.entry same.0)) (subst (λ (n : ℕ). StandsAfter starts o.entry n i) (sym (eqb-true place o.place same.1)) at)
named_at (OfItself inner) o starts i is at = absurd cc

pub map_same : {X : Type 0} (g : X → X) (xs : List X) → ((j : ℕ) (y : X) → slice_get xs j ≡ Some y → g y ≡ y) → map g xs ≡ xs
map_same g [] same = refl
map_same g (x ∷ xs) same =
    let here : g x ≡ x = same zero x refl in
    rw (here, map_same g xs (λ j y at. same (suc j) y at)) refl

pub set_map : {X : Type 0} (g : X → X) (xs : List X) (i : ℕ) (x : X) → slice_get xs i ≡ Some x → ((j : ℕ) (y : X) → j ≢ i → slice_get xs j ≡ Some y → g y ≡ y)
    → set xs i (g x) ≡ map g xs
set_map g [] i x at same = absurd cc
set_map {X} g (y ∷ ys) zero x at same =
    let is : y ≡ x = cc in
    ap (λ (z : X). g z ∷ ys) (sym is) ∙ ap (λ (l : List X). g y ∷ l) (sym (map_same g ys (λ j z there. same (suc j) z (λ e. absurd (omega arith)) there)))
set_map {X} g (y ∷ ys) (suc i) x at same =
    let here : g y ≡ y = same zero y (λ e. absurd (omega arith)) refl in
    let rest : set ys i (g x) ≡ map g ys = set_map g ys i x at (λ j z apart there. same (suc j) z (λ e. apart (omega arith)) there) in
    ap (λ (z : X). z ∷ set ys i (g x)) (sym here) ∙ ap (λ (l : List X). g y ∷ l) rest

module _ (b : Netbook) (event : Event) (found : Option ℕ) (are : ArePlaced b) (few : length b.outputs.items < 2 ^ 63)
    (finds : (place : ℕ) → StandsAt b.starts.items event place → place < 2 ^ 63 → found ≡ Some place) where
  others : (j : ℕ) (o : Output) → found ≢ Some j → slice_get b.outputs.items j ≡ Some o → passed event o ≡ o
  others j o apart at = elim (cases_Bool (is_named event o)) [
    | inl is ↦
        let lt : j < length b.outputs.items = slice_get_within b.outputs.items j o at in
        absurd (apart (finds j (named_at event o b.starts.items j is (are j o at)) (omega (arith, few))))
    | inr not_it ↦ unnamed event o not_it
  ]

  pub none_settled : ((j : ℕ) → j < length b.outputs.items → found ≢ Some j) → b.outputs.items ≡ map (passed event) b.outputs.items
  none_settled none = sym (map_same (passed event) b.outputs.items (λ j o at. others j o (none j (slice_get_within b.outputs.items j o at)) at))

  pub one_settled : (i : ℕ) (o : Output) → found ≡ Some i → slice_get b.outputs.items i ≡ Some o → set b.outputs.items i (passed event o) ≡ map (passed event) b.outputs.items
  one_settled i o is at = set_map (passed event) b.outputs.items i o at (λ j y apart there. others j y (λ e. apart (one (sym e ∙ is))) there)
    where
      one : {j : ℕ} → Some j ≡ Some i → j ≡ i
      one e = cc
