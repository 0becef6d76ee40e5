-- The outputs of a netbook after one more entry.
use Rattle.std.proofs.Common.{◌≡◌, ℕ, suc, ◌-◌, ◌*◌, ◌<◌, ◌≤◌, inl, inr, Bool, true, false, cond, List, [], ◌∷◌, length, map, Option, Some, None, refl, sym, ap, ◌∙◌, arith}
use Rattle.std.specs.Prelude.{◌&&◌, ◌||◌, ◌==◌, filter}
use Rattle.std.proofs.lemmas.Bool.{and_left, cases_Bool, cond-false, cond-true, ne_eqb}
use Rattle.std.proofs.lemmas.List.{length-append}
use Rattle.tp_base.specs.Lists.{IsIn}
use Rattle.tp_fates.specs.Deliveries.{loses}
use Rattle.tp_netbook.specs.Outputs.{is_named, output_of, passed}
use Rattle.tp_netbook.specs.declared.output.Output.{Output}
use Rattle.tp_rules.proofs.ends.HowMany.{outputs_few}
use Rattle.tp_rules.proofs.sent.Parcels.{fate_stays, length-numbered, output_sent, parcel, sent_within}
use Rattle.tp_rules.proofs.lists.Tallies.{count_no, count_yes, filter_no, filter_yes}
use Rattle.tp_rules.specs.Journal.{is_delivery_of, is_loss_of, numbered, output_at, sent}
use Rattle.tp_rules.specs.Plan.{Fate, Lost, Times, deliveries, deliveries_left, fate_of, left_by, was_lost}
use Rattle.tp_rules.specs.Runs.{FollowsRules, IsFor, IsFreeHistory, MayHappen}
use Rattle.tp_rules.specs.declared.event.Entry.{Entry}
use Rattle.tp_rules.specs.declared.event.Event.{Event}
use Rattle.tp_rules.specs.declared.event.Event.TheVariants.{Deliver, Dropped, Inner as OfItself}
use Rattle.tp_rules.specs.declared.event.Parcel.{Parcel}
use Rattle.tp_script.specs.Accepted.{IsAccepted}
use Rattle.tp_script.specs.declared.script.Script.{Script}

-- lists

pub filter_like : {X : Type 0} (p q : X → Bool) (xs : List X) → ((x : X) → IsIn x xs → q x ≡ p x) → filter q xs ≡ filter p xs
filter_like p q [] h = refl
filter_like {X} p q (x ∷ xs) h =
    let rest : filter q xs ≡ filter p xs = filter_like p q xs (λ y k. h y (inr k)) in
    let here : q x ≡ p x = h x (inl refl) in
    elim (cases_Bool (p x)) [
      | inl t ↦ filter_yes q x xs (here ∙ t) ∙ ap (λ (l : List X). x ∷ l) rest ∙ sym (filter_yes p x xs t)
      | inr f ↦ filter_no q x xs (here ∙ f) ∙ rest ∙ sym (filter_no p x xs f)
    ]

pub map_map_like : {X Y : Type 0} (f f' : X → Y) (g : Y → Y) (xs : List X) → ((x : X) → IsIn x xs → g (f x) ≡ f' x) → map g (map f xs) ≡ map f' xs
map_map_like f f' g [] same = refl
map_map_like f f' g (x ∷ xs) same =
    let here : g (f x) ≡ f' x = same x (inl refl) in
    rw (here, map_map_like f f' g xs (λ y k. same y (inr k))) refl

-- no entry delivers or loses what was not sent

for_some : (a : _) (o : Option _) → IsFor a o → (m : _) × (o ≡ Some m)
for_some a None h = absurd h
for_some a (Some m) h = (m, refl)

module _ (script : Script) (older : List Entry) (e : Entry) (place : ℕ) (follows : FollowsRules script older e) where
  apart : (entry k n : ℕ) → length older < n → IsFor e.actor (output_at older entry k) → (entry == n) ≡ false
  apart entry k n past may =
      let found = for_some e.actor (output_at older entry k) may in
      let within : entry ≤ length older = (sent_within older (parcel entry k found.0) (output_sent older entry k found.0 found.1)).1 in
      ne_eqb entry n (λ same. omega arith)

  undelivered : (n : ℕ) → length older < n → is_delivery_of n place e.event ≡ false
  undelivered n past = by e.event follows.may
    where
      by : (event : Event) → MayHappen script older e.actor event → is_delivery_of n place event ≡ false
      by (Deliver entry k) may = and_left _ _ (apart entry k n past may)
      by (Dropped entry k) may = refl
      by (OfItself inner) may = refl

  unlost : (n : ℕ) → length older < n → is_loss_of n place e.event ≡ false
  unlost n past = by e.event follows.may
    where
      by : (event : Event) → MayHappen script older e.actor event → is_loss_of n place event ≡ false
      by (Deliver entry k) may = refl
      by (Dropped entry k) may = and_left _ _ (apart entry k n past may)
      by (OfItself inner) may = refl

undelivered_new : (script : Script) (older : List Entry) (n place : ℕ) → IsFreeHistory script older → length older < n → deliveries older n place ≡ 0
undelivered_new script [] n place history past = refl
undelivered_new script (e ∷ older) n place history past =
    count_no (λ x. is_delivery_of n place x.event) e older (undelivered script older e place history.1 n (omega arith))
    ∙ undelivered_new script older n place history.0 (omega arith)

unlost_new : (script : Script) (older : List Entry) (n place : ℕ) → IsFreeHistory script older → length older < n → was_lost older n place ≡ false
unlost_new script [] n place history past = refl
unlost_new script (e ∷ older) n place history past =
    ap (λ (b : Bool). b || was_lost older n place) (unlost script older e place history.1 n (omega arith))
    ∙ unlost_new script older n place history.0 (omega arith)

-- the outputs of a run are few
pub sent_few : (script : Script) → IsAccepted script → (older : List Entry) → IsFreeHistory script older → length (sent older) ≤ length older * 63
sent_few script accepted [] history = omega arith
sent_few script accepted (e ∷ older) history =
    omega (
      arith,
      sent_few script accepted older history.0,
      outputs_few script accepted.shape older e history.1,
      length-append (sent older) (numbered (suc (length older)) 1 e.outputs),
      length-numbered (suc (length older)) 1 e.outputs,
    )

-- what an event leaves of an output, by its fate

abbrev pub kept_as : Fate → Parcel → ℕ → Output
kept_as fate p left = record { entry = p.entry; place = p.place; to = p.message.to; lost = loses fate; left = left }

pub one_more : (fate : Fate) (event : Event) (p : Parcel) (left d d' : ℕ) (lost : Bool) → d' ≡ cond (is_delivery_of p.entry p.place event) (suc d) d
    → left_by fate d' (is_loss_of p.entry p.place event || lost) ≡ cond (is_named event (kept_as fate p left)) (left_by fate d lost - 1) (left_by fate d lost)
one_more Lost (Deliver entry place) p left d d' lost count = refl
one_more (Times n) (Deliver entry place) p left d d' lost count = by ((entry == p.entry) && (place == p.place)) count
  where
    by : (b : Bool) → d' ≡ cond b (suc d) d → n - d' ≡ cond b (n - d - 1) (n - d)
    by true more = omega (arith, more)
    by false same = omega (arith, same)
one_more Lost (Dropped entry place) p left d d' lost count = by ((entry == p.entry) && (place == p.place)) lost
  where
    by : (b w : Bool) → left_by Lost d' (b || w) ≡ cond b (left_by Lost d w - 1) (left_by Lost d w)
    by true true = omega arith
    by true false = omega arith
    by false w = refl
one_more (Times n) (Dropped entry place) p left d d' lost count = omega (arith, count)
one_more Lost (OfItself inner) p left d d' lost count = refl
one_more (Times n) (OfItself inner) p left d d' lost count = omega (arith, count)

-- how often an output was delivered, by one entry more
pub delivered_more : (older : List Entry) (e : Entry) (entry place : ℕ)
    → deliveries (e ∷ older) entry place ≡ cond (is_delivery_of entry place e.event) (suc (deliveries older entry place)) (deliveries older entry place)
delivered_more older e entry place = elim (cases_Bool (is_delivery_of entry place e.event)) [
  | inl t ↦ count_yes (λ (x : Entry). is_delivery_of entry place x.event) e older t ∙ sym (cond-true (is_delivery_of entry place e.event) _ _ t)
  | inr f ↦ count_no (λ (x : Entry). is_delivery_of entry place x.event) e older f ∙ sym (cond-false (is_delivery_of entry place e.event) _ _ f)
]

module _ (script : Script) (older : List Entry) (e : Entry) where
  -- an output sent before is the one that a netbook has of it, after the event has passed
  pub passed_is : (p : Parcel) → IsIn p (sent older) → passed e.event (output_of script older p) ≡ output_of script (e ∷ older) p
  unfolding deliveries_left
  passed_is p h =
      let fate : fate_of script (e ∷ older) p ≡ fate_of script older p = fate_stays script older e p h in
      sym (λ i. record { entry = p.entry; place = p.place; to = p.message.to; lost = loses (fate i); left = left_is fate i })
    where
      left_is : fate_of script (e ∷ older) p ≡ fate_of script older p
          → deliveries_left script (e ∷ older) p ≡ cond (is_named e.event (output_of script older p)) (deliveries_left script older p - 1) (deliveries_left script older p)
      left_is fate =
          ap (λ (f : Fate). left_by f (deliveries (e ∷ older) p.entry p.place) (was_lost (e ∷ older) p.entry p.place)) fate
          ∙ one_more (fate_of script older p) e.event p (deliveries_left script older p) (deliveries older p.entry p.place) (deliveries (e ∷ older) p.entry p.place)
          (was_lost older p.entry p.place) (delivered_more older e p.entry p.place)

  pub left_at_first : IsFreeHistory script (e ∷ older) → (p : Parcel) → p.entry ≡ suc (length older)
      → deliveries_left script (e ∷ older) p ≡ left_by (fate_of script (e ∷ older) p) 0 false
  unfolding deliveries_left
  left_at_first history p same =
      let none : deliveries (e ∷ older) p.entry p.place ≡ 0 =
      count_no (λ x. is_delivery_of p.entry p.place x.event) e older (undelivered script older e p.place history.1 p.entry (omega arith))
      ∙ undelivered_new script older p.entry p.place history.0 (omega arith) in
      let kept : was_lost (e ∷ older) p.entry p.place ≡ false =
      ap (λ (b : Bool). b || was_lost older p.entry p.place) (unlost script older e p.place history.1 p.entry (omega arith))
      ∙ unlost_new script older p.entry p.place history.0 (omega arith) in
      ap (λ (k : ℕ). left_by (fate_of script (e ∷ older) p) k (was_lost (e ∷ older) p.entry p.place)) none
      ∙ ap (λ (b : Bool). left_by (fate_of script (e ∷ older) p) 0 b) kept

  -- those sent before
  pub olds_are : map (passed e.event) (map (output_of script older) (sent older)) ≡ map (output_of script (e ∷ older)) (sent older)
  olds_are = map_map_like (output_of script older) (output_of script (e ∷ older)) (passed e.event) (sent older) passed_is
