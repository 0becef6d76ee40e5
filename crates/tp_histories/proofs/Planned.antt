-- The same with the plan: steps that it allows are a run of the script. Used for the runs of scripts with a plan.
use Rattle.std.proofs.Common.{◌≡◌, ℕ, ◌&&◌, not, Bool, true, false, List, [], ◌∷◌, Option, Some, None, refl, ap, subst}
use Rattle.std.proofs.lemmas.Bool.{and_parts, ltb-true}
use Rattle.std.specs.Prelude.{nat_lt}
use Rattle.tp_histories.proofs.Played.{follows, inner_is, made, may_play, may_step, played_after, same_inner}
use Rattle.tp_rules.specs.Journal.{output_at}
use Rattle.tp_rules.specs.Plan.{Fate, Lost, Times, deliveries_left, due_of, fate_of, is_planned}
use Rattle.tp_rules.specs.Runs.{FollowsFate, FollowsLine, FollowsPlan, IsHistory, IsLegal, IsLost}
use Rattle.tp_rules.specs.declared.event.Entry.{Entry}
use Rattle.tp_rules.specs.declared.event.Event.{Event}
use Rattle.tp_rules.specs.declared.event.Event.TheVariants.{Deliver, Dropped, Inner as OfItself}
use Rattle.tp_rules.specs.declared.event.Inner.{Inner}
use Rattle.tp_rules.specs.declared.event.Item.{Item}
use Rattle.tp_rules.specs.declared.event.Parcel.{Parcel}
use Rattle.tp_script.specs.declared.script.Script.{Script}
use Rattle.tp_wire.specs.declared.message.Message.{Message}

abbrev pub is_own : Inner → Event → Bool
is_own inner (Deliver entry place) = false
is_own inner (Dropped entry place) = false
is_own inner (OfItself other) = same_inner other inner

-- whether an event is that of the line that is due, or, where none is, no planned one
abbrev pub follows_line : Option Inner → Event → Bool
follows_line None event = not (is_planned event)
follows_line (Some inner) event = is_own inner event

abbrev pub is_lost : Fate → Bool
is_lost Lost = true
is_lost (Times n) = false

abbrev pub is_left : Script → List Entry → Parcel → Bool
is_left script older parcel = nat_lt 0 (deliveries_left script older parcel)

abbrev pub may_deliver : Script → List Entry → ℕ → ℕ → Option Message → Bool
may_deliver script older entry place None = false
may_deliver script older entry place (Some m) =
    let parcel : Parcel = record { entry = entry; place = place; message = m } in
    not (is_lost (fate_of script older parcel)) && is_left script older parcel

abbrev pub may_lose : Script → List Entry → ℕ → ℕ → Option Message → Bool
may_lose script older entry place None = false
may_lose script older entry place (Some m) =
    let parcel : Parcel = record { entry = entry; place = place; message = m } in
    is_lost (fate_of script older parcel) && is_left script older parcel

-- whether an output is left, to be delivered or lost as the event says
abbrev pub follows_fate : Script → List Entry → Event → Bool
follows_fate script older (Deliver entry place) = may_deliver script older entry place (output_at older entry place)
follows_fate script older (Dropped entry place) = may_lose script older entry place (output_at older entry place)
follows_fate script older (OfItself inner) = true

abbrev pub is_allowed : Script → List Entry → Item → Bool
is_allowed script older it = follows_line (due_of script older it.actor) it.event && follows_fate script older it.event

-- whether the plan allows each step after those before it
abbrev pub are_allowed : Script → List Entry → List Item → Bool
are_allowed script older [] = true
are_allowed script older (it ∷ rest) =
    is_allowed script older it && are_allowed script (made script older it ∷ older) rest

own_is : (inner : Inner) (event : Event) → is_own inner event ≡ true → event ≡ OfItself inner
own_is inner (Deliver entry place) is = absurd cc
own_is inner (Dropped entry place) is = absurd cc
own_is inner (OfItself other) is = ap (λ k. OfItself k) (inner_is other inner is)

not_is : (b : Bool) → not b ≡ true → b ≡ false
not_is true is = cc
not_is false is = refl

line_is : (o : Option Inner) (event : Event) → follows_line o event ≡ true → FollowsLine o event
line_is None event is = not_is (is_planned event) is
line_is (Some inner) event is = own_is inner event is

lost_is : (fate : Fate) → is_lost fate ≡ true → IsLost fate
lost_is Lost is = tt
lost_is (Times n) is = absurd cc

not_lost : (fate : Fate) → is_lost fate ≡ false → ¬ IsLost fate
not_lost Lost is = absurd cc
not_lost (Times n) is = λ h. h

module _ (script : Script) (older : List Entry) where
  delivered_is : (entry place : ℕ) → may_deliver script older entry place (output_at older entry place) ≡ true →
      FollowsFate script older (Deliver entry place)
  delivered_is entry place is m there =
      let parcel : Parcel = record { entry = entry; place = place; message = m } in
      let both = and_parts (not (is_lost (fate_of script older parcel))) (is_left script older parcel)
      (subst (λ (o : Option Message). may_deliver script older entry place o ≡ true) there is) in
      let fate = not_lost (fate_of script older parcel) (not_is (is_lost (fate_of script older parcel)) both.0) in
      (fate, ltb-true 0 (deliveries_left script older parcel) both.1)

  loss_is : (entry place : ℕ) → may_lose script older entry place (output_at older entry place) ≡ true →
      FollowsFate script older (Dropped entry place)
  loss_is entry place is m there =
      let parcel : Parcel = record { entry = entry; place = place; message = m } in
      let both = and_parts (is_lost (fate_of script older parcel)) (is_left script older parcel)
      (subst (λ (o : Option Message). may_lose script older entry place o ≡ true) there is) in
      (lost_is (fate_of script older parcel) both.0, ltb-true 0 (deliveries_left script older parcel) both.1)

  fate_is : (event : Event) → follows_fate script older event ≡ true → FollowsFate script older event
  fate_is (Deliver entry place) is = delivered_is entry place is
  fate_is (Dropped entry place) is = loss_is entry place is
  fate_is (OfItself inner) is = tt

  allowed_is : (it : Item) → is_allowed script older it ≡ true → FollowsPlan script older (made script older it)
  allowed_is it is =
      let both =
      and_parts (follows_line (due_of script older it.actor) it.event) (follows_fate script older it.event) is in
      record { line = line_is (due_of script older it.actor) it.event both.0; fate = fate_is it.event both.1 }

-- the steps go on a history as a history
pub goes_on : (script : Script) (older : List Entry) (steps : List Item) → IsHistory script older →
    may_play script older steps ≡ true → are_allowed script older steps ≡ true →
    IsHistory script (played_after script older steps)
goes_on script older [] history may allowed = history
goes_on script older (it ∷ rest) history may allowed =
    let steps = and_parts (may_step script older it) (may_play script (made script older it ∷ older) rest) may in
    let plans =
    and_parts (is_allowed script older it) (are_allowed script (made script older it ∷ older) rest) allowed in
    let legal : IsLegal script older (made script older it) =
    record { rules = follows script older it steps.0; plan = allowed_is script older it plans.0 } in
    goes_on script (made script older it ∷ older) rest (history, legal) steps.1 plans.1
