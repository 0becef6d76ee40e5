-- What holds of an actor's acts along a journal, entry by entry. Used for whatever is shown of the states of actors.
use Rattle.std.proofs.Common.{◌≡◌, ℕ, List, ◌∷◌, Option, Some, None, refl, ap, subst, ◌∙◌}
use Rattle.std.specs.Prelude.{option_map}
use Rattle.std.proofs.lemmas.Bool.{cond_both}
use Rattle.tp_base.specs.Names.{same_name}
use Rattle.tp_base.proofs.SameNames.{same_name_is}
use Rattle.tp_base.specs.declared.names.ActorName.{ActorName}
use Rattle.tp_rules.specs.Acts.{Act, Took}
use Rattle.tp_rules.specs.Journal.{output_at, act_of, with_act, acts}
use Rattle.tp_rules.specs.declared.event.Entry.{Entry}
use Rattle.tp_rules.specs.declared.event.Event.TheVariants.{Deliver}
use Rattle.tp_wire.specs.declared.message.Message.{Message}
use Rattle.tp_rules.proofs.Journals.{acts_of_newest}

-- what holds after an actor's acts holds after one more entry, where it holds after the act that the entry adds
pub acts_step : (P : List Act → Type 0) (older : List Entry) (e : Entry) (a : ActorName) → P (acts older a) →
    ((act : Act) → e.actor ≡ a → act_of older e.event ≡ Some act → P (act ∷ acts older a)) → P (acts (e ∷ older) a)
acts_step P older e a h more =
    cond_both (same_name e.actor a) (with_act (act_of older e.event) (acts older a)) (acts older a) P
    (λ t. of_act (act_of older e.event) (λ act is. more act (same_name_is e.actor a t) is)) (λ f. h)
  where
    of_act : (o : Option Act) → ((act : Act) → o ≡ Some act → P (act ∷ acts older a)) → P (with_act o (acts older a))
    of_act None k = h
    of_act (Some act) k = k act refl

-- the acts of the actor of an entry
pub acts_then : (older : List Entry) (e : Entry) (a : ActorName) (act : Act) → e.actor ≡ a → act_of older e.event ≡ Some act →
    acts (e ∷ older) a ≡ act ∷ acts older a
acts_then older e a act same is =
    subst (λ (x : ActorName). acts (e ∷ older) x ≡ act ∷ acts older x) same
    (acts_of_newest older e ∙ ap (λ (o : Option Act). with_act o (acts older e.actor)) is)

-- a delivery's message
pub delivered_act : (older : List Entry) (entry place : ℕ) (act : Act) → act_of older (Deliver entry place) ≡ Some act →
    (m : Message) × (output_at older entry place ≡ Some m) × (act ≡ Took m)
delivered_act older entry place act e = of_output (output_at older entry place) refl e
  where
    of_output : (o : Option Message) → output_at older entry place ≡ o → option_map Took o ≡ Some act →
        (m : Message) × (output_at older entry place ≡ Some m) × (act ≡ Took m)
    of_output None is f = absurd cc
    of_output (Some m) is f = (m, is, cc)
