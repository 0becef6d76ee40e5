-- A property of messages that each act hands on, from what its actor took to what it sends, holds of all that a free run sends.
use Rattle.std.proofs.Common.{◌≡◌, ℕ, zero, suc, true, List, [], ◌∷◌, length, Option, Some, None, sym, subst}
use Rattle.std.proofs.lemmas.Bool.{cond_both}
use Rattle.std.specs.Prelude.{option_map, ◌==◌}
use Rattle.tp_base.proofs.Each.{each_append}
use Rattle.tp_base.specs.Lists.{Each}
use Rattle.tp_base.specs.Names.{same_name}
use Rattle.tp_base.specs.Tables.{nth}
use Rattle.tp_base.specs.declared.names.ActorName.{ActorName}
use Rattle.tp_rules.proofs.lists.Selections.{IfAny}
use Rattle.tp_rules.specs.Acts.{Act, Took, Did}
use Rattle.tp_rules.specs.Journal.{act_of, acts, identity_in, is_known, numbered, output_at, sent, with_act}
use Rattle.tp_rules.specs.Rules.{outputs_of}
use Rattle.tp_rules.specs.Runs.{FollowsRules, IsFreeHistory, outputs_by}
use Rattle.tp_rules.specs.declared.event.Entry.{Entry}
use Rattle.tp_rules.specs.declared.event.Event.{Event}
use Rattle.tp_rules.specs.declared.event.Event.TheVariants.{Deliver, Dropped, Inner as OfItself}
use Rattle.tp_rules.specs.declared.event.Parcel.{Parcel}
use Rattle.tp_script.specs.declared.script.Script.{Script}
use Rattle.tp_wire.specs.declared.message.Message.{Message}

-- an act takes no message but one with the property
abbrev pub TookOnly : (Message → Type 0) → Act → Type 0
TookOnly P (Took m) = P m
TookOnly P (Did inner) = Unit {0}

-- an actor of the script that took only such messages sends only such messages
abbrev pub HandsOn : Script → (Message → Type 0) → Type 0
HandsOn script P = (actor : ActorName) (before : List Act) (act : Act) → is_known script actor ≡ true
    → Each (TookOnly P) before → TookOnly P act → Each P (outputs_of (identity_in script actor) before act)

module _ (script : Script) (P : Message → Type 0) where
  -- each entry sends only such messages
  abbrev pub SendsOnly : List Entry → Type 0
  SendsOnly older = Each (λ e. Each P e.outputs) older

  place_passes : (ms : List Message) (place : ℕ) → Each P ms → IfAny P (nth ms place)
  place_passes [] zero h = tt
  place_passes [] (suc i) h = tt
  place_passes (m ∷ ms) zero h = tt
  place_passes (m ∷ ms) (suc zero) h = h.0
  place_passes (m ∷ ms) (suc (suc i)) h = place_passes ms (suc i) h.1

  pub output_passes : (older : List Entry) (entry place : ℕ) → SendsOnly older → IfAny P (output_at older entry place)
  output_passes [] entry place h = tt
  output_passes (e ∷ older) entry place h =
      cond_both (entry == suc (length older)) (nth e.outputs place) (output_at older entry place) (IfAny P)
      (λ t. place_passes e.outputs place h.0)
      (λ f. output_passes older entry place h.1)

  act_passes : (older : List Entry) (event : Event) → SendsOnly older → IfAny (TookOnly P) (act_of older event)
  act_passes older (Deliver entry place) h = took (output_at older entry place) (output_passes older entry place h)
    where
      took : (o : Option Message) → IfAny P o → IfAny (TookOnly P) (option_map Took o)
      took None k = tt
      took (Some m) k = k
  act_passes older (Dropped entry place) h = tt
  act_passes older (OfItself inner) h = tt

  pub acts_pass : (older : List Entry) (a : ActorName) → SendsOnly older → Each (TookOnly P) (acts older a)
  acts_pass [] a h = tt
  acts_pass (e ∷ older) a h =
      cond_both (same_name e.actor a) (with_act (act_of older e.event) (acts older a)) (acts older a) (Each (TookOnly P))
      (λ t. one_more (act_of older e.event) (act_passes older e.event h.1) (acts_pass older a h.1))
      (λ f. acts_pass older a h.1)
    where
      one_more : (o : Option Act) → IfAny (TookOnly P) o → Each (TookOnly P) (acts older a) → Each (TookOnly P) (with_act o (acts older a))
      one_more None k rest = rest
      one_more (Some act) k rest = (k, rest)

  -- what the next entry sends
  pub entry_passes : HandsOn script P → (older : List Entry) (e : Entry) → SendsOnly older → FollowsRules script older e → Each P e.outputs
  entry_passes hands older e h follows =
      subst (Each P) (sym follows.outputs) (by_act (act_of older e.event) (act_passes older e.event h))
    where
      by_act : (o : Option Act) → IfAny (TookOnly P) o → Each P (outputs_by script older e.actor o)
      by_act None k = tt
      by_act (Some act) k = hands e.actor (acts older e.actor) act follows.known (acts_pass older e.actor h) k

  pub history_passes : HandsOn script P → (older : List Entry) → IsFreeHistory script older → SendsOnly older
  history_passes hands [] history = tt
  history_passes hands (e ∷ older) history =
      let rest : SendsOnly older = history_passes hands older history.0 in
      (entry_passes hands older e rest history.1, rest)

  numbered_pass : (entry place : ℕ) (ms : List Message) → Each P ms → Each (λ parcel. P parcel.message) (numbered entry place ms)
  numbered_pass entry place [] h = tt
  numbered_pass entry place (m ∷ ms) h = (h.0, numbered_pass entry (suc place) ms h.1)

  pub sent_passes : (older : List Entry) → SendsOnly older → Each (λ parcel. P parcel.message) (sent older)
  sent_passes [] h = tt
  sent_passes (e ∷ older) h = each_append (λ (parcel : Parcel). P parcel.message) (sent older) (numbered (suc (length older)) 1 e.outputs)
      (sent_passes older h.1)
      (numbered_pass (suc (length older)) 1 e.outputs h.0)
