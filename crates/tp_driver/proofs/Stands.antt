-- The actors of a driver, before and after a step of one of them.
use Rattle.std.proofs.Common.{◌≡◌, ◌≢◌, ℕ, zero, suc, ◌+◌, ◌<◌, ◌≤◌, inl, inr, Bool, true, false, List, [], ◌∷◌, ◌++◌, length, map, set, take, Option, Some, None, refl, sym, ap, subst, ◌∙◌, arith}
use Rattle.std.proofs.lemmas.Bool.{cases_Bool, cases_eq}
use Rattle.std.proofs.lemmas.List.{length-set, map-append, take_all}
use Rattle.std.proofs.lemmas.Option.{slice_get-get_or, slice_get_within}
use Rattle.std.specs.Prelude.{reverse, slice_get, slice_index_or, slice_set}
use Rattle.tp_base.proofs.Ends.{get_set_other, get_set_same}
use Rattle.tp_base.proofs.SameNames.{same_name_is, same_name_not}
use Rattle.tp_base.specs.Names.{same_name}
use Rattle.tp_base.specs.declared.names.ActorName.{ActorName}
use Rattle.tp_base.specs.declared.names.ActorName.TheVariants.{Process, Executor, Session}
use Rattle.tp_netbook.proofs.Places.{get_place, place_get}
use Rattle.tp_netbook.proofs.Rosters.{take_next}
use Rattle.tp_netbook.specs.Netbook.{AreNext}
use Rattle.tp_netbook.specs.Places.{place_of}
use Rattle.tp_driver.specs.Cast.{AllStand}
use Rattle.tp_rules.proofs.Journals.{acts_here, acts_other}
use Rattle.tp_rules.specs.Acts.{Act, Identity, name_in}
use Rattle.tp_rules.specs.Journal.{act_of, acts, identity_in, is_known, with_act}
use Rattle.tp_rules.specs.Pending.{actors_of}
use Rattle.tp_rules.specs.Rules.{enabled, outputs_of}
use Rattle.tp_rules.specs.declared.event.Entry.{Entry}
use Rattle.tp_rules.specs.declared.event.Inner.{Inner}
use Rattle.tp_script.specs.declared.script.Script.{Script}
use Rattle.tp_wire.specs.declared.message.Message.{Message}

pub name_of_identity : (script : Script) (name : ActorName) → name_in (identity_in script name) ≡ name
name_of_identity script (Process s) = refl
name_of_identity script (Executor s) = refl
name_of_identity script (Session s) = refl

none_within : {X : Type 0} (xs : List X) (k : ℕ) → k < length xs → slice_get xs k ≡ None → ⊥
none_within [] k lt e = omega arith
none_within (x ∷ xs) zero lt e = absurd cc
none_within (x ∷ xs) (suc k) lt e = none_within xs k (omega arith) e

module _ {A : Type 0} (identity_of : A → Identity) (is_spent : A → Bool) (stands : A → List Act → Type 0) (script : Script) (actors : List A)
    (journal : List Entry) (all : AllStand identity_of is_spent stands script actors journal) where
  -- the name of an actor by its place
  named : (k : ℕ) (a : A) → slice_get actors k ≡ Some a → (name : ActorName) × (slice_get (actors_of script) k ≡ Some name)
  named k a at = of (slice_get (actors_of script) k) refl
    where
      of : (o : Option ActorName) → slice_get (actors_of script) k ≡ o → (name : ActorName) × (slice_get (actors_of script) k ≡ Some name)
      of (Some name) e = (name, e)
      of None e =
          let within : k < length actors = slice_get_within actors k a at in
          absurd (none_within (actors_of script) k (omega (arith, all.many)) e)

  -- an actor's place is within the list
  pub place_within : (name : ActorName) → is_known script name ≡ true → place_of script name < length actors
  place_within name known = omega (arith, all.many, slice_get_within (actors_of script) (place_of script name) name (get_place script name known))

  -- the actor of a name
  pub stands_at : (name : ActorName) (a : A) → is_known script name ≡ true → slice_get actors (place_of script name) ≡ Some a
      → (identity_of a ≡ identity_in script name) × (is_spent a ≡ false) × stands a (acts (reverse journal) name)
  stands_at name a known at = all.each (place_of script name) a name at (get_place script name known)

  -- after a step of one of them
  pub stand_more : (name : ActorName) (a a' : A) (e : Entry) (act : Act) → is_known script name ≡ true → slice_get actors (place_of script name) ≡ Some a
      → identity_of a' ≡ identity_of a → is_spent a' ≡ false → ((acts : List Act) → stands a acts → stands a' (act ∷ acts))
      → e.actor ≡ name → act_of (reverse journal) e.event ≡ Some act
      → AllStand identity_of is_spent stands script (set actors (place_of script name) a') (journal ++ e ∷ [])
  stand_more name a a' e act known at same unspent more actor is_act = record {
    many = length-set actors (place_of script name) a' ∙ all.many;
    each = each;
  }
    where
      own_acts : acts (reverse (journal ++ e ∷ [])) name ≡ act ∷ acts (reverse journal) name
      own_acts =
          subst (λ n. acts (reverse (journal ++ e ∷ [])) n ≡ act ∷ acts (reverse journal) n) actor
          (acts_here journal e ∙ ap (λ (o : Option Act). with_act o (acts (reverse journal) e.actor)) is_act)

      each : (k : ℕ) (b : A) (other : ActorName) → slice_get (set actors (place_of script name) a') k ≡ Some b → slice_get (actors_of script) k ≡ Some other
          → (identity_of b ≡ identity_in script other) × (is_spent b ≡ false) × stands b (acts (reverse (journal ++ e ∷ [])) other)
      each k b other there is = elim (cases_eq k (place_of script name)) [
        | inl here ↦
            let before = stands_at name a known at in
            let who : Some other ≡ Some name = sym is ∙ ap (slice_get (actors_of script)) here ∙ get_place script name known in
            let who' : name ≡ other = cc in
            let what : Some b ≡ Some a' = sym there ∙ ap (slice_get (set actors (place_of script name) a')) here ∙ get_set_same actors (place_of script name) a' a at in
            let what' : a' ≡ b = cc in
            subst (λ n. (identity_of b ≡ identity_in script n) × (is_spent b ≡ false) × stands b (acts (reverse (journal ++ e ∷ [])) n)) who'
            (subst (λ c. (identity_of c ≡ identity_in script name) × (is_spent c ≡ false) × stands c (acts (reverse (journal ++ e ∷ [])) name)) what'
            (same ∙ before.0, unspent, subst (stands a') (sym own_acts) (more (acts (reverse journal) name) before.2)))
        | inr apart ↦
            let before = all.each k b other (sym (get_set_other actors (place_of script name) k a' apart) ∙ there) is in
            let places : k ≡ place_of script other = (place_get script k other is).0 in
            let differs : e.actor ≢ other = (λ (w : e.actor ≡ other). apart (places ∙ ap (place_of script) (sym w ∙ actor))) in
            (before.0, before.1, subst (stands b) (sym (acts_other journal e other (same_name_not e.actor other differs))) before.2)
      ]

  -- the actor at a place of the list

  module _ (name : ActorName) (known : is_known script name ≡ true) (k : ℕ) (is : k ≡ place_of script name) where
    pub within : k < length actors
    within = omega (arith, place_within name known)

    module _ (d : A) where
      abbrev pub actor_there : A
      actor_there = slice_index_or actors k d

      found : slice_get actors (place_of script name) ≡ Some actor_there
      found = sym (ap (slice_get actors) is) ∙ slice_get-get_or actors k d within

      pub there : (identity_of actor_there ≡ identity_in script name) × (is_spent actor_there ≡ false) × stands actor_there (acts (reverse journal) name)
      there = stands_at name actor_there known found

      -- what it sends is what the rules say of it
      pub sends : (act : Act) (outputs : List Message) → ((acts : List Act) → stands actor_there acts → outputs ≡ outputs_of (identity_of actor_there) acts act)
          → outputs ≡ outputs_of (identity_in script name) (acts (reverse journal) name) act
      sends act outputs h =
          h (acts (reverse journal) name) there.2 ∙ ap (λ (i : Identity). outputs_of i (acts (reverse journal) name) act) there.0

      pub stand_after : (a' : A) (e : Entry) (act : Act) (after : List Entry) → identity_of a' ≡ identity_of actor_there → is_spent a' ≡ false
          → ((acts : List Act) → stands actor_there acts → stands a' (act ∷ acts)) → e.actor ≡ name → act_of (reverse journal) e.event ≡ Some act
          → after ≡ journal ++ e ∷ [] → AllStand identity_of is_spent stands script (slice_set actors k a') after
      stand_after a' e act after same unspent more actor is_act entered =
          subst (λ n. AllStand identity_of is_spent stands script (slice_set actors n a') after) (sym is)
          (subst (AllStand identity_of is_spent stands script (slice_set actors (place_of script name) a')) (sym entered)
          (stand_more name actor_there a' e act known found same unspent more actor is_act))

  -- where an entry is no act, as where a message is lost
  pub stand_still : (e : Entry) (after : List Entry) → act_of (reverse journal) e.event ≡ None → after ≡ journal ++ e ∷ [] → AllStand identity_of is_spent stands script actors after
  stand_still e after none entered = subst (AllStand identity_of is_spent stands script actors) (sym entered) (record { many = all.many; each = each })
    where
      same_acts : (name : ActorName) → acts (reverse (journal ++ e ∷ [])) name ≡ acts (reverse journal) name
      same_acts name = elim (cases_Bool (same_name e.actor name)) [
        | inl here ↦
            let is : e.actor ≡ name = same_name_is e.actor name here in
            subst (λ n. acts (reverse (journal ++ e ∷ [])) n ≡ acts (reverse journal) n) is
            (acts_here journal e ∙ ap (λ (o : Option Act). with_act o (acts (reverse journal) e.actor)) none)
        | inr apart ↦ acts_other journal e name apart
      ]

      each : (k : ℕ) (a : A) (name : ActorName) → slice_get actors k ≡ Some a → slice_get (actors_of script) k ≡ Some name
          → (identity_of a ≡ identity_in script name) × (is_spent a ≡ false) × stands a (acts (reverse (journal ++ e ∷ [])) name)
      each k a name at is = let before = all.each k a name at is in (before.0, before.1, subst (stands a) (sym (same_acts name)) before.2)

  -- the steps of their own that the actors may make

  abbrev makes : ActorName → Option Inner
  makes name = enabled (identity_in script name) (acts (reverse journal) name)

  pub next_at : (k : ℕ) (a : A) (o : Option Inner) (name : ActorName) → slice_get actors k ≡ Some a → slice_get (actors_of script) k ≡ Some name
      → ((acts : List Act) → stands a acts → o ≡ enabled (identity_of a) acts) → o ≡ makes name
  next_at k a o name at is next =
      let before = all.each k a name at is in
      next (acts (reverse journal) name) before.2 ∙ ap (λ (i : Identity). enabled i (acts (reverse journal) name)) before.0

  -- one more of them
  pub next_more : (next next' : List (Option Inner)) (k : ℕ) (a : A) (o : Option Inner) → next ≡ map makes (take k (actors_of script)) → slice_get actors k ≡ Some a
      → ((acts : List Act) → stands a acts → o ≡ enabled (identity_of a) acts) → next' ≡ next ++ o ∷ [] → next' ≡ map makes (take (k + 1) (actors_of script))
  next_more next next' k a o before at next_of more =
      let name = named k a at in
      let is : o ≡ makes name.0 = next_at k a o name.0 at name.1 next_of in
      more ∙ ap (λ (l : List (Option Inner)). l ++ o ∷ []) before ∙ ap (λ (x : Option Inner). map makes (take k (actors_of script)) ++ x ∷ []) is
      ∙ sym (map-append makes (take k (actors_of script)) (name.0 ∷ [])) ∙ ap (map makes) (sym (take_next (actors_of script) k name.0 name.1))

  pub next_whole : (next : List (Option Inner)) (n : ℕ) → next ≡ map makes (take n (actors_of script)) → length actors ≤ n → AreNext script journal next
  next_whole next n is past = is ∙ ap (map makes) (take_all n (actors_of script) (omega (arith, all.many)))
