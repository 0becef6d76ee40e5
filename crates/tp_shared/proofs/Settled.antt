-- Once all desks were joined, the first has seen the whole journal: nobody else can enter. Used where it takes the turn.
use Rattle.std.proofs.Common.{◌≡◌, ℕ, inl, inr, List, [], ◌∷◌, ◌++◌, Some, None, length, refl, sym, ap, subst, ◌∙◌, arith}
use Rattle.std.proofs.lemmas.Bool.{cases_Bool}
use Rattle.std.proofs.lemmas.List.{append-nil}
use Rattle.atomic_table.specs.Seated.{TableId}
use Rattle.atomic_table.specs.Table.{Me, rest}
use Rattle.tp_base.proofs.SameNames.{same_name_refl}
use Rattle.tp_base.specs.Lists.{IsPrefixOf, has}
use Rattle.tp_base.specs.Names.{same_name}
use Rattle.tp_base.specs.declared.names.ActorName.{ActorName}
use Rattle.tp_rules.proofs.lists.Tallies.{filter_yes}
use Rattle.tp_rules.specs.declared.event.Entry.{Entry}
use Rattle.tp_shared.proofs.Shown.{by_more, nothing_more}
use Rattle.tp_shared.specs.Histories.{after, entries_by}
use Rattle.tp_shared.specs.Known.{AllJoined, Known, Told, current, known, own_now}
use Rattle.tp_shared.specs.Rule.{Slot, Tells}
use Rattle.tp_shared.specs.Steps.{Won}
use Rattle.tp_shared.specs.declared.view.View.{View}

by_nobody : (xs : List Entry) → ((a : ActorName) → entries_by a xs ≡ []) → xs ≡ []
by_nobody [] h = refl
by_nobody (e ∷ xs) h =
    let some : entries_by e.actor (e ∷ xs) ≡ e ∷ entries_by e.actor xs =
    filter_yes (λ (d : Entry). same_name d.actor e.actor) e xs (same_name_refl e.actor) in
    let none : entries_by e.actor (e ∷ xs) ≡ [] = h e.actor in
    absurd cc

pub settled : (k : Known) (journal : List Entry) → Told k → Tells k.opening journal k.actor k.own k.listed k.kept → IsPrefixOf k.seen journal
    → k.actor ≡ None → AllJoined k → journal ≡ k.seen
settled k journal told now grows free all =
    sym grows.1 ∙ ap (λ (l : List Entry). k.seen ++ l) (by_nobody grows.0 nothing) ∙ append-nil k.seen
  where
    same : (a : ActorName) → entries_by a (after k.opening.journal journal) ≡ entries_by a (after k.opening.journal k.seen)
    same a = elim (cases_Bool (has same_name a k.listed)) [
      | inl listed ↦ let own = all a listed in sym (now.kept_is (a, own.0) own.1) ∙ told.kept_is (a, own.0) own.1
      | inr not ↦ now.strangers free a not ∙ sym (told.strangers free a not)
    ]

    nothing : (a : ActorName) → entries_by a grows.0 ≡ []
    nothing a =
        let old : List Entry = entries_by a (after k.opening.journal k.seen) in
        let grown : old ++ entries_by a grows.0 ≡ old =
        sym (by_more a k.opening.journal k.seen grows.0 told.begins) ∙ ap (λ (l : List Entry). entries_by a (after k.opening.journal l)) grows.1 ∙ same a in
        let long : length (old ++ entries_by a grows.0) ≡ length old = ap length grown in
        nothing_more old (entries_by a grows.0) (omega arith)

-- the turn was won, and the slot exchanged for nothing

abbrev slot_of : List (ℕ × Slot) → Slot
slot_of [] = None
slot_of (x ∷ xs) = x.1

same_in : (journal it : List Entry) → Some journal ≡ Some it → journal ≡ it
same_in journal it e = cc

pub settled_as : (z : TableId) (v : View) (hand : Slot) (k : Known) (w : Me Slot View) (found : Slot) (journal : List Entry) → known z v hand ≡ k → hand ≡ None
    → Tells v.opening (current v.seen hand) v.actor (own_now v hand) v.listed v.kept → Won v w → w.1 ≡ (0, found) ∷ rest w.1 → found ≡ Some journal
    → k.actor ≡ None → AllJoined k → journal ≡ k.seen
settled_as z v hand k w found journal view none shows won slot some free all =
    let slots : w.1 ≡ (0, Some w.0.seen) ∷ [] = ap (λ (m : Me Slot View). m.1) won.0 in
    let whole : journal ≡ w.0.seen = same_in journal w.0.seen (sym some ∙ ap slot_of (sym slot ∙ slots)) in
    let old : Known = known z v None in
    let is : k ≡ known z v None = sym view ∙ ap (known z v) none in
    let shown : Told (known z v None) = subst (λ (h : Slot). Told (known z v h)) none shows in
    whole ∙ settled (known z v None) w.0.seen shown won.1.shows won.1.grows (ap (λ (j : Known). j.actor) (sym is) ∙ free) (subst AllJoined is all)
    ∙ ap (λ (j : Known). j.seen) (sym is)
