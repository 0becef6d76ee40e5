-- Four desks that were split were joined: all that were listed are kept.
use Rattle.std.proofs.Common.{◌≡◌, inl, inr, List, [], ◌∷◌, Some, true, refl, sym, ap, subst, ◌∙◌}
use Rattle.tp_base.proofs.Members.{has_in}
use Rattle.tp_base.proofs.SameNames.{same_name_is}
use Rattle.tp_base.specs.Lists.{has}
use Rattle.tp_base.specs.Names.{same_name}
use Rattle.tp_base.specs.declared.names.ActorName.{ActorName}
use Rattle.tp_rules.specs.declared.event.Entry.{Entry}
use Rattle.tp_shared.specs.Known.{AllJoined, Known, holding, joined, listed_too}
use Rattle.tp_shared.specs.Rule.{KeepsListOf, Made}
use Rattle.tp_shared.specs.Steps.{keeping}

four_kept : (a b c d : ActorName) (ws xs ys zs : List Entry) (x : ActorName) → has same_name x (d ∷ c ∷ b ∷ a ∷ []) ≡ true
    → KeepsListOf ((a, ws) ∷ (b, xs) ∷ (c, ys) ∷ (d, zs) ∷ []) x
four_kept a b c d ws xs ys zs x h = elim (has_in same_name same_name_is x (d ∷ c ∷ b ∷ a ∷ []) h) [
  | inl is ↦ subst keeps (sym is) (zs, inr (inr (inr (inl refl))))
  | inr rest ↦ elim rest [
    | inl is ↦ subst keeps (sym is) (ys, inr (inr (inl refl)))
    | inr more ↦ elim more [
      | inl is ↦ subst keeps (sym is) (xs, inr (inl refl))
      | inr last ↦ elim last [
        | inl is ↦ subst keeps (sym is) (ws, inl refl)
        | inr none ↦ absurd none
      ]
    ]
  ]
]
  where
    keeps : ActorName → Type 0
    keeps = KeepsListOf ((a, ws) ∷ (b, xs) ∷ (c, ys) ∷ (d, zs) ∷ [])

-- a desk that has listed and kept these
pub record Has (listed : List ActorName) (kept : List Made) (k : Known) : Type 0 where
  pub listed_is : k.listed ≡ listed
  pub kept_is : k.kept ≡ kept

pub has_listed : (listed : List ActorName) (kept : List Made) (old new : Known) (a : ActorName) → Has listed kept old → new ≡ listed_too old a
    → Has (a ∷ listed) kept new
has_listed listed kept old new a h e = record {
  listed_is = ap (λ (k : Known). k.listed) e ∙ ap (λ (l : List ActorName). a ∷ l) h.listed_is;
  kept_is = ap (λ (k : Known). k.kept) e ∙ h.kept_is;
}

pub has_kept : (listed : List ActorName) (kept : List Made) (old new other : Known) (a : ActorName) → Has listed kept old → new ≡ joined old other
    → other.actor ≡ Some a → Has listed (keeping kept (Some a) other.own) new
has_kept listed kept old new other a h e actor = record {
  listed_is = ap (λ (k : Known). k.listed) e ∙ h.listed_is;
  kept_is = ap (λ (k : Known). k.kept) e ∙ ap (λ (l : List Made). keeping l other.actor other.own) h.kept_is
      ∙ ap (λ o. keeping kept o other.own) actor;
}

pub all_joined : (a b c d : ActorName) (ws xs ys zs : List Entry) (old held : Known)
    → Has (d ∷ c ∷ b ∷ a ∷ []) ((a, ws) ∷ (b, xs) ∷ (c, ys) ∷ (d, zs) ∷ []) old → held ≡ holding old held.seen → AllJoined held
all_joined a b c d ws xs ys zs old held h e = λ x is.
    subst (λ (l : List Made). KeepsListOf l x) (sym (ap (λ (k : Known). k.kept) e ∙ h.kept_is))
    (four_kept a b c d ws xs ys zs x
    (subst (λ (l : List ActorName). has same_name x l ≡ true) (ap (λ (k : Known). k.listed) e ∙ h.listed_is) is))
