-- Equality of values can be decided, by their codes. Used to find a flaw of each entry that isn't legal.
use Rattle.std.proofs.Common.{◌≡◌, ◌≢◌, ◌⊎◌, ℕ, zero, suc, inl, inr, List, [], ◌∷◌, refl, sym, ap, ◌∙◌, arith}
use Rattle.std.proofs.lemmas.Bool.{cases_eq}
use Rattle.std.specs.Coded.{Coded, codes}
use Rattle.std.specs.Prelude.{Option, Some, take, ◌-◌}
use Rattle.tp_check.specs.Causes.{DifferFirst}
use Rattle.tp_rules.specs.declared.event.Event.{Event}
use Rattle.tp_rules.specs.declared.event.Inner.{Inner}
use Rattle.tp_wire.specs.declared.message.Message.{Message}
use base.Stored.{Gv, gnil, gnum, gcons}

same_code : (a b : Gv) → (a ≡ b) ⊎ (a ≢ b)
same_code gnil gnil = inl refl
same_code gnil (gnum n) = inr (λ wrong. cc)
same_code gnil (gcons a b) = inr (λ wrong. cc)
same_code (gnum m) gnil = inr (λ wrong. cc)
same_code (gnum m) (gnum n) = elim (cases_eq m n) [ inl same ↦ inl (ap gnum same) | inr apart ↦ inr (λ wrong. apart cc) ]
same_code (gnum m) (gcons a b) = inr (λ wrong. cc)
same_code (gcons a b) gnil = inr (λ wrong. cc)
same_code (gcons a b) (gnum n) = inr (λ wrong. cc)
same_code (gcons a b) (gcons c d) = elim (same_code a c) [
  | inl same ↦ elim (same_code b d) [
    | inl also ↦ inl (ap (λ x. gcons x b) same ∙ ap (gcons c) also)
    | inr apart ↦ inr (λ wrong. apart cc)
  ]
  | inr apart ↦ inr (λ wrong. apart cc)
]

decided : {X : Type 0} → Coded X → (x y : X) → (x ≡ y) ⊎ (x ≢ y)
decided c x y = elim (same_code (c.code x) (c.code y)) [
  | inl same ↦ inl (c.inj x y same)
  | inr apart ↦ inr (λ same. apart (ap c.code same))
]

coded_message : Coded Message
coded_message = hlevel codes

coded_event : Coded Event
coded_event = hlevel codes

coded_step : Coded (Option Inner)
coded_step = hlevel codes

pub same_event : (a b : Event) → (a ≡ b) ⊎ (a ≢ b)
same_event = decided coded_event

pub same_step : (a b : Option Inner) → (a ≡ b) ⊎ (a ≢ b)
same_step = decided coded_step

-- two lists are the same, or differ first at some place
pub same_or_differ : (given right : List Message) → (given ≡ right) ⊎ ((place : ℕ) × DifferFirst given right place)
same_or_differ [] [] = inl refl
same_or_differ [] (y ∷ ys) = inr (1, record { before = refl; there = λ wrong. cc })
same_or_differ (x ∷ xs) [] = inr (1, record { before = refl; there = λ wrong. cc })
same_or_differ (x ∷ xs) (y ∷ ys) = elim (decided coded_message x y) [
  | inl same ↦ elim (same_or_differ xs ys) [
    | inl also ↦ inl (ap (λ (m : Message). m ∷ xs) same ∙ ap (λ (l : List Message). y ∷ l) also)
    | inr found ↦ inr (suc found.0, later same found.0 found.1)
  ]
  | inr apart ↦ inr (1, record { before = refl; there = λ (wrong : Some x ≡ Some y). apart cc })
]
  where
    later : x ≡ y → (place : ℕ) → DifferFirst xs ys place → DifferFirst (x ∷ xs) (y ∷ ys) (suc place)
    later same zero differ = absurd (differ.there refl)
    later same (suc i) differ =
        let here : suc (suc i) - 1 ≡ suc i = omega arith in
        let there : suc i - 1 ≡ i = omega arith in
        let rest : take i xs ≡ take i ys = ap (λ (n : ℕ). take n xs) (sym there) ∙ differ.before ∙ ap (λ (n : ℕ). take n ys) there in record {
          before = ap (λ (n : ℕ). take n (x ∷ xs)) here ∙ ap (λ (m : Message). m ∷ take i xs) same ∙ ap (λ (l : List Message). y ∷ l) rest
              ∙ ap (λ (n : ℕ). take n (y ∷ ys)) (sym here);
          there = differ.there;
        }
