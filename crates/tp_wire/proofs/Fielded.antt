-- What a reader and a spelling have to do with each other (`IsField`), and that fields one after the other keep it.
use Rattle.std.proofs.Common.{◌≡◌, ℕ, List, [], ◌++◌, Ok, refl, sym, ap, subst, ◌∙◌, append_assoc}
use Rattle.std.proofs.lemmas.List.{append-nil}
use Rattle.tp_base.specs.Fields.{At, IsBytes, left}
use Rattle.tp_text.specs.Steps.{◌>>=◌}
use Rattle.tp_text.proofs.Stepped.{bind_ok, ok_is}
use Rattle.tp_wire.specs.Meaning.{Reader}
use Rattle.tp_wire.specs.declared.fault.WireFault.{WireFault}

-- what was taken from the front of what was left
pub record Takes (at : At) (text : List ℕ) (after : At) : Type 0 where
  pub parts : left at ≡ text ++ left after
  pub input : after.input ≡ at.input

-- a value is read, and this is left behind it
pub record IsRead {A : Type 0} (reader : Reader A) (at : At) (a : A) (rest : List ℕ) : Type 0 where
  pub after : At
  pub read : reader at ≡ Ok (a, after)
  pub rest_is : left after ≡ rest

-- what is read is spelled so and fits, and what fits and is spelled so is read
pub record IsField {A : Type 0} (reader : Reader A) (text : A → List ℕ) (Fits : A → Type 0) : Type 0 where
  pub takes : (at : At) (x : A × At) → IsBytes at.input → reader at ≡ Ok x → Takes at (text x.0) x.1 × Fits x.0
  pub again : (at : At) (a : A) (rest : List ℕ) → Fits a → left at ≡ text a ++ rest → IsRead reader at a rest

-- the same of a value that is made of parts
pub record IsMade {A M : Type 0} (reader : Reader M) (make : A → M) (text : A → List ℕ) (Fits : A → Type 0) : Type 0 where
  pub takes : (at : At) (x : M × At) → IsBytes at.input → reader at ≡ Ok x → (a : A) × (make a ≡ x.0) × Takes at (text a) x.1 × Fits a
  pub again : (at : At) (a : A) (rest : List ℕ) → Fits a → left at ≡ text a ++ rest → IsRead reader at (make a) rest

pub takes_then : (a : At) (s : List ℕ) (b : At) (t : List ℕ) (c : At) → Takes a s b → Takes b t c → Takes a (s ++ t) c
takes_then a s b t c first other = record {
  parts = first.parts ∙ ap (λ (x : List ℕ). s ++ x) other.parts ∙ sym (append_assoc s t (left c));
  input = other.input ∙ first.input;
}

pub takes_none : (at : At) → Takes at [] at
takes_none at = record { parts = refl; input = refl }

-- ---- steps one after the other

-- nothing more is read
pub ends : {M : Type 0} (m : M) → IsMade {A = Unit {0}} (λ at. Ok (m, at)) (λ _. m) (λ _. []) (λ _. Unit {0})
ends m = record {
  takes = λ at x fits e. let same = ok_is WireFault (m, at) x e in
      (tt, ap (λ (y : _ × At). y.0) same, subst (λ (y : _ × At). Takes at [] y.1) same (takes_none at), tt);
  again = λ at u rest fits e. record { after = at; read = refl; rest_is = e };
}

-- the last field is the value
pub last : {A : Type 0} {reader : Reader A} {text : A → List ℕ} {Fits : A → Type 0} → IsField reader text Fits → IsMade reader (λ a. a) (λ a. text a ++ []) Fits
last {text} field = record {
  takes = λ at x fits e. let taken = field.takes at x fits e in
      (x.0, refl, subst (λ (t : List ℕ). Takes at t x.1) (sym (append-nil (text x.0))) taken.0, taken.1);
  again = λ at a rest fits e. field.again at a rest fits (e ∙ ap (λ (t : List ℕ). t ++ rest) (append-nil (text a)));
}

-- a field, and what is read behind it
pub then_field : {A B M : Type 0} {reader : Reader A} {text : A → List ℕ} {Fits : A → Type 0} {others : A → Reader M} {make : A → B → M} {texts : A → B → List ℕ} {AllFit : A → B → Type 0}
    → IsField reader text Fits → ((a : A) → Fits a → IsMade (others a) (make a) (texts a) (AllFit a))
    → IsMade {A = A × B} (λ at. reader at >>= λ x. others x.0 x.1) (λ p. make p.0 p.1) (λ p. text p.0 ++ texts p.0 p.1) (λ p. Fits p.0 × AllFit p.0 p.1)
then_field {reader} {text} {others} {texts} field behind = record {
  takes = λ at x fits e.
      let step = bind_ok (reader at) (λ y. others y.0 y.1) x e in
      let first = field.takes at step.0 fits step.1 in
      let other = (behind step.0.0 first.1).takes step.0.1 x (subst (λ (bytes : List ℕ). IsBytes bytes) (sym first.0.input) fits) step.2 in
      ((step.0.0, other.0), other.1, takes_then at (text step.0.0) step.0.1 (texts step.0.0 other.0) x.1 first.0 other.2, (first.1, other.3));
  again = λ at p rest fits e.
      let first = field.again at p.0 (texts p.0 p.1 ++ rest) fits.0 (e ∙ append_assoc (text p.0) (texts p.0 p.1) rest) in
      let other = (behind p.0 fits.0).again first.after p.1 rest fits.1 first.rest_is in
      record { after = other.after; read = ap (λ r. r >>= λ x. others x.0 x.1) first.read ∙ other.read; rest_is = other.rest_is };
}

-- a value made of parts is a field, where its spelling and what it has to be are those of the parts
pub whole : {A M : Type 0} {reader : Reader M} {make : A → M} {texts : A → List ℕ} {AllFit : A → Type 0} {text : M → List ℕ} {Fits : M → Type 0}
    → IsMade reader make texts AllFit
    → ((a : A) → AllFit a → (text (make a) ≡ texts a) × Fits (make a))
    → ((m : M) → Fits m → (a : A) × (make a ≡ m) × AllFit a)
    → IsField reader text Fits
whole {reader} {make} {texts} {text} {Fits} made to from = record {
  takes = λ at x fits e.
      let taken = made.takes at x fits e in
      let is = to taken.0 taken.3 in
      subst (λ m. Takes at (text m) x.1 × Fits m) taken.1 (subst (λ (t : List ℕ). Takes at t x.1) (sym is.0) taken.2, is.1);
  again = λ at m rest fits e.
      let parts = from m fits in
      let is = to parts.0 parts.2 in
      let spelled = ap text (sym parts.1) ∙ is.0 in
      subst (λ y. IsRead reader at y rest) parts.1 (made.again at parts.0 rest parts.2 (e ∙ ap (λ (t : List ℕ). t ++ rest) spelled));
}

-- the same with another spelling
pub respelled : {A : Type 0} {reader : Reader A} {text : A → List ℕ} {Fits : A → Type 0} {other : A → List ℕ}
    → IsField reader text Fits → ((a : A) → Fits a → text a ≡ other a) → IsField reader other Fits
respelled {reader} {other = other} field same = record {
  takes = λ at x fits e. let taken = field.takes at x fits e in (subst (λ (t : List ℕ). Takes at t x.1) (same x.0 taken.1) taken.0, taken.1);
  again = λ at a rest fits e. field.again at a rest fits (e ∙ ap (λ (t : List ℕ). t ++ rest) (sym (same a fits)));
}
