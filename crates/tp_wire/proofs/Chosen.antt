-- A byte that says which of several readers reads what follows.
use Rattle.std.proofs.Common.{◌≡◌, ℕ, zero, suc, ◌+◌, ◌<◌, List, [], ◌∷◌, ◌++◌, Option, Some, None, Ok, sym, ap, subst, ◌∙◌, arith}
use Rattle.std.specs.List.{slice_get}
use Rattle.tp_base.specs.Fields.{At, IsBytes, left}
use Rattle.tp_base.specs.Tables.{nth}
use Rattle.tp_text.specs.Steps.{◌>>=◌}
use Rattle.tp_text.proofs.Stepped.{bind_ok}
use Rattle.tp_wire.specs.Meaning.{Reader, choice_at, fault_at, or_fault, value_at}
use Rattle.tp_wire.specs.Spelling.{byte}
use Rattle.tp_wire.specs.declared.fault.WireCause.{WireCause}
use Rattle.tp_wire.specs.declared.fault.WireFault.{WireFault}
use Rattle.tp_wire.proofs.Fielded.{IsField, IsMade, IsRead, Takes, takes_then}
use Rattle.tp_wire.proofs.Numbered.{any_byte_field}

-- what this reader takes is spelled behind the byte n
pub record IsCase {M : Type 0} (text : M → List ℕ) (Fits : M → Type 0) (n : ℕ) (reader : Reader M) : Type 0 where
  pub takes : (at : At) (x : M × At) → IsBytes at.input → reader at ≡ Ok x → (rest : List ℕ) × (text x.0 ≡ n ∷ rest) × Takes at rest x.1 × Fits x.0

-- from the byte n on
abbrev pub AreCases : {M : Type 0} → (M → List ℕ) → (M → Type 0) → ℕ → List (Reader M) → Type 0
AreCases text Fits n [] = Unit {0}
AreCases text Fits n (reader ∷ readers) = IsCase text Fits n reader × AreCases text Fits (suc n) readers

-- the reader by which a value is read
pub record IsChosen {M : Type 0} (text : M → List ℕ) (readers : List (Reader M)) (m : M) : Type 0 where
  pub n : ℕ
  pub small : n < 256
  pub reader : Reader M
  pub there : nth readers n ≡ Some reader
  pub rest : List ℕ
  pub spelled : text m ≡ n ∷ rest
  pub again : (at : At) (behind : List ℕ) → left at ≡ rest ++ behind → IsRead reader at m behind

pub case_of : {A M : Type 0} {reader : Reader M} {make : A → M} {texts : A → List ℕ} {AllFit : A → Type 0} {text : M → List ℕ} {Fits : M → Type 0} {n : ℕ}
    → IsMade reader make texts AllFit → ((a : A) → AllFit a → (text (make a) ≡ n ∷ texts a) × Fits (make a)) → IsCase text Fits n reader
case_of {texts} {text} {Fits} {n} made to = record {
  takes = λ at x fits e.
      let taken = made.takes at x fits e in
      let is = to taken.0 taken.3 in
      (texts taken.0, subst (λ m. text m ≡ n ∷ texts taken.0) taken.1 is.0, taken.2, subst Fits taken.1 is.1);
}

nth_case : {M : Type 0} (text : M → List ℕ) (Fits : M → Type 0) (k i : ℕ) (readers : List (Reader M)) (reader : Reader M)
    → AreCases text Fits k readers → slice_get readers i ≡ Some reader → IsCase text Fits (k + i) reader
nth_case text Fits k i [] reader cases e = absurd cc
nth_case text Fits k zero (r ∷ readers) reader cases e =
    let same : r ≡ reader = cc in
    let here : k ≡ k + 0 = omega arith in
    subst (λ (n : ℕ). IsCase text Fits n reader) here (subst (IsCase text Fits k) same cases.0)
nth_case text Fits k (suc i) (r ∷ readers) reader cases e =
    let there : suc k + i ≡ k + suc i = omega arith in
    subst (λ (n : ℕ). IsCase text Fits n reader) there (nth_case text Fits (suc k) i readers reader cases.1 e)

case_at : {M : Type 0} (text : M → List ℕ) (Fits : M → Type 0) (n : ℕ) (readers : List (Reader M)) (reader : Reader M)
    → AreCases text Fits 1 readers → nth readers n ≡ Some reader → IsCase text Fits n reader
case_at text Fits zero readers reader cases e = absurd cc
case_at text Fits (suc i) readers reader cases e =
    let here : 1 + i ≡ suc i = omega arith in
    subst (λ (n : ℕ). IsCase text Fits n reader) here (nth_case text Fits 1 i readers reader cases e)

or_ok : {X : Type 0} (fault : WireFault) (o : Option X) (x : X) → or_fault fault o ≡ Ok x → o ≡ Some x
or_ok fault None x e = absurd cc
or_ok fault (Some y) x e = cc

respelt : (at after : At) (text other : List ℕ) → text ≡ other → Takes at other after → Takes at text after
respelt at after text other same taken = subst (λ (t : List ℕ). Takes at t after) (sym same) taken

pub choice_field : {M : Type 0} (cause : WireCause) (readers : List (Reader M)) (text : M → List ℕ) (Fits : M → Type 0)
    → AreCases text Fits 1 readers → ((m : M) → Fits m → IsChosen text readers m) → IsField (choice_at cause readers) text Fits
unfolding choice_at
choice_field cause readers text Fits cases chosen = record {
  takes = λ at x fits e.
      let step = bind_ok (value_at 1 at) (λ b. or_fault (fault_at cause at) (nth readers b.0) >>= λ reader. reader b.1) x e in
      let inner = bind_ok (or_fault (fault_at cause at) (nth readers step.0.0)) (λ reader. reader step.0.1) x step.2 in
      let there = or_ok (fault_at cause at) (nth readers step.0.0) inner.0 inner.1 in
      let first = any_byte_field.takes at step.0 fits step.1 in
      let behind = (case_at text Fits step.0.0 readers inner.0 cases there).takes step.0.1 x (subst (λ (bytes : List ℕ). IsBytes bytes) (sym first.0.input) fits) inner.2 in
      (respelt at x.1 (text x.0) (step.0.0 ∷ behind.0) behind.1 (takes_then at (byte step.0.0) step.0.1 behind.0 x.1 first.0 behind.2), behind.3);
  again = λ at m rest fits e.
      let is = chosen m fits in
      let first = any_byte_field.again at is.n (is.rest ++ rest) is.small (e ∙ ap (λ (t : List ℕ). t ++ rest) is.spelled) in
      let other = is.again first.after rest first.rest_is in
      record { after = other.after; read = rw (first.read, is.there) other.read; rest_is = other.rest_is };
}
