-- The laws of rows: what is read is written so, and what is written is read, where each kind has these laws.
use Rattle.std.proofs.Common.{◌≡◌, ℕ, List, [], ◌∷◌, Ok, refl, ap, subst, ◌∙◌}
use Rattle.tp_base.specs.Lists.{Each}
use Rattle.tp_text.specs.Steps.{◌>>=◌}
use Rattle.tp_text.specs.Rows.{AllSaid, Table, no_more, row, take_word, words_of_row}
use Rattle.tp_text.proofs.Stepped.{bind_ok, ok_is}
use Rattle.tp_text.proofs.Joined.{IsPlain}

-- the laws of the kinds that `IsKind` allows, of the values that `IsSaid` allows
pub record AreKinds {Kind Cause : Type 0} (t : Table Kind Cause) (IsKind : Kind → Type 0) (IsSaid : (k : Kind) → t.Said k → Type 0) : Type 0 where
  pub takes : (k : Kind) → IsKind k → (word : List ℕ) (said : t.Said k) → t.read k word ≡ Ok said → (word ≡ t.text k said) × IsSaid k said
  pub again : (k : Kind) → IsKind k → (said : t.Said k) → IsSaid k said → t.read k (t.text k said) ≡ Ok said
  pub plain : (k : Kind) → IsKind k → (said : t.Said k) → IsSaid k said → IsPlain (t.text k said)

-- each value of a row is allowed
abbrev pub AreSaid : {Kind : Type 0} {Said : Kind → Type 0} (IsSaid : (k : Kind) → Said k → Type 0) (ks : List Kind) → AllSaid Said ks → Type 0
AreSaid IsSaid [] said = Unit {0}
AreSaid IsSaid (k ∷ ks) said = IsSaid k said.0 × AreSaid IsSaid ks said.1

pub taken : {Kind Cause : Type 0} (t : Table Kind Cause) (IsKind : Kind → Type 0) (IsSaid : (k : Kind) → t.Said k → Type 0) (laws : AreKinds t IsKind IsSaid) (k : Kind) → IsKind k
    → (words : List (List ℕ)) (x : t.Said k × List (List ℕ)) → take_word t k words ≡ Ok x → (words ≡ t.text k x.0 ∷ x.1) × IsSaid k x.0
unfolding take_word
taken t IsKind IsSaid laws k kind [] x e = absurd cc
taken {Kind} {Cause} t IsKind IsSaid laws k kind (word ∷ words) x e =
    let a = bind_ok (t.read k word) (λ said. Ok (said, words)) x e in
    let w = laws.takes k kind word a.0 a.1 in
    subst (λ (y : t.Said k × List (List ℕ)). (word ∷ words ≡ t.text k y.0 ∷ y.1) × IsSaid k y.0) (ok_is Cause (a.0, words) x a.2) (ap (λ (v : List ℕ). v ∷ words) w.0, w.1)

pub none_is : {Cause : Type 0} (cause : Cause) (words : List (List ℕ)) (x : Unit {0}) → no_more cause words ≡ Ok x → words ≡ []
unfolding no_more
none_is cause [] x e = refl
none_is cause (word ∷ words) x e = absurd cc

-- what is read is written so
pub row_takes : {Kind Cause : Type 0} (t : Table Kind Cause) (IsKind : Kind → Type 0) (IsSaid : (k : Kind) → t.Said k → Type 0) (laws : AreKinds t IsKind IsSaid) (ks : List Kind) → Each IsKind ks
    → (words : List (List ℕ)) (said : AllSaid t.Said ks) → row t ks words ≡ Ok said → (words ≡ words_of_row t ks said) × AreSaid {Said = t.Said} IsSaid ks said
row_takes t IsKind IsSaid laws [] kinds words said e = (none_is t.word words said e, tt)
row_takes {Kind} {Cause} t IsKind IsSaid laws (k ∷ ks) kinds words said e =
    let a = bind_ok (take_word t k words) (λ first. row t ks first.1 >>= λ others. Ok (first.0, others)) said e in
    let b = bind_ok (row t ks a.0.1) (λ others. Ok (a.0.0, others)) said a.2 in
    let one = taken t IsKind IsSaid laws k kinds.0 words a.0 a.1 in
    let more = row_takes t IsKind IsSaid laws ks kinds.1 a.0.1 b.0 b.1 in
    subst (λ (y : AllSaid t.Said (k ∷ ks)). (words ≡ words_of_row t (k ∷ ks) y) × AreSaid {Said = t.Said} IsSaid (k ∷ ks) y) (ok_is Cause (a.0.0, b.0) said b.2)
    (one.0 ∙ ap (λ (v : List (List ℕ)). t.text k a.0.0 ∷ v) more.0, (one.1, more.1))

pub word_again : {Kind Cause : Type 0} (t : Table Kind Cause) (IsKind : Kind → Type 0) (IsSaid : (k : Kind) → t.Said k → Type 0) (laws : AreKinds t IsKind IsSaid) (k : Kind) → IsKind k
    → (said : t.Said k) (words : List (List ℕ)) → IsSaid k said → take_word t k (t.text k said ∷ words) ≡ Ok (said, words)
unfolding take_word
word_again t IsKind IsSaid laws k kind said words fits = rw (laws.again k kind said fits) refl

-- what is written is read
pub row_again : {Kind Cause : Type 0} (t : Table Kind Cause) (IsKind : Kind → Type 0) (IsSaid : (k : Kind) → t.Said k → Type 0) (laws : AreKinds t IsKind IsSaid) (ks : List Kind) → Each IsKind ks
    → (said : AllSaid t.Said ks) → AreSaid {Said = t.Said} IsSaid ks said → row t ks (words_of_row t ks said) ≡ Ok said
unfolding no_more
row_again t IsKind IsSaid laws [] kinds said fits = refl
row_again t IsKind IsSaid laws (k ∷ ks) kinds said fits =
    rw (word_again t IsKind IsSaid laws k kinds.0 said.0 (words_of_row t ks said.1) fits.0, row_again t IsKind IsSaid laws ks kinds.1 said.1 fits.1) refl

-- the words of a row have no space
pub row_plain : {Kind Cause : Type 0} (t : Table Kind Cause) (IsKind : Kind → Type 0) (IsSaid : (k : Kind) → t.Said k → Type 0) (laws : AreKinds t IsKind IsSaid) (ks : List Kind) → Each IsKind ks
    → (said : AllSaid t.Said ks) → AreSaid {Said = t.Said} IsSaid ks said → Each IsPlain (words_of_row t ks said)
row_plain t IsKind IsSaid laws [] kinds said fits = tt
row_plain t IsKind IsSaid laws (k ∷ ks) kinds said fits =
    (laws.plain k kinds.0 said.0 fits.0, row_plain t IsKind IsSaid laws ks kinds.1 said.1 fits.1)
