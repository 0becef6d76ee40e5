-- Lines as rows: words of given kinds, read from left to right up to the first fault.
use Rattle.std.specs.Prelude.{ℕ, List, [], ◌∷◌, Result, Ok, Err}
use Rattle.tp_text.specs.Steps.{◌>>=◌}

-- what a word of a kind says; how it is read and written; the fault of a missing and of a further word
pub record Table (Kind Cause : Type 0) : Type 1 where
  pub Said : Kind → Type 0
  pub read : (k : Kind) → List ℕ → Result (Said k) Cause
  pub text : (k : Kind) → Said k → List ℕ
  pub word : Cause

abbrev pub AllSaid : {Kind : Type 0} → (Kind → Type 0) → List Kind → Type 0
AllSaid Said [] = Unit {0}
AllSaid Said (k ∷ ks) = Said k × AllSaid Said ks

-- the next word is of this kind, or else its fault
unfoldable pub take_word : {Kind Cause : Type 0} (t : Table Kind Cause) (k : Kind) → List (List ℕ) → Result (t.Said k × List (List ℕ)) Cause
take_word t k [] = Err t.word
take_word t k (word ∷ words) = do
  said ← t.read k word
  Ok (said, words)

-- no further word, or else this fault
unfoldable pub no_more : {Cause : Type 0} → Cause → List (List ℕ) → Result (Unit {0}) Cause
no_more cause [] = Ok tt
no_more cause (word ∷ words) = Err cause

abbrev pub no_word : {Kind Cause : Type 0} (t : Table Kind Cause) → List (List ℕ) → Result (Unit {0}) Cause
no_word t words = no_more t.word words

-- these kinds of words and no others
abbrev pub row : {Kind Cause : Type 0} (t : Table Kind Cause) (ks : List Kind) → List (List ℕ) → Result (AllSaid t.Said ks) Cause
row t [] words = no_word t words
row t (k ∷ ks) words = do
  first ← take_word t k words
  others ← row t ks first.1
  Ok (first.0, others)

-- the words that say them
abbrev pub words_of_row : {Kind Cause : Type 0} (t : Table Kind Cause) (ks : List Kind) → AllSaid t.Said ks → List (List ℕ)
words_of_row t [] said = []
words_of_row t (k ∷ ks) said = t.text k said.0 ∷ words_of_row t ks said.1
