-- Texts that go on word by word, line by line.
use Rattle.std.proofs.Common.{◌≡◌, ℕ, suc, ◌+◌, ◌<◌, ◌≤◌, List, [], ◌∷◌, ◌++◌, length, get_or, take, map, sym, subst, ap, ◌∙◌, append_assoc, arith}
use Rattle.std.specs.List.{flat_map}
use Rattle.std.proofs.lemmas.List.{append-nil, take_all, take_more}
use Rattle.std.proofs.lemmas.Grind.{flat_map-append}
use Rattle.std.proofs.lemmas.List.Folds.{flat_map-map}
use Rattle.tp_print.specs.Report.{spaced}
use Rattle.tp_topology.specs.Counting.{up_to}

pub flat_map_end : {X A : Type 0} (f : X → List A) (xs : List X) (x : X)
    → flat_map f (xs ++ x ∷ []) ≡ flat_map f xs ++ f x
flat_map_end f xs x = flat_map-append f xs (x ∷ []) ∙ ap (λ ys. flat_map f xs ++ ys) (append-nil (f x))

-- one item more, of a list
pub text_more : {X : Type 0} (f : X → List ℕ) (out now new : List ℕ) (xs : List X) (i : ℕ) (x : X) → i < length xs
    → x ≡ get_or xs i x
    → now ≡ out ++ flat_map f (take i xs) → new ≡ now ++ f x → new ≡ out ++ flat_map f (take (i + 1) xs)
text_more f out now new xs i x lt is before here =
    here ∙ ap (λ (l : List ℕ). l ++ f x) before ∙ append_assoc out (flat_map f (take i xs)) (f x)
    ∙ ap (λ (l : List ℕ). out ++ l) (sym (flat_map_end f (take i xs) x))
    ∙ ap (λ l. out ++ flat_map f l) (ap (λ y. take i xs ++ y ∷ []) is ∙ sym (take_more xs i x lt))

pub text_whole : {X : Type 0} (f : X → List ℕ) (out now : List ℕ) (xs : List X) (i : ℕ) → length xs ≤ i
    → now ≡ out ++ flat_map f (take i xs) → now ≡ out ++ flat_map f xs
text_whole f out now xs i le before = before ∙ ap (λ l. out ++ flat_map f l) (take_all i xs le)

-- the words of a list's items
pub words_of : {X : Type 0} (f : X → List ℕ) (out : List ℕ) (xs : List X)
    → out ++ flat_map (λ x. spaced (f x)) xs ≡ out ++ flat_map spaced (map f xs)
words_of f out xs = ap (λ (l : List ℕ). out ++ l) (sym (flat_map-map spaced f xs))

-- one number more
pub count_more : (f : ℕ → List ℕ) (out now new : List ℕ) (i : ℕ) → now ≡ out ++ flat_map f (up_to i)
    → new ≡ now ++ f (i + 1) → new ≡ out ++ flat_map f (up_to (i + 1))
count_more f out now new i before here =
    let next : i + 1 ≡ suc i = omega arith in
    here ∙ ap (λ (l : List ℕ). l ++ f (i + 1)) before ∙ append_assoc out (flat_map f (up_to i)) (f (i + 1))
    ∙ ap (λ (l : List ℕ). out ++ l) (sym (flat_map_end f (up_to i) (i + 1)))
    ∙ ap (λ (n : ℕ). out ++ flat_map f (up_to i ++ n ∷ [])) next
    ∙ ap (λ (n : ℕ). out ++ flat_map f (up_to n)) (sym next)

pub count_whole : (f : ℕ → List ℕ) (out now : List ℕ) (i n : ℕ) → i ≡ n → now ≡ out ++ flat_map f (up_to i)
    → now ≡ out ++ flat_map f (up_to n)
count_whole f out now i n same before = before ∙ ap (λ (k : ℕ). out ++ flat_map f (up_to k)) same

-- one item more of a list that is gone through
pub take_next : {X : Type 0} (P : List X → Type 0) (xs : List X) (i : ℕ) (x : X) → i < length xs → x ≡ get_or xs i x
    → P (take i xs ++ x ∷ []) → P (take (i + 1) xs)
take_next P xs i x lt is h = subst P (ap (λ y. take i xs ++ y ∷ []) is ∙ sym (take_more xs i x lt)) h
