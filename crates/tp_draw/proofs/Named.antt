-- Words that each name an actor. Used where the words are read.
use Rattle.std.proofs.Common.{◌≡◌, ℕ, zero, suc, ◌+◌, ◌<◌, List, [], ◌∷◌, ◌++◌, length, get_or, take, map, Option, Some, None, refl, sym, ap, ◌∙◌}
use Rattle.std.proofs.lemmas.List.{take_more}
use Rattle.std.specs.Option.{option_and_then}
use Rattle.std.specs.Prelude.{String, option_map, slice_get, string_bytes}
use Rattle.tp_base.specs.declared.names.ActorName.{ActorName}
use Rattle.tp_rules.proofs.lists.UpTo.{get_map}
use Rattle.tp_draw.specs.Words.{actor_of, actors_of, with_first}

-- one more at the end
pub named_more : (words : List (List ℕ)) (word : List ℕ) (actors : List ActorName) (a : ActorName) → actors_of words ≡ Some actors → actor_of word ≡ Some a
    → actors_of (words ++ word ∷ []) ≡ Some (actors ++ a ∷ [])
named_more [] word actors a before here = let none : actors ≡ [] = cc in rw (here, none) refl
named_more (w ∷ ws) word actors a before here =
    by (actor_of w) (actors_of ws) refl (λ (xs : List ActorName) (is : actors_of ws ≡ Some xs). named_more ws word xs a is here) before
  where
    by : (first : Option ActorName) (rest : Option (List ActorName)) → actors_of ws ≡ rest
        → ((xs : List ActorName) → actors_of ws ≡ Some xs → actors_of (ws ++ word ∷ []) ≡ Some (xs ++ a ∷ []))
        → option_and_then (λ x. with_first x rest) first ≡ Some actors
        → option_and_then (λ x. with_first x (actors_of (ws ++ word ∷ []))) first ≡ Some (actors ++ a ∷ [])
    by None rest is more all = absurd cc
    by (Some x) None is more all = absurd cc
    by (Some x) (Some xs) is more all =
        let same : x ∷ xs ≡ actors = cc in
        ap (with_first x) (more xs is) ∙ ap (λ (l : List ActorName). Some (l ++ a ∷ [])) same

map_end : {X Y : Type 0} (f : X → Y) (xs : List X) (x : X) → map f (xs ++ x ∷ []) ≡ map f xs ++ f x ∷ []
map_end f [] x = refl
map_end {X} {Y} f (y ∷ ys) x = ap (λ (l : List Y). f y ∷ l) (map_end f ys x)

-- the next of the program's words
pub actors_next : {Z : Type 0} (words : List (String Z)) (i : ℕ) (w : String Z) (actors : List ActorName) (a : ActorName)
    → i < length words → w ≡ get_or words i w → actors_of (map string_bytes (take i words)) ≡ Some actors
    → actor_of (string_bytes w) ≡ Some a → actors_of (map string_bytes (take (i + 1) words)) ≡ Some (actors ++ a ∷ [])
actors_next {Z} words i w actors a within is before here =
    ap (λ (l : List (String Z)). actors_of (map string_bytes l))
    (take_more words i w within ∙ ap (λ (y : String Z). take i words ++ y ∷ []) (sym is))
    ∙ ap actors_of (map_end string_bytes (take i words) w)
    ∙ named_more (map string_bytes (take i words)) (string_bytes w) actors a before here

-- none, where a word names none
stops : (words : List (List ℕ)) (i : ℕ) (w : List ℕ) → slice_get words i ≡ Some w → actor_of w ≡ None → actors_of words ≡ None
stops [] i w e none = absurd cc
stops (x ∷ xs) zero w e none =
    let same : x ≡ w = cc in
    ap (λ (o : Option ActorName). option_and_then (λ a. with_first a (actors_of xs)) o) (ap actor_of same ∙ none)
stops (x ∷ xs) (suc i) w e none =
    ap (λ (o : Option (List ActorName)). option_and_then (λ a. with_first a o) (actor_of x)) (stops xs i w e none) ∙ by (actor_of x)
  where
    by : (o : Option ActorName) → option_and_then (λ a. with_first a None) o ≡ None
    by None = refl
    by (Some a) = refl

pub actors_stop : {Z : Type 0} (words : List (String Z)) (i : ℕ) (w : String Z) → slice_get words i ≡ Some w → actor_of (string_bytes w) ≡ None
    → actors_of (map string_bytes words) ≡ None
actors_stop words i w here none = stops (map string_bytes words) i (string_bytes w) (get_map string_bytes words i w here) none
