-- Lists that go on where others end.
use Rattle.std.proofs.Common.{◌≡◌, List, [], ◌∷◌, ◌++◌, sym, ap, subst, ◌∙◌, append_assoc}
use Rattle.std.proofs.lemmas.List.{append-nil}
use Rattle.tp_base.specs.Lists.{IsIn, IsPrefixOf}
use Rattle.tp_base.proofs.Members.{in_left}

pub prefix_self : {X : Type 0} (xs : List X) → IsPrefixOf xs xs
prefix_self xs = ([], append-nil xs)

-- the longer list may grow
pub prefix_more : {X : Type 0} (xs ys zs : List X) → IsPrefixOf xs ys → IsPrefixOf xs (ys ++ zs)
prefix_more xs ys zs h = (h.0 ++ zs, sym (append_assoc xs h.0 zs) ∙ ap (λ (l : List _). l ++ zs) h.1)

-- the shorter list may take the next item
pub prefix_next : {X : Type 0} (xs : List X) (z : X) (rest ys : List X) → xs ++ z ∷ rest ≡ ys → IsPrefixOf (xs ++ z ∷ []) ys
prefix_next xs z rest ys e = (rest, append_assoc xs (z ∷ []) rest ∙ e)

pub prefix_then : {X : Type 0} (xs ys zs : List X) → IsPrefixOf xs ys → IsPrefixOf ys zs → IsPrefixOf xs zs
prefix_then xs ys zs h k = subst (IsPrefixOf xs) k.1 (prefix_more xs ys k.0 h)

pub prefix_in : {X : Type 0} (xs ys : List X) (x : X) → IsPrefixOf xs ys → IsIn x xs → IsIn x ys
prefix_in xs ys x h k = subst (IsIn x) h.1 (in_left xs h.0 x k)
