-- What a table keeps, one place after another.
use Rattle.std.proofs.Common.{◌≡◌, ℕ, ◌+◌, ◌≤◌, ◌<◌, max, List, [], ◌∷◌, ◌++◌, length, get_or, take, Option, Some, None, refl, ap, ◌∙◌, arith}
use Rattle.std.proofs.lemmas.Grind.{common_steps, take_at_read}
use Rattle.std.proofs.lemmas.List.{append-nil}
use Rattle.std.specs.Prelude.{cond, ◌==◌}
use Rattle.tp_quorum.specs.Choice.{present, greatest, count_of}

pub present_push : {X : Type 0} (table : List (Option X)) (o : Option X) → present (table ++ o ∷ []) ≡ present table ++ present (o ∷ [])
present_push [] o = refl
present_push (None ∷ table) o = present_push table o
present_push (Some x ∷ table) o = ap (λ (xs : List _). x ∷ xs) (present_push table o)

pub length-present : {X : Type 0} (table : List (Option X)) → length (present table) ≤ length table
length-present [] = omega arith
length-present (None ∷ table) = let rest = length-present table in omega arith
length-present (Some x ∷ table) = let rest = length-present table in omega arith

pub greatest_push : (ns : List ℕ) (n : ℕ) → greatest (ns ++ n ∷ []) ≡ max (greatest ns) n
greatest_push [] n = omega arith
greatest_push (m ∷ ns) n = let rest = greatest_push ns n in omega arith

pub count_of_push : (n : ℕ) (ms : List ℕ) (m : ℕ) → count_of n (ms ++ m ∷ []) ≡ cond (n == m) (1 + count_of n ms) (count_of n ms)
count_of_push n [] m = refl
count_of_push n (k ∷ ms) m = let rest = count_of_push n ms m in grind (arith, rest)

pub count_of-length : (n : ℕ) (ms : List ℕ) → count_of n ms ≤ length ms
count_of-length n [] = omega arith
count_of-length n (m ∷ ms) = let rest = count_of-length n ms in grind (arith, rest)

-- one place more

pub present_some : {X : Type 0} (table : List (Option X)) (i : ℕ) (x : X) → get_or table i None ≡ Some x → i < length table
    → (present (take (i + 1) table) ≡ present (take i table) ++ x ∷ [])
present_some table i x e lt =
    ap (λ (t : List (Option _)). present t) ((take_at_read table i None lt).1 ∙ ap (λ (o : Option _). take i table ++ o ∷ []) e)
    ∙ present_push (take i table) (Some x)

pub present_past_none : {X : Type 0} (table : List (Option X)) (i : ℕ) → get_or table i None ≡ None → i < length table
    → (present (take (i + 1) table) ≡ present (take i table))
present_past_none table i e lt =
    ap (λ (t : List (Option _)). present t) ((take_at_read table i None lt).1 ∙ ap (λ (o : Option _). take i table ++ o ∷ []) e)
    ∙ present_push (take i table) None
    ∙ append-nil (present (take i table))

-- what the loops over a table have found, one place further on

pub count_some : (table : List (Option ℕ)) (i n x : ℕ) → get_or table i None ≡ Some x → i < length table
    → n ≡ length (present (take i table)) → n + 1 ≡ length (present (take (i + 1) table))
count_some table i n x e lt so_far = let more = present_some table i x e lt in grind (arith, common_steps, more)

pub count_none : (table : List (Option ℕ)) (i n : ℕ) → get_or table i None ≡ None → i < length table
    → n ≡ length (present (take i table)) → n ≡ length (present (take (i + 1) table))
count_none table i n e lt so_far = let more = present_past_none table i e lt in cc

pub equal_some : (wanted : ℕ) (table : List (Option ℕ)) (i n x : ℕ) → get_or table i None ≡ Some x → i < length table
    → n ≡ count_of wanted (present (take i table))
    → cond (wanted == x) (n + 1) n ≡ count_of wanted (present (take (i + 1) table))
equal_some wanted table i n x e lt so_far =
    let more = present_some table i x e lt in
    let one = count_of_push wanted (present (take i table)) x in
    grind (arith, more, one)

pub equal_none : (wanted : ℕ) (table : List (Option ℕ)) (i n : ℕ) → get_or table i None ≡ None → i < length table
    → n ≡ count_of wanted (present (take i table)) → n ≡ count_of wanted (present (take (i + 1) table))
equal_none wanted table i n e lt so_far = let more = present_past_none table i e lt in cc

pub greatest_some : (table : List (Option ℕ)) (i n x : ℕ) → get_or table i None ≡ Some x → i < length table
    → n ≡ greatest (present (take i table)) → max n x ≡ greatest (present (take (i + 1) table))
greatest_some table i n x e lt so_far =
    let more = present_some table i x e lt in
    let one = greatest_push (present (take i table)) x in
    cc

pub greatest_none : (table : List (Option ℕ)) (i n : ℕ) → get_or table i None ≡ None → i < length table
    → n ≡ greatest (present (take i table)) → n ≡ greatest (present (take (i + 1) table))
greatest_none table i n e lt so_far = let more = present_past_none table i e lt in cc

pub present_within : (table : List (Option ℕ)) (i : ℕ) → length (present (take i table)) ≤ length table
present_within table i = let h = length-present (take i table) in grind (arith, common_steps, h)

pub equal_within : (n : ℕ) (table : List (Option ℕ)) (i : ℕ) → count_of n (present (take i table)) ≤ length table
equal_within n table i =
    let h = count_of-length n (present (take i table)) in
    let k = present_within table i in
    omega arith
