-- What a queue's map holds, against what was put and taken.
use Rattle.std.proofs.Common.{◌≡◌, ◌≢◌, suc, ◌<◌, ◌↔◌, ◌⊎◌, inl, inr, Bool, true, false, not, cond, List, [], ◌∷◌, length, Option, Some, None, refl, sym, ap, subst, ◌∙◌, arith}
use Rattle.std.specs.Prelude.{◌||◌, IsSome, IfSome, IfNone, OnErr, Result, Ok, Err}
use Rattle.std.specs.Option.{option_map}
use Rattle.tp_queue.specs.declared.queue.Queue.{Queue}
use Rattle.std.specs.List.{All}
use Rattle.std.specs.Map.{keys_of}
use Rattle.std.specs.BTreeMap.{insert_entry}
use Rattle.std.specs.Ordering.{is_gt, nat_cmp, match_ordering, ordering_then}
use Rattle.std.proofs.Common.{Ordering, Less, Equal, Greater}
use Rattle.tp_base.proofs.Each.{each_of}
use Rattle.tp_base.specs.declared.names.CommandId.{CommandId}
use Rattle.tp_base.specs.declared.names.Key.{Key}
use Rattle.tp_base.specs.Lists.{IsIn, has}
use Rattle.tp_base.specs.Names.{same_id, key_lt}
use Rattle.tp_base.proofs.SameNames.{key_lt_self, same_id_refl, same_id_is, same_id_not}
use Rattle.tp_base.proofs.Tests.{any_in, filter_in, in_filter}
use Rattle.tp_ops.specs.declared.command.Command.{Command}
use Rattle.tp_queue.specs.Waiting.{Calls, Entry, IsAfter, IsLeast, left, was_put, with_taken}

-- the order of a map of keys
abbrev pub key_cmp : Key → Key → Ordering
key_cmp a b = ordering_then (nat_cmp a.stamp.0 b.stamp.0) (ordering_then (nat_cmp a.id.session.0 b.id.session.0) (nat_cmp a.id.number b.id.number))

pub less_is : (a b : Key) → key_cmp a b ≡ Less → key_lt a b ≡ true
less_is a b e = grind arith

pub equal_is : (a b : Key) → key_cmp a b ≡ Equal → a ≡ b
equal_is a b e = grind arith

pub at_most : (a b : Key) → is_gt (key_cmp a b) ≡ false → (a ≡ b) ⊎ (key_lt a b ≡ true)
at_most a b e = grind arith

-- lists

pub of_keys : {K X : Type 0} (P : K → Type 0) (es : List (K × X)) (e : K × X) → All P (keys_of es) → IsIn e es → P e.0
of_keys P [] e all h = absurd h
of_keys P (f ∷ es) e all (inl same) = subst (λ (g : _). P g.0) (sym same) (all 0 f.0 (omega arith))
of_keys P (f ∷ es) e all (inr h) = of_keys P es e (λ k d lt. all (suc k) d (omega arith)) h

-- a map after one more entry, whose key is new

insert_first : (k : Key) (v : Command) (e f : Key × Command) (es : List (Key × Command)) (o : Ordering)
    → (e ≡ (k, v)) ⊎ IsIn e (f ∷ es) → (IsIn e es → IsIn e (insert_entry key_cmp es k v)) → (o ≡ Equal → ⊥)
    → IsIn (k, v) (insert_entry key_cmp es k v)
    → IsIn e (match_ordering o ((k, v) ∷ f ∷ es) ((f.0, v) ∷ es) (f ∷ insert_entry key_cmp es k v))
insert_first k v e f es Less (inl new) rest other last = inl new
insert_first k v e f es Less (inr old) rest other last = inr old
insert_first k v e f es Equal h rest other last = absurd (other refl)
insert_first k v e f es Greater (inl new) rest other last = inr (subst (λ (x : Key × Command). IsIn x (insert_entry key_cmp es k v)) (sym new) last)
insert_first k v e f es Greater (inr (inl same)) rest other last = inl same
insert_first k v e f es Greater (inr (inr h)) rest other last = inr (rest h)

inserted_new : (k : Key) (v : Command) (es : List (Key × Command)) → ((e : Key × Command) → IsIn e es → key_cmp k e.0 ≡ Equal → ⊥)
    → IsIn (k, v) (insert_entry key_cmp es k v)
inserted_new k v [] other = inl refl
inserted_new k v (f ∷ es) other =
    let later : IsIn (k, v) (insert_entry key_cmp es k v) = inserted_new k v es (λ e h. other e (inr h)) in
    insert_first k v (k, v) f es (key_cmp k f.0) (inl refl) (λ _. later) (other f (inl refl)) later

inserted_old : (k : Key) (v : Command) (es : List (Key × Command)) → ((e : Key × Command) → IsIn e es → key_cmp k e.0 ≡ Equal → ⊥)
    → (e : Key × Command) → IsIn e es → IsIn e (insert_entry key_cmp es k v)
inserted_old k v [] other e h = absurd h
inserted_old k v (f ∷ es) other e h =
    insert_first k v e f es (key_cmp k f.0) (inr h) (inserted_old k v es (λ g i. other g (inr i)) e) (other f (inl refl)) (inserted_new k v es (λ g i. other g (inr i)))

insert_cases : (k : Key) (v : Command) (e f : Key × Command) (es : List (Key × Command)) (o : Ordering) → (o ≡ Equal → ⊥)
    → IsIn e (match_ordering o ((k, v) ∷ f ∷ es) ((f.0, v) ∷ es) (f ∷ insert_entry key_cmp es k v))
    → (IsIn e (insert_entry key_cmp es k v) → (e ≡ (k, v)) ⊎ IsIn e es) → (e ≡ (k, v)) ⊎ IsIn e (f ∷ es)
insert_cases k v e f es Less other (inl new) rest = inl new
insert_cases k v e f es Less other (inr old) rest = inr old
insert_cases k v e f es Equal other h rest = absurd (other refl)
insert_cases k v e f es Greater other (inl same) rest = inr (inl same)
insert_cases k v e f es Greater other (inr h) rest = elim (rest h) [ inl new ↦ inl new | inr old ↦ inr (inr old) ]

inserted_is : (k : Key) (v : Command) (es : List (Key × Command)) → ((e : Key × Command) → IsIn e es → key_cmp k e.0 ≡ Equal → ⊥)
    → (e : Key × Command) → IsIn e (insert_entry key_cmp es k v) → (e ≡ (k, v)) ⊎ IsIn e es
inserted_is k v [] other e (inl new) = inl new
inserted_is k v [] other e (inr h) = absurd h
inserted_is k v (f ∷ es) other e h =
    insert_cases k v e f es (key_cmp k f.0) (other f (inl refl)) h (inserted_is k v es (λ g i. other g (inr i)) e)

-- what the map holds is what is left

abbrev pair_of : Entry → Key × Command
pair_of e = (e.key, e.command)

abbrev entry_of : Key × Command → Entry
entry_of p = record { key = p.0; command = p.1 }

abbrev pub Holds : Calls → List (Key × Command) → Type 0
Holds calls es = (e : Entry) → IsIn e (left calls) ↔ IsIn (e.key, e.command) es

abbrev pub IsOnce : Calls → Type 0
IsOnce calls = (a b : Entry) → IsIn a calls.put → IsIn b calls.put → a.key.id ≡ b.key.id → a ≡ b

abbrev waits : Calls → Entry → Bool
waits calls e = not (has same_id e.key.id calls.taken)

left_put : (calls : Calls) (e : Entry) → IsIn e (left calls) → IsIn e calls.put × (waits calls e ≡ true)
left_put calls e h = filter_in (waits calls) calls.put e h

put_left : (calls : Calls) (e : Entry) → IsIn e calls.put → waits calls e ≡ true → IsIn e (left calls)
put_left calls e h w = in_filter (waits calls) calls.put e h w

was : (calls : Calls) (e : Entry) → IsIn e calls.put → was_put e.key.id calls ≡ true
was calls e h = any_in (λ x. same_id x.key.id e.key.id) calls.put e h (same_id_refl e.key.id)

pub none_left : (calls : Calls) (es : List (Key × Command)) → Holds calls es → es ≡ [] → left calls ≡ []
none_left calls es holds e = go (left calls) (λ x h. subst (λ (l : List (Key × Command)). IsIn (pair_of x) l) e ((holds x).0 h))
  where
    go : (xs : List Entry) → ((x : Entry) → IsIn x xs → ⊥) → xs ≡ []
    go [] empty = refl
    go (x ∷ xs) empty = absurd (empty x (inl refl))

pub least_left : (calls : Calls) (es : List (Key × Command)) (p : Key × Command) → Holds calls es → IsOnce calls
    → IsIn p es → ((e : Key × Command) → IsIn e es → is_gt (key_cmp p.0 e.0) ≡ false) → IsLeast (Some (record { key = p.0; command = p.1 })) (left calls)
least_left calls es p holds once here low =
    let there : IsIn (entry_of p) (left calls) = (holds (entry_of p)).1 here in (
      there,
      each_of (λ (e : Entry). (e ≡ entry_of p) ⊎ (key_lt p.0 e.key ≡ true)) (left calls) (λ (e : Entry) h. elim (at_most p.0 e.key (low (pair_of e) ((holds e).0 h))) [
        | inl same ↦ let id : e.key.id ≡ p.0.id = ap (λ (k : Key). k.id) (sym same) in inl (once e (entry_of p) (left_put calls e h).0 (left_put calls (entry_of p) there).0 id)
        | inr less ↦ inr less
      ]),
    )

-- after the least was taken
pub taken_left : (calls : Calls) (es rest : List (Key × Command)) (p : Key × Command) → Holds calls es → IsOnce calls
    → es ≡ p ∷ rest → ((e : Key × Command) → IsIn e rest → key_cmp p.0 e.0 ≡ Less)
    → Holds (record { put = calls.put; taken = p.0.id ∷ calls.taken }) rest
taken_left calls es rest p holds once is above = λ (e : Entry). (gone e, stays e)
  where
    after : Calls
    after = record { put = calls.put; taken = p.0.id ∷ calls.taken }

    other : (e : Entry) → waits after e ≡ true → (same_id e.key.id p.0.id ≡ false) × (waits calls e ≡ true)
    other e w = (grind arith, grind arith)

    gone : (e : Entry) → IsIn e (left after) → IsIn (pair_of e) rest
    gone e h =
        let parts = left_put after e h in
        let o = other e parts.1 in
        let old : IsIn (pair_of e) (p ∷ rest) = subst (λ (l : List (Key × Command)). IsIn (pair_of e) l) is ((holds e).0 (put_left calls e parts.0 o.1)) in
        elim old [
          | inl same ↦ let self : same_id e.key.id p.0.id ≡ true = subst (λ (q : Key × Command). same_id e.key.id q.0.id ≡ true) same (same_id_refl e.key.id) in absurd cc
          | inr h ↦ h
        ]

    stays : (e : Entry) → IsIn (pair_of e) rest → IsIn e (left after)
    stays e h =
        let old : IsIn e (left calls) = (holds e).1 (subst (λ (l : List (Key × Command)). IsIn (pair_of e) l) (sym is) (inr h)) in
        let first : IsIn (entry_of p) (left calls) = (holds (entry_of p)).1 (subst (λ (l : List (Key × Command)). IsIn p l) (sym is) (inl refl)) in
        let parts = left_put calls e old in
        let apart : e.key.id ≢ p.0.id = λ same.
        let one : e ≡ entry_of p = once e (entry_of p) parts.0 (left_put calls (entry_of p) first).0 same in
        let less : key_lt p.0 e.key ≡ true = less_is p.0 e.key (above (pair_of e) h) in
        let self : key_lt p.0 p.0 ≡ true = subst (λ (x : Entry). key_lt p.0 x.key ≡ true) one less in
        let never = key_lt_self p.0 in absurd cc in
        let no : same_id e.key.id p.0.id ≡ false = same_id_not e.key.id p.0.id apart in
        let w : waits calls e ≡ true = parts.1 in
        let w' : waits after e ≡ true = grind arith in
        put_left after e parts.0 w'

pub taken_was_put : (calls : Calls) (es : List (Key × Command)) (p : Key × Command) → Holds calls es → IsIn p es
    → ((id : CommandId) → has same_id id calls.taken ≡ true → was_put id calls ≡ true)
    → (id : CommandId) → has same_id id (p.0.id ∷ calls.taken) ≡ true → was_put id calls ≡ true
taken_was_put calls es p holds here taken id h = go (same_id id p.0.id) refl
  where
    go : (t : Bool) → same_id id p.0.id ≡ t → was_put id calls ≡ true
    go true e = subst (λ (x : CommandId). was_put x calls ≡ true) (sym (same_id_is id p.0.id e)) (was calls (entry_of p) (left_put calls (entry_of p) ((holds (entry_of p)).1 here)).0)
    go false e = let rest : has same_id id calls.taken ≡ true = grind arith in taken id rest

-- after one more was put

abbrev with_one : Key → Command → Calls → Calls
with_one key command calls = record { put = record { key = key; command = command } ∷ calls.put; taken = calls.taken }

pub put_holds : (calls : Calls) (es es' : List (Key × Command)) (key : Key) (command : Command) → Holds calls es → es' ≡ insert_entry key_cmp es key command
    → ((id : CommandId) → has same_id id calls.taken ≡ true → was_put id calls ≡ true) → was_put key.id calls ≡ false
    → Holds (with_one key command calls) es'
put_holds calls es es' key command holds is taken new = λ (e : Entry). (
  λ h. subst (λ (l : List (Key × Command)). IsIn (pair_of e) l) (sym is) (there e h),
  λ h. back e (subst (λ (l : List (Key × Command)). IsIn (pair_of e) l) is h),
)
  where
    apart : (p : Key × Command) → IsIn p es → key_cmp key p.0 ≡ Equal → ⊥
    apart p h e =
        let old : was_put p.0.id calls ≡ true = was calls (entry_of p) (left_put calls (entry_of p) ((holds (entry_of p)).1 h)).0 in
        let same : key ≡ p.0 = equal_is key p.0 e in
        let mine : was_put key.id calls ≡ true = subst (λ (k : Key). was_put k.id calls ≡ true) (sym same) old in cc

    there : (e : Entry) → IsIn e (left (with_one key command calls)) → IsIn (pair_of e) (insert_entry key_cmp es key command)
    there e h = let parts = left_put (with_one key command calls) e h in elim parts.0 [
      | inl one ↦ subst (λ (x : Entry). IsIn (pair_of x) (insert_entry key_cmp es key command)) (sym one) (inserted_new key command es apart)
      | inr old ↦ inserted_old key command es apart (pair_of e) ((holds e).0 (put_left calls e old parts.1))
    ]

    free : (t : Bool) → has same_id key.id calls.taken ≡ t → not t ≡ true
    free true e = let was : was_put key.id calls ≡ true = taken key.id e in absurd cc
    free false e = refl

    back : (e : Entry) → IsIn (pair_of e) (insert_entry key_cmp es key command) → IsIn e (left (with_one key command calls))
    back e h = elim (inserted_is key command es apart (pair_of e) h) [
      | inl one ↦
          let same : e ≡ entry_of (key, command) = ap entry_of one in
          put_left (with_one key command calls) e (inl same) (subst (λ (x : Entry). waits calls x ≡ true) (sym same) (free (has same_id key.id calls.taken) refl))
      | inr old ↦ let parts = left_put calls e ((holds e).1 old) in put_left (with_one key command calls) e (inr parts.0) parts.1
    ]

pub put_once : (calls : Calls) (key : Key) (command : Command) → IsOnce calls → was_put key.id calls ≡ false → IsOnce (with_one key command calls)
put_once calls key command once new = λ a b p q same. go a b p q same
  where
    never : (e : Entry) → IsIn e calls.put → e.key.id ≢ key.id
    never e h same = let old : was_put key.id calls ≡ true = subst (λ (id : CommandId). was_put id calls ≡ true) same (was calls e h) in cc

    go : (a b : Entry) → IsIn a (with_one key command calls).put → IsIn b (with_one key command calls).put → a.key.id ≡ b.key.id → a ≡ b
    go a b (inl e) (inl f) same = e ∙ sym f
    go a b (inl e) (inr h) same = absurd (never b h (sym same ∙ ap (λ (x : Entry). x.key.id) e))
    go a b (inr h) (inl f) same = absurd (never a h (same ∙ ap (λ (x : Entry). x.key.id) f))
    go a b (inr h) (inr i) same = once a b h i same

pub put_taken : (calls : Calls) (key : Key) (command : Command)
    → ((id : CommandId) → has same_id id calls.taken ≡ true → was_put id calls ≡ true)
    → (id : CommandId) → has same_id id calls.taken ≡ true → was_put id (with_one key command calls) ≡ true
put_taken calls key command taken id h = let old : was_put id calls ≡ true = taken id h in grind arith

-- what taking the first entry does

pub empty_when : {X : Type 0} (xs : List X) → (0 < length xs → false ≡ true) → xs ≡ []
empty_when [] some = refl
empty_when (x ∷ xs) some = let no = some (omega arith) in absurd cc

least_first : (p : Key × Command) (rest : List (Key × Command)) → ((e : Key × Command) → IsIn e rest → key_cmp p.0 e.0 ≡ Less)
    → (e : Key × Command) → IsIn e (p ∷ rest) → is_gt (key_cmp p.0 e.0) ≡ false
least_first p rest above e (inl same) = subst (λ (q : Key × Command). is_gt (key_cmp p.0 q.0) ≡ false) (sym same) (grind arith)
least_first p rest above e (inr h) = let less : key_cmp p.0 e.0 ≡ Less = above e h in ap is_gt less

abbrev entry_if : Option (Key × Command) → Option Entry
entry_if r = option_map (λ p. record { key = p.0; command = p.1 }) r

pub pop_least : (calls : Calls) (es rest : List (Key × Command)) (r : Option (Key × Command)) → Holds calls es → IsOnce calls
    → (0 < length es → IsSome r) → IfSome r (λ p. es ≡ p ∷ rest) → IfSome r (λ p. All (λ k. key_cmp p.0 k ≡ Less) (keys_of rest))
    → IsLeast (entry_if r) (left calls)
pop_least calls es rest None holds once some is above = none_left calls es holds (empty_when es some)
pop_least calls es rest (Some p) holds once some is above =
    let here : IsIn p es = subst (λ (l : List (Key × Command)). IsIn p l) (sym is) (inl refl) in
    let low : (e : Key × Command) → IsIn e es → is_gt (key_cmp p.0 e.0) ≡ false = λ e h.
    least_first p rest (λ f i. of_keys (λ k. key_cmp p.0 k ≡ Less) rest f above i) e (subst (λ (l : List (Key × Command)). IsIn e l) is h) in
    least_left calls es p holds once here low

pub pop_after : (q q' : Queue) (calls : Calls) (r : Option (Key × Command)) → IsAfter q calls → q'.ids ≡ q.ids
    → IfSome r (λ p. q.waiting.entries ≡ p ∷ q'.waiting.entries) → IfSome r (λ p. All (λ k. key_cmp p.0 k ≡ Less) (keys_of q'.waiting.entries))
    → IfNone r (q'.waiting.entries ≡ q.waiting.entries) → IsAfter q' (with_taken (entry_if r) calls)
pop_after q q' calls None after ids is above same = record {
  ids = subst (λ i. (id : CommandId) → has same_id id i.keys ≡ was_put id calls) (sym ids) after.ids;
  waiting = subst (λ (l : List (Key × Command)). Holds calls l) (sym same) after.waiting;
  once = after.once;
  taken = after.taken;
}
pop_after q q' calls (Some p) after ids is above same = record {
  ids = subst (λ i. (id : CommandId) → has same_id id i.keys ≡ was_put id calls) (sym ids) after.ids;
  waiting = taken_left calls q.waiting.entries q'.waiting.entries p after.waiting after.once is (λ e h. of_keys (λ k. key_cmp p.0 k ≡ Less) q'.waiting.entries e above h);
  once = after.once;
  taken = taken_was_put calls q.waiting.entries p after.waiting (subst (λ (l : List (Key × Command)). IsIn p l) (sym is) (inl refl)) after.taken;
}

-- what putting leaves

pub unchanged : (q q' : Queue) (calls : Calls) → IsAfter q calls → q'.ids.keys ≡ q.ids.keys → q'.waiting.entries ≡ q.waiting.entries → IsAfter q' calls
unchanged q q' calls after ids waiting = record {
  ids = subst (λ (keys : List CommandId). (id : CommandId) → has same_id id keys ≡ was_put id calls) (sym ids) after.ids;
  waiting = subst (λ (l : List (Key × Command)). Holds calls l) (sym waiting) after.waiting;
  once = after.once;
  taken = after.taken;
}

pub on_err : {X E : Type 0} (r : Result X E) (P : Type 0) → P → OnErr r P
on_err (Ok x) P h = tt
on_err (Err e) P h = h

pub one_more : (key id : CommandId) (old before new : List CommandId) (was : Bool) → has same_id id old ≡ was → before ≡ old
    → has same_id id new ≡ cond (same_id key id) true (has same_id id before) → has same_id id new ≡ (same_id key id || was)
one_more key id old before new was told same added =
    added ∙ ap (λ (keys : List CommandId). cond (same_id key id) true (has same_id id keys)) same ∙ ap (λ (b : Bool). cond (same_id key id) true b) told
    ∙ either (same_id key id)
  where
    either : (t : Bool) → cond t true was ≡ (t || was)
    either true = refl
    either false = refl
