-- The least key of a queue is that of the rules. Used by all steps.
use Rattle.std.proofs.Common.{◌≡◌, ◌⊎◌, inl, inr, Bool, true, false, not, ◌||◌, cond, List, [], ◌∷◌, map, Some, None, refl, sym, ap, subst, ◌∙◌}
use Rattle.std.specs.List.{list_any}
use Rattle.std.specs.Prelude.{filter}
use Rattle.tp_base.proofs.Each.{each_in}
use Rattle.tp_base.proofs.Members.{in_map, map_in}
use Rattle.tp_base.proofs.SameNames.{same_id_sym}
use Rattle.tp_base.specs.Lists.{IsIn, has}
use Rattle.tp_base.specs.Names.{key_lt, same_id}
use Rattle.tp_base.specs.declared.names.CommandId.{CommandId}
use Rattle.tp_queue.specs.Waiting.{Entry, IsLeast, left, was_put}
use Rattle.tp_rules.specs.Executor.{Committed, ExecutorState, committed_ids, least, lesser, waiting}
use Rattle.tp_executor.specs.States.{calls_of}
use Rattle.tp_rules.proofs.LeastKey.{least_at_most}
use Rattle.tp_rules.proofs.ends.Unexecuted.{least_in}

abbrev pub entry_of : Committed → Entry
entry_of c = record { key = c.key; command = c.command }

-- what was put is what is committed

put_has : (cs : List Committed) (id : CommandId) → list_any (λ e. same_id e.key.id id) (map entry_of cs) ≡ has same_id id (map (λ c. c.key.id) cs)
put_has [] id = refl
put_has (c ∷ cs) id =
    ap (λ (b : Bool). b || list_any (λ e. same_id e.key.id id) (map entry_of cs)) (same_id_sym c.key.id id)
    ∙ ap (λ (b : Bool). same_id id c.key.id || b) (put_has cs id)

pub was_committed : (state : ExecutorState) (id : CommandId) → was_put id (calls_of state) ≡ has same_id id (committed_ids state)
was_committed state id = put_has state.committed id

-- what is left is what waits

left_waits : (done : List CommandId) (cs : List Committed)
    → filter (λ e. not (has same_id e.key.id done)) (map entry_of cs) ≡ map entry_of (filter (λ c. not (has same_id c.key.id done)) cs)
left_waits done [] = refl
left_waits done (c ∷ cs) = go (has same_id c.key.id done) (left_waits done cs)
  where
    entries : List Entry
    entries = filter (λ e. not (has same_id e.key.id done)) (map entry_of cs)

    left_ones : List Committed
    left_ones = filter (λ d. not (has same_id d.key.id done)) cs

    go : (b : Bool) → entries ≡ map entry_of left_ones → cond (not b) (entry_of c ∷ entries) entries ≡ map entry_of (cond (not b) (c ∷ left_ones) left_ones)
    go true rest = rest
    go false rest = ap (λ (es : List Entry). entry_of c ∷ es) rest

-- so it is the least of a queue

same_least : (cs : List Committed) (x m : Committed) → least cs ≡ Some x → IsLeast (Some (entry_of m)) (map entry_of cs) → x ≡ m
same_least cs x m first is =
    let found = in_map entry_of cs (entry_of m) is.0 in
    let there : IsIn m cs = subst (λ (e : Entry). IsIn (record { key = e.key; command = e.command }) cs) (sym found.2) found.1 in
    let low : key_lt m.key x.key ≡ false = least_at_most cs x m first there in
    elim (each_in (λ (e : Entry). (e ≡ entry_of m) ⊎ (key_lt m.key e.key ≡ true)) (map entry_of cs) (entry_of x) is.1 (map_in entry_of cs x (least_in cs x first))) [
      | inl same ↦ ap (λ (e : Entry). record { key = e.key; command = e.command }) same
      | inr below ↦ absurd cc
    ]

least_one : (cs : List Committed) (m : Committed) → IsLeast (Some (entry_of m)) (map entry_of cs) → least cs ≡ Some m
least_one [] m is = absurd is.0
least_one (c ∷ cs) m is = ap (λ (x : Committed). Some x) (same_least (c ∷ cs) (lesser c (least cs)) m refl is)

least_none : (cs : List Committed) → map entry_of cs ≡ [] → least cs ≡ None
least_none [] e = refl
least_none (c ∷ cs) e = absurd cc

pub first_waits : (state : ExecutorState) (m : Committed) → IsLeast (Some (entry_of m)) (left (calls_of state)) → least (waiting state) ≡ Some m
first_waits state m is = least_one (waiting state) m (subst (λ (es : List Entry). IsLeast (Some (entry_of m)) es) (left_waits state.executed state.committed) is)

pub none_waits : (state : ExecutorState) → IsLeast None (left (calls_of state)) → least (waiting state) ≡ None
none_waits state is = least_none (waiting state) (sym (left_waits state.executed state.committed) ∙ is)
