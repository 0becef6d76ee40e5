-- Tables of kept answers: as a session keeps them, and as the rules say them.
use Rattle.std.proofs.Common.{◌≡◌, ◌≢◌, ℕ, zero, suc, ◌+◌, ◌-◌, ◌<◌, ◌≤◌, inl, inr, Bool, true, false, ◌&&◌, List, [], ◌∷◌, ◌++◌, length, set, take, replicate, Option, Some, None, refl, sym, ap, ◌∙◌, arith}
use Rattle.std.specs.Prelude.{◌==◌, is_none, is_some, slice_get, unwrap_or}
use Rattle.std.proofs.lemmas.List.{take-replicate}
use Rattle.std.proofs.lemmas.Bool.{and_cases, and_parts, cond-true}
use Rattle.tp_base.proofs.Ends.{get_set_here, get_set_other}
use Rattle.tp_base.proofs.Options.{none_of}
use Rattle.tp_base.proofs.Tables.{kept_at-take}
use Rattle.tp_base.specs.Tables.{kept_at, nth}
use Rattle.tp_ops.specs.declared.command.Command.{Command}
use Rattle.tp_ops.specs.declared.operation.Answer.{Answer}
use Rattle.tp_ops.specs.Parts.{answers_in, is_accessed, merged, ops_on}
use Rattle.tp_ops.proofs.Merging.{merged_within}
use Rattle.tp_rules.specs.Session.{is_awaited, is_whole, merged_reply}
use Rattle.tp_topology.specs.Shape.{Shape}
use Rattle.tp_session.proofs.Accessed.{all_fails, all_passes, all_skips, all_so_far}
use Rattle.tp_session.specs.States.{parts_at}

abbrev pub Table : Type 0
Table = List (Option (List Answer))

-- a reply reads no other place
pub merged-take : (n : ℕ) (c : Command) (parts : Table) → 1 ≤ n → merged n c.ops (answers_in parts) ≡ merged n c.ops (answers_in (take n parts))
merged-take n c parts some =
    merged_within n c.ops (answers_in parts) (answers_in (take n parts)) some
    (λ q low high. ap (λ (o : Option (List Answer)). unwrap_or o []) (sym (kept_at-take n parts q high)))

push_nothing : (kept : List Table) (nothing : Table) (i : ℕ) → unwrap_or (slice_get (kept ++ nothing ∷ []) i) nothing ≡ unwrap_or (slice_get kept i) nothing
push_nothing [] nothing zero = refl
push_nothing [] nothing (suc i) = refl
push_nothing (parts ∷ kept) nothing zero = refl
push_nothing (parts ∷ kept) nothing (suc i) = push_nothing kept nothing i

-- an empty table more is as none
pub parts_at-push : (kept : List Table) (n : ℕ) → parts_at (kept ++ replicate 4 None ∷ []) n ≡ parts_at kept n
parts_at-push kept zero = refl
parts_at-push kept (suc i) = push_nothing kept (replicate 4 None) i

-- a table changed at one command's number, which is there
pub parts_at-set_same : (kept : List Table) (parts : Table) (n : ℕ) → 1 ≤ n → n ≤ length kept → parts_at (set kept (n - 1) parts) n ≡ parts
parts_at-set_same kept parts zero low high = absurd (omega arith)
parts_at-set_same kept parts (suc i) low high =
    let place : suc i - 1 ≡ i = omega arith in
    ap (λ (j : ℕ). unwrap_or (slice_get (set kept j parts) i) (replicate 4 None)) place
    ∙ ap (λ (o : Option Table). unwrap_or o (replicate 4 None)) (get_set_here kept i parts (omega arith))

pub parts_at-set_other : (kept : List Table) (parts : Table) (n k : ℕ) → 1 ≤ n → k ≢ n → parts_at (set kept (n - 1) parts) k ≡ parts_at kept k
parts_at-set_other kept parts n zero low apart = refl
parts_at-set_other kept parts n (suc i) low apart =
    ap (λ (o : Option Table). unwrap_or o (replicate 4 None)) (get_set_other kept (n - 1) i parts (λ e. apart (omega arith)))

-- at first no answers are kept
pub table_start : (kept : List Table) (n m : ℕ) → kept ≡ [] → m ≤ 4 → take m (parts_at kept n) ≡ replicate m None
table_start kept n m none few =
    ap (λ (items : List Table). take m (parts_at items n)) none ∙ ap (take m) (nothing n) ∙ take-replicate m 4 None few
  where
    nothing : (n : ℕ) → parts_at [] n ≡ replicate 4 None
    nothing zero = refl
    nothing (suc i) = refl

-- whether so far the answers of each partition that a command accesses are kept
abbrev pub whole_so_far : ℕ → Table → Command → ℕ → Bool
whole_so_far m parts c i = all_so_far (λ q. is_some (kept_at (take m parts) q)) (is_accessed m c) i

none_kept : (m q : ℕ) (parts : Table) → 1 ≤ q → q ≤ m → is_none (kept_at parts q) ≡ true → is_some (kept_at (take m parts) q) ≡ false
none_kept m q parts low high none = ap is_some (kept_at-take m parts q high) ∙ ap is_some (none_of (kept_at parts q) none)

some_kept : (o : Option (List Answer)) → is_none o ≡ false → is_some o ≡ true
some_kept None e = absurd cc
some_kept (Some answers) e = refl

pub whole_fails : (m q : ℕ) (parts : Table) (c : Command) → 1 ≤ q → q ≤ m → (is_accessed m c q && is_none (kept_at parts q)) ≡ true
    → whole_so_far m parts c m ≡ false
whole_fails m q parts c low high lacks =
    let both = and_parts (is_accessed m c q) (is_none (kept_at parts q)) lacks in
    all_fails (λ k. is_some (kept_at (take m parts) k)) (is_accessed m c) m q low high both.0 (none_kept m q parts low high both.1)

pub whole_more : (m i : ℕ) (parts : Table) (c : Command) → i < m → (is_accessed m c (i + 1) && is_none (kept_at parts (i + 1))) ≡ false
    → whole_so_far m parts c i ≡ true → whole_so_far m parts c (i + 1) ≡ true
whole_more m i parts c lt lacks so_far = elim (and_cases (is_accessed m c (i + 1)) (is_none (kept_at parts (i + 1))) lacks) [
  | inl out ↦ all_skips (λ k. is_some (kept_at (take m parts) k)) (is_accessed m c) i out so_far
  | inr kept ↦ all_passes (λ k. is_some (kept_at (take m parts) k)) (is_accessed m c) i
      (ap is_some (kept_at-take m parts (i + 1) (omega arith)) ∙ some_kept (kept_at parts (i + 1)) kept) so_far
]

-- the reply to an answered command
pub reply_whole : (shape : Shape) (parts : Table) (c : Command) → 1 ≤ shape.partitions → is_whole shape (take shape.partitions parts) (Some c) ≡ true
    → Some (merged shape.partitions c.ops (answers_in parts)) ≡ merged_reply shape (take shape.partitions parts) (Some c)
reply_whole shape parts c some whole =
    ap (λ (answers : List Answer). Some answers) (merged-take shape.partitions c parts some)
    ∙ sym (cond-true (is_whole shape (take shape.partitions parts) (Some c)) (Some (merged shape.partitions c.ops (answers_in (take shape.partitions parts)))) None whole)

-- a command whose answers are awaited is not answered
pub awaited_open : (shape : Shape) (q : ℕ) (answers : List Answer) (parts : Table) (o : Option Command) → 1 ≤ q → q ≤ shape.partitions
    → is_awaited shape q answers parts o ≡ true → is_whole shape parts o ≡ false
awaited_open shape q answers parts None low high awaited = refl
awaited_open shape q answers parts (Some c) low high awaited =
    let first = and_parts (is_accessed shape.partitions c q && is_none (kept_at parts q)) (length answers == length (ops_on shape.partitions q c.ops)) awaited in
    let both = and_parts (is_accessed shape.partitions c q) (is_none (kept_at parts q)) first.0 in
    all_fails (λ k. is_some (kept_at parts k)) (is_accessed shape.partitions c) shape.partitions q low high both.0
    (ap is_some (none_of (kept_at parts q) both.1))

-- a command whose answers are awaited is one of the session's
pub awaited_some : (shape : Shape) (q : ℕ) (answers : List Answer) (parts : Table) (commands : List Command) (n : ℕ) → is_awaited shape q answers parts (nth commands n) ≡ true → 1 ≤ n
awaited_some shape q answers parts commands zero awaited = absurd cc
awaited_some shape q answers parts commands (suc n) awaited = omega arith
