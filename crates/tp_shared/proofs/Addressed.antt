-- The outputs of a journal that are addressed to an actor, entry by entry and output by output. Used where a desk fetches them.
use Rattle.std.proofs.Common.{◌≡◌, ◌+◌, ◌<◌, ◌≤◌, ◌&&◌, ℕ, zero, suc, Bool, List, [], ◌∷◌, ◌++◌, Some, cond, length, take, filter, reverse, slice_get, nat_lt, refl, sym, ap, subst, ◌∙◌, append_assoc, length-take-le, arith}
use Rattle.std.proofs.lemmas.Bool.{and_left, le-ltb, lt-ltb}
use Rattle.std.proofs.lemmas.List.{length-reverse}
use Rattle.std.proofs.lemmas.List.Elements.{filter-append}
use Rattle.tp_base.specs.declared.names.ActorName.{ActorName}
use Rattle.tp_rules.proofs.Journals.{sent_more}
use Rattle.tp_rules.proofs.sent.Parcels.{parcel, sent_within}
use Rattle.tp_rules.proofs.lists.Tallies.{filter_none}
use Rattle.tp_rules.specs.Journal.{numbered, sent}
use Rattle.tp_rules.specs.declared.event.Entry.{Entry}
use Rattle.tp_rules.specs.declared.event.Parcel.{Parcel}
use Rattle.tp_wire.specs.declared.message.Message.{Message}
use Rattle.tp_shared.specs.Fetched.{is_for, parcels_for}

one_more : {X : Type 0} (xs : List X) (i : ℕ) (x : X) → slice_get xs i ≡ Some x → take (i + 1) xs ≡ take i xs ++ x ∷ []
one_more xs i x e = subst (λ (n : ℕ). take n xs ≡ take i xs ++ x ∷ []) same (by xs i e)
  where
    same : suc i ≡ i + 1
    same = omega arith

    by : (ys : List _) (k : ℕ) → slice_get ys k ≡ Some x → take (suc k) ys ≡ take k ys ++ x ∷ []
    by [] k f = absurd cc
    by (y ∷ ys) zero f = let head : y ≡ x = cc in ap (λ (z : _). z ∷ []) head
    by (y ∷ ys) (suc k) f = ap (λ (l : List _). y ∷ l) (by ys k f)

-- one output after the others of its entry

numbered_push : (n k : ℕ) (ms : List Message) (m : Message) → numbered n k (ms ++ m ∷ []) ≡ numbered n k ms ++ parcel n (length ms + k) m ∷ []
numbered_push n k [] m = let same : k ≡ 0 + k = omega arith in ap (λ (j : ℕ). parcel n j m ∷ []) same
numbered_push n k (x ∷ ms) m =
    let same : length ms + suc k ≡ suc (length ms) + k = omega arith in
    ap (λ (l : List Parcel). parcel n k x ∷ l) (numbered_push n (suc k) ms m ∙ ap (λ (j : ℕ). numbered n (suc k) ms ++ parcel n j m ∷ []) same)

pub output_next : (a : ActorName) (n i : ℕ) (ms : List Message) (m : Message) (before : List Parcel) → i < length ms → slice_get ms i ≡ Some m
    → (before ++ filter (is_for a) (numbered n 1 (take i ms))) ++ filter (is_for a) (parcel n (i + 1) m ∷ []) ≡ before ++ filter (is_for a) (numbered n 1 (take (i + 1) ms))
output_next a n i ms m before within e =
    let long : length (take i ms) ≡ i = length-take-le i ms (omega arith) in
    let outputs : numbered n 1 (take (i + 1) ms) ≡ numbered n 1 (take i ms) ++ parcel n (i + 1) m ∷ [] =
    ap (numbered n 1) (one_more ms i m e) ∙ numbered_push n 1 (take i ms) m ∙ ap (λ (j : ℕ). numbered n 1 (take i ms) ++ parcel n (j + 1) m ∷ []) long in
    append_assoc before _ _
    ∙ ap (λ (l : List Parcel). before ++ l) (sym (ap (filter (is_for a)) outputs ∙ filter-append (is_for a) (numbered n 1 (take i ms)) (parcel n (i + 1) m ∷ [])))

-- one entry after the others

pub numbered_later : (a : ActorName) (number n k : ℕ) (ms : List Message) → number < n
    → filter (λ (p : Parcel). nat_lt number p.entry && is_for a p) (numbered n k ms) ≡ filter (is_for a) (numbered n k ms)
numbered_later a number n k [] lt = refl
numbered_later a number n k (m ∷ ms) lt =
    let p : Parcel = parcel n k m in
    let rest = numbered_later a number n (suc k) ms lt in
    let same : (nat_lt number n && is_for a p) ≡ is_for a p = ap (λ (b : Bool). b && is_for a p) (lt-ltb number n lt) in
    ap (λ (b : Bool). cond b (p ∷ filter (λ (q : Parcel). nat_lt number q.entry && is_for a q) (numbered n (suc k) ms)) (filter (λ (q : Parcel). nat_lt number q.entry && is_for a q) (numbered n (suc k) ms))) same
    ∙ ap (λ (l : List Parcel). cond (is_for a p) (p ∷ l) l) rest

pub entry_next : (a : ActorName) (number i : ℕ) (journal : List Entry) (e : Entry) → number ≤ i → i < length journal → slice_get journal i ≡ Some e
    → parcels_for a number (take i journal) ++ filter (is_for a) (numbered (i + 1) 1 e.outputs) ≡ parcels_for a number (take (i + 1) journal)
entry_next a number i journal e le within at =
    let before : List Entry = take i journal in
    let long : length before ≡ i = length-take-le i journal (omega arith) in
    let number_is : suc (length before) ≡ i + 1 = omega arith in
    let more : sent (reverse (take (i + 1) journal)) ≡ sent (reverse before) ++ numbered (i + 1) 1 e.outputs =
    ap (λ (l : List Entry). sent (reverse l)) (one_more journal i e at) ∙ sent_more before e ∙ ap (λ (n : ℕ). sent (reverse before) ++ numbered n 1 e.outputs) number_is in
    sym (ap (filter (λ (p : Parcel). nat_lt number p.entry && is_for a p)) more
    ∙ filter-append (λ (p : Parcel). nat_lt number p.entry && is_for a p) (sent (reverse before)) (numbered (i + 1) 1 e.outputs)
    ∙ ap (λ (l : List Parcel). parcels_for a number before ++ l) (numbered_later a number (i + 1) 1 e.outputs (omega arith)))

-- none is behind the number yet
pub none_behind : (a : ActorName) (number : ℕ) (journal : List Entry) → parcels_for a number (take number journal) ≡ []
none_behind a number journal = filter_none (λ (p : Parcel). nat_lt number p.entry && is_for a p) (sent (reverse (take number journal))) (λ p h.
    let within = sent_within (reverse (take number journal)) p h in
    let long : length (reverse (take number journal)) ≡ length (take number journal) = length-reverse (take number journal) in
    let few : length (take number journal) ≤ number = short number journal in
    and_left (nat_lt number p.entry) (is_for a p) (le-ltb number p.entry (omega (arith, within.1))))
  where
    short : (n : ℕ) (l : List Entry) → length (take n l) ≤ n
    short zero l = omega arith
    short (suc n) [] = omega arith
    short (suc n) (x ∷ l) = let s = short n l in omega arith
