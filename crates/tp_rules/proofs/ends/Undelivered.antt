-- What one more entry does to the deliveries left of each kind of message. Used for the end of runs.
use Rattle.std.proofs.Common.{◌≡◌, ℕ, suc, ◌+◌, ◌*◌, ◌<◌, ◌≤◌, Bool, List, [], ◌∷◌, ◌++◌, length, map, refl, ap, ◌∙◌, arith}
use Rattle.std.specs.Prelude.{filter, ◌==◌}
use Rattle.std.proofs.lemmas.Bool.{eq-eqb, ne_eqb}
use Rattle.std.proofs.lemmas.List.Elements.{filter-append}
use Rattle.tp_base.specs.Lists.{IsIn, Each}
use Rattle.tp_base.proofs.Each.{each_in}
use Rattle.tp_rules.proofs.ends.DeliveriesLeft.{deliveries_fall, deliveries_few}
use Rattle.tp_rules.proofs.sent.Parcels.{numbered_parts, length-numbered}
use Rattle.tp_rules.proofs.lists.Tallies.{filter_in, in_filter, filter_none, filter_length, total-append, lower_total, less_total, total_bound}
use Rattle.tp_rules.specs.Journal.{numbered, sent}
use Rattle.tp_rules.specs.Left.{place_of, total, undelivered}
use Rattle.tp_rules.specs.Plan.{deliveries_left}
use Rattle.tp_rules.specs.declared.event.Entry.{Entry}
use Rattle.tp_rules.specs.declared.event.Parcel.{Parcel}
use Rattle.tp_script.specs.Accepted.{IsAccepted}
use Rattle.tp_script.specs.declared.script.Script.{Script}
use Rattle.tp_wire.specs.declared.message.Message.{Message}

abbrev is_of : ℕ → Parcel → Bool
is_of k p = place_of p.message.body == k

abbrev new_of : List Entry → Entry → List Parcel
new_of older e = numbered (suc (length older)) 1 e.outputs

-- those of the outputs before, as they stand after the entry
abbrev olds : Script → List Entry → Entry → ℕ → ℕ
olds script older e k = total (map (deliveries_left script (e ∷ older)) (filter (is_of k) (sent older)))

abbrev news : Script → List Entry → Entry → ℕ → ℕ
news script older e k = total (map (deliveries_left script (e ∷ older)) (filter (is_of k) (new_of older e)))

map-append : {X Y : Type 0} (f : X → Y) (xs ys : List X) → map f (xs ++ ys) ≡ map f xs ++ map f ys
map-append f [] ys = refl
map-append f (x ∷ xs) ys = ap (λ (l : List _). f x ∷ l) (map-append f xs ys)

apart : (script : Script) (older : List Entry) (e : Entry) (k : ℕ) → undelivered script (e ∷ older) k ≡ olds script older e k + news script older e k
apart script older e k =
    let f = deliveries_left script (e ∷ older) in
    ap (λ (l : List Parcel). total (map f l)) (filter-append (is_of k) (sent older) (new_of older e))
    ∙ ap total (map-append f (filter (is_of k) (sent older)) (filter (is_of k) (new_of older e)))
    ∙ total-append (map f (filter (is_of k) (sent older))) (map f (filter (is_of k) (new_of older e)))

olds_fall : (script : Script) (older : List Entry) (e : Entry) (k : ℕ) → olds script older e k ≤ undelivered script older k
olds_fall script older e k = lower_total (deliveries_left script older) (deliveries_left script (e ∷ older)) (filter (is_of k) (sent older))
    (λ p h. deliveries_fall script older e p (filter_in (is_of k) (sent older) p h).0)

-- where no output is of the kind
none_new : (script : Script) (older : List Entry) (e : Entry) (k : ℕ) → Each (λ m. k < place_of m.body) e.outputs → news script older e k ≡ 0
none_new script older e k above =
    let f = deliveries_left script (e ∷ older) in
    let none : filter (is_of k) (new_of older e) ≡ [] = filter_none (is_of k) (new_of older e) (λ p h.
    let parts = numbered_parts (suc (length older)) 1 e.outputs p h in
    let high : k < place_of p.message.body = each_in (λ (m : Message). k < place_of m.body) e.outputs p.message above parts.2 in
    ne_eqb (place_of p.message.body) k (λ same. omega arith)) in
    ap (λ (l : List Parcel). total (map f l)) none

few_new : (script : Script) → IsAccepted script → (older : List Entry) (e : Entry) (k : ℕ) → length e.outputs ≤ 63 → news script older e k ≤ 599
few_new script accepted older e k few =
    let kept = filter (is_of k) (new_of older e) in
    let bound : total (map (deliveries_left script (e ∷ older)) kept) ≤ length kept * 9 =
    total_bound (deliveries_left script (e ∷ older)) kept 9 (λ p h. deliveries_few script accepted (e ∷ older) p) in
    let short : length kept ≤ length (new_of older e) = filter_length (is_of k) (new_of older e) in
    let same : length (new_of older e) ≡ length e.outputs = length-numbered (suc (length older)) 1 e.outputs in
    omega arith

-- a kind of which nothing is sent doesn't rise
pub undelivered_stays : (script : Script) (older : List Entry) (e : Entry) (k : ℕ) → Each (λ m. k < place_of m.body) e.outputs →
    undelivered script (e ∷ older) k ≤ undelivered script older k
undelivered_stays script older e k above = omega (arith, apart script older e k, olds_fall script older e k, none_new script older e k above)

-- and falls where one of its outputs has less deliveries left
pub undelivered_falls : (script : Script) (older : List Entry) (e : Entry) (p : Parcel) →
    Each (λ m. place_of p.message.body < place_of m.body) e.outputs →
    IsIn p (sent older) → deliveries_left script (e ∷ older) p < deliveries_left script older p →
    undelivered script (e ∷ older) (place_of p.message.body) < undelivered script older (place_of p.message.body)
undelivered_falls script older e p above h less =
    let k = place_of p.message.body in
    let old : olds script older e k < undelivered script older k =
    less_total (deliveries_left script older) (deliveries_left script (e ∷ older)) (filter (is_of k) (sent older)) p
    (λ q there. deliveries_fall script older e q (filter_in (is_of k) (sent older) q there).0)
    (in_filter (is_of k) (sent older) p h (eq-eqb k k refl)) less in
    omega (arith, apart script older e k, none_new script older e k above)

-- each kind rises by less than 600
pub undelivered_rises : (script : Script) → IsAccepted script → (older : List Entry) (e : Entry) (k : ℕ) → length e.outputs ≤ 63 →
    undelivered script (e ∷ older) k ≤ undelivered script older k + 599
undelivered_rises script accepted older e k few =
    omega (arith, apart script older e k, olds_fall script older e k, few_new script accepted older e k few)
