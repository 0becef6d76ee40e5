-- What one more entry of a journal does to what was sent, and to the deliveries that are left of each output. Used for the
-- end of runs, and where a delivered message is to be one that was sent.
use Rattle.std.proofs.Common.{◌≡◌, ◌≢◌, ℕ, zero, suc, ◌+◌, ◌<◌, ◌≤◌, inl, inr, false, List, [], ◌∷◌, ◌++◌, Some, length, refl, sym, ap, subst, ◌∙◌, arith}
use Rattle.std.specs.Prelude.{filter, slice_get, ◌==◌}
use Rattle.std.proofs.lemmas.Bool.{cases_eq, eq-eqb, ne_eqb, and_left, and_right, or_from, le-ltb, cond-true, cond-false}
use Rattle.std.proofs.lemmas.List.{append-nil}
use Rattle.std.proofs.lemmas.List.Elements.{filter-append}
use Rattle.tp_base.specs.Lists.{IsIn}
use Rattle.tp_base.proofs.Members.{in_left, in_right, in_either}
use Rattle.tp_base.specs.Tables.{nth}
use Rattle.tp_rules.specs.Journal.{numbered, output_at, sent}
use Rattle.tp_rules.specs.Plan.{is_counted_to, ordinal_of, fate_of, fate_by}
use Rattle.tp_rules.specs.declared.event.Entry.{Entry}
use Rattle.tp_rules.specs.declared.event.Parcel.{Parcel}
use Rattle.tp_rules.proofs.lists.Distinct.{Distinct}
use Rattle.tp_rules.proofs.lists.Tallies.{filter_none}
use Rattle.tp_script.specs.declared.script.Script.{Script}
use Rattle.tp_wire.specs.declared.message.Message.{Message}

abbrev pub parcel : ℕ → ℕ → Message → Parcel
parcel entry place m = record { entry = entry; place = place; message = m }

-- the outputs of one entry
pub numbered_parts : (n k : ℕ) (ms : List Message) (p : Parcel) → IsIn p (numbered n k ms) →
    (p.entry ≡ n) × (k ≤ p.place) × IsIn p.message ms
numbered_parts n k [] p h = absurd h
numbered_parts n k (m ∷ ms) p (inl e) =
    (ap (λ (q : Parcel). q.entry) e, (let same : p.place ≡ k = ap (λ (q : Parcel). q.place) e in omega arith), inl (ap (λ (q : Parcel). q.message) e))
numbered_parts n k (m ∷ ms) p (inr h) = let rest = numbered_parts n (suc k) ms p h in (rest.0, omega (arith, rest.1), inr rest.2)

pub length-numbered : (n k : ℕ) (ms : List Message) → length (numbered n k ms) ≡ length ms
length-numbered n k [] = refl
length-numbered n k (m ∷ ms) = ap (λ (i : ℕ). suc i) (length-numbered n (suc k) ms)

-- an output's entry is one of the journal's
pub sent_within : (older : List Entry) (p : Parcel) → IsIn p (sent older) → (1 ≤ p.entry) × (p.entry ≤ length older)
sent_within [] p h = absurd h
sent_within (e ∷ older) p h = elim (in_either (sent older) (numbered (suc (length older)) 1 e.outputs) p h) [
  | inl old ↦ let rest = sent_within older p old in (rest.0, omega (arith, rest.1))
  | inr new ↦ let parts = numbered_parts (suc (length older)) 1 e.outputs p new in (omega (arith, parts.0), omega (arith, parts.0))
]

numbered_there : (n k i : ℕ) (ms : List Message) (m : Message) → slice_get ms i ≡ Some m → IsIn (parcel n (k + i) m) (numbered n k ms)
numbered_there n k i [] m e = absurd cc
numbered_there n k zero (x ∷ ms) m e =
    let same : x ≡ m = cc in
    let place : k + zero ≡ k = omega arith in
    inl (ap (λ (j : ℕ). parcel n j m) place ∙ ap (parcel n k) (sym same))
numbered_there n k (suc i) (x ∷ ms) m e =
    let place : suc k + i ≡ k + suc i = omega arith in
    inr (subst (λ (j : ℕ). IsIn (parcel n j m) (numbered n (suc k) ms)) place (numbered_there n (suc k) i ms m e))

nth_numbered : (n place : ℕ) (ms : List Message) (m : Message) → nth ms place ≡ Some m → IsIn (parcel n place m) (numbered n 1 ms)
nth_numbered n zero ms m e = absurd cc
nth_numbered n (suc i) ms m e =
    let same : 1 + i ≡ suc i = omega arith in
    subst (λ (j : ℕ). IsIn (parcel n j m) (numbered n 1 ms)) same (numbered_there n 1 i ms m e)

numbered_at : (n k : ℕ) (ms : List Message) (p : Parcel) → IsIn p (numbered n k ms) → (i : ℕ) × (p.place ≡ k + i) × (slice_get ms i ≡ Some p.message)
numbered_at n k [] p h = absurd h
numbered_at n k (m ∷ ms) p (inl e) =
    let same : p.place ≡ k = ap (λ (q : Parcel). q.place) e in
    (zero, omega arith, ap (λ (q : Parcel). Some q.message) (sym e))
numbered_at n k (m ∷ ms) p (inr h) = let rest = numbered_at n (suc k) ms p h in (suc rest.0, omega (arith, rest.1), rest.2)

numbered_nth : (n : ℕ) (ms : List Message) (p : Parcel) → IsIn p (numbered n 1 ms) → nth ms p.place ≡ Some p.message
numbered_nth n ms p h =
    let found = numbered_at n 1 ms p h in
    let same : p.place ≡ suc found.0 = omega (arith, found.1) in
    ap (nth ms) same ∙ found.2

-- what stands at a place was sent
pub output_sent : (older : List Entry) (entry place : ℕ) (m : Message) → output_at older entry place ≡ Some m →
    IsIn (parcel entry place m) (sent older)
output_sent [] entry place m e = absurd cc
output_sent (x ∷ older) entry place m e = elim (cases_eq entry (suc (length older))) [
  | inl same ↦
      let here : nth x.outputs place ≡ Some m = sym (cond-true (entry == suc (length older)) _ _ (eq-eqb entry (suc (length older)) same)) ∙ e in
      in_right (sent older) _ _ (subst (λ (n : ℕ). IsIn (parcel n place m) (numbered (suc (length older)) 1 x.outputs)) (sym same)
      (nth_numbered (suc (length older)) place x.outputs m here))
  | inr apart ↦
      let before : output_at older entry place ≡ Some m =
      sym (cond-false (entry == suc (length older)) _ _ (ne_eqb entry (suc (length older)) apart)) ∙ e in
      in_left (sent older) _ _ (output_sent older entry place m before)
]

-- and what was sent stands at its place
pub sent_output : (older : List Entry) (p : Parcel) → IsIn p (sent older) → output_at older p.entry p.place ≡ Some p.message
sent_output [] p h = absurd h
sent_output (x ∷ older) p h = elim (in_either (sent older) (numbered (suc (length older)) 1 x.outputs) p h) [
  | inl old ↦
      let within = sent_within older p old in
      let apart : p.entry ≢ suc (length older) = (λ e. omega (arith, within.1)) in
      cond-false (p.entry == suc (length older)) _ _ (ne_eqb p.entry (suc (length older)) apart) ∙ sent_output older p old
  | inr new ↦
      let parts = numbered_parts (suc (length older)) 1 x.outputs p new in
      cond-true (p.entry == suc (length older)) _ _ (eq-eqb p.entry (suc (length older)) parts.0) ∙ numbered_nth (suc (length older)) x.outputs p new
]

-- an output stays where it is
pub found_before : (older : List Entry) (e : Entry) (entry place : ℕ) (m : Message) → output_at older entry place ≡ Some m
    → output_at (e ∷ older) entry place ≡ Some m
found_before older e entry place m at =
    sent_output (e ∷ older) (parcel entry place m)
    (in_left (sent older) (numbered (suc (length older)) 1 e.outputs) (parcel entry place m) (output_sent older entry place m at))

numbered_once : (n k : ℕ) (ms : List Message) → Distinct (numbered n k ms)
numbered_once n k [] = tt
numbered_once n k (m ∷ ms) = (λ h. omega (arith, (numbered_parts n (suc k) ms (parcel n k m) h).1), numbered_once n (suc k) ms)

append_once : (ps qs : List Parcel) → Distinct ps → Distinct qs → ((p : Parcel) → IsIn p ps → IsIn p qs → ⊥) → Distinct (ps ++ qs)
append_once [] qs h k apart = k
append_once (p ∷ ps) qs h k apart =
    (λ there. elim (in_either ps qs p there) [ inl left ↦ h.0 left | inr right ↦ apart p (inl refl) right ], append_once ps qs h.1 k (λ q l r. apart q (inr l) r))

-- no output stands twice among those sent
pub sent_once : (older : List Entry) → Distinct (sent older)
sent_once [] = tt
sent_once (x ∷ older) =
    let new = numbered (suc (length older)) 1 x.outputs in
    append_once (sent older) new (sent_once older) (numbered_once (suc (length older)) 1 x.outputs) (λ p old fresh.
    let within = sent_within older p old in
    let parts = numbered_parts (suc (length older)) 1 x.outputs p fresh in
    omega (arith, within.1, parts.0))

-- a newer output is not counted in the number of an older one
not_counted : (p other : Parcel) → p.entry < other.entry → is_counted_to p other ≡ false
not_counted p other later =
    and_right _ _ (or_from _ _ (le-ltb other.entry p.entry (omega arith)) (and_left _ _ (ne_eqb other.entry p.entry (λ e. omega arith))))

pub ordinal_stays : (older : List Entry) (e : Entry) (p : Parcel) → IsIn p (sent older) → ordinal_of (e ∷ older) p ≡ ordinal_of older p
ordinal_stays older e p h =
    let within = sent_within older p h in
    let new = numbered (suc (length older)) 1 e.outputs in
    let none : filter (is_counted_to p) new ≡ [] = filter_none (is_counted_to p) new (λ other k. not_counted p other
    (let parts = numbered_parts (suc (length older)) 1 e.outputs other k in omega (arith, within.1, parts.0))) in
    ap length (filter-append (is_counted_to p) (sent older) new ∙ ap (λ (l : List Parcel). filter (is_counted_to p) (sent older) ++ l) none ∙ append-nil _)

pub fate_stays : (script : Script) (older : List Entry) (e : Entry) (p : Parcel) → IsIn p (sent older) →
    fate_of script (e ∷ older) p ≡ fate_of script older p
unfolding fate_of
fate_stays script older e p h = ap (λ (n : ℕ). fate_by script.plan p.message.from p.message.to n) (ordinal_stays older e p h)
