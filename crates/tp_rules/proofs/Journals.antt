-- Journals that grow at their end, as the driver's do, seen by definitions whose newest entry stands first.
use Rattle.std.proofs.Common.{◌≡◌, ◌≢◌, ℕ, zero, suc, inl, inr, false, List, [], ◌∷◌, ◌++◌, length, Option, Some, None, refl, sym, ap, subst, ◌∙◌, arith}
use Rattle.std.proofs.lemmas.Bool.{cases_eq, cases_lt, cond-true, cond-false, eq-eqb, ne_eqb}
use Rattle.std.proofs.lemmas.List.{length-reverse}
use Rattle.std.proofs.lemmas.Option.{slice_get_past}
use Rattle.std.specs.Option.{option_and_then}
use Rattle.std.specs.Prelude.{reverse, slice_get}
use Rattle.tp_base.proofs.Ends.{reverse_push, slice_get_left, slice_get_push, snoc_ind}
use Rattle.tp_base.proofs.SameNames.{same_name_refl}
use Rattle.tp_base.specs.Names.{same_name}
use Rattle.tp_base.specs.Tables.{nth}
use Rattle.tp_base.specs.declared.names.ActorName.{ActorName}
use Rattle.tp_rules.specs.Journal.{act_of, acts, numbered, output_at, sent, with_act}
use Rattle.tp_rules.specs.Pending.{IsPicked, IsPickedHistory, IsPickedRun}
use Rattle.tp_rules.specs.Runs.{IsFreeHistory, IsFreeRun, IsHistory, IsLegal, IsRun}
use Rattle.tp_rules.specs.declared.event.Entry.{Entry}
use Rattle.tp_script.specs.declared.script.Script.{Script}
use Rattle.tp_wire.specs.declared.message.Message.{Message}

-- runs grow by an entry that may come next

pub run_none : (script : Script) → IsRun script []
unfolding IsRun
run_none script = tt

pub run_more : (script : Script) (journal : List Entry) (e : Entry)
    → IsRun script journal → IsLegal script (reverse journal) e → IsRun script (journal ++ e ∷ [])
unfolding IsRun
run_more script journal e run legal = subst (IsHistory script) (sym (reverse_push journal e)) (run, legal)

pub picked_run_none : (script : Script) → IsPickedRun script []
unfolding IsPickedRun
picked_run_none script = tt

pub picked_run_more : (script : Script) (journal : List Entry) (e : Entry)
    → IsPickedRun script journal → IsPicked script (reverse journal) e → IsPickedRun script (journal ++ e ∷ [])
unfolding IsPickedRun
picked_run_more script journal e run picked = subst (IsPickedHistory script) (sym (reverse_push journal e)) (run, picked)

-- a run is a free run

pub history_is_free : (script : Script) (older : List Entry) → IsHistory script older → IsFreeHistory script older
history_is_free script [] history = tt
history_is_free script (e ∷ older) history = (history_is_free script older history.0, history.1.rules)

pub run_is_free : (script : Script) (journal : List Entry) → IsRun script journal → IsFreeRun script journal
unfolding IsRun IsFreeRun
run_is_free script journal run = history_is_free script (reverse journal) run

-- acts after one more entry: with the newest entry first, and for a journal in its own order

pub acts_of_newest : (older : List Entry) (e : Entry) → acts (e ∷ older) e.actor ≡ with_act (act_of older e.event) (acts older e.actor)
acts_of_newest older e =
    cond-true (same_name e.actor e.actor) (with_act (act_of older e.event) (acts older e.actor)) (acts older e.actor) (same_name_refl e.actor)

pub acts_of_others : (older : List Entry) (e : Entry) (a : ActorName) → same_name e.actor a ≡ false → acts (e ∷ older) a ≡ acts older a
acts_of_others older e a apart =
    cond-false (same_name e.actor a) (with_act (act_of older e.event) (acts older a)) (acts older a) apart

pub acts_here : (journal : List Entry) (e : Entry)
    → acts (reverse (journal ++ e ∷ [])) e.actor ≡ with_act (act_of (reverse journal) e.event) (acts (reverse journal) e.actor)
acts_here journal e = ap (λ (l : List Entry). acts l e.actor) (reverse_push journal e) ∙ acts_of_newest (reverse journal) e

pub acts_other : (journal : List Entry) (e : Entry) (a : ActorName) → same_name e.actor a ≡ false
    → acts (reverse (journal ++ e ∷ [])) a ≡ acts (reverse journal) a
acts_other journal e a apart = ap (λ (l : List Entry). acts l a) (reverse_push journal e) ∙ acts_of_others (reverse journal) e a apart

-- the outputs in order, with those of one more entry at the end
pub sent_more : (journal : List Entry) (e : Entry)
    → sent (reverse (journal ++ e ∷ [])) ≡ sent (reverse journal) ++ numbered (suc (length journal)) 1 e.outputs
sent_more journal e =
    ap (λ (l : List Entry). sent l) (reverse_push journal e)
    ∙ ap (λ (n : ℕ). sent (reverse journal) ++ numbered (suc n) 1 e.outputs) (length-reverse journal)

-- an output by the number of its entry in a journal's own order

abbrev in_order : List Entry → ℕ → ℕ → Option Message
in_order journal entry place = option_and_then (λ e. nth e.outputs place) (nth journal entry)

nth_here : {X : Type 0} (xs : List X) (x : X) (n : ℕ) → n ≡ suc (length xs) → nth (xs ++ x ∷ []) n ≡ Some x
nth_here xs x zero e = absurd (omega arith)
nth_here xs x (suc i) e = let same : i ≡ length xs = omega arith in ap (slice_get (xs ++ x ∷ [])) same ∙ slice_get_push xs x

nth_other : {X : Type 0} (xs : List X) (x : X) (n : ℕ) → n ≢ suc (length xs) → nth (xs ++ x ∷ []) n ≡ nth xs n
nth_other xs x zero apart = refl
nth_other xs x (suc i) apart = elim (cases_lt i (length xs)) [
  | inl within ↦ slice_get_left xs (x ∷ []) i within
  | inr past ↦ slice_get_past (xs ++ x ∷ []) i (omega (arith, length_push xs x)) ∙ sym (slice_get_past xs i past)
]
  where
    length_push : {X : Type 0} (xs : List X) (x : X) → length (xs ++ x ∷ []) ≡ suc (length xs)
    length_push [] x = refl
    length_push (y ∷ ys) x = ap (λ (n : ℕ). suc n) (length_push ys x)

pub output_is : (journal : List Entry) (entry place : ℕ)
    → option_and_then (λ e. nth e.outputs place) (nth journal entry) ≡ output_at (reverse journal) entry place
output_is journal entry place = snoc_ind (λ (l : List Entry). in_order l entry place ≡ output_at (reverse l) entry place) none more journal
  where
    nth_none : (n : ℕ) → nth {X = Entry} [] n ≡ None
    nth_none zero = refl
    nth_none (suc i) = refl

    none : in_order [] entry place ≡ None
    none = ap (option_and_then (λ (e : Entry). nth e.outputs place)) (nth_none entry)

    newest : (older : List Entry) (e : Entry) → entry ≡ suc (length older) → output_at (e ∷ older) entry place ≡ nth e.outputs place
    newest older e here = cond-true _ (nth e.outputs place) (output_at older entry place) (eq-eqb entry (suc (length older)) here)

    before : (older : List Entry) (e : Entry) → entry ≢ suc (length older) → output_at (e ∷ older) entry place ≡ output_at older entry place
    before older e apart = cond-false _ (nth e.outputs place) (output_at older entry place) (ne_eqb entry (suc (length older)) apart)

    more : (l : List Entry) (e : Entry) → in_order l entry place ≡ output_at (reverse l) entry place
        → in_order (l ++ e ∷ []) entry place ≡ output_at (reverse (l ++ e ∷ [])) entry place
    more l e old =
        let as_many : length (reverse l) ≡ length l = length-reverse l in
        elim (cases_eq entry (suc (length l))) [
          | inl here ↦
              ap (option_and_then (λ (d : Entry). nth d.outputs place)) (nth_here l e entry here)
              ∙ sym (newest (reverse l) e (omega arith))
              ∙ ap (λ (r : List Entry). output_at r entry place) (sym (reverse_push l e))
          | inr apart ↦
              ap (option_and_then (λ (d : Entry). nth d.outputs place)) (nth_other l e entry apart)
              ∙ old
              ∙ sym (before (reverse l) e (λ same. apart (omega arith)))
              ∙ ap (λ (r : List Entry). output_at r entry place) (sym (reverse_push l e))
        ]
