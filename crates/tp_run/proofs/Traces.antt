-- A run's entries before their text is written: what they deliver and lose counts from 1, and their messages have bytes.
use Rattle.std.proofs.Common.{◌≡◌, ℕ, zero, suc, ◌≤◌, Bool, true, false, cond, List, [], ◌∷◌, Option, Some, None, length, refl, arith}
use Rattle.std.specs.Prelude.{◌==◌, reverse}
use Rattle.std.proofs.lemmas.Bool.{eqb-true}
use Rattle.tp_base.proofs.Each.{each_in, each_of}
use Rattle.tp_base.proofs.Members.{in_reverse}
use Rattle.tp_base.specs.Lists.{Each}
use Rattle.tp_base.specs.declared.names.ActorName.{ActorName}
use Rattle.tp_rules.proofs.fit.InRange.{run_in_range}
use Rattle.tp_rules.proofs.Journals.{run_is_free}
use Rattle.tp_rules.specs.Journal.{output_at}
use Rattle.tp_rules.specs.Runs.{AreInRange, IsFor, IsFreeHistory, IsFreeRun, IsRun, MayHappen}
use Rattle.tp_base.specs.Tables.{nth}
use Rattle.tp_rules.specs.declared.event.Entry.{Entry}
use Rattle.tp_rules.specs.declared.event.Event.{Event}
use Rattle.tp_rules.specs.declared.event.Event.TheVariants.{Deliver, Dropped, Inner}
use Rattle.tp_run.specs.Traces.{CountsFromOne, IsTraced}
use Rattle.tp_script.specs.Accepted.{IsAccepted}
use Rattle.tp_script.specs.declared.script.Script.{Script}
use Rattle.tp_wire.specs.Ranges.{IsInRange}
use Rattle.tp_wire.specs.declared.message.Message.{Message}

nth_counts : {X : Type 0} (xs : List X) (place : ℕ) (x : X) → nth xs place ≡ Some x → 1 ≤ place
nth_counts xs zero x e = absurd cc
nth_counts xs (suc i) x e = omega arith

output_counts : (older : List Entry) (entry place : ℕ) (m : Message) → output_at older entry place ≡ Some m → (1 ≤ entry) × (1 ≤ place)
output_counts [] entry place m e = absurd cc
output_counts (x ∷ older) entry place m e = by (entry == suc (length older)) refl e (output_counts older entry place m)
  where
    by : (b : Bool) → (entry == suc (length older)) ≡ b → cond b (nth x.outputs place) (output_at older entry place) ≡ Some m
        → (output_at older entry place ≡ Some m → (1 ≤ entry) × (1 ≤ place)) → (1 ≤ entry) × (1 ≤ place)
    by true is f rest = let same : entry ≡ suc (length older) = eqb-true entry (suc (length older)) is in (omega arith, nth_counts x.outputs place m f)
    by false is f rest = rest f

there_counts : (older : List Entry) (entry place : ℕ) (a : ActorName) → IsFor a (output_at older entry place) → (1 ≤ entry) × (1 ≤ place)
there_counts older entry place a h = by (output_at older entry place) refl h
  where
    by : (o : Option Message) → output_at older entry place ≡ o → IsFor a o → (1 ≤ entry) × (1 ≤ place)
    by None e f = absurd f
    by (Some m) e f = output_counts older entry place m e

event_counts : (script : Script) (older : List Entry) (a : ActorName) (event : Event) → MayHappen script older a event → CountsFromOne event
event_counts script older a (Deliver entry place) may = there_counts older entry place a may
event_counts script older a (Dropped entry place) may = there_counts older entry place a may
event_counts script older a (Inner inner) may = tt

history_counts : (script : Script) (older : List Entry) → IsFreeHistory script older → Each (λ e. CountsFromOne e.event) older
history_counts script [] h = tt
history_counts script (e ∷ older) h = (event_counts script older e.actor e.event h.1.may, history_counts script older h.0)

pub run_traced : (script : Script) (journal : List Entry) → IsAccepted script → IsRun script journal → Each IsTraced journal
unfolding IsFreeRun
run_traced script journal accepted run = each_of IsTraced journal (λ e h. record {
  counts = each_in (λ (x : Entry). CountsFromOne x.event) (reverse journal) e (history_counts script (reverse journal) history) (in_reverse journal e h);
  outputs = each_in (λ (x : Entry). Each IsInRange x.outputs) journal e ranges h;
})
  where
    free : IsFreeRun script journal
    free = run_is_free script journal run

    history : IsFreeHistory script (reverse journal)
    history = free

    ranges : AreInRange journal
    ranges = run_in_range script accepted journal free
