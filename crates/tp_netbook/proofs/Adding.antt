-- Outputs are counted and added one after the other. Used by the functions that add them.
use Rattle.std.proofs.Common.{◌≡◌, ℕ, suc, min, ◌+◌, ◌<◌, ◌≤◌, ◌^◌, length, List, refl, [], ◌∷◌, ◌++◌, sym, ap, subst, ◌∙◌, append_assoc, arith}
use Rattle.std.proofs.lemmas.List.{append-nil, length-append}
use Rattle.tp_base.proofs.Each.{each_left, each_right}
use Rattle.tp_fates.specs.Fates.{AreCountsFor, AreFates, TellsNext, fate_of}
use Rattle.tp_fates.specs.declared.fate.Fate.{Fate as FateValue}
use Rattle.tp_netbook.specs.Netbook.{Adds, HavePlaces, KeepsRest, added, new_outputs}
use Rattle.tp_netbook.specs.Outputs.{new_output, packed}
use Rattle.tp_fates.specs.Routes.{route_of}
use Rattle.tp_netbook.specs.declared.netbook.Netbook.{Netbook}
use Rattle.tp_netbook.specs.declared.output.Output.{Output}
use Rattle.tp_rules.specs.Journal.{numbered}
use Rattle.tp_rules.specs.Plan.{Fate}
use Rattle.tp_wire.specs.declared.message.Message.{Message}
use Rattle.tp_rules.specs.declared.event.Parcel.{Parcel}
use Rattle.tp_script.specs.declared.script.PlanLine.{PlanLine}

-- the outputs that are added, of one more
new_next : (plan : List PlanLine) (before ps : List Parcel) (p : Parcel)
    → new_outputs plan before (ps ++ p ∷ []) ≡ new_outputs plan before ps ++ new_outputs plan (before ++ ps) (p ∷ [])
new_next plan before [] p = ap (λ (l : List Parcel). new_outputs plan l (p ∷ [])) (sym (append-nil before))
new_next plan before (q ∷ qs) p =
    ap (λ (l : List Output). added plan before q ∷ l) (new_next plan (before ++ q ∷ []) qs p)
    ∙ ap (λ (l : List Parcel). new_outputs plan before (q ∷ qs) ++ new_outputs plan l (p ∷ [])) (append_assoc before (q ∷ []) qs)

pub adds_none : (b : Netbook) → Adds [] b b
adds_none b = λ plan before fates counts short small.
    (sym (append-nil b.outputs.items), subst (λ (l : List Parcel). AreCountsFor b.fates l b.routes) (sym (append-nil before)) counts)

pub adds_next : (ps : List Parcel) (p : Parcel) (a b c : Netbook) → Adds ps a b → KeepsRest a b → Adds (p ∷ []) b c → Adds (ps ++ p ∷ []) a c
adds_next ps p a b c adds keeps next = λ plan before fates counts short small.
    let first = adds plan before fates counts (omega (arith, short, length-append ps (p ∷ []))) (each_left (λ q. q.place < 2 ^ 16) ps (p ∷ []) small) in
    let second = next plan (before ++ ps) (subst (AreFates plan) (sym keeps.fates) fates) (subst (λ f. AreCountsFor f (before ++ ps) b.routes) (sym keeps.fates) first.1)
    (omega (arith, short, length-append ps (p ∷ []), length-append before ps)) (each_right (λ q. q.place < 2 ^ 16) ps (p ∷ []) small) in (
      second.0
          ∙ ap (λ (l : List Output). l ++ new_outputs plan (before ++ ps) (p ∷ [])) first.0
          ∙ append_assoc a.outputs.items (new_outputs plan before ps) (new_outputs plan (before ++ ps) (p ∷ []))
          ∙ ap (λ (l : List Output). a.outputs.items ++ l) (sym (new_next plan before ps p)),
      subst (λ (l : List Parcel). AreCountsFor a.fates l c.routes) (append_assoc before ps (p ∷ [])) (subst (λ f. AreCountsFor f ((before ++ ps) ++ p ∷ []) c.routes) keeps.fates second.1),
    )

as_it_is : (o : Output) → o.place < 2 ^ 16 → packed o ≡ o
as_it_is o small =
    let place : min o.place 65535 ≡ o.place = omega arith in
    λ i. record { entry = o.entry; place = place i; to = o.to; lost = o.lost; left = o.left }

-- the places of an entry's outputs, which are few
pub small_places : (n k : ℕ) (ms : List Message) → k + length ms ≤ 2 ^ 16 → HavePlaces (numbered n k ms)
small_places n k [] few = tt
small_places n k (m ∷ ms) few = (omega (arith, few), small_places n (suc k) ms (omega (arith, few)))

-- one output
pub adds_one : (p : Parcel) (old new : Netbook) (given : FateValue) → TellsNext old.fates old.routes new.routes (route_of p) given
    → new.outputs.items ≡ old.outputs.items ++ packed (new_output p.entry p.place p.message.to (fate_of given)) ∷ [] → Adds (p ∷ []) old new
adds_one p old new given tells more = λ plan before fates counts short small. (
  more ∙ ap (λ (o : Output). old.outputs.items ++ o ∷ []) (as_it_is (new_output p.entry p.place p.message.to (fate_of given)) small.0)
      ∙ ap (λ (f : Fate). old.outputs.items ++ new_output p.entry p.place p.message.to f ∷ []) (tells.fate plan before p fates counts refl short),
  tells.counts before p counts refl short,
)
