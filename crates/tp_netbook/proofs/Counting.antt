-- The watches before and after an entry is counted.
use Rattle.std.proofs.Common.{◌≡◌, ℕ, zero, suc, ◌+◌, ◌<◌, ◌≤◌, inl, inr, List, [], ◌∷◌, ◌++◌, get_or, length, set, take, Some, refl, sym, ap, subst, ◌∙◌, arith}
use Rattle.std.proofs.lemmas.Bool.{cases_eq}
use Rattle.std.proofs.lemmas.List.{length-set}
use Rattle.std.proofs.lemmas.Option.{slice_get-get_or, slice_get_within}
use Rattle.std.specs.Prelude.{slice_get}
use Rattle.tp_base.proofs.Ends.{get_set_other, get_set_same}
use Rattle.tp_base.specs.declared.names.ActorName.{ActorName}
use Rattle.tp_base.specs.declared.names.ActorName.TheVariants.{Process, Executor, Session}
use Rattle.tp_base.specs.declared.names.Site.{Site}
use Rattle.tp_netbook.specs.Netbook.{AreCounted, IsCounted, IsCountedAt}
use Rattle.tp_netbook.specs.Places.{place_of_site}
use Rattle.tp_netbook.specs.declared.netbook.Netbook.{Netbook}
use Rattle.tp_netbook.specs.declared.watch.Watch.{Watch}
use Rattle.tp_rules.proofs.sent.Parcels.{parcel}
use Rattle.tp_rules.specs.Journal.{numbered}
use Rattle.tp_rules.specs.declared.event.Event.{Event}
use Rattle.tp_rules.specs.declared.event.Parcel.{Parcel}
use Rattle.tp_wire.specs.declared.message.Message.{Message}

-- an actor that is no process
pub counted_none : (actor : ActorName) (event : Event) (book : Netbook) → ((s : Site) → actor ≡ Process s → ⊥) → AreCounted actor event book book.sites.items book.sites.items
counted_none (Process s) event book other = absurd (other s refl)
counted_none (Executor s) event book other = record { many = refl; each = λ k w at. (w, at, refl) }
counted_none (Session s) event book other = record { many = refl; each = λ k w at. (w, at, refl) }

-- a process without a watch
pub counted_out : (s : Site) (event : Event) (book : Netbook) (place : ℕ) → place ≡ place_of_site book.topology s → length book.sites.items ≤ place
    → AreCounted (Process s) event book book.sites.items book.sites.items
counted_out s event book place is past = record {
  many = refl;
  each = λ k w at. (w, at, ((λ (here : k ≡ place_of_site book.topology s). absurd (omega (arith, past, is, here, slice_get_within book.sites.items k w at))), λ apart. refl));
}

-- a process with its watch
pub counted_at : (s : Site) (event : Event) (book : Netbook) (place : ℕ) (w w' : Watch) → place ≡ place_of_site book.topology s → slice_get book.sites.items place ≡ Some w
    → IsCounted event w w' → AreCounted (Process s) event book book.sites.items (set book.sites.items place w')
counted_at s event book place w w' is at counted = record { many = length-set book.sites.items place w'; each = each }
  where
    each : (k : ℕ) (v' : Watch) → slice_get (set book.sites.items place w') k ≡ Some v' → (v : Watch) × (slice_get book.sites.items k ≡ Some v) × IsCountedAt (Process s) event book k v v'
    each k v' there = elim (cases_eq k place) [
      | inl here ↦
          let what : Some v' ≡ Some w' = sym there ∙ ap (slice_get (set book.sites.items place w')) here ∙ get_set_same book.sites.items place w' w at in
          let what' : w' ≡ v' = cc in
          (w, ap (slice_get book.sites.items) here ∙ at, ((λ e. subst (IsCounted event w) what' counted), λ apart. absurd (apart (here ∙ is))))
      | inr apart ↦ (v', sym (get_set_other book.sites.items place k w' apart) ∙ there, ((λ e. absurd (apart (e ∙ sym is))), λ e. refl))
    ]

-- the outputs of an entry, one after the other

pub numbered_next : (n k i : ℕ) (ms : List Message) (m : Message) → slice_get ms i ≡ Some m → numbered n k (take (i + 1) ms) ≡ numbered n k (take i ms) ++ parcel n (k + i) m ∷ []
numbered_next n k i [] m at = absurd cc
numbered_next n k zero (x ∷ ms) m at =
    let same : x ≡ m = cc in
    let one : zero + 1 ≡ suc zero = omega arith in
    let place : k ≡ k + zero = omega arith in
    ap (λ (j : ℕ). numbered n k (take j (x ∷ ms))) one ∙ ap (λ (y : Message). parcel n k y ∷ []) same ∙ ap (λ (j : ℕ). parcel n j m ∷ []) place
numbered_next n k (suc i) (x ∷ ms) m at =
    let one : suc i + 1 ≡ suc (i + 1) = omega arith in
    let place : suc k + i ≡ k + suc i = omega arith in
    ap (λ (j : ℕ). numbered n k (take j (x ∷ ms))) one
    ∙ ap (λ (l : List Parcel). parcel n k x ∷ l) (numbered_next n (suc k) i ms m at)
    ∙ ap (λ (j : ℕ). parcel n k x ∷ numbered n (suc k) (take i ms) ++ parcel n j m ∷ []) place

pub item_there : (ms now : List Message) (i : ℕ) (m : Message) → now ≡ ms → m ≡ get_or now i m → (end : ℕ) → i < end → end ≡ length ms → slice_get ms i ≡ Some m
item_there ms now i m same is end lt many =
    slice_get-get_or ms i m (omega arith) ∙ ap (λ (l : List Message). Some (get_or l i m)) (sym same) ∙ ap (λ (x : Message). Some x) (sym is)
