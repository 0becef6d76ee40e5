-- How the promises go on with the state of the rules.
use Rattle.std.proofs.Common.{◌≡◌, ℕ, ◌<◌, ◌≤◌, List, [], ◌∷◌, ◌++◌, refl, sym, ap, ◌∙◌, arith}
use Rattle.std.proofs.lemmas.Bool.{cond-true, lt-ltb, cond_both, ltb-true}
use Rattle.std.proofs.lemmas.List.{reverse-append}
use Rattle.std.specs.Prelude.{filter, nat_lt, reverse}
use Rattle.indexmap.specs.IndexMap.{IndexMap}
use Rattle.tp_base.proofs.Each.{each_weaker}
use Rattle.tp_base.specs.Limits.{STAMP_LIMIT}
use Rattle.tp_base.specs.Lists.{Each}
use Rattle.tp_base.specs.declared.names.CommandId.{CommandId}
use Rattle.tp_base.specs.declared.names.Pair.{Pair}
use Rattle.tp_base.specs.declared.names.Site.{Site}
use Rattle.tp_process.specs.State.{Agrees, all_told}
use Rattle.tp_rules.specs.Process.{ProcessState, proposing, with_sheet}
use Rattle.tp_rules.specs.Sheet.{Sheet}
use Rattle.tp_sheet.specs.SiteSheet.{SiteSheet}
use Rattle.tp_topology.specs.Shape.{Shape}

abbrev pair_of : CommandId → ℕ → Pair
pair_of id t = record { id = id; stamp = record { 0 = t } }

abbrev above : ℕ → List Pair → List Pair
above told pairs = filter (λ pair. nat_lt told pair.stamp.0) pairs

-- a newer promise above those told is the last of those not told yet
promise_last : (told : ℕ) (pair : Pair) (pairs : List Pair) → told < pair.stamp.0
    → reverse (above told (pair ∷ pairs)) ≡ reverse (above told pairs) ++ pair ∷ []
promise_last told pair pairs lt =
    ap (λ (ps : List Pair). reverse ps) (cond-true (nat_lt told pair.stamp.0) (pair ∷ above told pairs) (above told pairs) (lt-ltb told pair.stamp.0 lt))
    ∙ reverse-append (pair ∷ []) (above told pairs)

-- no promise is above what is told, where all are
pub none_above : (told : ℕ) (pairs : List Pair) → Each (λ pair. pair.stamp.0 ≤ told) pairs → above told pairs ≡ []
none_above told [] h = refl
none_above told (pair ∷ pairs) h =
    cond_both (nat_lt told pair.stamp.0) (pair ∷ above told pairs) (above told pairs) (λ (ps : List Pair). ps ≡ [])
    (λ t. absurd (let lt = ltb-true told pair.stamp.0 t in omega (arith, lt, h.0)))
    (λ f. none_above told pairs h.1)

module _ {S : Type 0} (shape : Shape) (site : Site) (clock told : ℕ) (pairs : List Pair) (sheets : IndexMap CommandId SiteSheet S) where
  -- one more promise is attached to a command
  pub promised : (id : CommandId) (t : ℕ) (new : List Pair) (s : ProcessState) (sheet : Sheet) → new ≡ pairs ++ pair_of id t ∷ []
      → Agrees shape site clock told pairs sheets (with_sheet id sheet s) → s.clock < t → t < STAMP_LIMIT
      → Agrees shape site t told new sheets (proposing id t sheet s)
  promised id t new s sheet more h later low = record {
    clock_is = refl;
    told_is = h.told_is;
    untold_is =
        more ∙ ap (λ (ps : List Pair). ps ++ pair_of id t ∷ []) h.untold_is
        ∙ sym (promise_last s.told (pair_of id t) s.attached (omega (arith, h.told_low, later)));
    attached = (omega arith, each_weaker (λ (pair : Pair). pair.stamp.0 ≤ s.clock) (λ (pair : Pair). pair.stamp.0 ≤ t) (λ pair le. omega (arith, le, later)) s.attached h.attached);
    told_low = omega (arith, h.told_low, later);
    room = low;
    sheets_are = h.sheets_are;
    low = h.low;
  }

  -- all promises are told
  pub told_all : (none : List Pair) (s : ProcessState) → none ≡ [] → Agrees shape site clock told pairs sheets s
      → Agrees shape site clock clock none sheets (all_told s)
  told_all none s empty h = record {
    clock_is = h.clock_is;
    told_is = h.clock_is;
    untold_is = empty ∙ sym (ap (λ (ps : List Pair). reverse ps) (none_above s.clock s.attached h.attached));
    attached = h.attached;
    told_low = omega arith;
    room = h.room;
    sheets_are = h.sheets_are;
    low = h.low;
  }
