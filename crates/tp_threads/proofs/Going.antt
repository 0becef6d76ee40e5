-- The cells after their rounds are those before, further on.
use Rattle.std.proofs.Common.{◌≡◌, ℕ, zero, suc, ◌<◌, true, List, [], ◌∷◌, ◌++◌, length, take, drop, Option, Some, refl, sym, ap, subst, ◌∙◌, arith}
use lib.Seq.{take-append_seam}
use Rattle.std.proofs.lemmas.Option.{get_or_from_slice_get, slice_get_within}
use Rattle.std.specs.Prelude.{slice_get, slice_index_or}
use Rattle.atomic_table.specs.Seated.{TableId}
use Rattle.tp_base.proofs.Each.{each_in, each_of}
use Rattle.tp_base.proofs.Members.{get_in, in_get}
use Rattle.tp_base.specs.Lists.{Each, IsIn}
use Rattle.tp_base.specs.declared.names.ActorName.{ActorName}
use Rattle.tp_rules.specs.Acts.{Identity}
use Rattle.tp_script.specs.declared.script.Script.{Script}
use Rattle.tp_shared.specs.Known.{Known}
use Rattle.tp_threads.proofs.Cells.{some_at}
use Rattle.tp_threads.specs.Threads.{HasCells, IsCellAt}
use Rattle.tp_worker.specs.Cells.{AllGoOn, GoesOn, Worker}

-- what was lent whole comes back
pub written_back : {X : Type 0} (len : ℕ) (old new : List X) → len ≡ length old → length new ≡ length old → take len (new ++ drop (length new) old) ≡ new
written_back len old new is many =
    let same : len ≡ length new = omega (arith, is, many) in
    ap (λ n. take n (new ++ drop (length new) old)) same ∙ take-append_seam new (drop (length new) old)

module _ {A : Type 0} (identity_of : A → Identity) (old new : List (Worker A)) (on : AllGoOn identity_of old new) where
  pair_at : (i : ℕ) (v w : Worker A) → slice_get old i ≡ Some v → slice_get new i ≡ Some w → GoesOn identity_of v w
  pair_at i v w before after =
      subst (λ (p : Worker A × Worker A). GoesOn identity_of p.0 p.1)
      (λ k. (get_or_from_slice_get old i v v before k, get_or_from_slice_get new i w v after k))
      (on.1 i v (slice_get_within old i v before))

  came_from : (w : Worker A) → IsIn w new → (v : Worker A) × IsIn v old × GoesOn identity_of v w
  came_from w h =
      let at = get_in new w h in
      let before = some_at old at.0 (let within : at.0 < length new = slice_get_within new at.0 w at.1 in omega (arith, on.0)) in
      (before.0, in_get old at.0 before.0 before.1, pair_at at.0 before.0 w before.1 at.1)

  went_to : (v : Worker A) → IsIn v old → (w : Worker A) × IsIn w new × GoesOn identity_of v w
  went_to v h =
      let at = get_in old v h in
      let after = some_at new at.0 (let within : at.0 < length old = slice_get_within old at.0 v at.1 in omega (arith, on.0)) in
      (after.0, in_get new at.0 after.0 after.1, pair_at at.0 v after.0 at.1 after.1)

  pub still_at : (script : Script) (table : TableId) → Each (IsCellAt script table) old → Each (IsCellAt script table) new
  still_at script table all = each_of (IsCellAt script table) new (λ w h.
      let from = came_from w h in
      let was : IsCellAt script table from.0 = each_in (IsCellAt script table) old from.0 all from.1 in
      record {
        table = ap (λ (k : Known). k.table) from.2.desk.same ∙ was.table;
        script = ap (λ (k : Known). k.opening.script) from.2.desk.same ∙ was.script;
        opening = ap (λ (k : Known). k.opening.journal) from.2.desk.same ∙ was.opening;
      })

  pub still_cells : (script : Script) (n : ℕ) (first : Known) → HasCells script n first old → HasCells script n first new
  still_cells script n first has_cells = record {
    listed = has_cells.listed;
    found = λ a known from.
        let was = has_cells.found a known from in
        let now = went_to was.0 was.1 in
        (now.0, now.1, ap (λ (k : Known). k.actor) now.2.desk.same ∙ was.2);
  }
