-- The tables in which a session keeps answers, by partition. Used for what a session keeps.
use Rattle.std.proofs.Common.{◌≡◌, ◌≢◌, ℕ, List, [], ◌∷◌, length, replicate, Option, Some, None, refl, sym, ap, ◌∙◌}
use Rattle.std.specs.Prelude.{◌==◌}
use Rattle.std.proofs.lemmas.Bool.{cond_both}
use Rattle.std.proofs.lemmas.List.{length-replicate}
use Rattle.tp_base.proofs.Tables.{kept_replicate, length_with, nth_other}
use Rattle.tp_base.specs.Tables.{flat, kept_at, with_nth}
use Rattle.tp_ops.specs.declared.operation.Answer.{Answer}
use Rattle.tp_rules.specs.Acts.{Act, Took, Did, Client}
use Rattle.tp_rules.specs.Session as session
use Rattle.tp_rules.specs.declared.event.Inner.TheVariants.{Submit}
use Rattle.tp_topology.specs.Shape.{Shape}
use Rattle.tp_wire.specs.declared.message.Body.{Body}
use Rattle.tp_wire.specs.declared.message.Body.TheVariants.{MResult}

-- an empty table keeps nothing
pub none_kept : (n p : ℕ) → kept_at {X = List Answer} (replicate n None) p ≡ None
none_kept n p = of_kept (kept_at (replicate n None) p) refl
  where
    of_kept : (o : Option (List Answer)) → kept_at (replicate n None) p ≡ o → o ≡ None
    of_kept None is = refl
    of_kept (Some answers) is = absurd (kept_replicate n p answers is)

-- another partition's place is not touched
pub kept_elsewhere : (table : List (Option (List Answer))) (q p : ℕ) (answers : List Answer) → q ≢ p
    → kept_at (with_nth table q (Some answers)) p ≡ kept_at table p
kept_elsewhere table q p answers apart = ap flat (nth_other table q p (Some answers) (λ e. apart (sym e)))

module _ (shape : Shape) (client : Client) where
  -- each table of a session has a place for each partition
  abbrev pub HasPlaces : session.SessionState → Type 0
  HasPlaces state = (n : ℕ) → length (state.kept n) ≡ shape.partitions

  row_has_places : (body : Body) (state : session.SessionState) → HasPlaces state
      → HasPlaces (session.on_body shape client body state).0
  row_has_places (MResult id q answers) state places = cond_both _ _ _ (λ (moved : session.Step). HasPlaces moved.0)
      (λ t n. cond_both (n == id.number) (with_nth (state.kept n) q.0 (Some answers)) (state.kept n)
      (λ (table : List (Option (List Answer))). length table ≡ shape.partitions)
      (λ here. length_with (state.kept n) q.0 (Some answers) ∙ places n) (λ there. places n))
      (λ f. places)
  row_has_places _ state places = places

  pub has_places : (acts : List Act) → HasPlaces (session.state_after shape client acts)
  has_places [] = λ n. length-replicate shape.partitions None
  has_places (Took m ∷ before) =
      let state = session.state_after shape client before in
      cond_both _ (session.on_body shape client m.body state) (state, [])
      (λ (moved : session.Step). HasPlaces moved.0)
      (λ t. row_has_places m.body state (has_places before)) (λ f. has_places before)
  has_places (Did (Submit n) ∷ before) = has_places before
  has_places (Did _ ∷ before) = has_places before
