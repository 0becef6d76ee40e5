-- The watched actors of a script, made from the last to the first.
use Rattle.std.proofs.Common.{◌≡◌, ℕ, zero, suc, Bool, false, List, [], ◌∷◌, ◌++◌, length, Some, refl, sym, ap, subst, ◌∙◌, append_assoc, arith}
use Rattle.std.proofs.lemmas.List.{append-nil, nil_from_length}
use Rattle.std.specs.Prelude.{◌||◌, slice_get}
use Rattle.tp_cast.specs.Actors as cast
use Rattle.tp_cast.specs.declared.any_actor.AnyActor.{AnyActor}
use Rattle.tp_driver.specs.Cast.{AllStand}
use Rattle.tp_script.specs.declared.script.Script.{Script}
use Rattle.tp_threads_tests.specs.Watched.{AreWatched, IsNewFor, Stands, identity, is_spent}
use Rattle.tp_threads_tests.specs.declared.watched.Watched.{Watched}

-- what is so once the actors that are left are not watched yet
pub record IsUnderWay (actors left : List AnyActor) (ws : List Watched) : Type 0 where
  pub done : List AnyActor
  pub whole : actors ≡ left ++ done
  pub watched : AreWatched done ws

pub none_yet : (actors : List AnyActor) (ws : List Watched) → ws ≡ [] → IsUnderWay actors actors ws
none_yet actors ws none = record { done = []; whole = sym (append-nil actors); watched = subst (AreWatched []) (sym none) tt }

pub one_more : (actors left rest : List AnyActor) (ws more : List Watched) (a : AnyActor) (w : Watched) → IsUnderWay actors left ws
    → left ≡ rest ++ a ∷ [] → IsNewFor a w → more ≡ w ∷ ws → IsUnderWay actors rest more
one_more actors left rest ws more a w way is new e = record {
  done = a ∷ way.done;
  whole = way.whole ∙ ap (λ (l : List AnyActor). l ++ way.done) is ∙ append_assoc rest (a ∷ []) way.done;
  watched = subst (AreWatched (a ∷ way.done)) (sym e) (new, way.watched);
}

pub all_done : (actors left : List AnyActor) (ws : List Watched) → IsUnderWay actors left ws → length left ≡ 0 → AreWatched actors ws
all_done actors left ws way none =
    subst (λ l. AreWatched l ws) (sym (way.whole ∙ ap (λ (l : List AnyActor). l ++ way.done) (nil_from_length left none))) way.watched

as_many : (as' : List AnyActor) (ws : List Watched) → AreWatched as' ws → length ws ≡ length as'
as_many [] [] h = refl
as_many (a ∷ as') (w ∷ ws) h = ap (λ (k : ℕ). suc k) (as_many as' ws h.1)
as_many [] (w ∷ ws) h = absurd h
as_many (a ∷ as') [] h = absurd h

watched_at : (as' : List AnyActor) (ws : List Watched) → AreWatched as' ws → (k : ℕ) (w : Watched) → slice_get ws k ≡ Some w
    → (slice_get as' k ≡ Some w.actor) × (w.refused ≡ false)
watched_at [] [] h k w at = absurd cc
watched_at (a ∷ as') (v ∷ ws) h zero w at =
    let same : v ≡ w = cc in
    (ap (λ (b : AnyActor). Some b) (sym h.0.actor ∙ ap (λ (u : Watched). u.actor) same), sym (ap (λ (u : Watched). u.refused) same) ∙ h.0.fresh)
watched_at (a ∷ as') (v ∷ ws) h (suc k) w at = watched_at as' ws h.1 k w at
watched_at [] (v ∷ ws) h k w at = absurd h
watched_at (a ∷ as') [] h k w at = absurd h

-- they stand where the actors stand
pub all_stand : (script : Script) (as' : List AnyActor) (ws : List Watched) → AreWatched as' ws
    → AllStand cast.identity cast.is_spent cast.Stands script as' [] → AllStand identity is_spent Stands script ws []
all_stand script as' ws h all = record {
  many = as_many as' ws h ∙ all.many;
  each = λ k w name at known.
      let there = watched_at as' ws h k w at in
      let is = all.each k w.actor name there.0 known in
      (is.0, ap (λ (r : Bool). r || cast.is_spent w.actor) there.1 ∙ is.1, is.2);
}
