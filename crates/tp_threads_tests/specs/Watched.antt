-- A watched actor is the one that it watches, but that a refused step has spent it too.
use Rattle.std.specs.Prelude.{◌≡◌, ◌||◌, Bool, false, List, [], ◌∷◌}
use Rattle.tp_cast.specs.Actors as cast
use Rattle.tp_cast.specs.declared.any_actor.AnyActor.{AnyActor}
use Rattle.tp_rules.specs.Acts.{Act, Identity}
use Rattle.tp_threads_tests.specs.declared.watched.Watched.{Watched}

abbrev pub identity : Watched → Identity
identity w = cast.identity w.actor

abbrev pub is_spent : Watched → Bool
is_spent w = w.refused || cast.is_spent w.actor

abbrev pub Stands : Watched → List Act → Type 0
Stands w acts = cast.Stands w.actor acts

-- it watches the actor, and no step of it was refused
pub record IsNewFor (a : AnyActor) (w : Watched) : Type 0 where
  pub actor : w.actor ≡ a
  pub fresh : w.refused ≡ false

-- one for each of the actors, in order
abbrev pub AreWatched : List AnyActor → List Watched → Type 0
AreWatched [] [] = Unit {0}
AreWatched (a ∷ as') (w ∷ ws) = IsNewFor a w × AreWatched as' ws
AreWatched [] (w ∷ ws) = ⊥
AreWatched (a ∷ as') [] = ⊥
