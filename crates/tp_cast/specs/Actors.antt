-- What an actor of any sort is, and where it stands.
use Rattle.std.specs.Prelude.{◌≡◌, Bool, false, List, [], ◌∷◌}
use Rattle.tp_base.specs.declared.names.ActorName.{ActorName}
use Rattle.tp_executor.specs.States as executor
use Rattle.tp_process.specs.State as process
use Rattle.tp_rules.specs.Acts.{Act, Identity}
use Rattle.tp_rules.specs.Journal.{identity_in}
use Rattle.tp_cast.specs.declared.any_actor.AnyActor.{AnyActor}
use Rattle.tp_cast.specs.declared.any_actor.AnyActor.TheVariants.{Process, Executor, Session}
use Rattle.tp_script.specs.declared.script.Script.{Script}
use Rattle.tp_session.specs.States as session

abbrev pub identity : AnyActor → Identity
identity (Process p) = process.identity p
identity (Executor e) = executor.identity e
identity (Session s) = session.identity s

abbrev pub is_spent : AnyActor → Bool
is_spent (Process p) = p.spent
is_spent (Executor e) = e.spent
is_spent (Session s) = s.spent

abbrev pub Stands : AnyActor → List Act → Type 0
Stands (Process p) acts = process.Stands p acts
Stands (Executor e) acts = executor.Stands e acts
Stands (Session s) acts = session.Stands s acts

-- an actor of a name, as the script makes it, that has done nothing
pub record IsNew (script : Script) (name : ActorName) (a : AnyActor) : Type 0 where
  pub identity : identity a ≡ identity_in script name
  pub unspent : is_spent a ≡ false
  pub stands : Stands a []

-- new actors of these names, in order
abbrev pub AreNew : Script → List ActorName → List AnyActor → Type 0
AreNew script [] [] = Unit {0}
AreNew script (n ∷ ns) (a ∷ as') = IsNew script n a × AreNew script ns as'
AreNew script [] (a ∷ as') = ⊥
AreNew script (n ∷ ns) [] = ⊥
