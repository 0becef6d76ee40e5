-- The script's actors in a list, and where each of them stands.
use Rattle.std.specs.Prelude.{ℕ, ◌≡◌, Bool, false, List, Some, length, reverse, slice_get}
use Rattle.tp_base.specs.declared.names.ActorName.{ActorName}
use Rattle.tp_rules.specs.Acts.{Act, Identity}
use Rattle.tp_rules.specs.Journal.{acts, identity_in}
use Rattle.tp_rules.specs.Pending.{actors_of}
use Rattle.tp_rules.specs.declared.event.Entry.{Entry}
use Rattle.tp_script.specs.declared.script.Script.{Script}

-- the actors are the script's, in their order; none is spent, and each stands where the rules leave it after its acts in the journal
pub record AllStand {A : Type 0} (identity_of : A → Identity) (is_spent : A → Bool) (stands : A → List Act → Type 0)
    (script : Script) (actors : List A) (journal : List Entry) : Type 0 where
  pub many : length actors ≡ length (actors_of script)
  pub each : (k : ℕ) (a : A) (name : ActorName) → slice_get actors k ≡ Some a → slice_get (actors_of script) k ≡ Some name
      → (identity_of a ≡ identity_in script name) × (is_spent a ≡ false) × stands a (acts (reverse journal) name)
