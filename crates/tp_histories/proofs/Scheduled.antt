-- The run that a script's plan and picks make, so many entries long. Used where a whole run is that of the program.
use Rattle.std.proofs.Common.{◌≡◌, ℕ, zero, suc, List, [], ◌∷◌, Option, Some, None, refl}
use Rattle.std.specs.Prelude.{slice_get}
use Rattle.tp_histories.proofs.Played.{made}
use Rattle.tp_rules.specs.Pending.{IsPickedHistory, index_next, pending}
use Rattle.tp_rules.specs.declared.event.Entry.{Entry}
use Rattle.tp_rules.specs.declared.event.Item.{Item}
use Rattle.tp_script.specs.declared.script.Script.{Script}

abbrev pub with_next : Script → List Entry → Option Item → List Entry
with_next script older None = older
with_next script older (Some it) = made script older it ∷ older

-- the newest entry first
abbrev pub scheduled : Script → ℕ → List Entry
scheduled script zero = []
scheduled script (suc n) =
    let older = scheduled script n in
    with_next script older (slice_get (pending script older) (index_next script older))

with_picked : (script : Script) (older : List Entry) (o : Option Item) →
    slice_get (pending script older) (index_next script older) ≡ o →
    IsPickedHistory script older → IsPickedHistory script (with_next script older o)
with_picked script older None picks history = history
with_picked script older (Some it) picks history = (history, record { item = picks; outputs = refl })

pub scheduled_is_picked : (script : Script) (n : ℕ) → IsPickedHistory script (scheduled script n)
scheduled_is_picked script zero = tt
scheduled_is_picked script (suc n) =
    with_picked script (scheduled script n)
    (slice_get (pending script (scheduled script n)) (index_next script (scheduled script n))) refl
    (scheduled_is_picked script n)
