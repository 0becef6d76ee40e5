-- Entries that may not follow the first entry of the run of one put, each for one cause.
use Rattle.std.proofs.Common.{◌≡◌, ◌<◌, ℕ, true, false, List, [], ◌∷◌, Option, Some, None, refl, ap, arith}
use Rattle.tp_histories.proofs.OnePut.Journal.{one_put, proposal, put_a, submission}
use Rattle.tp_histories.proofs.Words.{process_at, executor_at, session_of, stamp, id, entry, the_plan}
use Rattle.tp_rules.specs.Addresses.{message}
use Rattle.tp_rules.specs.Runs.{IsLegal}
use Rattle.tp_rules.specs.declared.event.Event.TheVariants.{Deliver, Inner as OfItself}
use Rattle.tp_rules.specs.declared.event.Inner.{Inner}
use Rattle.tp_rules.specs.declared.event.Inner.TheVariants.{Announce, Execute, Crash}
use Rattle.tp_wire.specs.declared.message.Body.{Body}
use Rattle.tp_wire.specs.declared.message.Body.TheVariants.{MSubmit, MPropose, MPayload}
use Rattle.tp_wire.specs.declared.message.Message.{Message}

abbrev sends : List Message
sends = proposal.outputs

-- no actor of the shape
stranger : ¬ IsLegal one_put (submission ∷ []) (entry (process_at 1 4) (OfItself Announce) [])
stranger legal = let is : false ≡ true = legal.rules.known in cc

-- the site has crashed
dead : ¬ IsLegal one_put (entry (process_at 1 1) (OfItself Crash) [] ∷ submission ∷ [])
    (entry (process_at 1 1) (Deliver 1 1) sends)
dead legal = let is : false ≡ true = legal.rules.live in cc

-- there is no such output
no_message : ¬ IsLegal one_put (submission ∷ []) (entry (process_at 1 1) (Deliver 1 2) sends)
no_message legal = legal.rules.may

-- the output is another's
not_addressee : ¬ IsLegal one_put (submission ∷ []) (entry (process_at 1 2) (Deliver 1 1) sends)
not_addressee legal = let is : process_at 1 1 ≡ process_at 1 2 = legal.rules.may in cc

-- no line of the plan asks for it
not_planned : ¬ IsLegal one_put (submission ∷ []) (entry (process_at 1 1) (OfItself Crash) [])
unfolding the_plan
not_planned legal = let is : true ≡ false = legal.plan.line in cc

-- it was delivered as often as its fate says
delivered : ¬ IsLegal one_put (proposal ∷ submission ∷ []) (entry (process_at 1 1) (Deliver 1 1) [])
unfolding the_plan
delivered legal =
    let left : 0 < 0 = (legal.plan.fate (message (session_of 1) (process_at 1 1) (MSubmit put_a)) refl).1 in
    omega arith

-- there is nothing to execute
not_enabled : ¬ IsLegal one_put (submission ∷ []) (entry (executor_at 1 1) (OfItself (Execute (id 1 1))) [])
unfolding the_plan
not_enabled legal = let is : ◌≡◌ {A = Option Inner} None (Some (Execute (id 1 1))) = legal.rules.may in cc

-- what the home would send with another proposal
abbrev proposing : ℕ → List Message
proposing t =
    message (process_at 1 1) (process_at 1 2) (MPropose put_a (stamp t)) ∷
    message (process_at 1 1) (process_at 1 3) (MPayload put_a) ∷
    []

abbrev floor_of : Body → ℕ
floor_of (MPropose c floor) = floor.0
floor_of _ = 0

abbrev first_floor : List Message → ℕ
first_floor [] = 0
first_floor (m ∷ ms) = floor_of m.body

other_proposal : ¬ (proposing 2 ≡ proposing 1)
other_proposal same = let floors : ◌≡◌ {A = ℕ} 2 1 = ap first_floor same in omega arith

-- the proposal is another
wrong_outputs : ¬ IsLegal one_put (submission ∷ []) (entry (process_at 1 1) (Deliver 1 1) (proposing 2))
unfolding the_plan
wrong_outputs legal = other_proposal legal.rules.outputs
